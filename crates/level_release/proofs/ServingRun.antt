-- From the course by which tables are emptied: what the steps are to a call that asked these tables, and why it stops.
use Rattle.std.proofs.Common.{◌≡◌, ◌⊎◌, ◌≤◌, ◌<◌, ◌++◌, Bool, true, List, [], ◌∷◌, length, Option, ℕ, Result, Ok, IfOk, IfErr, inl, inr, arith, None, refl, sym, ◌∙◌, subst, append-nil}
use Rattle.std.proofs.lemmas.Bool.{cases_order}
use Rattle.xp_words.specs.declared.reply.Stop.{Stop}
use Rattle.xp_words.specs.declared.place.Place.TheVariants.{Kind}
use Rattle.xp_board.specs.declared.step.StepKind.TheVariants as kinds
use Rattle.xp_board.specs.Told.{Post, PortValue}
use Rattle.step_maker.specs.Moves.{Came, Met}
use Rattle.step_maker.proofs.Coming.{came_post, came_self, came_trans, moves_came}
use Rattle.step_maker.proofs.Visiting.{does_came}
use Rattle.step_maker.specs.Answers.{Deed, Serves, Stops, missed, misses}
use Rattle.step_maker.specs.Asked.{Request}
use Rattle.step_maker.specs.Pauses.{Progress}
use Rattle.step_maker.proofs.Piecing.{serves_came, serves_step, stops_before}
use Rattle.step_maker.proofs.Progressing.{progress_after, progress_before}
use Rattle.partial_state.specs.declared.stack.TableWork.{TableWork}
use Rattle.partial_state.specs.Levels.{level_type}
use Rattle.level_release.specs.Asking.{Continues, IsReleasePiece, is_due_answer}
use Rattle.level_release.specs.Course.{Emptied, GaveEntry, LeftInside, Lowered, RanDown, StoredPartial, UnwoundDown, is_asked_within, one_less, table_under}
use Rattle.level_release.specs.Course as course
use Rattle.level_release.proofs.HandsLowered.{gave_came}
use Rattle.level_release.proofs.Serving.{piece_later, piece_names, piece_of, piece_records, piece_rest, top_asked}
use Rattle.level_release.proofs.ServingEntries.{entries_stop, piece_entries, piece_opened, release_uncounted}

-- ---- one entry, or one table
-- behind a piece that asks ts; where the stack is not shorter then, an entry was shed
record LoweredServes (o v w : PortValue) (r : Request) (ts us : List TableWork) (ds : List Deed) (answer : Result Bool Stop) : Type 0 where
  pub came : Came v w
  pub piece : IsReleasePiece o w r us (misses v.post.machine answer ++ ds)
  pub progress : IfOk answer (λ _. length ts ≤ length us → Progress (Met v w))
  pub stops : IfErr answer (λ e. Stops o w r e)

module _ {o : PortValue} {r : Request} where
  lowered_serves : {v w : PortValue} {ts us : List TableWork} {ds : List Deed} {answer : Result Bool Stop} → IsReleasePiece o v r ts ds → Lowered v ts w us answer → LoweredServes o v w r ts us ds answer
  unfolding Continues
  lowered_serves a (course.given v w t ts few e) =
      record { came = gave_came e; piece = piece_of (λ x. x) (piece_entries w a [] (e.entry.serves r.owner r.pages_of)); progress = λ longer. e.entry.shows 0 0; stops = tt }
  lowered_serves a (course.opened v w t ts f k closing few e) =
      let b = piece_opened w a (table_under t f k closing) (level_type t.level) (e.entry.serves r.owner r.pages_of) (e.entry.shows r.owner r.pages_of).1 in
      record { came = gave_came e; piece = piece_of (λ x. x) b; progress = λ longer. (e.entry.shows 0 0).0; stops = tt }
  lowered_serves a (course.stopped v w t ts stop few e) =
      record {
        came = gave_came e;
        piece = piece_entries w a _ (e.entry.serves r.owner r.pages_of);
        progress = tt;
        stops = entries_stop w a stop (release_uncounted stop e.entry.kinds) (e.entry.stops r.owner r.pages_of);
      }
  lowered_serves {ds = ds} a (course.emptied v w t ts all dead) =
      record { came = does_came v w _ dead.found; piece = dead.serves ts o r ds a; progress = λ longer. absurd (omega (arith, longer)); stops = tt }

-- ---- until none is left
-- Where there is more than one table, an entry was shed.
record RanServes (o w : PortValue) (r : Request) (us : List TableWork) (answer : Result (Unit {0}) Stop) : Type 0 where
  pub piece : IsReleasePiece o w r us (misses o.post.machine answer)
  pub progress : IfOk answer (λ _. length us ≤ 1 ⊎ Progress (Met o w))
  pub stops : IfErr answer (λ e. Stops o w r e)

some_asked : (below : Option ℕ) (xs : List TableWork) → is_asked_within below xs ≡ true → 0 < length xs
some_asked below [] asks = absurd (cc)
some_asked below (t ∷ xs) asks = omega arith

module _ {o v w : PortValue} {r : Request} {us xs : List TableWork} {done : Bool} (i : RanServes o v r us (Ok tt)) (l : LoweredServes o v w r us xs [] (Ok done)) where
  came : Came o v
  came = serves_came o v r [] i.piece.serves

  -- Something was shed, unless no table is left: where there is one less now, it was not the only one.
  gets_on : 0 < length xs → Progress (Met o w)
  gets_on some = elim (cases_order (length xs) (length us)) [
    | inl same ↦ progress_after o v w came (l.progress (omega (arith, same)))
    | inr (inl fewer) ↦ by fewer i.progress
    | inr (inr further) ↦ progress_after o v w came (l.progress (omega (arith, further)))
  ]
    where
      by : length xs < length us → length us ≤ 1 ⊎ Progress (Met o v) → Progress (Met o w)
      by fewer (inl one) = absurd (omega (arith, fewer, one, some))
      by fewer (inr before) = progress_before o v w l.came before

  ran_on : RanServes o w r xs (Ok tt)
  ran_on =
      record {
        piece = l.piece;
        progress = elim (cases_order (length xs) 0) [
          | inl none ↦ inl (omega (arith, none))
          | inr (inl fewer) ↦ inl (omega (arith, fewer))
          | inr (inr some) ↦ inr (gets_on some)
        ];
        stops = tt;
      }

module _ {o v : PortValue} {r : Request} {ts : List TableWork} (a : IsReleasePiece o v r ts []) (one : length ts ≤ 1) {below : Option ℕ} where
  ran_serves : {w : PortValue} {us : List TableWork} {answers : List Bool} {answer : Result (Unit {0}) Stop} → (is_due_answer answer ≡ true → r.rose ≡ true) → RanDown below v ts w us answers answer → RanServes o w r us answer
  unfolding Stops
  ran_serves rises course.begun = record { piece = a; progress = inl one; stops = tt }
  ran_serves rises (course.unasked u w us xs done answers before step off) = let i = ran_serves (λ no. absurd cc) before in ran_on i (lowered_serves i.piece step)
  ran_serves rises (course.asked u w us xs answers before step on) = let i = ran_serves (λ no. absurd cc) before in ran_on i (lowered_serves i.piece step)
  ran_serves rises (course.due u w us xs answers before step on) =
      let i = ran_serves (λ no. absurd cc) before in
      let l = lowered_serves i.piece step in
      record { piece = l.piece; progress = tt; stops = (rises refl, inl (gets_on i l (some_asked below xs on))) }
  ran_serves rises (course.stopped u w us xs answers stop before step) =
      let i = ran_serves (λ no. absurd cc) before in
      let l = lowered_serves i.piece step in
      let same = came_post o u (serves_came o u r [] i.piece.serves) in
      record {
        piece = subst (λ (p : Post). IsReleasePiece o w r xs (missed p.machine stop)) same (subst (λ ds. IsReleasePiece o w r xs ds) (append-nil (missed u.post.machine stop)) l.piece);
        progress = tt;
        stops = l.stops;
      }

-- ---- the rest is left partial
module _ {o : PortValue} {r : Request} {ds : List Deed} where
  piece_stored : {v w : PortValue} {t : TableWork} {ts : List TableWork} → IsReleasePiece o v r (t ∷ ts) ds → StoredPartial v w t → IsReleasePiece o w r (t ∷ ts) ds
  piece_stored {v} {w} {t} a stored =
      let came = moves_came v w _ _ _ _ _ stored.1 in piece_later a came (serves_step o v w r ds (Kind t.frame) _ kinds.Kind None stored.0 a.serves stored.1 (top_asked w a came, stored.2))

  piece_unwound : (v w : PortValue) (ts : List TableWork) → IsReleasePiece o v r ts ds → UnwoundDown v ts w → IsReleasePiece o w r [] ds
  piece_unwound v w [] a left = subst (λ x. IsReleasePiece o x r [] ds) (sym left) a
  piece_unwound v w (t ∷ []) a left = piece_rest (piece_names w (piece_stored a left.1) left.2)
  piece_unwound v w (t ∷ outer ∷ ts) a left =
      let inside = left.1.1 in
      let b = piece_rest (piece_records left.0 (piece_stored a inside.1) inside.2.1) in
      piece_unwound left.0 w (one_less outer ∷ ts) (piece_of (λ x. x) b) left.2

pub unwound_came : (v w : PortValue) (ts : List TableWork) → UnwoundDown v ts w → Came v w
unwound_came v w [] left = subst (λ x. Came v x) (sym left) (came_self v)
unwound_came v w (t ∷ []) left = came_trans v left.0 w (moves_came v left.0 _ _ _ _ _ left.1.1) (moves_came left.0 w _ _ _ _ _ left.2)
unwound_came v w (t ∷ outer ∷ ts) left =
    let x = left.1.1.0 in
    let inside = left.1.1 in
    let u = left.0 in
    came_trans v u w (came_trans v x u (moves_came v x _ _ _ _ _ inside.1.1) (moves_came x u _ _ _ _ _ inside.2.1)) (unwound_came u w (one_less outer ∷ ts) left.2)

-- ---- one table and all in it
pub record EmptiedServes (o w : PortValue) (r : Request) (answer : Result (Unit {0}) Stop) : Type 0 where
  pub serves : Serves o w r (misses o.post.machine answer)
  pub stops : IfErr answer (λ e. Stops o w r e)

-- where the gate paused it, the call says so
pub emptied_serves : {o v w : PortValue} {r : Request} {t : TableWork} {below : Option ℕ} {answers : List Bool} {answer : Result (Unit {0}) Stop} → IsReleasePiece o v r (t ∷ []) [] → r.rose ≡ is_due_answer answer →
    Emptied below v t w answers answer → EmptiedServes o w r answer
emptied_serves a rose (course.finished w answers ran) = let i = ran_serves a (omega arith) (λ due. rose ∙ due) ran in record { serves = i.piece.serves; stops = tt }
emptied_serves {o} {r = r} a rose (course.paused u w us answers stop ran left) =
    let i = ran_serves a (omega arith) (λ due. rose ∙ due) ran in
    record { serves = (piece_unwound u w us i.piece left).serves; stops = stops_before o u w r stop i.stops (unwound_came u w us left) }
