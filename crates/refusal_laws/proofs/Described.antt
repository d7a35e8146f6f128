-- The first call begins with words at rest, which any plain value describes.
use Rattle.std.proofs.Common.{◌≡◌, ℕ, ◌<◌, suc, ◌-◌, ◌≤◌, ◌==◌, if◌then◌else◌, Bool, true, false, List, [], ◌∷◌, None, Result, Ok, Err, refl, sym, ap, ◌∙◌, subst, inl, inr, arith, Some, IsTrue}
use Rattle.std.proofs.Math.Path.{fun_ext}
use Rattle.std.proofs.lemmas.Bool.Decides.{nat_tests}
use Rattle.xp_words.specs.KindWords.{has_form, is_kind}
use Rattle.xp_words.specs.Machine.{IsMachine, Machine}
use Rattle.xp_words.specs.declared.entry.Demand.TheVariants.{Typed}
use Rattle.xp_words.specs.declared.kind.KindWord.{KindWord}
use Rattle.xp_words.specs.declared.place.Place.TheVariants.{Kind, Refs, Vcpu}
use Rattle.xp_words.specs.declared.reply.Pause.TheVariants as pauses
use Rattle.xp_words.specs.declared.reply.Refusal.{Refusal}
use Rattle.xp_words.specs.declared.reply.Stop.{Stop}
use Rattle.xp_words.specs.declared.reply.Stop.TheVariants.{Refused, Paused}
use Rattle.xp_board.specs.Readings.{is_dead, kind_at, owner_of, ref_count}
use Rattle.xp_board.specs.RefSteps.{owner_number}
use Rattle.xp_board.specs.Told.{Post, PortValue, is_telling, told_word}
use Rattle.step_maker.specs.Moves.{Came}
use Rattle.step_maker.specs.Plain.{Leaves, Words}
use Rattle.step_maker.proofs.Coming.{came_post, came_trans}
use Rattle.step_maker.proofs.Telling.{came_telling}
use Rattle.step_maker.specs.Twins.{Alike}
use Rattle.step_maker.proofs.Visiting.{does_came}
use Rattle.frame_words.specs.Plain.{got, lowered, put, refer, set_free}
use Rattle.frame_types.specs.Plain.{taken as types_taken, type_stop}
use Rattle.frame_types.specs.declared.taking.Taken.{Taken}
use Rattle.frame_types.specs.declared.taking.Taken.TheVariants as types
use Rattle.kind_words.specs.Kinds.{work_kind}
use Rattle.partial_state.specs.Levels.{level_type}
use Rattle.partial_state.specs.declared.stack.TableWork.{TableWork}
use Rattle.table_entries.specs.Plain.{IsTakenOf}
use Rattle.table_law.specs.Alone.{PlainOutcome, alone}
use Rattle.table_law.specs.Lawful.{IsAtRest, share_count}
use Rattle.table_law.specs.Plain.{Describes, Plain, with_kind}
use Rattle.table_law.specs.Stack.{rest, table_left}
use Rattle.table_law.proofs.Describing.{sober_dead}
use Rattle.table_law.proofs.Steps.{alone_opened}
use Rattle.table_twins.proofs.Typing.{live_sober}
use Rattle.table_twins.proofs.Waiting.{only_busy}
use Rattle.table_words.specs.OldWords.{old_place}
use Rattle.table_words.specs.declared.old_words.OldWord.TheVariants.{First}
use Rattle.table_entries.proofs.Shared.{gave_came}
use Rattle.table_entries.specs.Acquiring.{Acquired, GaveRef, GotRef, TookType, counted, finished, outermost_table, unfinished, unreferred, untyped, waiting}
use Rattle.flush_waits.specs.Waiting.{IsWait}
use Rattle.course_laws.specs.Courses.{IsOrderly}
use Rattle.course_laws.proofs.Frames.{AllFrames, IsFrame, IsLiveWithin, count_at}
use Rattle.course_laws.proofs.Stacking.{lefts}
use Rattle.course_laws.proofs.Starting.{rest_frames}
use Rattle.course_laws.proofs.Calling.{CallEnds, CallOutcome, IsDone, RefusedAtOnce, at_once, done_call, ends_call, left_call, lent_none}
use Rattle.course_laws.proofs.Extras.{described_same, extra, lent}
use Rattle.course_laws.proofs.Pacing.{Aim, extra_own, lent_same}
use Rattle.course_laws.proofs.Recording.{Met, OpensTo, met_typed, opens_to, taking, with_one}
use Rattle.course_laws.proofs.Refusing.{Unmet, asks_by, type_refused}
use Rattle.course_laws.proofs.Travelling.{wait_ends}
use Rattle.course_laws.proofs.Under.{IsStill, PlainFrames, Spelled, TableOf, count_of, frames_but}
use Rattle.course_laws.proofs.Unwinding.{HalfAt}
use Rattle.course_laws.proofs.Beginning.{same_back}
use Rattle.refusal_laws.specs.Repeated.{IsDeadFrame}

sober_pinned : (b : Bool) (k : KindWord) → (if b then k else record k { number = 0 }).pinned ≡ k.pinned
sober_pinned true k = refl
sober_pinned false k = refl

dead_unpinned : (k : KindWord) → IsTrue (is_kind k) → is_dead k ≡ true → k.pinned ≡ false
unfolding has_form
dead_unpinned k is dead = grind (arith, nat_tests)

module _ (v : PortValue) (f owner level : ℕ) (machine : IsMachine v.post.machine) (telling : is_telling v ≡ true) (calm : IsAtRest v.post.machine (told_word v)) (orderly : IsOrderly v.post.machine (told_word v)) (low : 1 ≤ level) (high : level ≤ 4) (p : Plain) (d : Describes v.post.machine (told_word v) p) where
  abbrev n : Machine
  n = v.post.machine

  abbrev m : Words
  m = told_word v

  abbrev a : Aim
  a = record { outcome = alone v.post.machine owner level f p; whole = true }

  describes : Describes n m (lent (extra []) p)
  describes = described_same n m p (lent (extra []) p) (same_back (lent (extra []) p) p (lent_none p)) d

  spells : Spelled n m p
  spells g inside out = orderly.spelled g inside

  still_by : (g : ℕ) → g < n.frames → IsFrame (kind_at m g) (count_at m g) [] g → IsStill (p.kinds g) (count_of p g)
  still_by g inside (inr work) = absurd work
  still_by g inside (inl aside) =
      let kind = d.kinds g inside in
      let count : count_of p g ≡ count_at m g = ap share_count (d.shares g inside) in
      elim aside.stands [
        | inl dead ↦ inl (ap is_dead kind ∙ (sober_dead (kind_at m g) ∙ dead))
        | inr live ↦ inr (subst (IsLiveWithin (p.kinds g)) (sym count) (subst (λ k. IsLiveWithin k (count_at m g)) (sym (kind ∙ live_sober (kind_at m g) live.live)) live))
      ]

  aside : AllFrames n m []
  aside = rest_frames n m calm orderly

  frames : PlainFrames n p []
  frames g inside = inl (still_by g inside (aside g inside))

  module _ (u x : PortValue) (ref : GotRef v u f owner (Ok f)) where
    none : refer n owner f (m (Refs f)) ≡ None
    none = (ref.plain telling).0

    words : told_word u ≡ got f m
    words = fun_ext (ref.plain telling).1

    telling_there : is_telling u ≡ true
    telling_there = came_telling v u (does_came v u _ ref.found) ∙ telling

    way_of : (way : Taken) → TookType u x f owner level (Ok way) → IsTakenOf (got f m) f (level_type level) way × Alike (told_word x) (types_taken f (level_type level) way (got f m))
    way_of way type = let b = type.plain telling_there in subst (λ (y : Words). IsTakenOf y f (level_type level) way × Alike (told_word x) (types_taken f (level_type level) way y)) words ((b.0, b.1), b.2)

    pub counted_done : TookType u x f owner level (Ok types.Counted) → IsDone n x a.outcome
    counted_done type =
        let b = way_of types.Counted type in
        let g : Met n m x (extra []) p owner level f 0 [] machine describes spells tt frames tt (Typed f (level_type level)) = met_typed n m x (extra []) p owner level f 0 [] machine describes spells tt frames tt f none b.0 b.1 in
        record {
          none = ap (λ (o : PlainOutcome). o.refusal) g.meets;
          describes = subst (λ q. Describes n (told_word x) q) (sym (ap (λ (o : PlainOutcome). o.left) g.meets)) (described_same n (told_word x) (lent (extra []) g.after) g.after (lent_none g.after) g.describes);
        }

    module _ (progress : ℕ) (own : Bool) (type : TookType u x f owner level (Ok (types.InWork progress own))) where
      into : OpensTo n m x (extra []) p owner level f 0 [] machine describes spells tt frames tt f none progress own (way_of (types.InWork progress own) type).0 (way_of (types.InWork progress own) type).1
      into = opens_to n m x (extra []) p owner level f 0 [] machine describes spells tt frames tt f none progress own (way_of (types.InWork progress own) type).0 (way_of (types.InWork progress own) type).1

      abbrev t : TableWork
      t = outermost_table f level progress own

      table : TableOf n owner into.after t
      table =
          record {
            inside = (taking n m x (extra []) p owner level f 0 [] machine describes spells tt frames tt f none).inside;
            share = into.share;
            was = into.was;
            owns = into.owns;
            some = into.some;
            work = into.here;
            low = low;
            high = high;
            few = (let e = into.none_done in omega arith);
          }

      ahead : rest n owner (lefts (t ∷ [])) into.after ≡ a.outcome
      unfolding with_one
      ahead =
          let took = taking n m x (extra []) p owner level f 0 [] machine describes spells tt frames tt f none in
          let one = with_one n m x (extra []) p owner level f 0 [] machine describes spells tt frames tt f none in
          let e : 512 ≡ 512 - progress = (let e = into.none_done in omega arith) in
          let same : suc (level - 1) ≡ level = omega (arith, low) in
          subst (λ q. rest n owner (lefts (t ∷ [])) q ≡ a.outcome) (sym into.is)
          (subst (λ k. rest n owner (table_left f (level - 1) k ∷ []) (with_kind f (work_kind (level_type level) false 0) one) ≡ alone n owner level f p) e
          (subst (λ l. rest n owner (table_left f (level - 1) 512 ∷ []) (with_kind f (work_kind (level_type l) false 0) one) ≡ alone n owner l f p) same (sym (alone_opened n owner (level - 1) f p one took.takes into.dead))))

      pub from_dead : IsDeadFrame n p f owner
      unfolding with_one
      from_dead =
          let took = taking n m x (extra []) p owner level f 0 [] machine describes spells tt frames tt f none in
          let own = took.owns in
          let kind = d.kinds f took.inside in
          let dead : is_dead (kind_at m f) ≡ true = sym (sober_dead (kind_at m f)) ∙ (sym (ap is_dead kind) ∙ into.dead) in
          record {
            inside = took.inside;
            share = took.share;
            held = took.was;
            owns = grind (arith, nat_tests);
            room = (let low = took.room in omega arith);
            dead = into.dead;
            unpinned = ap (λ (k : KindWord). k.pinned) kind ∙ (sober_pinned (kind_at m f).validated (kind_at m f) ∙ dead_unpinned (kind_at m f) (orderly.spelled f took.inside) dead);
          }

      came : Came v x
      came = came_trans v u x (does_came v u _ ref.found) (does_came u x _ type.found)

      pub begun : HalfAt n owner x [] (outermost_table f level progress own ∷ []) a
      begun =
          record {
            machine = ap (λ (q : Post). q.machine) (came_post v x came);
            telling = came_telling v x came ∙ telling;
            half = record {
              plain = into.after;
              under = record { frames = frames_but n owner p into.after f into.grown into.but [] (t ∷ []) (λ g off one. absurd one) (inr (inl refl)) frames; tables = (table, tt, tt); chain = tt; ahead = ahead };
              describes = described_same n (told_word x) (lent (extra []) into.after) (lent (extra (t ∷ [])) into.after) (lent_same (extra []) (extra (t ∷ [])) into.after (λ g. extra_own t [] into.mine g)) into.describes;
              spelled = into.spelled;
              flags = (into.mine, refl);
              mine = λ whole. ((into.mine, tt), refl);
              settled = λ some. absurd (let e = into.none_done in omega arith);
            };
          }

  -- ---- it is refused at once
  once : (w : PortValue) (y : Refusal) → Came v w → told_word w (old_place v.post.vcpu First) ≡ m (old_place v.post.vcpu First) → Unmet w n (extra []) y p a.outcome → RefusedAtOnce n v w y a.outcome
  once w y came old u =
      record {
        machine = ap (λ (q : Post). q.machine) (came_post v w came);
        telling = came_telling v w came ∙ telling;
        cause = u.refuses.cause;
        same = u.refuses.same;
        is = ap (λ (o : PlainOutcome). o.refusal) u.refuses.is;
        describes = subst (Describes n (told_word w)) (ap (λ (o : PlainOutcome). o.left) (sym u.refuses.is)) (described_same n (told_word w) (lent (extra []) p) p (lent_none p) u.describes);
        old = ap (λ (q : Post). told_word w (old_place q.vcpu First)) (came_post v w came) ∙ old;
      }

  unreferred_ends : (w : PortValue) (e : Stop) → GotRef v w f owner (Err e) → CallEnds n owner v w f level a e
  unreferred_ends w (Refused y) ref = λ known.
      let leaves = (ref.plain telling).1 in
      at_once refl
      (once w y (does_came v w _ ref.found) (leaves (old_place v.post.vcpu First))
      (asks_by n m w (extra []) p owner level f 0 [] machine describes spells tt frames tt true (λ whole g. refl) (λ g. inl refl) f y (Some y) (ref.plain telling).0 known (refl, leaves)))
  unreferred_ends w (Paused z) ref = absurd (ref.plain telling)

  put_old : (b : Bool) (o k i : ℕ) (m : Words) → (if b then set_free f o (lowered f m) else lowered f m) (Vcpu k i) ≡ m (Vcpu k i)
  put_old true o k i m = refl
  put_old false o k i m = refl

  module _ (u x w : PortValue) (ref : GotRef v u f owner (Ok f)) (back : GaveRef x w f) where
    untyped_ends : (e : Stop) → TookType u x f owner level (Err e) → CallEnds n owner v w f level a e
    untyped_ends (Refused y) type =
        let telling_u = telling_there u x ref in
        let same : told_word x ≡ got f m = fun_ext (type.plain telling_u).1 ∙ words u x ref in
        let stop = subst (λ (z : Words). type_stop f (level_type level) (z (Kind f)) ≡ Some (Refused y)) (words u x ref) (type.plain telling_u).0 in
        let leaves = subst (λ (z : Words). Leaves w (put f z)) same (back.plain (came_telling u x (does_came u x _ type.found) ∙ telling_u)) in
        let came = came_trans v x w (came_trans v u x (does_came v u _ ref.found) (does_came u x _ type.found)) (gave_came x w f back) in
        λ known.
        at_once refl
        (once w y came (leaves (old_place v.post.vcpu First) ∙ put_old (ref_count (got f m (Refs f)) == 1) (owner_number (owner_of (got f m (Refs f)))) v.post.vcpu 2 (got f m))
        (type_refused n m w (extra []) p owner level f 0 [] machine describes spells tt frames tt true (λ whole g. refl) (λ g. inl refl) f y (none u x ref) stop leaves))
    untyped_ends (Paused pauses.Due) type = only_busy f (told_word u (Kind f)) (level_type level) pauses.Due (type.plain (telling_there u x ref)).0
    untyped_ends (Paused (pauses.Flush k y z)) type = tt
    untyped_ends (Paused (pauses.Lost k y z)) type = tt
    untyped_ends (Paused (pauses.Busy k y)) type = tt
    untyped_ends (Paused (pauses.Alive k y)) type = tt

  unreferred_due : (w : PortValue) (e : Stop) → GotRef v w f owner (Err e) → e ≡ Paused pauses.Due → ⊥
  unreferred_due w (Refused y) ref is = absurd cc
  unreferred_due w (Paused z) ref is = ref.plain telling

  untyped_due : (u x : PortValue) → GotRef v u f owner (Ok f) → (e : Stop) → e ≡ Paused pauses.Due → TookType u x f owner level (Err e) → ⊥
  untyped_due u x ref e is type = only_busy f (told_word u (Kind f)) (level_type level) pauses.Due (subst (λ k. type_stop f (level_type level) (told_word u (Kind f)) ≡ Some k) is (type.plain (telling_there u x ref)).0)

  pub first_call : (w : PortValue) (answers : List Bool) (answer : Result ℕ Stop) → Acquired v f owner level w answers answer → CallOutcome v.post.machine owner v w f level (record { outcome = alone v.post.machine owner level f p; whole = true }) answer
  first_call _ _ _ (unreferred w stop ref) = ends_call n owner v w f level a stop (unreferred_ends w stop ref)
  first_call _ _ _ (untyped u x w stop ref type back) = ends_call n owner v w f level a stop (untyped_ends u x w ref back stop type)
  first_call _ _ _ (counted u w ref type) = counted_done u w ref type
  first_call _ _ _ (waiting u x w own stamp stop ref type left) = ends_call n owner v w f level a stop (wait_ends true _ stop type.waits.0)
  first_call _ _ _ (unfinished u x y w progress own us answers stop ref type work left) =
      left_call n owner f level a machine x [] (outermost_table f level progress own) (begun u x ref progress own type) (refl, refl) v (came_trans v u x (does_came v u _ ref.found) (does_came u x _ type.found)) y w us answers stop work left
  first_call _ _ _ (finished u x y w progress own k answers ref type work full made) =
      done_call n owner f level a machine x [] (outermost_table f level progress own) (begun u x ref progress own type) (refl, refl) y w k answers work full made

  -- ---- a first call that is paused by the gate
  due_dead : (w : PortValue) (answers : List Bool) (answer : Result ℕ Stop) → answer ≡ Err (Paused pauses.Due) → Acquired v f owner level w answers answer → IsDeadFrame v.post.machine p f owner
  due_dead _ _ _ is (unreferred w stop ref) = absurd (let e : stop ≡ Paused pauses.Due = cc in unreferred_due w stop ref e)
  due_dead _ _ _ is (untyped u x w stop ref type back) = absurd (let e : stop ≡ Paused pauses.Due = cc in untyped_due u x ref stop e type)
  due_dead _ _ _ is (counted u w ref type) = absurd cc
  due_dead _ _ _ is (waiting u x w own stamp stop ref type left) = absurd (let e : stop ≡ Paused pauses.Due = cc in subst IsWait e type.waits.0)
  due_dead _ _ _ is (unfinished u x y w progress own us answers stop ref type work left) = from_dead u x ref progress own type
  due_dead _ _ _ is (finished u x y w progress own k answers ref type work full made) = absurd cc

  pub paused_dead : (w : PortValue) (answers : List Bool) → Acquired v f owner level w answers (Err (Paused pauses.Due)) → IsDeadFrame v.post.machine p f owner
  paused_dead w answers acquired = due_dead w answers (Err (Paused pauses.Due)) refl acquired
