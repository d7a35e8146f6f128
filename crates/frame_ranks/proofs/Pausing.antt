-- A whole acquisition that is paused lets no frame fall; and where the gate pauses it, one is further.
use Rattle.std.proofs.Common.{◌≡◌, ℕ, ◌<◌, Bool, true, List, [], ◌∷◌, None, Some, Result, Ok, Err, refl, ap, ◌∙◌, subst, arith}
use Rattle.xp_words.specs.Machine.{Machine}
use Rattle.xp_words.specs.declared.place.Place.TheVariants.{Refs}
use Rattle.xp_words.specs.declared.reply.Pause.{Pause}
use Rattle.xp_words.specs.declared.reply.Pause.TheVariants.{Due}
use Rattle.xp_words.specs.declared.reply.Stop.{Stop}
use Rattle.xp_words.specs.declared.reply.Stop.TheVariants.{Refused, Paused}
use Rattle.xp_board.specs.Readings.{kind_at}
use Rattle.xp_board.specs.Told.{PortValue, told_word}
use Rattle.step_maker.specs.Moves.{Came}
use Rattle.step_maker.specs.Answers.{Stops}
use Rattle.step_maker.specs.Asked.{of_frame}
use Rattle.step_maker.proofs.Visiting.{does_came}
use Rattle.answer_laws.specs.Alone.{IsAlone}
use Rattle.frame_words.specs.Plain.{got, refer}
use Rattle.kind_words.specs.Kinds.{partial_kind}
use Rattle.frame_types.specs.declared.taking.Taken.{Taken}
use Rattle.frame_types.specs.declared.taking.Taken.TheVariants as types
use Rattle.flush_waits.specs.Waiting.{IsWait}
use Rattle.partial_state.specs.Levels.{level_type}
use Rattle.partial_state.specs.declared.stack.TableWork.{TableWork}
use Rattle.table_entries.specs.Acquiring.{Acquired, GaveRef, GotRef, TookType, Unwound, WaitingLeft, Worked, counted, finished, keeps_it, outermost_table, unfinished, unreferred, untyped, waiting}
use Rattle.course_laws.proofs.Awaiting.{AloneStays, rose_by}
use Rattle.course_laws.proofs.Walking.{worked_came}
use Rattle.frame_ranks.specs.Ranks.{AreAllAlive, GetsFurther, GoesForward}
use Rattle.frame_ranks.proofs.Advancing.{worked_led}
use Rattle.frame_ranks.proofs.Entering.{refer_inside}
use Rattle.frame_ranks.proofs.Facing.{calm_then, got_calm, same_calm, turned_twice}
use Rattle.frame_ranks.proofs.Going.{At, Led, at_later, at_spelled, at_telling}
use Rattle.frame_ranks.proofs.Leaving.{goes_alive, unwound_moved, waiting_turned}
use Rattle.acquisition_laws.proofs.Lows.{type_low}
use Rattle.frame_ranks.proofs.Stepping.{gave_calm}
use Rattle.frame_ranks.proofs.Taking.{takes_wait, takes_work}
use Rattle.frame_ranks.proofs.Turning.{beside, calm_moved, dead_lasts, into}
use Rattle.frame_ranks.proofs.Valuing.{Moved, Works, further_then, moved_then, then_further, worth_alone}

abbrev IsPaused : Result ℕ Stop → Type 0
IsPaused (Ok f) = ⊥
IsPaused (Err (Refused x)) = ⊥
IsPaused (Err (Paused x)) = Unit {0}

-- from words with nothing in work to such words
abbrev Leads : Machine → PortValue → PortValue → Result ℕ Stop → Type 0
Leads n v w r = Led {A = Result ℕ Stop} n v [] w [] r (Err (Paused Due))

module _ (stays : AloneStays) (n : Machine) (f owner level : ℕ) where
  abbrev Took : PortValue → PortValue → Result Taken Stop → Type 0
  Took u x r = TookType u x f owner level r

  took_came : (u x : PortValue) (r : Result Taken Stop) → Took u x r → Came u x
  took_came u x r a = does_came u x _ a.found

  -- ---- behind the reference
  module _ (v u : PortValue) (at : At n v) (works : Works n (told_word v) []) (got_it : GotRef v u f owner (Ok f)) where
    plain : (refer v.post.machine owner f (told_word v (Refs f)) ≡ None) × ((q : _) → told_word u q ≡ got f (told_word v) q)
    plain = got_it.plain (at_telling n v at)

    inside : f < n.frames
    inside = refer_inside n owner f (told_word v (Refs f)) (subst (λ k. refer k owner f (told_word v (Refs f)) ≡ None) at.machine plain.0)

    got_moved : Moved n (told_word v) [] (told_word u) []
    got_moved = calm_moved n (told_word v) (told_word u) [] (calm_then (told_word v) (got f (told_word v)) (told_word u) (got_calm f (told_word v)) (same_calm (got f (told_word v)) (told_word u) plain.1)) works

    at_u : At n u
    at_u = at_later stays n v u at (does_came v u _ got_it.found)

    -- the type is not to be had
    untyped_led : (x w : PortValue) (p : Pause) → Took u x (Err (Paused p)) → GaveRef x w f → Leads n v w (Err (Paused p))
    untyped_led x w p a b =
        let on = at_telling n x (at_later stays n u x at_u (took_came u x _ a)) in
        let calm = calm_then (told_word u) (told_word x) (told_word w) (same_calm (told_word u) (told_word x) (a.plain (at_telling n u at_u)).1) (gave_calm x w f on b) in
        record {
          moved = moved_then n (told_word v) [] (told_word u) [] (told_word w) [] got_moved (calm_moved n (told_word u) (told_word w) [] calm got_moved.works);
          strict = λ is. let e : p ≡ Due = cc in absurd (rose_by u x (of_frame f owner (Some (level_type level))) refl (subst (λ (y : Pause). Stops u x (of_frame f owner (Some (level_type level))) (Paused y)) e a.stops));
        }

    -- its flush is not to be had
    waiting_led : (x w : PortValue) (own : Bool) (stamp : ℕ) (p : Pause) → AreAllAlive n (told_word v) → Took u x (Ok (types.Waiting own stamp (Paused p))) → WaitingLeft x w f level owner stamp own true → Leads n v w (Err (Paused p))
    waiting_led x w own stamp p alive a b =
        let plainly = a.plain (at_telling n u at_u) in
        let took = takes_wait (told_word u) f (level_type level) (told_word x) (at_spelled n u at_u f inside) plainly.0 own stamp (Paused p) plainly.1 plainly.2 in
        let at_x = at_later stays n u x at_u (took_came u x _ a) in
        let waits = took.0 in
        let on_x : AreAllAlive n (told_word x) = λ d real. took.1.1.lives d ∙ goes_alive n (told_word v) [] (told_word u) [] got_moved.goes alive d real in
        let left = waiting_turned n x w f level owner stamp own at_x on_x (type_low u x f owner (level_type level) _ a.found) b in
        let k = partial_kind (level_type level) left.0 true 0 stamp in
        record {
          moved = moved_then n (told_word v) [] (told_word u) [] (told_word w) [] got_moved
              (beside n (told_word u) (told_word w) f k (turned_twice (told_word u) (told_word x) (told_word w) f took.1.0 k took.1.1 left.1) [] got_moved.works waits.idle waits.low (dead_lasts (kind_at (told_word u) f) k waits.dead));
          strict = λ is. let e : p ≡ Due = cc in absurd (subst (λ (y : Pause). IsWait (Paused y)) e a.waits.0);
        }

    -- it came into work, and is left
    unfinished_led : (x y w : PortValue) (progress : ℕ) (own : Bool) (us : List TableWork) (answers : List Bool) (p : Pause) → AreAllAlive n (told_word v) → Took u x (Ok (types.InWork progress own)) →
        Worked owner x (outermost_table f level progress own) y us answers (Err (Paused p)) → Unwound y owner us true w → Leads n v w (Err (Paused p))
    unfinished_led x y w progress own us answers p alive a b c =
        let plainly = a.plain (at_telling n u at_u) in
        let took = takes_work (told_word u) f (level_type level) (told_word x) (at_spelled n u at_u f inside) plainly.0 progress own plainly.1 plainly.2 in
        let at_x = at_later stays n u x at_u (took_came u x _ a) in
        let t = outermost_table f level progress own in
        let came_in = into n (told_word u) (told_word x) f took.word took.turned [] got_moved.works took.idle t [] refl inside took.few took.work took.dead took.low tt tt (λ g r off. let e = worth_alone t g r off in omega arith) in
        let worked = worked_led stays n owner x t y us answers (Err (Paused p)) b tt at_x came_in.works in
        let begun = moved_then n (told_word v) [] (told_word u) [] (told_word x) (t ∷ []) got_moved came_in in
        let all = moved_then n (told_word v) [] (told_word x) (t ∷ []) (told_word y) us begun worked.moved in
        let left = unwound_moved stays n owner y us w (at_later stays n x y at_x (worked_came owner x t y us answers _ b)) all.works (goes_alive n (told_word v) [] (told_word y) us all.goes alive) c in
        record {
          moved = moved_then n (told_word v) [] (told_word y) us (told_word w) [] all left;
          strict = λ is.
              let e : p ≡ Due = cc in
              further_then n (told_word v) [] (told_word y) us (told_word w) [] (then_further n (told_word v) [] (told_word x) (t ∷ []) (told_word y) us begun.goes (worked.strict (ap (λ q. Err (Paused q)) e))) left.goes;
        }

  -- ---- the whole, by how it ended
  module _ (v : PortValue) (at : At n v) (works : Works n (told_word v) []) (alive : AreAllAlive n (told_word v)) where
    no_pause : (w : PortValue) (stop : Stop) → IsPaused (Err stop) → GotRef v w f owner (Err stop) → Leads n v w (Err stop)
    no_pause w (Refused x) paused a = absurd paused
    no_pause w (Paused x) paused a = absurd (a.plain (at_telling n v at))

    untyped_by : (u x w : PortValue) (stop : Stop) → IsPaused (Err stop) → GotRef v u f owner (Ok f) → Took u x (Err stop) → GaveRef x w f → Leads n v w (Err stop)
    untyped_by u x w (Refused r) paused a b c = absurd paused
    untyped_by u x w (Paused p) paused a b c = untyped_led v u at works a x w p b c

    waiting_by : (u x w : PortValue) (own : Bool) (stamp : ℕ) (stop : Stop) → IsPaused (Err stop) → GotRef v u f owner (Ok f) → Took u x (Ok (types.Waiting own stamp stop)) → WaitingLeft x w f level owner stamp own (keeps_it stop) → Leads n v w (Err stop)
    waiting_by u x w own stamp (Refused r) paused a b c = absurd paused
    waiting_by u x w own stamp (Paused p) paused a b c = waiting_led v u at works a x w own stamp p alive b c

    unfinished_by : (u x y w : PortValue) (progress : ℕ) (own : Bool) (us : List TableWork) (answers : List Bool) (stop : Stop) → IsPaused (Err stop) → GotRef v u f owner (Ok f) → Took u x (Ok (types.InWork progress own)) →
        Worked owner x (outermost_table f level progress own) y us answers (Err stop) → Unwound y owner us (keeps_it stop) w → Leads n v w (Err stop)
    unfinished_by u x y w progress own us answers (Refused r) paused a b c d = absurd paused
    unfinished_by u x y w progress own us answers (Paused p) paused a b c d = unfinished_led v u at works a x y w progress own us answers p alive b c d

    acquired_led : (w : PortValue) (answers : List Bool) (r : Result ℕ Stop) → Acquired v f owner level w answers r → IsPaused r → Leads n v w r
    acquired_led _ _ _ (unreferred w stop a) paused = no_pause w stop paused a
    acquired_led _ _ _ (untyped u x w stop a b c) paused = untyped_by u x w stop paused a b c
    acquired_led _ _ _ (counted u w a b) paused = absurd paused
    acquired_led _ _ _ (waiting u x w own stamp stop a b c) paused = waiting_by u x w own stamp stop paused a b c
    acquired_led _ _ _ (unfinished u x y w progress own us answers stop a b c d) paused = unfinished_by u x y w progress own us answers stop paused a b c d
    acquired_led _ _ _ (finished u x y w progress own t answers a b c full made) paused = absurd paused

-- ---- as it is said of words: whatever is in work beforehand, in whose hand ever
module _ (stays : AloneStays) (v w : PortValue) (f owner level : ℕ) (answers : List Bool) (alone : IsAlone v) (alive : AreAllAlive v.post.machine (told_word v)) where
  leads : (x : Pause) → Acquired v f owner level w answers (Err (Paused x)) → Leads v.post.machine v w (Err (Paused x))
  leads x a = acquired_led stays v.post.machine f owner level v (record { alone = alone; machine = refl }) tt alive w answers (Err (Paused x)) a tt

  pub goes_forward : (x : Pause) → Acquired v f owner level w answers (Err (Paused x)) → GoesForward v.post.machine (told_word v) (told_word w)
  goes_forward x a = let g = (leads x a).moved.goes in record { ranks = λ h inside. g.ranks h; counts = λ h inside live. g.counts h live; olds = g.olds }

  pub gets_further : Acquired v f owner level w answers (Err (Paused Due)) → GetsFurther v.post.machine (told_word v) (told_word w)
  gets_further a = let b = (leads Due a).strict refl in record { frame = b.frame; real = b.real; higher = b.higher }
