-- Tables are worked on, from port to port: no frame falls, and where an entry is done with, one is further.
use Rattle.std.proofs.Common.{◌≡◌, ℕ, ◌-◌, ◌<◌, Bool, true, false, List, ◌∷◌, Result, Ok, Err, refl, ap, ◌∙◌, subst, arith}
use Rattle.xp_words.specs.Entries.{demand_at}
use Rattle.xp_words.specs.Machine.{Machine}
use Rattle.xp_words.specs.declared.place.Place.TheVariants.{Cell}
use Rattle.xp_words.specs.declared.reply.Pause.TheVariants.{Due}
use Rattle.xp_words.specs.declared.reply.Stop.{Stop}
use Rattle.xp_words.specs.declared.reply.Stop.TheVariants.{Refused, Paused}
use Rattle.xp_board.specs.Readings.{kind_at}
use Rattle.xp_board.specs.Told.{Post, PortValue, is_telling, told_word}
use Rattle.step_maker.specs.Moves.{Came}
use Rattle.step_maker.specs.Plain.{Words}
use Rattle.step_maker.proofs.Coming.{came_post}
use Rattle.answer_laws.specs.Alone.{IsAlone}
use Rattle.answer_laws.proofs.Shared.{alone_telling}
use Rattle.kind_words.specs.Kinds.{partial_kind}
use Rattle.partial_state.specs.Levels.{level_type}
use Rattle.partial_state.specs.declared.stack.TableWork.{TableWork}
use Rattle.table_entries.specs.Plain.{EntersPlainly, ResumesPlainly}
use Rattle.table_entries.specs.declared.entries.Entered.{Entered}
use Rattle.table_entries.specs.declared.entries.Entered.TheVariants as entered
use Rattle.table_entries.specs.declared.resuming.Resumed.{Resumed}
use Rattle.table_entries.specs.declared.resuming.Resumed.TheVariants as again
use Rattle.table_entries.specs.Acquiring.{Advanced, Joined, GaveBack, LeftWaiting, MadeLive, ResumedEntry, TookEntry, TookOn, one_entry_more, table_opened}
use Rattle.course_laws.proofs.Awaiting.{AloneStays, alone_orderly, rose_by}
use Rattle.course_laws.proofs.Stopping.{StopsAs, advanced_stops, on_stops}
use Rattle.frame_ranks.specs.Ranks.{rank_at, rank_of}
use Rattle.frame_ranks.proofs.Entering.{IsSpelled, enter_opened, enter_paused, enter_recorded, enter_unsettled}
use Rattle.frame_ranks.proofs.Facing.{self_calm, turned_twice}
use Rattle.frame_ranks.proofs.Resuming.{resume_opened, resume_paused, resume_settled, resume_taken, resume_waiting}
use Rattle.acquisition_laws.proofs.Lows.{resumed_low}
use Rattle.frame_ranks.proofs.Stepping.{back_from, completed_turned, shared_turned}
use Rattle.frame_ranks.proofs.Standings.{rank_live}
use Rattle.frame_ranks.proofs.Turning.{beside, beside_further, calm_moved, dead_lasts, entry_further, entry_moved, into, more_works, out, out_further}
use Rattle.frame_ranks.proofs.Valuing.{Further, Moved, Works, idle_off, moved_then, then_further, worth_around, worth_gone, worth_same}

-- it is not refused
abbrev pub IsGoing : {A : Type 0} → Result A Stop → Type 0
IsGoing (Ok a) = Unit {0}
IsGoing (Err (Refused x)) = ⊥
IsGoing (Err (Paused x)) = Unit {0}

-- a port of that machine whose vCPU is alone
pub record At (n : Machine) (u : PortValue) : Type 0 where
  pub alone : IsAlone u
  pub machine : u.post.machine ≡ n

pub at_telling : (n : Machine) (u : PortValue) → At n u → is_telling u ≡ true
at_telling n u at = alone_telling u at.alone

pub at_spelled : (n : Machine) (u : PortValue) → At n u → IsSpelled n (told_word u)
at_spelled n u at = subst (λ k. IsSpelled k (told_word u)) at.machine (alone_orderly u at.alone).spelled

pub at_later : AloneStays → (n : Machine) (u w : PortValue) → At n u → Came u w → At n w
at_later stays n u w at came = record { alone = stays u w at.alone came; machine = ap (λ (p : Post). p.machine) (came_post u w came) ∙ at.machine }

pub moved_self : (n : Machine) (m : Words) (ts : List TableWork) → Works n m ts → Moved n m ts m ts
moved_self n m ts works = calm_moved n m m ts (self_calm m) works

-- from these tables to those: nothing falls; and where the answer is that, a frame is further
pub record Led {A : Type 0} (n : Machine) (v : PortValue) (ts : List TableWork) (w : PortValue) (us : List TableWork) (r end : A) : Type 0 where
  pub moved : Moved n (told_word v) ts (told_word w) us
  pub strict : r ≡ end → Further n (told_word v) ts (told_word w) us

pub led_then : {A : Type 0} (n : Machine) (v : PortValue) (ts : List TableWork) (u : PortValue) (us : List TableWork) (w : PortValue) (xs : List TableWork) (r end : A) → Moved n (told_word v) ts (told_word u) us → Led n u us w xs r end → Led n v ts w xs r end
led_then n v ts u us w xs r end a b =
    record {
      moved = moved_then n (told_word v) ts (told_word u) us (told_word w) xs a b.moved;
      strict = λ is. then_further n (told_word v) ts (told_word u) us (told_word w) xs a.goes (b.strict is);
    }

never_by : (v w : PortValue) (r : Result Bool Stop) → StopsAs v w r → r ≡ Err (Paused Due) → ⊥
never_by v w r stops is = let s = subst (λ (x : Result Bool Stop). StopsAs v w x) is stops in rose_by s.from s.to s.request s.calm s.stops

pub on_never : (owner : ℕ) (v : PortValue) (ts : List TableWork) (w : PortValue) (us : List TableWork) (r : Result Bool Stop) → TookOn owner v ts w us r → r ≡ Err (Paused Due) → ⊥
on_never owner v ts w us r a is = never_by v w r (on_stops owner v ts w us r a) is

pub advanced_never : (owner : ℕ) (v : PortValue) (ts : List TableWork) (w : PortValue) (us : List TableWork) (r : Result Bool Stop) → Advanced owner v ts w us r → r ≡ Err (Paused Due) → ⊥
advanced_never owner v ts w us r a is = never_by v w r (advanced_stops owner v ts w us r a) is

module _ (n : Machine) (owner : ℕ) (v w : PortValue) (t : TableWork) (ts : List TableWork) (at : At n v) (works : Works n (told_word v) (t ∷ ts)) where
  again_plain : (r : Result Resumed Stop) → ResumedEntry v w owner t r → ResumesPlainly n w (told_word v) owner r (demand_at (level_type t.level) (t.done - 1) (told_word v (Cell t.frame (t.done - 1))))
  again_plain r a = subst (λ k. ResumesPlainly k w (told_word v) owner r (demand_at (level_type t.level) (t.done - 1) (told_word v (Cell t.frame (t.done - 1))))) at.machine (a.plain (at_telling n v at))

  entry_plain : (r : Result Entered Stop) → TookEntry v w owner t r → EntersPlainly n w (told_word v) t.frame t.done owner r (demand_at (level_type t.level) t.done (told_word v (Cell t.frame t.done)))
  entry_plain r a = subst (λ k. EntersPlainly k w (told_word v) t.frame t.done owner r (demand_at (level_type t.level) t.done (told_word v (Cell t.frame t.done)))) at.machine (a.plain (at_telling n v at))

  spelled : IsSpelled n (told_word v)
  spelled = at_spelled n v at

  -- the last recorded entry stands
  pub settled_moved : ResumedEntry v w owner t (Ok again.Settled) → Moved n (told_word v) (t ∷ ts) (told_word w) (t ∷ ts)
  settled_moved a = resume_settled n owner (told_word v) w spelled (t ∷ ts) works _ (again_plain _ a)

  -- it stops
  pub stopped_again : (stop : Stop) → IsGoing {A = Bool} (Err stop) → ResumedEntry v w owner t (Err stop) → Moved n (told_word v) (t ∷ ts) (told_word w) (t ∷ ts)
  stopped_again (Refused x) going a = absurd going
  stopped_again (Paused x) going a = resume_paused n owner (told_word v) w spelled (t ∷ ts) works x _ (again_plain _ a)

  -- its table is in work again
  pub opened_again : (f progress : ℕ) → ResumedEntry v w owner t (Ok (again.Opened f progress)) → Moved n (told_word v) (t ∷ ts) (told_word w) (table_opened t f progress false true ∷ t ∷ ts)
  opened_again f progress a =
      let o = resume_opened n owner (told_word v) w spelled f progress _ (again_plain _ a) in
      let b = o.taken in
      let x = table_opened t f progress false true in
      into n (told_word v) (told_word w) f b.word b.turned (t ∷ ts) works b.idle x (t ∷ ts) refl o.inside b.few b.work b.dead b.low (idle_off n (told_word v) (t ∷ ts) f works b.idle) works
      (λ g r off. let e = worth_same x t ts g r off refl in omega arith)

  -- its frame is live now
  pub taken_again : (u : PortValue) (f : ℕ) → At n u → ResumedEntry v u owner t (Ok (again.Taken f)) → GaveBack u w f → Led {A = Result Bool Stop} n v (t ∷ ts) w (t ∷ ts) (Ok true) (Ok true)
  taken_again u f there a b =
      let o = resume_taken n owner (told_word v) u spelled f _ (subst (λ k. ResumesPlainly k u (told_word v) owner (Ok (again.Taken f)) (demand_at (level_type t.level) (t.done - 1) (told_word v (Cell t.frame (t.done - 1))))) at.machine (a.plain (at_telling n v at))) in
      let c = back_from u w f (at_telling n u there) b in
      let turned = turned_twice (told_word v) (told_word u) (told_word w) f o.taken.word c.word o.taken.turned c.turned in
      let idle = o.taken.idle in
      let higher : rank_at (told_word v) f < rank_of c.word = (let h = o.taken.higher o.dead in let r = rank_live c.word c.live in let s = rank_live o.taken.word o.taken.live in omega arith) in
      record {
        moved = beside n (told_word v) (told_word w) f c.word turned (t ∷ ts) works idle (omega arith) (dead_lasts (kind_at (told_word v) f) c.word o.dead);
        strict = λ is. beside_further n (told_word v) (told_word w) f c.word turned (t ∷ ts) works idle o.inside higher;
      }

  -- its frame waits, and is left so
  pub waiting_again : (u : PortValue) (f stamp : ℕ) (stop : Stop) → At n u → ResumedEntry v u owner t (Ok (again.Waiting f stamp stop)) → LeftWaiting u w f (t.level - 1) stamp → Moved n (told_word v) (t ∷ ts) (told_word w) (t ∷ ts)
  waiting_again u f stamp stop there a b =
      let o = resume_waiting n owner (told_word v) u spelled f stamp stop _ (subst (λ k. ResumesPlainly k u (told_word v) owner (Ok (again.Waiting f stamp stop)) (demand_at (level_type t.level) (t.done - 1) (told_word v (Cell t.frame (t.done - 1))))) at.machine (a.plain (at_telling n v at))) in
      let k = partial_kind (level_type (t.level - 1)) false true 0 stamp in
      let left = shared_turned u w f (level_type (t.level - 1)) stamp (at_telling n u there) (resumed_low v u t.frame (t.done - 1) (level_type t.level) owner (again.Waiting f stamp stop) a.found) b.found in
      beside n (told_word v) (told_word w) f k (turned_twice (told_word v) (told_word u) (told_word w) f o.word k o.turned left) (t ∷ ts) works o.waits.idle o.waits.low (dead_lasts (kind_at (told_word v) f) k o.waits.dead)

  -- ---- the next entry
  pub recorded_led : t.done < 512 → TookEntry v w owner t (Ok entered.Recorded) → Led {A = Result Bool Stop} n v (t ∷ ts) w (one_entry_more t ∷ ts) (Ok true) (Ok true)
  recorded_led few a =
      let b = enter_recorded n owner (told_word v) w (t ∷ ts) works spelled t.frame t.done _ (entry_plain _ a) in
      record {
        moved = moved_then n (told_word v) (t ∷ ts) (told_word w) (t ∷ ts) (told_word w) (one_entry_more t ∷ ts) b (entry_moved n (told_word w) t ts b.works few);
        strict = λ is. then_further n (told_word v) (t ∷ ts) (told_word w) (t ∷ ts) (told_word w) (one_entry_more t ∷ ts) b.goes (entry_further n (told_word w) t ts b.works);
      }

  pub unsettled_moved : (stop : Stop) → t.done < 512 → TookEntry v w owner t (Ok (entered.Unsettled stop)) → Moved n (told_word v) (t ∷ ts) (told_word w) (one_entry_more t ∷ ts)
  unsettled_moved stop few a =
      let b = enter_unsettled n owner (told_word v) w (t ∷ ts) works spelled t.frame t.done stop _ (entry_plain _ a) in
      moved_then n (told_word v) (t ∷ ts) (told_word w) (t ∷ ts) (told_word w) (one_entry_more t ∷ ts) b (entry_moved n (told_word w) t ts b.works few)

  pub stopped_moved : (stop : Stop) → IsGoing {A = Bool} (Err stop) → TookEntry v w owner t (Err stop) → Moved n (told_word v) (t ∷ ts) (told_word w) (t ∷ ts)
  stopped_moved (Refused x) going a = absurd going
  stopped_moved (Paused x) going a = enter_paused n owner (told_word v) w (t ∷ ts) works spelled t.frame t.done x _ (entry_plain _ a)

  pub opened_moved : (f progress : ℕ) (own : Bool) → t.done < 512 → TookEntry v w owner t (Ok (entered.Opened f progress own)) → Moved n (told_word v) (t ∷ ts) (told_word w) (table_opened t f progress own false ∷ one_entry_more t ∷ ts)
  opened_moved f progress own few a =
      let o = enter_opened n owner (told_word v) w (t ∷ ts) works spelled t.frame t.done f progress own _ (entry_plain _ a) in
      let b = o.taken in
      let x = table_opened t f progress own false in
      let all = more_works n (told_word v) t ts works few in
      into n (told_word v) (told_word w) f b.word b.turned (t ∷ ts) works b.idle x (one_entry_more t ∷ ts) refl o.inside b.few b.work b.dead b.low (idle_off n (told_word v) (one_entry_more t ∷ ts) f all b.idle) all
      (λ g r off. worth_around x t ts g r off)

-- a full table is live
pub completed_led : (n : Machine) (v u w : PortValue) (t outer : TableWork) (ts : List TableWork) → At n v → Works n (told_word v) (t ∷ outer ∷ ts) → t.done ≡ 512 → MadeLive v u t → Joined u w t outer t.recorded →
    Led {A = Result Bool Stop} n v (t ∷ outer ∷ ts) w (outer ∷ ts) (Ok true) (Ok true)
completed_led n v u w t outer ts at works full made a =
    let c = completed_turned v u w t outer (at_telling n v at) made a in
    let off = works.1 in
    let rank = rank_live c.word c.live in
    record {
      moved = out n (told_word v) (told_word w) t.frame c.word c.turned t (outer ∷ ts) (outer ∷ ts) refl works off works.2 (omega arith) (λ f r apart. worth_gone t outer ts f r apart);
      strict = λ is. out_further n (told_word v) (told_word w) t.frame c.word c.turned t (outer ∷ ts) (outer ∷ ts) refl works off (omega arith);
    }
