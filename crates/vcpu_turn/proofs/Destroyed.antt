-- A destruction that went on: its steps, the answers of its gate, and how many frames it has looked at and listed.
use Rattle.std.proofs.Common.{◌≡◌, ℕ, ◌+◌, ◌≤◌, Bool, false, List, length, Result, Ok, Err, refl, sym, ap, subst, arith, length-append}
use Rattle.std.specs.Result.{IsErrAnd}
use Rattle.xp_words.specs.declared.reply.LogLine.{LogLine}
use Rattle.xp_words.specs.declared.reply.Stop.{Stop}
use Rattle.xp_board.specs.Told.{Post, PortValue}
use Rattle.xp_preempt.specs.Gates.{Gate, Gated, GatedPast}
use Rattle.xp_preempt.proofs.Consulting.{gated_past, past_as}
use Rattle.step_maker.specs.Moves.{Came}
use Rattle.step_maker.proofs.Coming.{came_post}
use Rattle.step_maker.proofs.Warming.{came_warm}
use Rattle.level_release.specs.Asking.{is_due_answer, is_due_stop}
use Rattle.domain_destroy.specs.Coming.{seen_to}
use Rattle.domain_destroy.specs.Course as course
use Rattle.domain_destroy.specs.Course.{Advances, Destroys, GoesOn, LeftFrame, ListsFrame, left_lines}
use Rattle.domain_destroy.specs.Destroying.{DomainDestroyed}
use Rattle.domain_destroy.specs.declared.place.DestroyAt.{DestroyAt}
use Rattle.domain_destroy.proofs.Noes.{destroys_noes}
use Rattle.domain_destroy.proofs.Parts.{destroy_came}
use Rattle.domain_destroy.proofs.Lines.{lines_long as lines_many}
use Rattle.vcpu_turn.specs.Asking.{NoUntilDue}
use Rattle.vcpu_turn.specs.Calls.{WentBy}
use Rattle.vcpu_turn.specs.Cpus.{Job, OfCalls, OfDestroy, OfOne, made_within, room_from}
use Rattle.vcpu_turn.specs.Destroying.{KnowsPlace, WentOnDestroying}
use Rattle.vcpu_turn.specs.Settling.{IsWarm}
use Rattle.vcpu_turn.specs.declared.cpu.Progress.{Progress}
use Rattle.vcpu_turn.proofs.PassedOn.{is_err}
use Rattle.vcpu_turn.proofs.NextOps.{SeenNoMore}
use Rattle.vcpu_turn.proofs.Noes.{noes_asked, noes_due, noes_no, noes_none, noes_then, settled_noes}

module _ {x op : ℕ} {v : PortValue} {from to : Progress} {w : PortValue} {log log' : List LogLine} {answers : List Bool} {answer : Result ℕ Stop} (went : WentOnDestroying x op v from to w log log' answers answer) where
  pub destroyed_came : Came v w
  destroyed_came = destroy_came v w x answer went.destroyed.serves

  pub destroyed_hears : NoUntilDue answers (is_due_answer answer)
  destroyed_hears =
      destroys_noes NoUntilDue noes_none (λ asked noes. noes_asked asked false (noes_no asked noes)) (λ asked noes. noes_due asked (noes_no asked noes))
      (λ early late due first later. noes_then early late due (noes_no early first) later) (λ below u z asked ended settled. settled_noes u z asked ended settled)
      x v from.place w to.place went.destroyed.more answers answer went.destroyed.course

-- ---- how many frames
listed_one : {d f y : ℕ} {more : List LeftFrame} → ListsFrame d f y more → length more ≤ 1
listed_one (course.ListsFrame.others off) = omega arith
listed_one (course.ListsFrame.left owned counted) = omega arith

module _ {d : ℕ} where
  advance_seen : (u : PortValue) (at : DestroyAt) (w : PortValue) (to : DestroyAt) (more : List LeftFrame) (answers : List Bool) (answer : Result (Unit {0}) Stop) → Advances d u at w to more answers answer →
      seen_to at ≤ u.post.machine.frames → seen_to to ≤ w.post.machine.frames
  advance_seen u _ _ _ _ _ _ (course.Advances.listed f left y w more real m lists) seen = subst (λ (q : PortValue). f + 1 ≤ q.post.machine.frames) (sym m.to) (omega (arith, real))
  advance_seen u _ _ _ _ _ _ (course.Advances.half_free f left y w real m owned free) seen = subst (λ (q : PortValue). f ≤ q.post.machine.frames) (sym m.to) seen
  advance_seen u _ _ _ _ _ _ _ seen = omega arith

  advance_more : (u : PortValue) (at : DestroyAt) (w : PortValue) (to : DestroyAt) (more : List LeftFrame) (answers : List Bool) (answer : Result (Unit {0}) Stop) → Advances d u at w to more answers answer →
      length more + seen_to at ≤ seen_to to
  advance_more u _ _ _ _ _ _ (course.Advances.listed f left y w more real m lists) = let one = listed_one lists in omega (arith, one)
  advance_more u _ _ _ _ _ _ _ = omega arith

  goes_seen : (v : PortValue) (at : DestroyAt) (w : PortValue) (to : DestroyAt) (more : List LeftFrame) (answers : List Bool) (answer : Result (Unit {0}) Stop) → GoesOn d v at w to more answers answer →
      seen_to at ≤ v.post.machine.frames → seen_to to ≤ w.post.machine.frames
  goes_seen v at _ _ _ _ _ course.GoesOn.begins seen = seen
  goes_seen v at _ _ _ _ _ (course.GoesOn.advances u w by to some more answers asked answer before one) seen =
      advance_seen u by w to more asked answer one (goes_seen v at u by some answers (Ok tt) before seen)

  goes_more : (v : PortValue) (at : DestroyAt) (w : PortValue) (to : DestroyAt) (more : List LeftFrame) (answers : List Bool) (answer : Result (Unit {0}) Stop) → GoesOn d v at w to more answers answer →
      length more + seen_to at ≤ seen_to to
  goes_more v at _ _ _ _ _ course.GoesOn.begins = omega arith
  goes_more v at _ _ _ _ _ (course.GoesOn.advances u w by to some more answers asked answer before one) =
      let first = goes_more v at u by some answers (Ok tt) before in
      let last = advance_more u by w to more asked answer one in
      let sum = length-append some more in
      omega (arith, first, last, sum)

  -- no more than there are
  destroys_seen : (v : PortValue) (at : DestroyAt) (w : PortValue) (to : DestroyAt) (more : List LeftFrame) (answers : List Bool) (answer : Result ℕ Stop) → Destroys d v at w to more answers answer →
      seen_to at ≤ v.post.machine.frames → seen_to to ≤ w.post.machine.frames
  destroys_seen v at _ _ _ _ _ (course.Destroys.stops w to more answers e goes) seen = goes_seen v at w to more answers (Err e) goes seen
  destroys_seen v at _ _ _ _ _ (course.Destroys.buries u w frame left found more answers goes past m) seen =
      subst (λ (q : PortValue). frame ≤ q.post.machine.frames) (sym m.to) (goes_seen v at u _ more answers (Ok tt) goes seen)

  destroys_more : (v : PortValue) (at : DestroyAt) (w : PortValue) (to : DestroyAt) (more : List LeftFrame) (answers : List Bool) (answer : Result ℕ Stop) → Destroys d v at w to more answers answer →
      length more + seen_to at ≤ seen_to to
  destroys_more v at _ _ _ _ _ (course.Destroys.stops w to more answers e goes) = goes_more v at w to more answers (Err e) goes
  destroys_more v at _ _ _ _ _ (course.Destroys.buries u w frame left found more answers goes past m) = goes_more v at u _ more answers (Ok tt) goes

module _ {x op : ℕ} {v : PortValue} {from to : Progress} {w : PortValue} {log log' : List LogLine} {answers : List Bool} {answer : Result ℕ Stop} (went : WentOnDestroying x op v from to w log log' answers answer) where
  pub destroyed_seen : seen_to from.place ≤ v.post.machine.frames → seen_to to.place ≤ v.post.machine.frames
  destroyed_seen seen =
      subst (λ (q : Post). seen_to to.place ≤ q.machine.frames) (came_post v w (destroyed_came went))
      (destroys_seen v from.place w to.place went.destroyed.more answers answer went.destroyed.course seen)

-- so the room of the log is kept
pub seen_on : (d op : ℕ) (v : PortValue) (from to : Progress) (w : PortValue) (log log' : List LogLine) (answers : List Bool) (answer : Result ℕ Stop) (job : Job) (frames : ℕ) → frames ≡ v.post.machine.frames → KnowsPlace v job op from log →
    WentBy d job op v from to w log log' answers answer → SeenNoMore frames job to
seen_on d op v from to w log log' answers answer (OfOne task) frames same knows went = tt
seen_on d op v from to w log log' answers answer (OfCalls calls) frames same knows went = tt
seen_on d op v from to w log log' answers answer (OfDestroy x) frames same knows went = let seen = destroyed_seen went knows.inside in omega (arith, same, seen)

-- ---- by the call
module _ {x op : ℕ} {v : PortValue} {at to : DestroyAt} {w : PortValue} {log log' : List LogLine} {answers : List Bool} {answer : Result ℕ Stop} (did : DomainDestroyed v w x op at to log log' answers answer) where
  pub did_came : Came v w
  did_came = destroy_came v w x answer did.serves

  pub did_post : w.post ≡ v.post
  did_post = came_post v w did_came

  pub did_warm : IsWarm v → IsWarm w
  did_warm warm = came_warm v w did_came (ap (λ (y : PortValue). y.holdings.ran) did.hand) warm

  pub did_room : length log' + seen_to at ≤ length log + seen_to to
  did_room =
      let more = destroys_more v at w to did.more answers answer did.course in
      let sum = length-append log (left_lines op did.more) in
      let many = lines_many op did.more in
      let all = ap (λ (xs : List LogLine). length xs) did.lines in
      omega (arith, more, sum, many, all)

module _ {x op : ℕ} {v : PortValue} {from : Progress} {to : DestroyAt} {w : PortValue} {log log' : List LogLine} {g h : Gate} where
  -- it stopped, and the answer is passed on
  pub went_stopped : (stop : Stop) (answer : Result ℕ Stop) → IsErrAnd answer (λ e. e ≡ stop) → Gated g h (is_due_stop stop) (λ answers. DomainDestroyed v w x op from.place to log log' answers (Err stop)) →
      GatedPast g h (is_due_answer answer) (λ answers. WentOnDestroying x op v from (record from { place = to }) w log log' answers answer)
  went_stopped stop answer is gated = rw (is_err answer stop is) (past_as (λ due. due) (λ answers did. record { destroyed = did; to_is = refl }) (gated_past gated))

  -- it ended
  pub went_ended : (left value : ℕ) → value ≡ left → Gated g h false (λ answers. DomainDestroyed v w x op from.place to log log' answers (Ok left)) →
      GatedPast g h false (λ answers. WentOnDestroying x op v from (record from { done = 1; place = to }) w log log' answers (Ok value))
  went_ended left value is gated = rw is (past_as (λ due. due) (λ answers did. record { destroyed = did; to_is = refl }) (gated_past gated))

-- the room of the log, as the operation that destroys has it
pub destroying_room : (job : Job) (x : ℕ) → job ≡ OfDestroy x → (frames len len' : ℕ) (from to : Progress) → len' + seen_to from.place ≤ len + seen_to to.place →
    len' + room_from frames job to.call + made_within job from ≤ len + room_from frames job from.call + made_within job to
destroying_room job x is frames len len' from to less =
    subst (λ (j : Job). len' + room_from frames j to.call + made_within j from ≤ len + room_from frames j from.call + made_within j to) (sym is) (omega (arith, less))
