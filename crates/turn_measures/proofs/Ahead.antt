-- A turn gets ahead, or is paused and stays where it is.
use Rattle.std.proofs.Common.{◌≡◌, ◌⊎◌, ℕ, ◌+◌, ◌-◌, ◌<◌, ◌≤◌, Bool, true, false, List, length, drop, sum_by, slice_get, Option, Some, None, Result, Ok, Err, IfErr, refl, sym, ap, ◌∙◌, subst, inl, inr, arith}
use Rattle.xp_words.specs.Machine.{Machine}
use Rattle.xp_words.specs.declared.ops.Call.{Call}
use Rattle.xp_words.specs.declared.ops.Op.{Op}
use Rattle.xp_words.specs.declared.reply.LogLine.{LogLine}
use Rattle.xp_words.specs.declared.reply.Pause.{Pause}
use Rattle.xp_words.specs.declared.reply.Pause.TheVariants.{Due, Lost, Busy, Flush, Alive}
use Rattle.xp_words.specs.declared.reply.Refusal.{Refusal}
use Rattle.xp_words.specs.declared.reply.Refusal.TheVariants.{Dying}
use Rattle.xp_words.specs.declared.reply.Stop.{Stop}
use Rattle.xp_words.specs.declared.reply.Stop.TheVariants.{Refused, Paused}
use Rattle.xp_board.specs.Told.{PortValue}
use Rattle.tlb_walks.specs.Asking.{IsGuestReadStop, IsGuestWriteStop}
use Rattle.vcpu_turn.specs.Destroying.{WentOnDestroying}
use Rattle.vcpu_turn.specs.Unhindered.{IsSparedBy, IsSparedIn, IsUnhindered}
use Rattle.vcpu_turn.proofs.Scripts as scripts
use Rattle.vcpu_turn.proofs.Bringing.{begins_later}
use Rattle.vcpu_turn.proofs.Mapping.{behind_one}
use Rattle.vcpu_turn.specs.Accesses.{done_by}
use Rattle.vcpu_turn.specs.Calls as calling
use Rattle.vcpu_turn.specs.Calls.{AnsweredCalls, AnswersCall, WentBy, WorksCalls}
use Rattle.vcpu_turn.specs.Cpus.{Job, OfCalls, OfDescriptors, OfDestroy, OfExt, OfMapping, OfMem, OfOne, OfPairs, OfRead, OfWrite, Processing, Task, after_turn, begun, begun_at, done_at, end_of, job_next, job_of, next_of, nothing_left, reply_of, task_called, task_in}
use Rattle.vcpu_turn.specs.Extents as extents
use Rattle.vcpu_turn.specs.Extents.{WorksExtents, extents_in}
use Rattle.vcpu_turn.specs.Lists as lists
use Rattle.vcpu_turn.specs.Lists.{DidItems, Fitting, IsRefusedWhole, WorksOn, WorksThrough}
use Rattle.vcpu_turn.specs.Mappings as mapping
use Rattle.vcpu_turn.specs.Mappings.{MapsWord, done_behind}
use Rattle.vcpu_turn.specs.Pairs as owning
use Rattle.vcpu_turn.specs.Pairs.{WorksOwned}
use Rattle.vcpu_turn.specs.Turning as turning
use Rattle.vcpu_turn.specs.Turning.{DiesNext, DoesTurn, IsTurn}
use Rattle.vcpu_turn.specs.Working.{Works, valued}
use Rattle.vcpu_turn.specs.declared.cpu.Progress.{Progress}
use Rattle.vcpu_turn.specs.declared.cpu.TurnEnd.{TurnEnd}
use Rattle.vcpu_turn.specs.declared.cpu.TurnEnd.TheVariants as ends
use Rattle.turn_measures.specs.Measures.{IsWithin, IsWithinJob, StaysAt, ahead, most_done, op_size, size_done, to_retire}
use Rattle.turn_measures.proofs.Sizes.{Between, GetsOn, answered_on, begun_within, done_most, on_self, on_then, paused_on, size_same, sum_next, task_on}

-- ---- how far an operation comes
did_forth : {fits : Fitting} {count from : ℕ} {v : PortValue} (k : ℕ) (w : PortValue) (answers : List Bool) → DidItems fits count from v k w answers → from ≤ k
did_forth _ _ _ lists.DidItems.none = omega arith
did_forth _ _ _ (lists.DidItems.more k u w answers asked before f less) = let at = did_forth k u answers before in omega (arith, at)

list_forth : {fits : Fitting} {count from : ℕ} {v : PortValue} (to : ℕ) (w : PortValue) (answers : List Bool) (answer : Result (Unit {0}) Stop) → WorksOn fits count from v to w answers answer → Between from to count
list_forth _ _ _ _ (lists.WorksOn.all_done same) = (omega arith, omega (arith, same))
list_forth _ _ _ _ (lists.WorksOn.last_done k u w answers asked before f at) = let on = did_forth k u answers before in (omega (arith, on), omega (arith, at))
list_forth _ _ _ _ (lists.WorksOn.due k u w answers asked before f less) = let on = did_forth k u answers before in (omega (arith, on), omega (arith, less))
list_forth _ _ _ _ (lists.WorksOn.stopped k u w answers asked e before f less) = let on = did_forth k u answers before in (on, omega (arith, less))

-- where it is paused
abbrev WherePaused : {A : Type 0} → Type 0 → Result A Stop → Type 0
WherePaused P (Err (Paused p)) = P
WherePaused P _ = Unit {0}

paused_so : {A P Q : Type 0} (answer : Result A Stop) → (P → Q) → WherePaused P answer → WherePaused Q answer
paused_so (Ok a) so on = tt
paused_so (Err (Refused r)) so on = tt
paused_so (Err (Paused p)) so on = so on

valued_paused : (P : Type 0) (ended : Result (Unit {0}) Stop) (answer : Result ℕ Stop) → answer ≡ valued ended → WherePaused P ended → WherePaused P answer
valued_paused P (Ok done) answer is on = subst (WherePaused P) (sym is) on
valued_paused P (Err (Refused r)) answer is on = subst (WherePaused P) (sym is) on
valued_paused P (Err (Paused p)) answer is on = subst (WherePaused P) (sym is) on

abbrev GoesForth : {A : Type 0} → ℕ → ℕ → ℕ → Result A Stop → Type 0
GoesForth from to size answer = WherePaused (Between from to size) answer

between_forth : {A : Type 0} (from to size : ℕ) (answer : Result A Stop) → Between from to size → GoesForth from to size answer
between_forth from to size (Ok a) on = tt
between_forth from to size (Err (Refused r)) on = tt
between_forth from to size (Err (Paused p)) on = on

refused_forth : {A : Type 0} (x : Refusal) (from to size : ℕ) (answer : Result A Stop) → answer ≡ Err (Refused x) → GoesForth from to size answer
refused_forth x from to size (Ok a) is = tt
refused_forth x from to size (Err (Refused r)) is = tt
refused_forth x from to size (Err (Paused p)) is = absurd (cc)

valued_forth : (from to size : ℕ) (ended : Result (Unit {0}) Stop) (answer : Result ℕ Stop) → answer ≡ valued ended → GoesForth from to size ended → GoesForth from to size answer
valued_forth from to size ended answer is on = valued_paused (Between from to size) ended answer is on

owned_forth : (d foreign : ℕ) (list : List _) (v : PortValue) (from to : ℕ) (w : PortValue) (answers : List Bool) (ended : Result (Unit {0}) Stop) → WorksOwned d foreign list v from to w answers ended → GoesForth from to (length list) ended
owned_forth d foreign list v from _ _ _ _ (owning.WorksOwned.long to w answers answer above whole) = refused_forth _ from to (length list) answer whole.refused
owned_forth d foreign list v from _ _ _ _ (owning.WorksOwned.none empty) = tt
owned_forth d foreign list v from _ _ _ _ (owning.WorksOwned.unowned w x some few finds) = tt
owned_forth d foreign list v from _ _ _ _ (owning.WorksOwned.owned to u w o answers answer some few finds on) = between_forth from to (length list) answer (list_forth to w answers answer on)

through_forth : {fits : Fitting} {v : PortValue} (count from to : ℕ) (w : PortValue) (answers : List Bool) (ended : Result (Unit {0}) Stop) → WorksThrough fits count v from to w answers ended → GoesForth from to count ended
through_forth count from to w answers ended (inl whole) = refused_forth _ from to count ended whole.1.refused
through_forth count from to w answers ended (inr on) = between_forth from to count ended (list_forth to w answers ended on.1)

-- a list of extents begins no earlier than behind those that are done
extents_forth : (d command order : ℕ) (items : List ℕ) (v : PortValue) (from to : ℕ) (w : PortValue) (answers : List Bool) (ended : Result (Unit {0}) Stop) → WorksExtents d command order items v from to w answers ended →
    GoesForth from to (extents_in command items) ended
extents_forth d command order items v from _ _ _ _ (extents.WorksExtents.refused to w answers answer x why whole) = refused_forth x from to (extents_in command items) answer whole.refused
extents_forth d command order items v from _ _ _ _ (extents.WorksExtents.none why empty) = tt
extents_forth d command order items v from _ _ _ _ (extents.WorksExtents.on to within w answers answer why some works) =
    let on = list_forth to w answers answer works in
    let later = begins_later (Some (OfMem command order items)) from in
    between_forth from to (extents_in command items) answer (omega (arith, later, on), on.1)

-- a read or write of the guest is paused only where a walk lost an exchange
read_lost : (n : Machine) (p : Pause) → IsGuestReadStop (Paused p) → IsUnhindered n (ends.Paused p) → ⊥
read_lost n Due stop free = stop
read_lost n (Lost place expected found) stop free = free
read_lost n (Busy frame found) stop free = stop
read_lost n (Flush vcpu stamp found) stop free = stop
read_lost n (Alive vcpu found) stop free = stop

reads_forth : (n : Machine) (from to size : ℕ) (answer : Result ℕ Stop) → IfErr answer IsGuestReadStop → IsUnhindered n (end_of to answer) → GoesForth from to size answer
reads_forth n from to size (Ok value) stops free = tt
reads_forth n from to size (Err (Refused r)) stops free = tt
reads_forth n from to size (Err (Paused p)) stops free = absurd (read_lost n p stops free)

writes_forth : (n : Machine) (from to size : ℕ) (ended : Result (Unit {0}) Stop) → IfErr ended IsGuestWriteStop → IsUnhindered n (end_of to (valued ended)) → GoesForth from to size ended
writes_forth n from to size (Ok done) stops free = tt
writes_forth n from to size (Err (Refused r)) stops free = tt
writes_forth n from to size (Err (Paused p)) stops free = absurd (read_lost n p stops free)

-- an update by address goes from none to its one element, or stays there
waited_forth : (answer : Result (Unit {0}) Stop) → GoesForth 1 (done_behind answer) 1 answer
waited_forth (Ok done) = tt
waited_forth (Err (Refused r)) = tt
waited_forth (Err (Paused p)) = (omega arith, omega arith)

maps_forth : {d foreign va word flags : ℕ} {awaited : Option ℕ} {v : PortValue} (from to : ℕ) (w : PortValue) (answers : List Bool) (ended : Result (Unit {0}) Stop) → MapsWord d foreign va word flags awaited v from to w answers ended →
    GoesForth from to 1 ended
maps_forth _ _ _ _ _ (mapping.MapsWord.unset w answers e first) = between_forth {A = Unit {0}} 0 0 1 (Err e) (omega arith, omega arith)
maps_forth _ _ _ _ _ (mapping.MapsWord.set u w answers answer first drops) = between_forth 0 (done_behind answer) 1 answer (omega arith, behind_one answer)
maps_forth _ _ _ _ _ (mapping.MapsWord.waited w answer waits) = waited_forth answer

-- an operation on descriptor tables is paused before its only element
single_forth : (from to : ℕ) (ended : Result (Unit {0}) Stop) → from ≤ 0 → to ≡ done_by ended → GoesForth from to 0 ended
single_forth from to (Ok done) few is = tt
single_forth from to (Err (Refused r)) few is = tt
single_forth from to (Err (Paused p)) few is = (omega (arith, few), omega (arith, is))

works_forth : (n : Machine) (d : ℕ) (o : Option Task) (awaited : Option ℕ) (v : PortValue) (from to : ℕ) (w : PortValue) (answers : List Bool) (answer : Result ℕ Stop) → Works d o awaited v from to w answers answer →
    from ≤ most_done o → IsUnhindered n (end_of to answer) → GoesForth from to (most_done o) answer
works_forth n d None awaited v from to w answers answer works few free = refused_forth _ from to 0 answer works.refused
works_forth n d (Some (OfPairs foreign list)) awaited v from to w answers answer works few free =
    valued_forth from to (length list) works.ended answer works.answer_is (owned_forth d foreign list v from to w answers works.ended works.works)
works_forth n d (Some (OfExt list)) awaited v from to w answers answer works few free =
    valued_forth from to (length list) works.ended answer works.answer_is (through_forth (length list) from to w answers works.ended works.works)
works_forth n d (Some (OfMem command order items)) awaited v from to w answers answer works few free =
    valued_forth from to (extents_in command items) works.ended answer works.answer_is (extents_forth d command order items v from to w answers works.ended works.works)
works_forth n d (Some (OfMapping foreign va word flags)) awaited v from to w answers answer works few free =
    valued_forth from to 1 works.ended answer works.answer_is (maps_forth from to w answers works.ended works.works)
works_forth n d (Some (OfDescriptors tables)) awaited v from to w answers answer works few free =
    valued_forth from to 0 works.ended answer works.answer_is (single_forth from to works.ended few works.works.done)
works_forth n d (Some (OfRead user va)) awaited v from to w answers answer works few free = reads_forth n from to 1 answer works.kinds free
works_forth n d (Some (OfWrite user va val)) awaited v from to w answers answer works few free =
    valued_forth from to 1 works.ended answer works.answer_is
    (writes_forth n from to 1 works.ended works.works.kinds (subst (λ (a : Result ℕ Stop). IsUnhindered n (end_of to a)) works.answer_is free))

-- ---- the calls of a multicall
module _ (n : Machine) (d : ℕ) (calls : List Call) (op : ℕ) where
  answered_forth : {v : PortValue} {from : Progress} {log : List LogLine} (at : Progress) (w : PortValue) (behind : List LogLine) (answers : List Bool) → IsWithinJob (OfCalls calls) from →
      AnsweredCalls d calls op v from log at w behind answers → GetsOn (OfCalls calls) from at
  answered_forth {from = from} _ _ _ _ within calling.AnsweredCalls.none = on_self (OfCalls calls) from within
  answered_forth {from = from} _ _ _ _ within (calling.AnsweredCalls.more at to u w call before behind answers asked did is next) =
      let on = answered_forth at u before answers within did in
      on_then (OfCalls calls) from at to on (call_answered at to u w before behind asked next (answered_on calls call at is on.0))
    where
      call_answered : (at to : Progress) (u w : PortValue) (before behind : List LogLine) (asked : List Bool) → AnswersCall d call op u at before to w behind asked (Ok tt) → GetsOn (OfCalls calls) at (begun_at (at.call + 1)) →
          GetsOn (OfCalls calls) at to
      call_answered at _ u w before _ _ (calling.AnswersCall.answered to u' x w' log' early asked answer reply s went replies ends) on = on

  -- one that is paused
  stopped_forth : (call : Call) (v : PortValue) (from to : Progress) (w : PortValue) (log log' : List LogLine) (asked : List Bool) (stop : Stop) → slice_get calls from.call ≡ Some call → IsWithinJob (OfCalls calls) from →
      AnswersCall d call op v from log to w log' asked (Err stop) → IsUnhindered n (end_of to.done (Err stop)) → WherePaused {A = Unit {0}} (GetsOn (OfCalls calls) from to) (Err stop)
  stopped_forth call v from _ _ log _ _ _ at within (calling.AnswersCall.unsettled w early (Refused r) s) free = tt
  stopped_forth call v from _ _ log _ _ _ at within (calling.AnswersCall.unsettled w early (Paused p) s) free = on_self (OfCalls calls) from within
  stopped_forth call v from _ _ log _ _ _ at within (calling.AnswersCall.paused to u w log' early asked p s went) free =
      let few = subst (λ o. from.done ≤ most_done (task_called o)) at within.1 in
      paused_on calls call from at to went.calls within (works_forth n d (task_in call) from.awaited u from.done to.done w asked (Err (Paused p)) went.works few free)

  calls_forth : (v : PortValue) (from to : Progress) (w : PortValue) (log log' : List LogLine) (answers : List Bool) (ended : Result (Unit {0}) Stop) → IsWithinJob (OfCalls calls) from →
      WorksCalls d calls op v from log to w log' answers ended → IsUnhindered n (end_of to.done (valued ended)) → WherePaused (GetsOn (OfCalls calls) from to) ended
  calls_forth v from _ _ log _ _ _ within (calling.WorksCalls.long above) free = tt
  calls_forth v from _ _ log _ _ _ within (calling.WorksCalls.all_answered at w behind answers few did all) free = tt
  calls_forth v from _ _ log _ _ _ within (calling.WorksCalls.stopped at to u w call before behind answers asked stop few did is stops) free =
      let on = answered_forth at u before answers within did in
      paused_so {A = Unit {0}} (Err stop) (on_then (OfCalls calls) from at to on) (stopped_forth call u at to w before behind asked stop is on.0 stops free)

-- a destruction that is paused has nothing done
destroy_forth : (x op : ℕ) (v : PortValue) (from to : Progress) (w : PortValue) (log log' : List LogLine) (answers : List Bool) (answer : Result ℕ Stop) → WentOnDestroying x op v from to w log log' answers answer → from.done ≡ 0 →
    WherePaused (GetsOn (OfDestroy x) from to) answer
destroy_forth x op v from to w log log' answers (Ok left) went none = tt
destroy_forth x op v from to w log log' answers (Err (Refused r)) went none = tt
destroy_forth x op v from to w log log' answers (Err (Paused p)) went none =
    let done = ap (λ (y : Progress). y.done) went.to_is in
    (done ∙ none, inr (ap (λ (y : Progress). y.call) went.to_is, done))

job_forth : (n : Machine) (d : ℕ) (job : Job) (op : ℕ) (v : PortValue) (from to : Progress) (w : PortValue) (log log' : List LogLine) (answers : List Bool) (answer : Result ℕ Stop) → WentBy d job op v from to w log log' answers answer →
    IsWithinJob job from → IsSparedBy n job (end_of to.done answer) → WherePaused (GetsOn job from to) answer
job_forth n d (OfOne task) op v from to w log log' answers answer went within free =
    paused_so answer (task_on task from to went.calls) (works_forth n d task from.awaited v from.done to.done w answers answer went.works within free)
job_forth n d (OfCalls calls) op v from to w log log' answers answer went within free =
    valued_paused (GetsOn (OfCalls calls) from to) went.ended answer went.answer_is
    (calls_forth n d calls op v from to w log log' answers went.ended within went.works (subst (λ (a : Result ℕ Stop). IsUnhindered n (end_of to.done a)) went.answer_is free))
job_forth n d (OfDestroy x) op v from to w log log' answers answer went within free = destroy_forth x op v from to w log log' answers answer went within

-- ---- what is ahead then
abbrev pub Gets : Processing → Processing → TurnEnd → Type 0
Gets c d end = IsWithin d × ((ahead d < ahead c) ⊎ StaysAt c d end)

module _ (c : Processing) (within : IsWithin c) (runs : c.retired ≡ false) where
  module _ (op : Op) (next : next_of c ≡ Some op) where
    all : sum_by op_size (drop c.answered c.script) ≡ op_size op + sum_by op_size (drop (c.answered + 1) c.script)
    all = sum_next op_size c.script c.answered op next

    within_job : IsWithinJob (job_of op) c.at
    within_job = subst (λ (o : Option Op). IsWithinJob (job_next o) c.at) next within

    -- what is done, as it is measured
    done_is : (at : Progress) → size_done (job_next (next_of c)) at ≡ size_done (job_of op) at
    done_is at = ap (λ (o : Option Op). size_done (job_next o) at) next

    answered_gets : (ahead (record c { answered = c.answered + 1; at = begun }) < ahead c)
    answered_gets = let sum = all in let few = done_most (job_of op) c.at within_job in let is = done_is c.at in omega (arith, sum, few, is)

    paused_gets : (to : Progress) (log : List LogLine) (p : Pause) → GetsOn (job_of op) c.at to → Gets c (after_turn (nothing_left c) to log (ends.Paused p)) (ends.Paused p)
    paused_gets to log p (inside, on) = (
      subst (λ (o : Option Op). IsWithinJob (job_next o) to) (sym next) inside,
      elim on [
        | inl up ↦ inl (let sum = all in let few = done_most (job_of op) to inside in let is = done_is c.at in let there = done_is to in omega (arith, sum, few, is, there, up))
        | inr same ↦
            inr (record {
              pause = p;
              end_is = refl;
              ahead = ap (λ k. to_retire c.retired + (sum_by op_size (drop c.answered c.script) - k)) (size_same (job_next (next_of c)) c.at to same.0 same.1);
              done = same.1;
              call = same.0;
              answered = refl;
              goes_on = runs;
            })
      ],
    )

    after_gets : (to : Progress) (log : List LogLine) (answer : Result ℕ Stop) → WherePaused (GetsOn (job_of op) c.at to) answer → Gets c (after_turn (nothing_left c) to log (end_of to.done answer)) (end_of to.done answer)
    after_gets to log (Ok value) forth = (begun_within (job_next (slice_get c.script (c.answered + 1))), inl answered_gets)
    after_gets to log (Err (Refused r)) forth = (begun_within (job_next (slice_get c.script (c.answered + 1))), inl answered_gets)
    after_gets to log (Err (Paused p)) forth = paused_gets to log p forth

  retires_gets : (left : Option ℕ) (end : TurnEnd) → Gets c (record c { left = left; retired = true }) end
  retires_gets left end =
      (within, inl (subst (λ r. 0 + (sum_by op_size (drop c.answered c.script) - size_done (job_next (next_of c)) c.at) < to_retire r + (sum_by op_size (drop c.answered c.script) - size_done (job_next (next_of c)) c.at)) (sym runs) (omega arith)))

  unsettled_gets : (left : Option ℕ) (p : Pause) → Gets c (record c { left = left }) (ends.Paused p)
  unsettled_gets left p = (within, inr (record { pause = p; end_is = refl; ahead = refl; done = refl; call = refl; answered = refl; goes_on = runs }))

  -- its domain does not live: the next operation is refused, or the vCPU retires
  dies_gets : (life : ℕ) (o : Option Op) → next_of c ≡ o → (v w : PortValue) (d : Processing) (end : TurnEnd) → DiesNext life c o d v w end → Gets c d end
  dies_gets life None next v w d end dies = subst (λ (x : Processing). Gets c x end) (sym dies.2) (retires_gets c.left end)
  dies_gets life (Some op) next v w d end dies =
      let reply = reply_of (done_at (job_of op) c.at) 0 (Some (Dying c.domain life)) in
      subst (λ (x : Processing). Gets c x end) (sym (dies.2 ∙ ap (after_turn c c.at c.log) dies.1))
      (subst (Gets c (after_turn c c.at c.log (ends.Answered reply))) (sym dies.1) (begun_within (job_next (slice_get c.script (c.answered + 1))), inl (answered_gets op next)))

  going_gets : (n : Machine) (o : Option Op) → next_of c ≡ o → (v : PortValue) (d : Processing) (w : PortValue) (answers : List Bool) (end : TurnEnd) → IsSparedIn n o end → DoesTurn c o v d w answers end → Gets c d end
  going_gets n o next v _ _ _ _ free (turning.DoesTurn.unsettled w answers p settles) = unsettled_gets _ p
  going_gets n None next v _ _ _ _ free (turning.DoesTurn.settled u w d early answers end settles retires) = subst (λ (x : Processing). Gets c x end) (sym retires.cpu) (retires_gets None end)
  going_gets n (Some op) next v _ _ _ _ free (turning.DoesTurn.settled u w d early answers end settles on) =
      let forth = job_forth n c.domain (job_of op) (c.answered + 1) u c.at on.to w c.log on.log answers on.answer on.went (within_job op next) (subst (IsSparedBy n (job_of op)) on.end_is free) in
      let gets = after_gets op next on.to on.log on.answer forth in
      subst (λ (x : Processing). Gets c x end) (sym (on.cpu ∙ ap (after_turn (nothing_left c) on.to on.log) on.end_is)) (subst (Gets c (after_turn (nothing_left c) on.to on.log (end_of on.to.done on.answer))) (sym on.end_is) gets)
  going_gets n o next v _ _ _ _ free (turning.DoesTurn.dying life w d end dead dies) = dies_gets life o next v w d end dies

pub turn_gets : (c d : Processing) (end : TurnEnd) (v w : PortValue) (answers : List Bool) → IsWithin c → c.retired ≡ false → IsSparedIn v.post.machine (next_of c) end → IsTurn c d end v w answers → Gets c d end
turn_gets c d end v w answers within runs free turn = going_gets c within runs v.post.machine (next_of c) refl turn.begun d turn.worked answers end free turn.does

-- ---- the operations stay
pub turn_script : (c d : Processing) (end : TurnEnd) (v w : PortValue) (answers : List Bool) → IsTurn c d end v w answers → d.script ≡ c.script
turn_script c d end v w answers turn = scripts.turn_script c (next_of c) turn.begun d turn.worked answers end turn.does
