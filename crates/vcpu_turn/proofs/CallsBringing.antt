-- What the work of a turn on an operation brings: of one task, what that brings; of a multicall, by its calls, each of which is settled for first.
use Rattle.std.proofs.Common.{◌≡◌, ℕ, Bool, false, List, [], ◌∷◌, ◌++◌, All, slice_get, Option, Some, Result, Ok, Err, refl, subst, ap, inl, inr, ◌⊎◌}
use Rattle.std.proofs.lemmas.List.Elements.{All-append, All-cons, All-head, All-nil, All-tail, All-weaker}
use Rattle.std.proofs.lemmas.Option.{get_or_from_slice_get, slice_get_within}
use Rattle.xp_words.specs.declared.ops.Call.{Call}
use Rattle.xp_words.specs.declared.ops.Op.{Op}
use Rattle.xp_words.specs.declared.ops.Op.TheVariants as ops
use Rattle.xp_words.specs.declared.reply.LogLine.{LogLine}
use Rattle.xp_words.specs.declared.reply.Reply.{Reply}
use Rattle.xp_words.specs.declared.reply.Stop.{Stop}
use Rattle.xp_words.specs.declared.reply.Stop.TheVariants.{Refused, Paused}
use Rattle.xp_board.specs.Told.{PortValue}
use Rattle.xp_preempt.specs.Gates.{yeses}
use Rattle.step_maker.specs.Moves.{Came}
use Rattle.step_maker.proofs.Coming.{came_self, came_trans, moves_came}
use Rattle.level_release.specs.Asking.{is_due_stop}
use Rattle.level_release.proofs.Noes.{settled_no}
use Rattle.vcpu_turn.specs.declared.cpu.CallNumber.{CallNumber}
use Rattle.vcpu_turn.specs.declared.cpu.Progress.{Progress}
use Rattle.vcpu_turn.specs.Calls as calling
use Rattle.vcpu_turn.specs.Calls.{AnsweredCalls, AnswersCall, WentBy, WorksCalls, replied, tried_answered, tried_by, tried_call, tried_calls}
use Rattle.vcpu_turn.specs.Cpus.{Job, OfCalls, OfDestroy, OfOne, Task, begins_at, by_itself, job_of, task_in, task_of}
use Rattle.vcpu_turn.specs.Extents.{Block, given_lines}
use Rattle.vcpu_turn.specs.Lists.{Tried, is_due_answer}
use Rattle.vcpu_turn.specs.Turning.{asks_for}
use Rattle.vcpu_turn.specs.Working.{ElementFits, PassesYes, ReleasesNothing, WentOn, gave_of, tried_of}
use Rattle.vcpu_turn.specs.Asking.{HearsNo, HearsNoWithin, NoUntilDue, OfJob, OfTask, ReleasesNothingBy}
use Rattle.vcpu_turn.specs.Unhindered.{IsSparingJob}
use Rattle.vcpu_turn.proofs.Bringing.{Brings, brings, releases_none, valued_hears}
use Rattle.vcpu_turn.proofs.Destroyed.{destroyed_came, destroyed_hears}
use Rattle.vcpu_turn.proofs.Hearing.{settles_hears}
use Rattle.vcpu_turn.proofs.Hindering.{AloneStays, IsSpared, NeitherLostNorBusy, NobodyWaitedFor, Spared, settles_came, settles_spared, spared_back, spared_on, valued_spared}
use Rattle.vcpu_turn.proofs.Noes.{noes_all, noes_no, noes_none, noes_then}

-- ---- one task
pub went_brings : {d : ℕ} {task : Option Task} {number : CallNumber} {v : PortValue} {from to : Progress} {w : PortValue} {log log' : List LogLine} {answers : List Bool} {answer : Result ℕ Stop} → (went : WentOn d task number v from to w log log' answers answer) →
    Brings (OfTask (λ l. ElementFits d l from.done from.awaited) task) (OfTask PassesYes task) v (begins_at task from.done) to.done w answers answer (asks_for task from.done to.done answer) (tried_of d task from.awaited v from.done to.done w answers answer went.works)
went_brings {d} {task} {v = v} {from = from} {to = to} {w = w} {answers = answers} {answer = answer} went = brings d task from.awaited v from.done to.done w answers answer went.works

-- an operation of a task that is built is no multicall
pub one_of : (op : Op) (task : Task) → task_of op ≡ Some task → job_of op ≡ OfOne (Some task)
one_of (ops.Multi calls) task is = absurd (cc)
one_of (ops.Destroy x) task is = absurd (cc)
one_of op task is = ap (λ (o : Option Task). OfOne o) is

pub one_same : (o task : Option Task) → OfOne o ≡ OfOne task → o ≡ task
one_same o task is = cc

-- ---- a call, behind what was settled for it
-- what is answered is not paused for the gate
pub undue : (done : ℕ) (answer : Result ℕ Stop) (reply : Reply) → replied done answer ≡ Some reply → is_due_answer answer ≡ false
undue done (Ok value) reply is = refl
undue done (Err (Refused r)) reply is = refl
undue done (Err (Paused p)) reply is = absurd (cc)

call_came : {d : ℕ} {call : Call} {op : ℕ} {v : PortValue} {from : Progress} {log : List LogLine} {to : Progress} {w : PortValue} {log' : List LogLine} {asked : List Bool} {ended : Result (Unit {0}) Stop} → AnswersCall d call op v from log to w log' asked ended → Came v w
call_came {v = v} (calling.AnswersCall.unsettled w early stop settles) = settles_came v w early (Err stop) settles
call_came {v = v} (calling.AnswersCall.paused to u w log' early asked p settles went) = came_trans v u w (settles_came v u early (Ok tt) settles) (went_brings went).came
call_came {v = v} (calling.AnswersCall.answered to u x w log' early asked answer reply settles went replies ends) =
    came_trans v x w (came_trans v u x (settles_came v u early (Ok tt) settles) (went_brings went).came) (moves_came x w _ _ _ _ _ ends.1)

call_hears : {d : ℕ} {call : Call} {op : ℕ} {v : PortValue} {from : Progress} {log : List LogLine} {to : Progress} {w : PortValue} {log' : List LogLine} {asked : List Bool} {ended : Result (Unit {0}) Stop} → (a : AnswersCall d call op v from log to w log' asked ended) →
    HearsNoWithin (tried_call a) → NoUntilDue asked (is_due_answer ended)
call_hears {v = v} (calling.AnswersCall.unsettled w early stop settles) hears = settles_hears v w early (Err stop) settles
call_hears {v = v} (calling.AnswersCall.paused to u w log' early asked p settles went) hears =
    noes_then early asked (is_due_stop (Paused p)) (settled_no v u early (Ok tt) refl settles.course) ((went_brings went).hears hears)
call_hears {v = v} (calling.AnswersCall.answered to u x w log' early asked answer reply settles went replies ends) hears =
    noes_then early asked false (settled_no v u early (Ok tt) refl settles.course) (subst (λ (b : Bool). NoUntilDue asked b) (undue to.done answer reply replies) ((went_brings went).hears hears))

call_passes : {d : ℕ} {call : Call} {op : ℕ} {v : PortValue} {from : Progress} {log : List LogLine} {to : Progress} {w : PortValue} {log' : List LogLine} {asked : List Bool} {ended : Result (Unit {0}) Stop} → (a : AnswersCall d call op v from log to w log' asked ended) →
    All (λ (t : Tried). HearsNo t ⊎ OfTask PassesYes (task_in call) t) (tried_call a)
call_passes {call = call} (calling.AnswersCall.unsettled w early stop settles) = All-nil (λ (t : Tried). HearsNo t ⊎ OfTask PassesYes (task_in call) t)
call_passes (calling.AnswersCall.paused to u w log' early asked p settles went) = (went_brings went).passes
call_passes (calling.AnswersCall.answered to u x w log' early asked answer reply settles went replies ends) = (went_brings went).passes

-- ---- calls
pub all_both : {A : Type 0} (P : A → Type 0) (xs ys : List A) → All P (xs ++ ys) → All P xs × All P ys
all_both P [] ys all = (All-nil P, all)
all_both P (x ∷ xs) ys all =
    let rest = all_both P xs ys (All-tail P x (xs ++ ys) all) in
    (All-cons P x xs (All-head P x (xs ++ ys) all) rest.0, rest.1)

answered_came : {d : ℕ} {calls : List Call} {op : ℕ} {v : PortValue} {from : Progress} {log : List LogLine} {at : Progress} {w : PortValue} {behind : List LogLine} {answers : List Bool} → AnsweredCalls d calls op v from log at w behind answers → Came v w
answered_came {v = v} calling.AnsweredCalls.none = came_self v
answered_came {v = v} (calling.AnsweredCalls.more at to u w call before behind answers asked did is next) = came_trans v u w (answered_came did) (call_came next)

-- the gate said no
answered_hears : {d : ℕ} {calls : List Call} {op : ℕ} {v : PortValue} {from : Progress} {log : List LogLine} {at : Progress} {w : PortValue} {behind : List LogLine} {answers : List Bool} → (did : AnsweredCalls d calls op v from log at w behind answers) →
    HearsNoWithin (tried_answered did) → yeses answers ≡ 0
unfolding yeses
answered_hears calling.AnsweredCalls.none hears = refl
answered_hears (calling.AnsweredCalls.more at to u w call before behind answers asked did is next) hears =
    let parts = all_both HearsNo (tried_call next) (tried_answered did) hears in
    noes_no (asked ++ answers) (noes_then answers asked false (answered_hears did parts.1) (call_hears next parts.0))

-- an element of a call that stands among them is one of the multicall
one_passes : (calls : List Call) (k : ℕ) (call : Call) → slice_get calls k ≡ Some call → (items : List Tried) → All (λ (t : Tried). HearsNo t ⊎ OfTask PassesYes (task_in call) t) items → All (λ (t : Tried). HearsNo t ⊎ OfJob PassesYes (OfCalls calls) t) items
one_passes calls k call is items all =
    All-weaker (λ (t : Tried). HearsNo t ⊎ OfTask PassesYes (task_in call) t) (λ (t : Tried). HearsNo t ⊎ OfJob PassesYes (OfCalls calls) t) one items all
  where
    one : (t : Tried) → HearsNo t ⊎ OfTask PassesYes (task_in call) t → HearsNo t ⊎ OfJob PassesYes (OfCalls calls) t
    one t (inl hears) = inl hears
    one t (inr passes) = inr (k, call, slice_get_within calls k call is, get_or_from_slice_get calls k call call is, passes)

answered_passes : {d : ℕ} {calls : List Call} {op : ℕ} {v : PortValue} {from : Progress} {log : List LogLine} {at : Progress} {w : PortValue} {behind : List LogLine} {answers : List Bool} → (did : AnsweredCalls d calls op v from log at w behind answers) →
    All (λ (t : Tried). HearsNo t ⊎ OfJob PassesYes (OfCalls calls) t) (tried_answered did)
answered_passes {calls = calls} calling.AnsweredCalls.none = All-nil (λ (t : Tried). HearsNo t ⊎ OfJob PassesYes (OfCalls calls) t)
answered_passes {calls = calls} (calling.AnsweredCalls.more at to u w call before behind answers asked did is next) =
    All-append (λ (t : Tried). HearsNo t ⊎ OfJob PassesYes (OfCalls calls) t) (tried_call next) (tried_answered did) (one_passes calls at.call call is (tried_call next) (call_passes next)) (answered_passes did)

-- ---- a multicall
calls_came : {d : ℕ} {calls : List Call} {op : ℕ} {v : PortValue} {from : Progress} {log : List LogLine} {to : Progress} {w : PortValue} {log' : List LogLine} {answers : List Bool} {ended : Result (Unit {0}) Stop} → WorksCalls d calls op v from log to w log' answers ended →
    Came v w
calls_came {v = v} (calling.WorksCalls.long above) = came_self v
calls_came (calling.WorksCalls.all_answered at w behind answers few did all) = answered_came did
calls_came {v = v} (calling.WorksCalls.stopped at to u w call before behind answers asked stop few did is stops) = came_trans v u w (answered_came did) (call_came stops)

calls_hear : {d : ℕ} {calls : List Call} {op : ℕ} {v : PortValue} {from : Progress} {log : List LogLine} {to : Progress} {w : PortValue} {log' : List LogLine} {answers : List Bool} {ended : Result (Unit {0}) Stop} →
    (works : WorksCalls d calls op v from log to w log' answers ended) → HearsNoWithin (tried_calls works) → NoUntilDue answers (is_due_answer ended)
calls_hear (calling.WorksCalls.long above) hears = noes_none false
calls_hear (calling.WorksCalls.all_answered at w behind answers few did all) hears = noes_all answers false (answered_hears did hears)
calls_hear (calling.WorksCalls.stopped at to u w call before behind answers asked stop few did is stops) hears =
    let parts = all_both HearsNo (tried_call stops) (tried_answered did) hears in
    noes_then answers asked (is_due_stop stop) (answered_hears did parts.1) (call_hears stops parts.0)

calls_pass : {d : ℕ} {calls : List Call} {op : ℕ} {v : PortValue} {from : Progress} {log : List LogLine} {to : Progress} {w : PortValue} {log' : List LogLine} {answers : List Bool} {ended : Result (Unit {0}) Stop} →
    (works : WorksCalls d calls op v from log to w log' answers ended) → All (λ (t : Tried). HearsNo t ⊎ OfJob PassesYes (OfCalls calls) t) (tried_calls works)
calls_pass {calls = calls} (calling.WorksCalls.long above) = All-nil (λ (t : Tried). HearsNo t ⊎ OfJob PassesYes (OfCalls calls) t)
calls_pass (calling.WorksCalls.all_answered at w behind answers few did all) = answered_passes did
calls_pass {calls = calls} (calling.WorksCalls.stopped at to u w call before behind answers asked stop few did is stops) =
    All-append (λ (t : Tried). HearsNo t ⊎ OfJob PassesYes (OfCalls calls) t) (tried_call stops) (tried_answered did) (one_passes calls at.call call is (tried_call stops) (call_passes stops)) (answered_passes did)

module _ (stays : AloneStays) (neither : NeitherLostNorBusy) (nobody : NobodyWaitedFor) where
  call_spares : {d : ℕ} {call : Call} {op : ℕ} {v : PortValue} {from : Progress} {log : List LogLine} {to : Progress} {w : PortValue} {log' : List LogLine} {asked : List Bool} {ended : Result (Unit {0}) Stop} → IsSpared v → AnswersCall d call op v from log to w log' asked ended →
      Spared v ended
  call_spares {v = v} s (calling.AnswersCall.unsettled w early stop settles) = settles_spared stays neither nobody v w early (Err stop) s settles
  call_spares {v = v} s (calling.AnswersCall.paused to u w log' early asked p settles went) =
      let came = settles_came v u early (Ok tt) settles in
      spared_back stays neither nobody v u (Err (Paused p)) came ((went_brings went).spared stays neither nobody (spared_on stays neither nobody v u came s))
  call_spares s (calling.AnswersCall.answered to u x w log' early asked answer reply settles went replies ends) = tt

  calls_spare : {d : ℕ} {calls : List Call} {op : ℕ} {v : PortValue} {from : Progress} {log : List LogLine} {to : Progress} {w : PortValue} {log' : List LogLine} {answers : List Bool} {ended : Result (Unit {0}) Stop} → IsSpared v →
      WorksCalls d calls op v from log to w log' answers ended → Spared v ended
  calls_spare s (calling.WorksCalls.long above) = tt
  calls_spare s (calling.WorksCalls.all_answered at w behind answers few did all) = tt
  calls_spare {v = v} s (calling.WorksCalls.stopped at to u w call before behind answers asked stop few did is stops) =
      let came = answered_came did in
      spared_back stays neither nobody v u (Err stop) came (call_spares (spared_on stays neither nobody v u came s) stops)

-- ---- an operation
module _ (d op : ℕ) (v : PortValue) (from to : Progress) (w : PortValue) (log log' : List LogLine) (answers : List Bool) (answer : Result ℕ Stop) where
  pub by_came : (job : Job) → WentBy d job op v from to w log log' answers answer → Came v w
  by_came (OfOne task) went = (went_brings went).came
  by_came (OfDestroy x) went = destroyed_came went
  by_came (OfCalls calls) went = calls_came went.works

  pub by_spared : AloneStays → NeitherLostNorBusy → NobodyWaitedFor → (job : Job) → IsSparingJob job → IsSpared v → WentBy d job op v from to w log log' answers answer → Spared v answer
  by_spared stays neither nobody (OfDestroy x) none s went = absurd none
  by_spared stays neither nobody (OfOne task) none s went = (went_brings went).spared stays neither nobody s
  by_spared stays neither nobody (OfCalls calls) none s went = valued_spared v went.ended answer went.answer_is (calls_spare stays neither nobody s went.works)

  pub by_hears : (job : Job) → (went : WentBy d job op v from to w log log' answers answer) → HearsNoWithin (tried_by d job op v from to w log log' answers answer went) → NoUntilDue answers (is_due_answer answer)
  by_hears (OfOne task) went hears = (went_brings went).hears hears
  by_hears (OfDestroy x) went hears = destroyed_hears went
  by_hears (OfCalls calls) went hears = valued_hears answers went.ended answer went.answer_is (calls_hear went.works hears)

  pub by_passes : (job : Job) → (went : WentBy d job op v from to w log log' answers answer) → All (λ (t : Tried). HearsNo t ⊎ OfJob PassesYes job t) (tried_by d job op v from to w log log' answers answer went)
  by_passes (OfOne task) went = (went_brings went).passes
  by_passes (OfDestroy x) went = All-nil (λ (t : Tried). HearsNo t ⊎ OfJob PassesYes (OfDestroy x) t)
  by_passes (OfCalls calls) went = calls_pass went.works

  -- one list
  pub by_one : (job : Job) (task : Option Task) → job ≡ OfOne task → (went : WentBy d job op v from to w log log' answers answer) →
      Brings (OfTask (λ l. ElementFits d l from.done from.awaited) task) (OfTask PassesYes task) v (begins_at task from.done) to.done w answers answer (asks_for task from.done to.done answer) (tried_by d job op v from to w log log' answers answer went)
  by_one (OfOne o) task is went =
      subst (λ (l : Option Task). Brings (OfTask (λ x. ElementFits d x from.done from.awaited) l) (OfTask PassesYes l) v (begins_at l from.done) to.done w answers answer (asks_for l from.done to.done answer) (tried_by d (OfOne o) op v from to w log log' answers answer went))
      (one_same o task is) (went_brings went)
  by_one (OfDestroy x) task is went = absurd (cc)
  by_one (OfCalls calls) task is went = absurd (cc)

  -- which is given blocks, and logs no more
  pub one_gave : (job : Job) (task : Option Task) → job ≡ OfOne task → WentBy d job op v from to w log log' answers answer → (gave : List Block) × (log' ≡ log ++ given_lines (by_itself op) gave)
  one_gave (OfOne o) task is went = (gave_of d o from.awaited v from.done to.done w answers answer went.works, went.lines)
  one_gave (OfDestroy x) task is went = absurd (cc)
  one_gave (OfCalls calls) task is went = absurd (cc)

-- ---- operations that release nothing
pub job_releases_none : (job : Job) → ReleasesNothingBy job → (t : Tried) → OfJob PassesYes job t → ⊥
job_releases_none (OfOne task) off t passes = releases_none task off t passes
job_releases_none (OfDestroy x) off t passes = absurd passes
job_releases_none (OfCalls calls) off t passes = releases_none (task_in passes.1) (subst (λ (call : Call). ReleasesNothing (task_in call)) passes.3 (off passes.0 passes.1 passes.2)) t passes.4
