-- What holds of each piece of the work on a call holds of the work on the calls of a multicall; and how far these come.
use Rattle.std.proofs.Common.{◌≡◌, ℕ, ◌+◌, ◌≤◌, Bool, List, Option, None, Result, Ok, Err, refl, arith}
use Rattle.xp_words.specs.declared.ops.Call.{Call}
use Rattle.xp_words.specs.declared.place.Place.TheVariants.{Clock}
use Rattle.xp_words.specs.declared.reply.LogLine.{LogLine}
use Rattle.xp_words.specs.declared.reply.Stop.{Stop}
use Rattle.xp_words.specs.declared.reply.Stop.TheVariants.{Paused}
use Rattle.xp_board.specs.Told.{PortValue}
use Rattle.xp_board.specs.declared.step.Act.TheVariants.{Load}
use Rattle.xp_board.specs.declared.step.Mark.{Mark}
use Rattle.xp_board.specs.declared.step.StepKind.TheVariants as kinds
use Rattle.step_maker.specs.Moves.{Moves}
use Rattle.vcpu_turn.specs.Calls as calling
use Rattle.vcpu_turn.specs.Calls.{AnsweredCalls, AnswersCall, WentBy, WorksCalls}
use Rattle.vcpu_turn.specs.Cpus.{Job, OfCalls, OfDestroy, OfOne, Task, task_in}
use Rattle.vcpu_turn.specs.Settling.{Settles}
use Rattle.vcpu_turn.specs.Working.{Works}
use Rattle.vcpu_turn.specs.declared.cpu.Progress.{Progress}
use Rattle.turn_measures.specs.Measures.{IsSparingJob}

-- ---- a relation on ports that holds of settlings, of loads of the clock and of the work on each task
pub record Pieces (R : PortValue → PortValue → Type 0) : Type 0 where
  pub self : (v : PortValue) → R v v
  pub trans : (v u w : PortValue) → R v u → R u w → R v w
  pub settles : (v w : PortValue) (answers : List Bool) (answer : Result (Unit {0}) Stop) → Settles None v w answers answer → R v w
  pub clock : (v w : PortValue) (mark : Option Mark) (found : ℕ) → Moves v w Clock Load kinds.Look mark found → R v w
  pub works : (d : ℕ) (o : Option Task) (awaited : Option ℕ) (v : PortValue) (from to : ℕ) (w : PortValue) (answers : List Bool) (answer : Result ℕ Stop) → Works d o awaited v from to w answers answer → R v w

module _ {R : PortValue → PortValue → Type 0} (pieces : Pieces R) where
  call_over : {d : ℕ} {call : Call} {op : ℕ} {v : PortValue} {from : Progress} {log : List LogLine} (to : Progress) (w : PortValue) (log' : List LogLine) (asked : List Bool) (answer : Result (Unit {0}) Stop) →
      AnswersCall d call op v from log to w log' asked answer → R v w
  call_over {v = v} _ _ _ _ _ (calling.AnswersCall.unsettled w early stop s) = pieces.settles v w early (Err stop) s
  call_over {d} {call} {v = v} {from = from} _ _ _ _ _ (calling.AnswersCall.paused to u w log' early asked p s went) =
      pieces.trans v u w (pieces.settles v u early (Ok tt) s) (pieces.works d (task_in call) from.awaited u from.done to.done w asked (Err (Paused p)) went.works)
  call_over {d} {call} {v = v} {from = from} _ _ _ _ _ (calling.AnswersCall.answered to u x w log' early asked answer reply s went replies ends) =
      pieces.trans v u w (pieces.settles v u early (Ok tt) s)
      (pieces.trans u x w (pieces.works d (task_in call) from.awaited u from.done to.done x asked answer went.works) (pieces.clock x w _ _ ends.1))

  pub answered_over : {d : ℕ} {calls : List Call} {op : ℕ} {v : PortValue} {from : Progress} {log : List LogLine} (at : Progress) (w : PortValue) (behind : List LogLine) (answers : List Bool) →
      AnsweredCalls d calls op v from log at w behind answers → R v w
  answered_over {v = v} _ _ _ _ calling.AnsweredCalls.none = pieces.self v
  answered_over {v = v} _ _ _ _ (calling.AnsweredCalls.more at to u w call before behind answers asked did is answers_it) =
      pieces.trans v u w (answered_over at u before answers did) (call_over to w behind asked (Ok tt) answers_it)

  calls_over : {d : ℕ} {calls : List Call} {op : ℕ} {v : PortValue} {from : Progress} {log : List LogLine} (to : Progress) (w : PortValue) (log' : List LogLine) (answers : List Bool) (answer : Result (Unit {0}) Stop) →
      WorksCalls d calls op v from log to w log' answers answer → R v w
  calls_over {v = v} _ _ _ _ _ (calling.WorksCalls.long above) = pieces.self v
  calls_over _ _ _ _ _ (calling.WorksCalls.all_answered at w behind answers few did all) = answered_over at w behind answers did
  calls_over {v = v} _ _ _ _ _ (calling.WorksCalls.stopped at to u w call before behind answers asked stop few did is stops) =
      pieces.trans v u w (answered_over at u before answers did) (call_over to w behind asked (Err stop) stops)

  pub job_over : (d : ℕ) (job : Job) (op : ℕ) (v : PortValue) (from to : Progress) (w : PortValue) (log log' : List LogLine) (answers : List Bool) (answer : Result ℕ Stop) → IsSparingJob job → WentBy d job op v from to w log log' answers answer → R v w
  job_over d (OfOne task) op v from to w log log' answers answer sparing went = pieces.works d task from.awaited v from.done to.done w answers answer went.works
  job_over d (OfCalls calls) op v from to w log log' answers answer sparing went = calls_over to w log' answers went.ended went.works
  job_over d (OfDestroy domain) op v from to w log log' answers answer sparing went = absurd sparing

-- ---- how far they come
module _ {d : ℕ} {call : Call} {op : ℕ} {v : PortValue} {from : Progress} {log : List LogLine} where
  -- an answered call is the one behind which the next one begins; one that is stopped stays in progress
  call_next : {to : Progress} {w : PortValue} {log' : List LogLine} {asked : List Bool} → AnswersCall d call op v from log to w log' asked (Ok tt) → to.call ≡ from.call + 1
  call_next (calling.AnswersCall.answered to u x w log' early asked answer reply s went replies ends) = refl

  call_stays : {to : Progress} {w : PortValue} {log' : List LogLine} {asked : List Bool} {stop : Stop} → AnswersCall d call op v from log to w log' asked (Err stop) → to.call ≡ from.call
  call_stays (calling.AnswersCall.unsettled w early stop s) = refl
  call_stays (calling.AnswersCall.paused to u w log' early asked p s went) = went.calls

module _ {d : ℕ} {calls : List Call} {op : ℕ} {v : PortValue} {from : Progress} {log : List LogLine} where
  answered_forth : {at : Progress} {u : PortValue} {before : List LogLine} {answers : List Bool} → AnsweredCalls d calls op v from log at u before answers → from.call ≤ at.call
  answered_forth calling.AnsweredCalls.none = omega arith
  answered_forth (calling.AnsweredCalls.more at to u w call before behind answers asked did is answers_it) = let on = answered_forth did in let next = call_next answers_it in omega (arith, on, next)

  -- where the call that is stopped is the one from which the turn went on, no call was answered in front of it
  pub stopped_first : {at to : Progress} {u w : PortValue} {call : Call} {before behind : List LogLine} {answers asked : List Bool} {stop : Stop} → AnsweredCalls d calls op v from log at u before answers →
      AnswersCall d call op u at before to w behind asked (Err stop) → to.call ≡ from.call → AnswersCall d call op v from log to w behind asked (Err stop)
  stopped_first calling.AnsweredCalls.none stops same = stops
  stopped_first (calling.AnsweredCalls.more at to u w call before behind answers asked did is answers_it) stops same =
      absurd (let on = answered_forth did in let next = call_next answers_it in let there = call_stays stops in omega (arith, on, next, there, same))
