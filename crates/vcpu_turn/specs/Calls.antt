-- The calls of a multicall, and the work of one turn on an operation.
use Rattle.std.specs.Prelude.{◌≡◌, ℕ, ◌+◌, ◌<◌, ◌≤◌, Bool, List, [], ◌∷◌, ◌++◌, length, slice_get, Option, Some, None, Result, Ok, Err}
use Rattle.xp_words.specs.declared.ops.Call.{Call}
use Rattle.xp_words.specs.declared.place.Place.TheVariants.{Clock}
use Rattle.xp_words.specs.declared.reply.LogLine.{LogLine}
use Rattle.xp_words.specs.declared.reply.LogLine.TheVariants as lines
use Rattle.xp_words.specs.declared.reply.Pause.{Pause}
use Rattle.xp_words.specs.declared.reply.Refusal.TheVariants as refusals
use Rattle.xp_words.specs.declared.reply.Reply.{Reply}
use Rattle.xp_words.specs.declared.reply.Stop.{Stop}
use Rattle.xp_words.specs.declared.reply.Stop.TheVariants.{Refused, Paused}
use Rattle.xp_board.specs.declared.step.Act.TheVariants.{Load}
use Rattle.xp_board.specs.declared.step.Mark.TheVariants.{Cut}
use Rattle.xp_board.specs.declared.step.StepKind.TheVariants as kinds
use Rattle.xp_board.specs.Told.{PortValue}
use Rattle.step_maker.specs.Moves.{Moves}
use Rattle.vcpu_turn.specs.Cpus.{Job, OfCalls, OfDestroy, OfOne, begun_at, by_itself, call_behind, reply_of, task_in}
use Rattle.vcpu_turn.specs.Destroying.{WentOnDestroying}
use Rattle.vcpu_turn.specs.Lists.{Tried}
use Rattle.vcpu_turn.specs.Settling.{Settles}
use Rattle.vcpu_turn.specs.Working.{Valued, WentOn, tried_of}
use Rattle.vcpu_turn.specs.declared.cpu.Progress.{Progress}

-- the reply of a call that ended so, with so many elements done; one that is paused has none
abbrev pub replied : ℕ → Result ℕ Stop → Option Reply
replied done (Ok value) = Some (reply_of done value None)
replied done (Err (Refused r)) = Some (reply_of done 0 (Some r))
replied done (Err (Paused p)) = None

-- behind a call's steps: one load of the clock, with the mark Cut of its number
abbrev pub EndsCall : ℕ → PortValue → PortValue → Type 0
EndsCall number v w = (clock : ℕ) × Moves v w Clock Load kinds.Look (Some (Cut number)) clock

-- From v the call that stands next in operation `op` of domain d was answered, whether done or refused, or is paused. What is unfinished in front of it was settled, and
-- where that is paused so is the call; it went on from where it was; its reply is logged behind what it logged itself; and its answer ends, with the mark Cut of its number.
pub data AnswersCall (d : ℕ) (call : Call) (op : ℕ) (v : PortValue) (from : Progress) (log : List LogLine) : Progress → PortValue → List LogLine → List Bool → Result (Unit {0}) Stop → Type 0 where
  unsettled : (w : PortValue) (early : List Bool) (stop : Stop) → Settles None v w early (Err stop) → AnswersCall d call op v from log from w log early (Err stop)
  paused : (to : Progress) (u w : PortValue) (log' : List LogLine) (early asked : List Bool) (p : Pause) → Settles None v u early (Ok tt) →
      WentOn d (task_in call) (call_behind op from.call) u from to w log log' asked (Err (Paused p)) → AnswersCall d call op v from log to w log' (asked ++ early) (Err (Paused p))
  answered : (to : Progress) (u x w : PortValue) (log' : List LogLine) (early asked : List Bool) (answer : Result ℕ Stop) (reply : Reply) → Settles None v u early (Ok tt) →
      WentOn d (task_in call) (call_behind op from.call) u from to x log log' asked answer → replied to.done answer ≡ Some reply → EndsCall (from.call + 1) x w →
      AnswersCall d call op v from log (begun_at (from.call + 1)) w (log' ++ lines.Answer op (from.call + 1) reply ∷ []) (asked ++ early) (Ok tt)

-- So calls were answered in this turn, one behind the other. No gate is asked between two of them.
pub data AnsweredCalls (d : ℕ) (calls : List Call) (op : ℕ) (v : PortValue) (from : Progress) (log : List LogLine) : Progress → PortValue → List LogLine → List Bool → Type 0 where
  none : AnsweredCalls d calls op v from log from v log []
  more : (at to : Progress) (u w : PortValue) (call : Call) (before behind : List LogLine) (answers asked : List Bool) → AnsweredCalls d calls op v from log at u before answers → slice_get calls at.call ≡ Some call →
      AnswersCall d call op u at before to w behind asked (Ok tt) → AnsweredCalls d calls op v from log to w behind (asked ++ answers)

-- A multicall of more than 64 calls is refused. Else all calls are answered then, and so many are its elements that are done; or the next one is paused.
pub data WorksCalls (d : ℕ) (calls : List Call) (op : ℕ) (v : PortValue) (from : Progress) (log : List LogLine) : Progress → PortValue → List LogLine → List Bool → Result (Unit {0}) Stop → Type 0 where
  long : 64 < length calls → WorksCalls d calls op v from log (record from { done = 0; awaited = None }) v log [] (Err (Refused refusals.BatchLong))
  all_answered : (at : Progress) (w : PortValue) (behind : List LogLine) (answers : List Bool) → length calls ≤ 64 → AnsweredCalls d calls op v from log at w behind answers → length calls ≤ at.call →
      WorksCalls d calls op v from log (record at { done = at.call }) w behind answers (Ok tt)
  stopped : (at to : Progress) (u w : PortValue) (call : Call) (before behind : List LogLine) (answers asked : List Bool) (stop : Stop) → length calls ≤ 64 → AnsweredCalls d calls op v from log at u before answers →
      slice_get calls at.call ≡ Some call → AnswersCall d call op u at before to w behind asked (Err stop) → WorksCalls d calls op v from log to w behind (asked ++ answers) (Err stop)

-- ---- the operation
-- From v to w the operation of that number went on, from one progress to another, and the log got what it logs before its own answer.
abbrev pub WentBy : ℕ → Job → ℕ → PortValue → Progress → Progress → PortValue → List LogLine → List LogLine → List Bool → Result ℕ Stop → Type 0
WentBy d (OfOne task) op v from to w log log' answers answer = WentOn d task (by_itself op) v from to w log log' answers answer
WentBy d (OfCalls calls) op v from to w log log' answers answer = Valued (λ ended. WorksCalls d calls op v from log to w log' answers ended) answer
WentBy d (OfDestroy x) op v from to w log log' answers answer = WentOnDestroying x op v from to w log log' answers answer

-- ---- the elements that a turn tried
abbrev pub tried_call : {d : ℕ} {call : Call} {op : ℕ} {v : PortValue} {from : Progress} {log : List LogLine} {to : Progress} {w : PortValue} {log' : List LogLine} {asked : List Bool} {answer : Result (Unit {0}) Stop} →
    AnswersCall d call op v from log to w log' asked answer → List Tried
tried_call (AnswersCall.unsettled w early stop settles) = []
tried_call {d} {call} {from = from} (AnswersCall.paused to u w log' early asked p settles went) = tried_of d (task_in call) from.awaited u from.done to.done w asked (Err (Paused p)) went.works
tried_call {d} {call} {from = from} (AnswersCall.answered to u x w log' early asked answer reply settles went replies ends) = tried_of d (task_in call) from.awaited u from.done to.done x asked answer went.works

abbrev pub tried_answered : {d : ℕ} {calls : List Call} {op : ℕ} {v : PortValue} {from : Progress} {log : List LogLine} {at : Progress} {w : PortValue} {behind : List LogLine} {answers : List Bool} →
    AnsweredCalls d calls op v from log at w behind answers → List Tried
tried_answered AnsweredCalls.none = []
tried_answered (AnsweredCalls.more at to u w call before behind answers asked did is next) = tried_call next ++ tried_answered did

abbrev pub tried_calls : {d : ℕ} {calls : List Call} {op : ℕ} {v : PortValue} {from : Progress} {log : List LogLine} {to : Progress} {w : PortValue} {log' : List LogLine} {answers : List Bool} {answer : Result (Unit {0}) Stop} →
    WorksCalls d calls op v from log to w log' answers answer → List Tried
tried_calls (WorksCalls.long above) = []
tried_calls (WorksCalls.all_answered at w behind answers few did all) = tried_answered did
tried_calls (WorksCalls.stopped at to u w call before behind answers asked stop few did is stops) = tried_call stops ++ tried_answered did

abbrev pub tried_by : (d : ℕ) (job : Job) (op : ℕ) (v : PortValue) (from to : Progress) (w : PortValue) (log log' : List LogLine) (answers : List Bool) (answer : Result ℕ Stop) → WentBy d job op v from to w log log' answers answer → List Tried
tried_by d (OfOne task) op v from to w log log' answers answer went = tried_of d task from.awaited v from.done to.done w answers answer went.works
tried_by d (OfCalls calls) op v from to w log log' answers answer went = tried_calls went.works
tried_by d (OfDestroy x) op v from to w log log' answers answer went = []
