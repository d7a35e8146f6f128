-- Turns: how one begins, what it does and how it ends.
use Rattle.std.specs.Prelude.{◌≡◌, ◌≢◌, ◌⊎◌, ℕ, ◌+◌, ◌≤◌, Bool, true, false, List, [], ◌++◌, length, Option, Some, None, Result, Ok, Err}
use Rattle.xp_words.specs.Machine.{IsMachine}
use Rattle.xp_words.specs.Places.{run_of}
use Rattle.xp_words.specs.declared.place.Place.TheVariants.{Clock, Life}
use Rattle.xp_words.specs.declared.ops.Op.{Op}
use Rattle.xp_words.specs.declared.reply.Stop.{Stop}
use Rattle.xp_words.specs.declared.reply.Stop.TheVariants.{Paused}
use Rattle.xp_words.specs.declared.reply.Refusal.TheVariants.{Dying}
use Rattle.xp_words.specs.declared.reply.Pause.{Pause}
use Rattle.xp_words.specs.declared.reply.Pause.TheVariants.{Due}
use Rattle.xp_board.specs.declared.step.Act.TheVariants.{Load, Store}
use Rattle.xp_board.specs.declared.step.Mark.TheVariants.{Cut}
use Rattle.xp_board.specs.declared.step.StepKind.TheVariants as kinds
use Rattle.xp_board.specs.Hands.{IsEmptyHand}
use Rattle.xp_board.specs.Readings.{domain_of}
use Rattle.xp_board.specs.Told.{PortValue, own_run}
use Rattle.step_maker.specs.Moves.{Moves}
pub use Rattle.mmuext_ops.specs.Elements.{KnowsAwaited}
use Rattle.level_release.specs.Course.{left_settled}
use Rattle.tlb_walks.specs.Dropping.{Acks}
use Rattle.vcpu_turn.specs.Cpus.{OfMapping, Processing, Task, after_turn, begins_at, by_itself, done_at, end_of, job_next, job_of, next_of, nothing_left, reply_of}
use Rattle.xp_words.specs.declared.reply.LogLine.{LogLine}
use Rattle.vcpu_turn.specs.Extents.{Block, given_lines}
use Rattle.vcpu_turn.specs.Lists.{asks_between, is_due_answer}
use Rattle.vcpu_turn.specs.Settling.{IsWarm, Settles}
use Rattle.vcpu_turn.specs.Calls.{WentBy}
use Rattle.vcpu_turn.specs.Destroying.{KeepsBuried, KnowsDying, KnowsPlace, ListsNoneAhead}
use Rattle.vcpu_turn.specs.declared.cpu.Progress.{Progress}
use Rattle.vcpu_turn.specs.declared.cpu.TurnEnd.{TurnEnd}
use Rattle.vcpu_turn.specs.declared.cpu.TurnEnd.TheVariants as ends

-- ---- the beginning
-- By exactly these steps a turn of a vCPU of domain d begins: an ask for a flush is answered, and the own run word and the life word of the domain are loaded, and found so.
pub record Begins (v w : PortValue) (d run life : ℕ) : Type 0 where
  pub acked : PortValue
  pub looked : PortValue
  pub acks : Acks v acked
  pub running : Moves acked looked (run_of v.post.vcpu) Load kinds.Look None run
  pub lives : Moves looked w (Life d) Load kinds.Look None life

-- ---- the end
-- one step, which stores in the own run word that the vCPU is stopped
abbrev pub IsStop : PortValue → PortValue → Type 0
IsStop v w = (found : ℕ) × Moves v w (run_of v.post.vcpu) (Store 1) kinds.Run None found

-- an answer ends with one load of the clock, with the mark Cut
abbrev pub EndsTurn : TurnEnd → PortValue → PortValue → Type 0
EndsTurn (ends.Answered reply) v w = (found : ℕ) × Moves v w Clock Load kinds.Look (Some (Cut 0)) found
EndsTurn (ends.Paused p) v w = w ≡ v
EndsTurn ends.Retired v w = IsStop v w

-- ---- what it does between
-- The next operation goes on until it answers or pauses. At the script's end the vCPU is retired.
pub record GoesOnWith (c : Processing) (op : Op) (c' : Processing) (v w : PortValue) (answers : List Bool) (end : TurnEnd) : Type 0 where
  pub to : Progress
  pub log : List LogLine
  pub answer : Result ℕ Stop
  pub went : WentBy c.domain (job_of op) (c.answered + 1) v c.at to w c.log log answers answer
  pub end_is : end ≡ end_of to.done answer
  pub cpu : c' ≡ after_turn c to log end

pub record Retires (c c' : Processing) (v w : PortValue) (answers : List Bool) (end : TurnEnd) : Type 0 where
  pub no_step : w ≡ v
  pub no_ask : answers ≡ []
  pub end_is : end ≡ ends.Retired
  pub cpu : c' ≡ record c { retired = true }

abbrev pub DoesNext : Processing → Option Op → Processing → PortValue → PortValue → List Bool → TurnEnd → Type 0
DoesNext c (Some op) c' v w answers end = GoesOnWith c op c' v w answers end
DoesNext c None c' v w answers end = Retires c c' v w answers end

-- The domain was found dying, or dead: the vCPU stops, and its next operation is refused, with what was done of it. At the script's end it is retired.
abbrev pub DiesNext : ℕ → Processing → Option Op → Processing → PortValue → PortValue → TurnEnd → Type 0
DiesNext life c (Some op) c' v w end = IsStop v w × (end ≡ ends.Answered (reply_of (done_at (job_of op) c.at) 0 (Some (Dying c.domain life)))) × (c' ≡ after_turn c c.at c.log end)
DiesNext life c None c' v w end = (w ≡ v) × (end ≡ ends.Retired) × (c' ≡ record c { retired = true })

-- and with the end of the turn
abbrev pub DiesBy : ℕ → Processing → Option Op → Processing → PortValue → PortValue → TurnEnd → Type 0
DiesBy life c o c' v w end = (u : PortValue) × DiesNext life c o c' v u end × EndsTurn end u w

-- What an earlier turn left unfinished is settled first, and the gate asked only where less is left than was left then; where that pauses, so does the turn. Where the domain does not live
-- nothing is settled, and no gate asked.
pub data DoesTurn (c : Processing) (o : Option Op) (v : PortValue) : Processing → PortValue → List Bool → TurnEnd → Type 0 where
  unsettled : (w : PortValue) (answers : List Bool) (p : Pause) (settles : Settles c.left v w answers (Err (Paused p))) → DoesTurn c o v (record c { left = left_settled settles.course }) w answers (ends.Paused p)
  settled : (u w : PortValue) (c' : Processing) (early answers : List Bool) (end : TurnEnd) → Settles c.left v u early (Ok tt) → DoesNext (nothing_left c) o c' u w answers end →
      DoesTurn c o v c' w (answers ++ early) end
  dying : (life : ℕ) (w : PortValue) (c' : Processing) (end : TurnEnd) → life ≢ 0 → DiesNext life c o c' v w end → DoesTurn c o v c' w [] end

-- By the words that it found as it began: it works only where its domain lives, and it runs then.
abbrev pub GoesBy : {c : Processing} {o : Option Op} {v : PortValue} {c' : Processing} {w : PortValue} {answers : List Bool} {end : TurnEnd} → DoesTurn c o v c' w answers end → ℕ → ℕ → Type 0
GoesBy (DoesTurn.unsettled w answers p settles) run life = (run ≡ 0) × (life ≡ 0)
GoesBy (DoesTurn.settled u w c' early answers end settles does) run life = (run ≡ 0) × (life ≡ 0)
GoesBy (DoesTurn.dying found w c' end dead dies) run life = found ≡ life

-- ---- all of it
-- from v to w a vCPU that is not retired made a turn, in which its gate gave these answers
pub record IsTurn (c c' : Processing) (end : TurnEnd) (v w : PortValue) (answers : List Bool) : Type 0 where
  pub begun : PortValue
  pub worked : PortValue
  pub run : ℕ
  pub life : ℕ
  pub begins : Begins v begun c.domain run life
  pub does : DoesTurn c (next_of c) begun c' worked answers end
  pub goes : GoesBy does run life
  pub ends : EndsTurn end worked w

-- how often an operation that ended so asks between its elements: an update by address has one, and its wait is none
abbrev pub asks_for : Option Task → ℕ → ℕ → Result ℕ Stop → ℕ
asks_for (Some (OfMapping foreign va word flags)) from to answer = 0
asks_for task from to answer = asks_between (begins_at task from) to answer

-- In a turn an operation went on from element `from` to element `to`, and ended so; and behind the answers to what was settled first the gate was
-- asked so often: between the elements, and `within` times within them. Or settling was all that the turn did; or the domain was found dying, and nothing asked. `below`: how
-- much was left before.
pub data CountsAsks (below : Option ℕ) (task : Option Task) (from : ℕ) (end : TurnEnd) (answers : List Bool) (within : ℕ) : Type 0 where
  counted : (to : ℕ) (answer : Result ℕ Stop) (u x : PortValue) (early later : List Bool) → Settles below u x early (Ok tt) → end ≡ end_of to answer → answers ≡ later ++ early →
      length later ≡ asks_for task from to answer + within → CountsAsks below task from end answers within
  settling : (u x : PortValue) (p : Pause) → Settles below u x answers (Err (Paused p)) → end ≡ ends.Paused p → within ≡ 0 → CountsAsks below task from end answers within
  refused : (domain life : ℕ) → end ≡ ends.Answered (reply_of from 0 (Some (Dying domain life))) → answers ≡ [] → within ≡ 0 → CountsAsks below task from end answers within

-- the vCPU behind a turn in which the next operation came so far, and was given blocks; or settling was all that it did, and left the vCPU as it was, but for how
-- much is left; or the domain was found dying, and the operation is refused as far as it was
abbrev pub IsLeftAt : Processing → Processing → Progress → TurnEnd → Type 0
IsLeftAt c c' to end = ((gave : List Block) × (c' ≡ after_turn (nothing_left c) to (c.log ++ given_lines (by_itself (c.answered + 1)) gave) end)) ⊎ ((p : Pause) × (end ≡ ends.Paused p) × (to ≡ c.at) × (c' ≡ record c { left = c'.left })) ⊎ ((life : ℕ) × (to ≡ c.at) × (end ≡ ends.Answered (reply_of c.at.done 0 (Some (Dying c.domain life)))) × (c' ≡ after_turn c c.at c.log end))

-- the turn went on with an operation, of which no more than `most` elements are done then
pub record GoesNoFurther (c c' : Processing) (end : TurnEnd) (most : ℕ) : Type 0 where
  pub to : Progress
  pub answer : Result ℕ Stop
  pub end_is : end ≡ end_of to.done answer
  pub cpu : IsLeftAt c c' to end
  pub within : to.done ≤ most

-- a retired vCPU makes no step, and asks nothing
pub record StaysRetired (c c' : Processing) (end : TurnEnd) (v w : PortValue) (answers : List Bool) : Type 0 where
  pub end_is : end ≡ ends.Retired
  pub cpu : c' ≡ c
  pub port : w ≡ v
  pub no_ask : answers ≡ []

abbrev pub TurnBy : Bool → Processing → Processing → TurnEnd → PortValue → PortValue → List Bool → Type 0
TurnBy true c c' end v w answers = StaysRetired c c' end v w answers
TurnBy false c c' end v w answers = IsTurn c c' end v w answers

-- ---- between turns
-- nothing in hand, and no walk under way; translations may stay that were cached since the vCPU came to its processor and flushed
pub record Idles (v : PortValue) : Type 0 where
  pub empty : IsEmptyHand v.holdings
  pub no_walk : v.holdings.walk ≡ None
  pub machine : IsMachine v.post.machine
  pub warm : IsWarm v

-- the vCPU is known to run: it found so, or it opened so
abbrev pub Runs : PortValue → Type 0
Runs v = own_run v ≡ 0

-- The port is that of the vCPU, which idles, and runs unless it is retired, or has found its domain dying. Where its next operation goes on with a wait, the vCPU had found the clock
-- value past which that waits. It knows how far a destruction has come that stands next, and has buried each domain whose destruction it answered.
pub record IsOf (v : PortValue) (c : Processing) : Type 0 where
  pub vcpu : c.vcpu ≡ v.post.vcpu
  pub domain : c.domain ≡ domain_of v.post.machine v.post.vcpu
  pub idles : Idles v
  pub awaits : KnowsAwaited v c.at.awaited
  pub runs : c.retired ≡ false → Runs v ⊎ KnowsDying v c.domain
  pub frames : c.frames ≡ v.post.machine.frames
  pub place : KnowsPlace v (job_next (next_of c)) (c.answered + 1) c.at c.log
  pub ahead : ListsNoneAhead c
  pub buried : KeepsBuried v c

-- the gate may say yes only where the turn is paused for it
abbrev pub is_due : TurnEnd → Bool
is_due (ends.Paused Due) = true
is_due _ = false

-- ---- a vCPU that is stopped between its turns
pub record MakesStop (c c' : Processing) (v w : PortValue) : Type 0 where
  pub stop : IsStop v w
  pub cpu : c' ≡ record c { retired = true }

abbrev pub StopsWhere : Bool → Processing → Processing → PortValue → PortValue → Type 0
StopsWhere true c c' v w = (c' ≡ c) × (w ≡ v)
StopsWhere false c c' v w = MakesStop c c' v w

-- ---- a vCPU whose next operation goes on
pub record OperationWentOn (op : Op) (c c' : Processing) (v w : PortValue) (answers : List Bool) (answer : Result ℕ Stop) : Type 0 where
  pub went : WentBy c.domain (job_of op) (c.answered + 1) v c.at c'.at w c.log c'.log answers answer
  pub cpu : c' ≡ record c { at = c'.at; log = c'.log }

-- the next operation went on, where there is one
abbrev pub NextWentOn : Option Op → Processing → Processing → PortValue → PortValue → List Bool → Option (Result ℕ Stop) → Type 0
NextWentOn (Some op) c c' v w answers (Some answer) = OperationWentOn op c c' v w answers answer
NextWentOn (Some op) c c' v w answers None = ⊥
NextWentOn None c c' v w answers (Some answer) = ⊥
NextWentOn None c c' v w answers None = (c' ≡ c) × (w ≡ v) × (answers ≡ [])

-- ---- with a gate
abbrev pub asks_due : Option (Result ℕ Stop) → Bool
asks_due (Some answer) = is_due_answer answer
asks_due None = false
