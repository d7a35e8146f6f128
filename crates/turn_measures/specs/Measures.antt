-- What is ahead of a vCPU, what its old words name and what is left of that, and what a turn leaves of the others.
use Rattle.std.specs.Prelude.{◌≡◌, ◌≢◌, ℕ, ◌+◌, ◌-◌, ◌<◌, ◌≤◌, ◌==◌, if◌then◌else◌, Bool, false, drop, length, slice_get, sum_by, Option, Some, None}
use Rattle.xp_words.specs.Machine.{Machine}
use Rattle.xp_words.specs.Places.{asked_of}
use Rattle.xp_words.specs.declared.ops.Op.{Op}
use Rattle.xp_words.specs.declared.reply.Pause.{Pause}
use Rattle.xp_words.specs.declared.place.Place.TheVariants.{Clock, Life, Vcpu}
use Rattle.step_maker.specs.Plain.{Words}
use Rattle.table_words.specs.OldWords.{old_place}
use Rattle.table_words.specs.declared.old_words.OldWord.TheVariants.{First, Second}
use Rattle.xp_words.specs.declared.ops.Call.{Call}
use Rattle.vcpu_turn.specs.Cpus.{Job, OfCalls, OfDescriptors, OfDestroy, OfOne, Processing, Task, elements_in, job_next, job_of, next_of, task_called, task_in}
pub use Rattle.vcpu_turn.specs.Unhindered.{IsSparingJob}
use Rattle.vcpu_turn.specs.declared.cpu.Progress.{Progress}
use Rattle.vcpu_turn.specs.declared.cpu.TurnEnd.{TurnEnd}
use Rattle.vcpu_turn.specs.declared.cpu.TurnEnd.TheVariants as ends

-- ---- what is ahead
-- an operation or call that is not answered counts as one, and so does each of its elements
abbrev pub call_size : Call → ℕ
call_size call = 1 + elements_in (task_in call)

abbrev pub job_size : Job → ℕ
job_size (OfOne task) = elements_in task
job_size (OfCalls calls) = sum_by call_size calls
job_size (OfDestroy domain) = 0

abbrev pub op_size : Op → ℕ
op_size op = 1 + job_size (job_of op)

-- what of that is done: of a multicall the calls that are answered, and the elements of the one in progress
abbrev pub size_done : Job → Progress → ℕ
size_done (OfOne task) at = at.done
size_done (OfCalls calls) at = sum_by call_size calls - sum_by call_size (drop at.call calls) + at.done
size_done (OfDestroy domain) at = 0

abbrev pub to_retire : Bool → ℕ
to_retire retired = if retired then 0 else 1

-- of those that are not answered, without what is done of the next one; and one for a vCPU that is not retired
abbrev pub ahead : Processing → ℕ
ahead c = to_retire c.retired + (sum_by op_size (drop c.answered c.script) - size_done (job_next (next_of c)) c.at)

-- how many elements of an operation or call may be done that is not answered: an operation on descriptor tables is paused before its only one
abbrev pub most_done : Option Task → ℕ
most_done (Some (OfDescriptors tables)) = 0
most_done o = elements_in o

-- no more elements of the call in progress are done than that, and no more calls answered than there are
abbrev pub IsWithinJob : Job → Progress → Type 0
IsWithinJob (OfOne task) at = at.done ≤ most_done task
IsWithinJob (OfCalls calls) at = (at.call ≤ length calls) × (at.done ≤ most_done (task_called (slice_get calls at.call)))
IsWithinJob (OfDestroy domain) at = at.done ≡ 0

abbrev pub IsWithin : Processing → Type 0
IsWithin c = IsWithinJob (job_next (next_of c)) c.at

-- the operation destroys no domain
abbrev pub DestroysNothing : Option Op → Type 0
DestroysNothing o = IsSparingJob (job_next o)

-- the turn was paused, and no more is done than before
pub record StaysAt (c d : Processing) (end : TurnEnd) : Type 0 where
  pub pause : Pause
  pub end_is : end ≡ ends.Paused pause
  pub ahead : ahead d ≡ ahead c
  pub done : d.at.done ≡ c.at.done
  pub call : d.at.call ≡ c.at.call
  pub answered : d.answered ≡ c.answered
  pub goes_on : d.retired ≡ false

-- ---- what is named in the old words
abbrev pub bit_named : ℕ → ℕ
bit_named w = if w == 0 then 0 else 1

-- how many of the two old words of vCPU s name a frame
abbrev pub olds_named : Words → ℕ → ℕ
olds_named m s = bit_named (m (old_place s First)) + bit_named (m (old_place s Second))

-- more than is left of any table of level 4
abbrev pub most_left : ℕ
most_left = 69527932930

abbrev pub left_rank : Option ℕ → ℕ
left_rank None = most_left
left_rank (Some k) = k

-- what is left is of a frame that the first old word names
abbrev pub KeepsLeft : Words → ℕ → Option ℕ → Type 0
KeepsLeft m s None = Unit {0}
KeepsLeft m s (Some k) = (k < most_left) × (m (old_place s First) ≢ 0)

-- ---- what vCPU s leaves of the others
-- No word of another vCPU changes but the one that asks it for a flush, which does not fall; no domain's life does; and the clock does not go back.
pub record LeavesOthers (n : Machine) (s : ℕ) (m m' : Words) : Type 0 where
  pub words : (t k : ℕ) → t ≢ s → k ≢ 4 → m' (Vcpu t k) ≡ m (Vcpu t k)
  pub asked : (t : ℕ) → t ≢ s → m (asked_of t) ≤ m' (asked_of t)
  pub lives : (d : ℕ) → m' (Life d) ≡ m (Life d)
  pub clock : m Clock ≤ m' Clock
