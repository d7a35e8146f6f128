-- The vCPUs between their turns: their operations, and what they answered.
use Rattle.std.specs.Prelude.{◌≡◌, ℕ, zero, suc, ◌+◌, ◌-◌, ◌≤◌, min, nat_lt, if◌then◌else◌, Bool, true, false, List, [], ◌∷◌, ◌++◌, drop, length, slice_get, sum_by, Option, Some, None, Result, Ok, Err}
use Rattle.xp_words.specs.declared.ops.ExtOp.{ExtOp}
use Rattle.xp_words.specs.declared.ops.Pair.{Pair}
use Rattle.xp_words.specs.declared.ops.Call.{Call}
use Rattle.xp_words.specs.declared.ops.Call.TheVariants as calls
use Rattle.xp_words.specs.declared.ops.Op.{Op}
use Rattle.xp_words.specs.declared.ops.Op.TheVariants as ops
use Rattle.xp_words.specs.declared.reply.Reply.{Reply}
use Rattle.xp_words.specs.declared.reply.Pause.{Pause}
use Rattle.xp_words.specs.declared.reply.Refusal.{Refusal}
use Rattle.xp_words.specs.declared.reply.Stop.{Stop}
use Rattle.xp_words.specs.declared.reply.Stop.TheVariants.{Refused, Paused}
use Rattle.xp_words.specs.declared.reply.LogLine.{LogLine}
use Rattle.xp_words.specs.declared.reply.LogLine.TheVariants as lines
use Rattle.mmuext_ops.specs.Elements.{awaited_by, every_vcpu, ext_element}
use Rattle.mmuext_ops.specs.declared.element.Element.TheVariants.{FlushVcpus}
use Rattle.domain_destroy.specs.Coming.{seen_to}
use Rattle.domain_destroy.specs.declared.place.DestroyAt.TheVariants.{Begins}
use Rattle.vcpu_turn.specs.Descriptors.{DescriptorTask, SetDescriptor, SetGdt, TouchLdt}
use Rattle.vcpu_turn.specs.Extents.{begins_in, extents_in, gives_blocks, mem_refusal}
use Rattle.vcpu_turn.specs.declared.descriptors.Descriptors.{Descriptors}
use Rattle.vcpu_turn.specs.declared.descriptors.Descriptors.TheVariants as tables
use Rattle.vcpu_turn.specs.declared.tasks.Piece.{Piece}
use Rattle.vcpu_turn.specs.declared.tasks.Piece.TheVariants as pieces
use Rattle.vcpu_turn.specs.declared.tasks.Viewed.{Viewed}
use Rattle.vcpu_turn.specs.declared.tasks.Viewed.TheVariants as viewing
use Rattle.vcpu_turn.specs.declared.cpu.CallNumber.{CallNumber}
use Rattle.vcpu_turn.specs.declared.cpu.Progress.{Progress}
use Rattle.vcpu_turn.specs.declared.cpu.TurnEnd.{TurnEnd}
use Rattle.vcpu_turn.specs.declared.cpu.TurnEnd.TheVariants as ends

-- A vCPU: its number and domain, its operations, what it logged, how many operations are answered, how far the next one is done, how much
-- was left where the gate paused what its last turn settled first, how many frames the machine has, and whether the vCPU makes no turn any more.
pub record Processing : Type 0 where
  pub vcpu : ℕ
  pub domain : ℕ
  pub script : List Op
  pub log : List LogLine
  pub answered : ℕ
  pub at : Progress
  pub left : Option ℕ
  pub frames : ℕ
  pub retired : Bool

-- of a multicall of which so many calls are answered
abbrev pub begun_at : ℕ → Progress
begun_at answered = record { call = answered; done = 0; within = 0; awaited = None; place = Begins }

-- of an operation that begins
abbrev pub begun : Progress
begun = begun_at 0

-- the number of an operation, which is no call of one
abbrev pub by_itself : ℕ → CallNumber
by_itself op = record { op = op; call = 0 }

-- of the call behind so many others
abbrev pub call_behind : ℕ → ℕ → CallNumber
call_behind op answered = record { op = op; call = answered + 1 }

-- before its first turn
abbrev pub fresh : ℕ → ℕ → ℕ → List Op → Processing
fresh frames vcpu domain script = record { vcpu = vcpu; domain = domain; script = script; log = []; answered = 0; at = begun; left = None; frames = frames; retired = false }

-- where nothing is left to be settled
abbrev pub nothing_left : Processing → Processing
nothing_left c = record c { left = None }

-- the operation that stands next
abbrev pub next_of : Processing → Option Op
next_of c = slice_get c.script c.answered

-- ---- operations that are built: lists of `mmu_update`, with the number that names whose tables and frames they are about, of `mmuext_op`, and of
-- `memory_op`, with its command and order; updates by address, with the number that names whose frame is mapped, the word, and the flags; those on descriptor tables; and
-- reads and writes of the guest
pub data Task : Type 0 where
  OfPairs : ℕ → List Pair → Task
  OfExt : List ExtOp → Task
  OfMem : ℕ → ℕ → List ℕ → Task
  OfMapping : (foreign va word flags : ℕ) → Task
  OfDescriptors : DescriptorTask → Task
  OfRead : Bool → ℕ → Task
  OfWrite : Bool → ℕ → ℕ → Task

-- the number that stands for the own domain (`DOMID_SELF` of xen.h)
abbrev pub own_frames : ℕ
own_frames = 32752

abbrev pub task_in : Call → Option Task
task_in (calls.Mmu foreign pairs) = Some (OfPairs foreign pairs)
task_in (calls.Ext list) = Some (OfExt list)
task_in (calls.Mem command order items) = Some (OfMem command order items)
task_in (calls.Va va word flags) = Some (OfMapping own_frames va word flags)
task_in (calls.VaOther va word flags domain) = Some (OfMapping domain va word flags)
task_in (calls.Gdt entries frames) = Some (OfDescriptors (SetGdt entries frames))
task_in (calls.Desc address word) = Some (OfDescriptors (SetDescriptor address word))

abbrev pub task_of : Op → Option Task
task_of (ops.One call) = task_in call
task_of (ops.Read user va) = Some (OfRead user va)
task_of (ops.Write user va val) = Some (OfWrite user va val)
task_of (ops.TouchLdt page) = Some (OfDescriptors (TouchLdt page))
task_of _ = None

-- the operation that stands next, where there is one that is built
abbrev pub task_next : Option Op → Option Task
task_next (Some op) = task_of op
task_next None = None

-- ---- one task, which there is where the operation is built; or the calls of a multicall, each with its own; or the destruction of a domain
pub data Job : Type 0 where
  OfOne : Option Task → Job
  OfCalls : List Call → Job
  OfDestroy : (domain : ℕ) → Job

abbrev pub job_of : Op → Job
job_of (ops.Multi calls) = OfCalls calls
job_of (ops.Destroy domain) = OfDestroy domain
job_of op = OfOne (task_of op)

abbrev pub job_next : Option Op → Job
job_next (Some op) = job_of op
job_next None = OfOne None

-- how much of an operation is done, as a reply to it tells: of a multicall so many calls, of any other so many elements
abbrev pub done_at : Job → Progress → ℕ
done_at (OfOne task) at = at.done
done_at (OfCalls calls) at = at.call
done_at (OfDestroy domain) at = at.done

abbrev pub task_called : Option Call → Option Task
task_called (Some call) = task_in call
task_called None = None

-- that of the call in progress, where so many are answered
abbrev pub task_at : Job → ℕ → Option Task
task_at (OfOne task) answered = task
task_at (OfCalls calls) answered = task_called (slice_get calls answered)
task_at (OfDestroy domain) answered = None

-- what a turn works on, as the code sees it
abbrev pub task_for : Piece → Option Task
task_for (pieces.Whole op) = task_of op.now
task_for (pieces.Called call) = task_in call.now

-- as the code sees them
abbrev pub viewed_descriptors : Descriptors → DescriptorTask
viewed_descriptors (tables.Gdt entries frames) = SetGdt entries frames.now
viewed_descriptors (tables.Descriptor address word) = SetDescriptor address word
viewed_descriptors (tables.Ldt page) = TouchLdt page

abbrev pub viewed : Viewed → Task
viewed (viewing.Pairs foreign pairs) = OfPairs foreign pairs.now
viewed (viewing.Ext list) = OfExt list.now
viewed (viewing.Mem command order items) = OfMem command order items.now
viewed (viewing.Mapping m) = OfMapping m.foreign m.va m.word m.flags
viewed (viewing.Descriptors tables) = OfDescriptors (viewed_descriptors tables)
viewed (viewing.Read user va) = OfRead user va
viewed (viewing.Write user va val) = OfWrite user va val

abbrev pub size_of : Task → ℕ
size_of (OfPairs foreign pairs) = length pairs
size_of (OfExt list) = length list
size_of (OfMem command order items) = extents_in command items
size_of (OfMapping foreign va word flags) = 1
size_of (OfDescriptors tables) = 1
size_of (OfRead user va) = 1
size_of (OfWrite user va val) = 1

-- the element from which a turn goes on, where so many are done: a list of extents has a first one that is still to be done
abbrev pub begins_at : Option Task → ℕ → ℕ
begins_at (Some (OfMem command order items)) from = begins_in command from
begins_at _ from = from

-- how many elements the operation has of which some may be done
abbrev pub elements_in : Option Task → ℕ
elements_in (Some task) = size_of task
elements_in None = 0

-- so many of its elements are done at the most: of the call in progress, where there is one; and no more calls are answered than there are
abbrev pub IsFewOf : Option Call → ℕ → Type 0
IsFewOf (Some call) done = done ≤ elements_in (task_in call)
IsFewOf None done = Unit {0}

abbrev pub IsFewIn : Job → Progress → Type 0
IsFewIn (OfOne task) at = at.done ≤ elements_in task
IsFewIn (OfCalls calls) at = (at.call ≤ length calls) × IsFewOf (slice_get calls at.call) at.done
IsFewIn (OfDestroy domain) at = (at.call ≡ 0) × (at.done ≤ 1)

abbrev pub IsFew : Option Op → Progress → Type 0
IsFew (Some op) at = IsFewIn (job_of op) at
IsFew None at = at.done ≤ 0

-- ---- waits that go on from turn to turn
abbrev pub awaited_at : Option ExtOp → Pause → Option ℕ
awaited_at (Some op) p = awaited_by (ext_element op) (Err (Paused p))
awaited_at None p = None

-- An update by address waits for all vCPUs of the domain once its entry is set; a flush that is waited for before that is another one.
abbrev pub awaited_behind : ℕ → Pause → Option ℕ
awaited_behind zero p = None
awaited_behind (suc done) p = awaited_by (FlushVcpus every_vcpu) (Err (Paused p))

-- an operation was paused with so many elements done: the clock value past which the next of them goes on to wait
abbrev pub awaited_in : Option Task → ℕ → Pause → Option ℕ
awaited_in (Some (OfExt list)) done p = awaited_at (slice_get list done) p
awaited_in (Some (OfMapping foreign va word flags)) done p = awaited_behind done p
awaited_in _ done p = None

-- and ended so
abbrev pub awaited_left : Option Task → ℕ → Result ℕ Stop → Option ℕ
awaited_left task done (Ok value) = None
awaited_left task done (Err (Refused r)) = None
awaited_left task done (Err (Paused p)) = awaited_in task done p

abbrev pub left_waiting : Option Task → Progress → Result ℕ Stop → Progress
left_waiting task to answer = record to { awaited = awaited_left task to.done answer }

-- ---- how many lines the log may still get
-- An operation logs its answer, and before that a line for each block that it gives.
abbrev pub room_by : Bool → Option Refusal → ℕ → ℕ
room_by true None count = count
room_by _ refusal count = 0

abbrev pub room_of : Option Task → ℕ
room_of (Some (OfMem command order items)) = room_by (gives_blocks command) (mem_refusal command order items) (extents_in command items)
room_of _ = 0

-- A multicall logs the answer of each of its calls, too. One of more than 64 calls is refused.
abbrev pub is_long : List Call → Bool
is_long calls = nat_lt 64 (length calls)

abbrev pub lines_of_call : Call → ℕ
lines_of_call call = room_of (task_in call) + 1

-- What it may log before its answer, where so many of its calls are answered, on a machine of so many frames: a destruction has a line for each frame that is left.
abbrev pub room_from : ℕ → Job → ℕ → ℕ
room_from frames (OfOne task) answered = room_of task
room_from frames (OfCalls calls) answered = if is_long calls then 0 else sum_by lines_of_call (drop answered calls)
room_from frames (OfDestroy domain) answered = frames

abbrev pub lines_of : ℕ → Op → ℕ
lines_of frames op = room_from frames (job_of op) 0 + 1

-- how many lines it may have made before its answer, where so many elements are done
abbrev pub lines_made : Option Task → ℕ → ℕ
lines_made task done = min done (room_of task)

-- by the call in progress
abbrev pub made_within : Job → Progress → ℕ
made_within (OfOne task) at = lines_made task at.done
made_within (OfCalls calls) at = if is_long calls then 0 else lines_made (task_called (slice_get calls at.call)) at.done
made_within (OfDestroy domain) at = seen_to at.place

-- and by those that are answered
abbrev pub made_by : ℕ → Job → Progress → ℕ
made_by frames job at = room_from frames job 0 - room_from frames job at.call + made_within job at

abbrev pub made_next : ℕ → Option Op → Progress → ℕ
made_next frames o at = made_by frames (job_next o) at

-- the call in progress has made no more lines than it may, and a destruction has looked at no more frames than there are
abbrev pub IsMade : ℕ → Option Op → Progress → Type 0
IsMade frames o at = made_within (job_next o) at ≤ room_from frames (job_next o) at.call

-- of the operations that are not answered
abbrev pub lines_ahead : ℕ → List Op → ℕ → ℕ
lines_ahead frames script answered = sum_by (lines_of frames) (drop answered script)

-- ---- answers
abbrev pub reply_of : ℕ → ℕ → Option Refusal → Reply
reply_of done value refusal = record { done = done; value = value; refusal = refusal }

-- how a turn ends that left so many elements done; what is refused has the value 0
abbrev pub end_of : ℕ → Result ℕ Stop → TurnEnd
end_of done (Ok value) = ends.Answered (reply_of done value None)
end_of done (Err (Refused r)) = ends.Answered (reply_of done 0 (Some r))
end_of done (Err (Paused p)) = ends.Paused p

-- The vCPU after it, where the operation came so far and left that log: an answer is logged under the number of its operation, and the next one begins.
abbrev pub after_turn : Processing → Progress → List LogLine → TurnEnd → Processing
after_turn c to log (ends.Answered reply) = record c { log = log ++ lines.Answer (c.answered + 1) 0 reply ∷ []; answered = c.answered + 1; at = begun }
after_turn c to log (ends.Paused p) = record c { at = to; log = log }
after_turn c to log ends.Retired = c

abbrev pub pending_of : Processing → ℕ
pending_of c = length c.script - c.answered
