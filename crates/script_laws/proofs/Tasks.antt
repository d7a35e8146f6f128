-- What is left of a single operation, or of a call of a multicall; and what a turn's work on it comes to: definitions.
use Rattle.std.proofs.Common.{◌≡◌, ◌⊎◌, ℕ, ◌<◌, ◌≤◌, ◌^◌, List, [], Some, None, Result, Ok, Err}
use Rattle.std.specs.Prelude.{drop}
use Rattle.xp_words.specs.declared.reply.LogLine.{LogLine}
use Rattle.xp_words.specs.declared.reply.Reply.{Reply}
use Rattle.xp_words.specs.declared.reply.Stop.{Stop}
use Rattle.xp_words.specs.declared.reply.Stop.TheVariants.{Refused, Paused}
use Rattle.xp_board.specs.Told.{PortValue}
use Rattle.foreign_map.specs.Owning.{frames_of, refuse_owners, tables_of}
use Rattle.foreign_map.specs.declared.owners.Owners.{Owners}
use Rattle.course_laws.proofs.Awaiting.{AloneStays, NeitherLostNorBusy}
use Rattle.script_law.specs.Memory.{count_in, done_before, extents_of, list_refusal, reserve}
use Rattle.script_law.specs.Pages.{set_descriptor, set_gdt}
use Rattle.script_law.specs.Scripts.{Answered, extents, in_order, logged_behind}
use Rattle.script_law.specs.Values.{Line, Outcome, Solo, Whose, of_domains}
use Rattle.script_law.specs.Walks.{touch_ldt}
use Rattle.solo_ports.specs.Standing.{whose}
use Rattle.vcpu_turn.specs.Cpus.{reply_of}
use Rattle.vcpu_turn.specs.Descriptors.{DescriptorTask, SetGdt, SetDescriptor, TouchLdt}
use Rattle.vcpu_turn.specs.declared.cpu.Progress.{Progress}
use Rattle.script_laws.specs.Logged.{AreLines, IsReply}
use Rattle.script_laws.proofs.Items.{OwesF}

module _ (stays : AloneStays) (neither : NeitherLostNorBusy) (v0 : PortValue) where
  abbrev pub own : Whose
  own = whose v0

  -- the own domain lives; and those whose tables and frames a list is about may be named
  abbrev pub Lives : Solo → Type 0
  Lives s = s.lives own.domain ≡ 0

  abbrev pub MayName : ℕ → Solo → Type 0
  MayName foreign s = Lives s × (refuse_owners own.machine (of_domains s) own.domain foreign ≡ None)

  abbrev pub OwesT : PortValue → Solo → Type 0
  OwesT = OwesF stays neither v0 Lives

  abbrev pub owners_of : ℕ → Owners
  owners_of foreign = record { tables = tables_of own.domain foreign; frames = frames_of own.domain foreign }

  -- ---- an answer
  pub record IsTaskAnswered (op : ℕ) (made : List LogLine) (w : PortValue) (reply : Reply) (b : Answered) : Type 0 where
    pub lines : AreLines op made b.lines
    pub replies : IsReply reply b.answer
    pub owes : OwesT w b.left

  -- ---- what is left
  -- nothing is done yet: it comes to what the plain one comes to
  pub record Begins (made : List LogLine) (v : PortValue) (b : Answered) (plain : Solo → Answered) : Type 0 where
    pub value : Solo
    pub owes : OwesT v value
    pub nothing : made ≡ []
    pub is : plain value ≡ b

  abbrev pub descriptors_alone : DescriptorTask → Solo → Outcome
  descriptors_alone (SetGdt entries frames) s = set_gdt own.machine own.domain entries frames s
  descriptors_alone (SetDescriptor address word) s = set_descriptor own.machine own.domain address word s
  descriptors_alone (TouchLdt page) s = touch_ldt own.machine own.domain page s

  -- of a list of extents k are done, and these lines were logged
  pub record ExtentsOn (op call command order : ℕ) (items : List ℕ) (at : Progress) (made : List LogLine) (v : PortValue) (b : Answered) : Type 0 where
    pub checked : list_refusal command order items ≡ None
    pub some : 0 < count_in command items
    pub value : Solo
    pub owes : OwesT v value
    pub begun : at.within ≡ 0
    pub within : done_before command ≤ at.done
    pub most : at.done ≤ count_in command items
    pub lines : List Line
    pub made_are : AreLines op made lines
    pub is : logged_behind lines (in_order (λ k. reserve own (2 ^ order) call k) (drop at.done (extents_of command items)) at.done value) ≡ b

  abbrev pub ExtentsGoing : (op call command order : ℕ) (items : List ℕ) (at : Progress) (made : List LogLine) (v : PortValue) (b : Answered) → Type 0
  ExtentsGoing op call command order items at made v b = (Begins made v b (extents own call command order items) × (at.done ≡ 0) × (at.within ≡ 0)) ⊎ ExtentsOn op call command order items at made v b

  -- ---- what the work of a turn comes to
  abbrev pub Comes : ((at : Progress) (made : List LogLine) (w : PortValue) → Type 0) → ℕ → Progress → List LogLine → PortValue → Answered → Result ℕ Stop → Type 0
  Comes Going op to made w b (Ok value) = IsTaskAnswered op made w (reply_of to.done value None) b
  Comes Going op to made w b (Err (Refused r)) = IsTaskAnswered op made w (reply_of to.done 0 (Some r)) b
  Comes Going op to made w b (Err (Paused p)) = Going to made w
