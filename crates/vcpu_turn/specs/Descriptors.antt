-- Operations on descriptor tables: the GDT is set, a descriptor updated, or a page of the LDT touched. Each is one element, and asks no gate.
use Rattle.std.specs.Prelude.{◌≡◌, ℕ, Bool, List, [], Result}
use Rattle.xp_words.specs.declared.reply.Stop.{Stop}
use Rattle.xp_board.specs.Told.{PortValue}
use Rattle.desc_pages.specs.Descriptors.{DescriptorUpdated}
use Rattle.desc_pages.specs.Gdt.{GdtSet}
use Rattle.ldt_pages.specs.Touching.{LdtTouched}
use Rattle.vcpu_turn.specs.Accesses.{done_by}

-- the number of entries and the frames of the GDT; an address and the word that is stored there; and a page of the LDT
pub data DescriptorTask : Type 0 where
  SetGdt : ℕ → List ℕ → DescriptorTask
  SetDescriptor : ℕ → ℕ → DescriptorTask
  TouchLdt : ℕ → DescriptorTask

abbrev pub DescriptorFits : DescriptorTask → PortValue → PortValue → Result (Unit {0}) Stop → Type 0
DescriptorFits (SetGdt entries frames) v w answer = GdtSet v w entries frames answer
DescriptorFits (SetDescriptor address word) v w answer = DescriptorUpdated v w address word answer
DescriptorFits (TouchLdt page) v w answer = LdtTouched v w page answer

-- From v to w it was done, or why not.
pub record DoesDescriptors (t : DescriptorTask) (v : PortValue) (to : ℕ) (w : PortValue) (answers : List Bool) (answer : Result (Unit {0}) Stop) : Type 0 where
  pub done : to ≡ done_by answer
  pub no_ask : answers ≡ []
  pub does : DescriptorFits t v w answer
