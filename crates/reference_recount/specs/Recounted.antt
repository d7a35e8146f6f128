-- What the references of a frame are counted to be, where no vCPU holds anything.
use Rattle.std.specs.Prelude.{◌≡◌, ◌≢◌, ◌<◌, ◌+◌, ℕ, ◌⊎◌, ◌↔◌, true, false, Some, IsTrue, List, slice_index_or}
use Rattle.xp_words.specs.declared.kind.PageType.{PageType}
use Rattle.xp_words.specs.declared.entry.Demand.TheVariants.{Typed}
use Rattle.xp_words.specs.Machine.{Machine}
use Rattle.xp_words.specs.declared.place.Place.{Place}
use Rattle.xp_words.specs.declared.place.Place.TheVariants.{Vcpu, Refs, Kind}
use Rattle.xp_words.specs.Places.{sizes_of}
use Rattle.xp_board.specs.declared.holdings.Holdings.{Holdings}
use Rattle.xp_board.specs.ContextSteps.{context_type}
use Rattle.xp_board.specs.Hands.{empty}
use Rattle.xp_board.specs.Readings.{kind_at, is_context}
use Rattle.xp_board.specs.Recorded.{held, entry_demand, named, named_typed}
use Rattle.xp_board.specs.Spelling.{IsSpelling}
use Rattle.reference_recount.specs.declared.tallies.Tally.{Tally}

-- no vCPU holds anything
abbrev pub no_hands : ℕ → Holdings
no_hands s = empty

-- the words of frames and of vCPUs are such as may stand there
pub record IsReadable (n : Machine) (m : Place → ℕ) : Type 0 where
  pub refs : (f : ℕ) → f < n.frames → IsSpelling n (Refs f) (m (Refs f))
  pub kinds : (f : ℕ) → f < n.frames → IsSpelling n (Kind f) (m (Kind f))
  pub contexts : (v k : ℕ) → v < (sizes_of n).vcpus → k < 38 → IsSpelling n (Vcpu v k) (m (Vcpu v k))

-- a recorded entry wants another type of the frame than it has
pub record IsMistypedEntry (n : Machine) (m : Place → ℕ) (g : ℕ) : Type 0 where
  pub table : ℕ
  pub index : ℕ
  pub want : PageType
  pub recorded : index < held (sizes_of n) m no_hands table
  pub asks : entry_demand m table index ≡ Typed g want
  pub other : (kind_at m g).kind ≢ want

-- so does a word of a vCPU
pub record IsMistypedContext (n : Machine) (m : Place → ℕ) (g : ℕ) : Type 0 where
  pub vcpu : ℕ
  pub number : ℕ
  pub want : PageType
  pub real : vcpu < (sizes_of n).vcpus
  pub known : number < 38
  pub context : IsTrue (is_context number)
  pub names : m (Vcpu vcpu number) ≡ g + 1
  pub wants : context_type number ≡ Some want
  pub other : (kind_at m g).kind ≢ want

abbrev pub IsMistyped : Machine → (Place → ℕ) → ℕ → Type 0
IsMistyped n m g = IsMistypedEntry n m g ⊎ IsMistypedContext n m g

-- frame g, counted again
pub record IsTally (n : Machine) (m : Place → ℕ) (g : ℕ) (r : Tally) : Type 0 where
  pub refs : r.refs ≡ named (sizes_of n) m no_hands g
  pub types : r.types ≡ named_typed (sizes_of n) m no_hands g
  pub mistyped : (r.mistyped ≡ true) ↔ IsMistyped n m g

-- that of frame g, in a list of all frames
abbrev pub tally_at : List Tally → ℕ → Tally
tally_at tallies g = slice_index_or tallies g (record { refs = 0; types = 0; mistyped = false })
