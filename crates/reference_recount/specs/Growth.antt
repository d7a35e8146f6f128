-- What a part of the words adds to the tallies of frames.
use Rattle.std.specs.Prelude.{◌≡◌, ℕ, ◌+◌, ◌<◌, ◌≤◌, ◌||◌, not, nat_lt, if◌then◌else◌, Bool, false, List, length, slice_index_or, Option, Some, None}
use Rattle.xp_words.specs.declared.kind.PageType.{PageType}
use Rattle.xp_words.specs.declared.kind.PageType.TheVariants as types
use Rattle.xp_words.specs.declared.entry.Demand.{Demand}
use Rattle.xp_words.specs.declared.entry.Demand.TheVariants.{Nothing, Bad, Read, Typed}
use Rattle.xp_words.specs.declared.place.Place.{Place}
use Rattle.xp_words.specs.declared.place.Place.TheVariants.{Vcpu, Refs}
use Rattle.xp_board.specs.ContextSteps.{context_type}
use Rattle.xp_board.specs.Lists.{one_at}
use Rattle.xp_board.specs.Readings.{kind_at, allocated_mark, is_context, is_type}
use Rattle.xp_board.specs.Recorded.{marks}
use Rattle.xp_board.specs.Sums.{sum_below}
use Rattle.reference_recount.specs.declared.tallies.Tally.{Tally}
use Rattle.reference_recount.specs.Recounted.{tally_at}

-- so many more references, so many more that want a type, and so many that want another type
pub record IsMore (old new : Tally) (r t o : ℕ) : Type 0 where
  pub refs : new.refs ≡ old.refs + r
  pub types : new.types ≡ old.types + t
  pub mistyped : new.mistyped ≡ (old.mistyped || nat_lt 0 o)

-- the same at each frame
pub record AreMore (old new : List Tally) (r t o : ℕ → ℕ) : Type 0 where
  pub len : length new ≡ length old
  pub each : (g : ℕ) → g < length old → IsMore (tally_at old g) (tally_at new g) (r g) (t g) (o g)

-- what each of n parts adds
abbrev pub AreSums : List Tally → List Tally → ℕ → (ℕ → ℕ → ℕ) → (ℕ → ℕ → ℕ) → (ℕ → ℕ → ℕ) → Type 0
AreSums old new n refs types others =
    AreMore old new (λ g. sum_below n (λ k. refs g k)) (λ g. sum_below n (λ k. types g k)) (λ g. sum_below n (λ k. others g k))

-- what a frame's own marks come to
pub record IsOfMarks (m : Place → ℕ) (g : ℕ) (r : Tally) : Type 0 where
  pub refs : r.refs ≡ allocated_mark (m (Refs g)) + marks (kind_at m g)
  pub types : r.types ≡ marks (kind_at m g)
  pub mistyped : r.mistyped ≡ false

-- no count is above that
pub record IsCountWithin (most : ℕ) (tallies : List Tally) : Type 0 where
  pub refs : (g : ℕ) → g < length tallies → (tally_at tallies g).refs ≤ most
  pub types : (g : ℕ) → g < length tallies → (tally_at tallies g).types ≤ most

-- the types of all frames
pub record AreKinds (m : Place → ℕ) (frames : ℕ) (kinds : List PageType) : Type 0 where
  pub len : length kinds ≡ frames
  pub each : (g : ℕ) → g < frames → slice_index_or kinds g types.None ≡ (kind_at m g).kind

-- whether a type is another than the one that is wanted
abbrev pub differs : PageType → Option PageType → Bool
differs kind (Some want) = not (is_type want kind)
differs kind None = false

-- the same of frame g, in a list of the types of all frames
abbrev pub is_other_type : List PageType → ℕ → Option PageType → Bool
is_other_type kinds g want = differs (slice_index_or kinds g types.None) want

-- 1 where the demand wants another type of the frame than it has
unfoldable pub names_other : List PageType → ℕ → Demand → ℕ
names_other kinds g Nothing = 0
names_other kinds g Bad = 0
names_other kinds g (Read f) = 0
names_other kinds g (Typed f want) = if is_other_type kinds g (Some want) then one_at g f else 0

-- 1 where word k names the frame
abbrev pub context_names : (Place → ℕ) → ℕ → ℕ → ℕ → ℕ
context_names m v g k = if is_context k then one_at (g + 1) (m (Vcpu v k)) else 0

-- 1 where it does, and wants another type of it than it has
abbrev pub context_other : List PageType → (Place → ℕ) → ℕ → ℕ → ℕ → ℕ
context_other kinds m v g k = if is_other_type kinds g (context_type k) then context_names m v g k else 0
