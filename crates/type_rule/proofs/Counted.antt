-- What a recorded entry, or a word of a vCPU, says of the counts of the frame that it names.
use Rattle.std.proofs.Common.{◌≡◌, ℕ, ◌+◌, ◌<◌, ◌≤◌, IsTrue, arith}
use Rattle.xp_words.specs.declared.kind.PageType.{PageType}
use Rattle.xp_words.specs.declared.entry.Demand.TheVariants.{Typed}
use Rattle.xp_words.specs.Machine.{Machine}
use Rattle.xp_words.specs.declared.place.Place.{Place}
use Rattle.xp_words.specs.declared.place.Place.TheVariants.{Vcpu}
use Rattle.xp_words.specs.Places.{sizes_of}
use Rattle.xp_board.specs.declared.holdings.Holdings.{Holdings}
use Rattle.xp_board.specs.Readings.{kind_at, type_count, is_context}
use Rattle.xp_board.specs.Hands.{typed_hand}
use Rattle.xp_board.specs.Recorded.{CountsAgree, held, entry_demand, names_typed}
use Rattle.xp_board.specs.Sound.{Sound}
use Rattle.xp_board.proofs.Sums.{hands-part}
use Rattle.xp_board.proofs.Counted.{entries-part, contexts-part, names_typed-typed, held_inside}

-- a recorded typed entry is one beside those in hand
pub entry_counted : (n : Machine) (m : Place → ℕ) (h : ℕ → Holdings) (s f i g : ℕ) (t : PageType) → Sound n m h → s < (sizes_of n).vcpus → i < held (sizes_of n) m h f →
    entry_demand m f i ≡ Typed g t → typed_hand g (h s) + 1 ≤ type_count (kind_at m g)
entry_counted n m h s f i g t sound real l e =
    let b = held_inside n m h f i sound.spelled l in
    let a = entries-part (names_typed g) (sizes_of n) m h f i b l in
    let o = names_typed-typed g t (entry_demand m f i) e in
    let p = hands-part (typed_hand g) (sizes_of n) h s real in
    let k = sound.counts.types g in
    omega arith

pub context_counted : (n : Machine) (m : Place → ℕ) (h : ℕ → Holdings) (s v k g : ℕ) → CountsAgree (sizes_of n) m h → s < (sizes_of n).vcpus → v < (sizes_of n).vcpus → k < 38 →
    IsTrue (is_context k) → m (Vcpu v k) ≡ g + 1 → typed_hand g (h s) + 1 ≤ type_count (kind_at m g)
context_counted n m h s v k g counts real b l c e =
    let o = contexts-part (sizes_of n) m g v k b l c e in
    let p = hands-part (typed_hand g) (sizes_of n) h s real in
    let q = counts.types g in
    omega arith
