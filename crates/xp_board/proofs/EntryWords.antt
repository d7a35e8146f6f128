-- What the accessed and dirty bits of an entry leave: what it asks.
use Rattle.std.proofs.Common.{◌≡◌, ℕ, ◌+◌, ◌/◌, ◌%◌, ◌^◌, ◌==◌, Bool, true, false, refl, sym, ◌∙◌, ap, arith, IsTrue, if◌then◌else◌, Some}
use Rattle.std.proofs.lemmas.Bool.Decides.{nat_tests}
use Rattle.xp_words.specs.declared.kind.PageType.{PageType}
use Rattle.xp_words.specs.declared.entry.Demand.{Demand}
use Rattle.xp_words.specs.declared.entry.Demand.TheVariants.{Nothing, Read, Typed}
use Rattle.xp_words.specs.PageTypes.{type_number, type_of}
use Rattle.xp_words.specs.Entries.{is_bit, frame_of, is_reserved, is_lowest, demand_of, demand_at, fixed}
use Rattle.xp_words.proofs.KindLaws.{type_back}
use Rattle.xp_board.specs.declared.holdings.Walk.{Walk}
use Rattle.xp_board.specs.Readings.{is_type}
use Rattle.xp_board.specs.FillSteps.{with_bit, touched, sets_dirty}
use Rattle.xp_board.specs.CellSteps.{is_same_demand}
use Rattle.xp_board.specs.Found.{without_bits, is_same_entry}
use Rattle.xp_words.proofs.EntryLaws.{fixed_again}
use Rattle.xp_board.specs.After.{is_fixed}
use Rattle.xp_board.proofs.PlaceTests.{equal_refl}

-- ---- the same but for bits 5 and 6
pub record SameEntry (w x : ℕ) : Type 0 where
  pub high : w / 128 ≡ x / 128
  pub low : w % 32 ≡ x % 32

pub entry_parts : (w x : ℕ) → IsTrue (is_same_entry w x) → SameEntry w x
entry_parts w x e = let k : without_bits w ≡ without_bits x = grind (arith, nat_tests) in record { high = omega arith; low = omega arith }

bit_same : (w x i : ℕ) → w / 2 ^ i ≡ x / 2 ^ i → is_bit i w ≡ is_bit i x
bit_same w x i e = ap (λ y. y % 2 == 1) e

reserved_same : (lowest : Bool) (w x : ℕ) → SameEntry w x → is_reserved lowest w ≡ is_reserved lowest x
reserved_same lowest w x same =
    let h = same.high in
    let l = same.low in
    let a : w / 2 ^ 3 % 4 ≡ x / 2 ^ 3 % 4 = omega arith in
    let b : is_bit 7 w ≡ is_bit 7 x = bit_same w x 7 (omega arith) in
    let c : is_bit 8 w ≡ is_bit 8 x = bit_same w x 8 (omega arith) in
    let d : w / 2 ^ 52 % 2 ^ 11 ≡ x / 2 ^ 52 % 2 ^ 11 = omega arith in
    rw (a, b, c, d) refl

demand_same : (kind : PageType) (w x : ℕ) → SameEntry w x → demand_of kind w ≡ demand_of kind x
unfolding demand_of
demand_same kind w x same =
    let h = same.high in
    let l = same.low in
    let a : is_bit 0 w ≡ is_bit 0 x = (let e : w / 2 ^ 0 % 2 ≡ x / 2 ^ 0 % 2 = omega arith in ap (λ y. y == 1) e) in
    let b : is_bit 1 w ≡ is_bit 1 x = (let e : w / 2 ^ 1 % 2 ≡ x / 2 ^ 1 % 2 = omega arith in ap (λ y. y == 1) e) in
    let c = reserved_same (is_lowest kind) w x same in
    let d : frame_of w ≡ frame_of x = omega arith in
    rw (a, b, c, d) refl

pub entry_asks_same : (kind : PageType) (i w x : ℕ) → IsTrue (is_same_entry w x) → demand_at kind i w ≡ demand_at kind i x
unfolding demand_at
entry_asks_same kind i w x e = rw (demand_same kind w x (entry_parts w x e)) refl

-- ---- the same demand
pub type_same : (t u : PageType) → is_type t u ≡ true → t ≡ u
type_same t u e = let n : type_number t ≡ type_number u = grind (arith, nat_tests) in sym (type_back t) ∙ ap type_of n ∙ type_back u

pub same_demand : (d e : Demand) → IsTrue (is_same_demand d e) → d ≡ e
same_demand Nothing Nothing t = refl
same_demand (Read f) (Read g) t = let k : f ≡ g = grind (arith, nat_tests) in ap Read k
same_demand (Typed f k) (Typed g l) t =
    let b : f ≡ g = grind (arith, nat_tests) in
    let c : is_type k l ≡ true = grind arith in
    let e = type_same k l c in
    ap (λ x. Typed x k) b ∙ ap (λ x. Typed g x) e
same_demand _ _ t = absurd (cc)

-- ---- a bit set by a walk
entry_whole : (w x : ℕ) → SameEntry w x → IsTrue (is_same_entry w x)
entry_whole w x e = let h = e.high in let l = e.low in let k : without_bits w ≡ without_bits x = rw (h, l) refl in grind (arith, nat_tests)

set5 : (w : ℕ) (b : Bool) → is_bit 5 w ≡ b → SameEntry w (if b then w else w + 2 ^ 5)
set5 w true e = record { high = refl; low = refl }
set5 w false e = let off : w / 2 ^ 5 % 2 ≡ 0 = grind (arith, nat_tests) in record { high = omega arith; low = omega arith }

set6 : (w : ℕ) (b : Bool) → is_bit 6 w ≡ b → SameEntry w (if b then w else w + 2 ^ 6)
set6 w true e = record { high = refl; low = refl }
set6 w false e = let off : w / 2 ^ 6 % 2 ≡ 0 = grind (arith, nat_tests) in record { high = omega arith; low = omega arith }

set_both : (w : ℕ) (b : Bool) → SameEntry w (if b then with_bit 6 (with_bit 5 w) else with_bit 5 w)
set_both w true =
    let a = set5 w (is_bit 5 w) refl in
    let c = set6 (with_bit 5 w) (is_bit 6 (with_bit 5 w)) refl in
    record { high = a.high ∙ c.high; low = a.low ∙ c.low }
set_both w false = set5 w (is_bit 5 w) refl

-- the entry with the bits that a walk sets is the same but for them
pub touched_back : (walk : Walk) (w : ℕ) → IsTrue (is_same_entry (touched walk w) w)
touched_back walk w = let same = set_both w (sets_dirty walk) in entry_whole (touched walk w) w (record { high = sym same.high; low = sym same.low })

pub touched_same : (walk : Walk) (w : ℕ) → IsTrue (is_same_entry w (touched walk w))
touched_same walk w = entry_whole w (touched walk w) (set_both w (sets_dirty walk))

-- ---- a word that is fixed once more
pub fixed_by : (w new : ℕ) → fixed w ≡ Some new → IsTrue (is_fixed new)
fixed_by w new e = let k = fixed_again w new e in rw k (equal_refl new)
