-- The words after a run of cells was filled, by name.
use Rattle.std.proofs.Common.{◌≡◌, ℕ, ◌+◌, ◌<◌, ◌≤◌, ◌&&◌, nat_lt, nat_le, Bool, true, false, List, [], ◌∷◌, slice_index, if◌then◌else◌, refl, ◌∙◌, arith, inl, inr, Some, None, cond}
use Rattle.std.proofs.lemmas.Bool.{cases_eq, cases_lt}
use Rattle.std.proofs.lemmas.Bool.Decides.{nat_tests}
use Rattle.xp_words.specs.declared.place.Place.{Place}
use Rattle.xp_words.specs.declared.place.Place.TheVariants.{Cell}
use Rattle.xp_words.specs.Places.{Sizes, is_place, number, memory}
use Rattle.trace_text.specs.declared.trace.CellRun.{CellRun}
use Rattle.machine_build.specs.Puts.{with_cells, or_value}
use Rattle.machine_build.specs.Opening.{has_cell}

chosen : (t h : Bool) (c : CellRun) (w : ℕ) → t ≡ h → (if t then c.value else w) ≡ or_value (cond h (Some c) None) w
chosen true true c w e = refl
chosen false false c w e = refl
chosen true false c w e = cc
chosen false true c w e = cc

in_run : (z : Sizes) (c : CellRun) (a b f i : ℕ) → i < 512 → c.first + c.count ≤ 512 → a ≡ number z (Cell c.frame c.first) → b ≡ a + c.count → (nat_le a (number z (Cell f i)) && nat_lt (number z (Cell f i)) b) ≡ has_cell f i c
unfolding number
in_run z c a b f i low fits start end =
    elim (cases_eq c.frame f) [
      | inl same ↦ grind (arith, nat_tests)
      | inr other ↦ grind (arith, nat_tests)
    ]

no_cell : (f i : ℕ) (c : CellRun) → c.first + c.count ≤ 512 → 512 ≤ i → has_cell f i c ≡ false
no_cell f i c fits high = grind (arith, nat_tests)

no_frame : (z : Sizes) (f i : ℕ) (c : CellRun) → c.frame < z.frames → z.frames ≤ f → has_cell f i c ≡ false
no_frame z f i c lt high = grind (arith, nat_tests)

by_place : (h t cell : Bool) (c : CellRun) (w w2 : ℕ) → (h ≡ true → t ≡ cell) → (h ≡ false → cell ≡ false) → w2 ≡ (if t then c.value else w) →
    (if h then w2 else 0) ≡ or_value (cond cell (Some c) None) (if h then w else 0)
by_place true t cell c w w2 on off e = e ∙ chosen t cell c w (on refl)
by_place false t cell c w w2 on off e = rw (off refl) refl

cell_written : (z : Sizes) (c : CellRun) (old now : List ℕ) (a b f i : ℕ) → c.frame < z.frames → c.first + c.count ≤ 512 → a ≡ number z (Cell c.frame c.first) → b ≡ a + c.count →
    ((k : ℕ) → slice_index now k ≡ (if nat_le a k && nat_lt k b then c.value else slice_index old k)) → memory z now (Cell f i) ≡ with_cells (c ∷ []) (memory z old) (Cell f i)
unfolding memory with_cells is_place
cell_written z c old now a b f i lt fits start end is =
    by_place (nat_lt f z.frames && nat_lt i 512) (nat_le a (number z (Cell f i)) && nat_lt (number z (Cell f i)) b) (has_cell f i c) c _ _
    (λ on. in_run z c a b f i (grind (arith, nat_tests)) fits start end)
    (λ off. elim (cases_lt i 512) [
      | inl low ↦ no_frame z f i c lt (grind (arith, nat_tests))
      | inr high ↦ no_cell f i c fits high
    ])
    (is (number z (Cell f i)))

-- a word that is no cell stands outside the run
outside : (z : Sizes) (c : CellRun) (old now : List ℕ) (a b : ℕ) (p : Place) → (is_place z p ≡ true → (nat_le a (number z p) && nat_lt (number z p) b) ≡ false) →
    ((k : ℕ) → slice_index now k ≡ (if nat_le a k && nat_lt k b then c.value else slice_index old k)) → memory z now p ≡ memory z old p
unfolding memory
outside z c old now a b p off is = by (is_place z p) off
  where
    by : (h : Bool) → (h ≡ true → (nat_le a (number z p) && nat_lt (number z p) b) ≡ false) → (if h then slice_index now (number z p) else 0) ≡ (if h then slice_index old (number z p) else 0)
    by true off = is (number z p) ∙ rw (off refl) refl
    by false off = refl

pub run_written : (z : Sizes) (c : CellRun) (old now : List ℕ) (a b : ℕ) → c.frame < z.frames → c.first + c.count ≤ 512 → a ≡ number z (Cell c.frame c.first) → b ≡ a + c.count →
    ((k : ℕ) → slice_index now k ≡ (if nat_le a k && nat_lt k b then c.value else slice_index old k)) → (p : Place) → memory z now p ≡ with_cells (c ∷ []) (memory z old) p
unfolding with_cells number is_place
run_written z c old now a b lt fits start end is (Cell f i) = cell_written z c old now a b f i lt fits start end is
run_written z c old now a b lt fits start end is p = outside z c old now a b p (λ there. grind (arith, nat_tests)) is
