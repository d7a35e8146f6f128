-- What a present entry of a table asks.
use Rattle.std.proofs.Common.{◌≡◌, ◌≢◌, ℕ, ◌+◌, ◌<◌, ◌≤◌, ◌&&◌, ◌⊎◌, inl, inr, Bool, true, false, not, nat_lt, nat_le, refl, ◌∙◌, arith, IsTrue, if◌then◌else◌}
use Rattle.std.proofs.lemmas.Bool.Decides.{nat_tests}
use Rattle.xp_words.specs.declared.kind.PageType.{PageType}
use Rattle.xp_words.specs.declared.kind.PageType.TheVariants as kinds
use Rattle.xp_words.specs.declared.entry.Demand.{Demand}
use Rattle.xp_words.specs.declared.entry.Demand.TheVariants.{Nothing, Bad, Read, Typed}
use Rattle.xp_words.specs.PageTypes.{type_number}
use Rattle.xp_words.specs.Entries.{is_bit, frame_of, below, is_lowest, demand_of, demand_at}
use Rattle.xp_board.specs.FillSteps.{is_walked}

high : (a r : Bool) (f : ℕ) (k : PageType) → a ≡ true → (if not a then Nothing else if r then Bad else Typed f k) ≢ Bad →
    (if not a then Nothing else if r then Bad else Typed f k) ≡ Typed f k
high true false f k e n = refl
high true true f k e n = absurd (n refl)
high false r f k e n = absurd (cc)

-- a writable entry asks the type, another one does not
abbrev pub LeafAsks : Demand → Bool → ℕ → Type 0
LeafAsks d writable f = ((d ≡ Read f) × (writable ≡ false)) ⊎ (d ≡ Typed f kinds.Writable)

low : (a r b : Bool) (f : ℕ) → a ≡ true → (if not a then Nothing else if r then Bad else if not b then Read f else Typed f kinds.Writable) ≢ Bad →
    LeafAsks (if not a then Nothing else if r then Bad else if not b then Read f else Typed f kinds.Writable) b f
low true false true f e n = inr refl
low true false false f e n = inl (refl, refl)
low true true b f e n = absurd (n refl)
low false r b f e n = absurd (cc)

not_slot : (i : ℕ) → IsTrue (is_walked 4 i) → (nat_le 256 i && nat_lt i 272) ≡ false
not_slot i c = grind (arith, nat_tests)

pub walked_inside : (level i : ℕ) → IsTrue (is_walked level i) → i < 512
walked_inside level i w = grind (arith, nat_tests)

-- an entry of a table above level 1
pub asks_table : (k : PageType) (i w : ℕ) → 2 ≤ type_number k → type_number k ≤ 4 → IsTrue (is_walked (type_number k) i) → is_bit 0 w ≡ true →
    demand_at k i w ≢ Bad → (demand_at k i w ≡ Typed (frame_of w) (below k)) × (type_number (below k) + 1 ≡ type_number k) × (is_lowest k ≡ false)
unfolding demand_at demand_of
asks_table kinds.L2 i w lo hi c p n = (high (is_bit 0 w) _ (frame_of w) kinds.L1 p n, refl, refl)
asks_table kinds.L3 i w lo hi c p n = (high (is_bit 0 w) _ (frame_of w) kinds.L2 p n, refl, refl)
asks_table kinds.L4 i w lo hi c p n =
    let s = not_slot i c in
    let d : demand_at kinds.L4 i w ≡ demand_of kinds.L4 w = rw s in
    (d ∙ high (is_bit 0 w) _ (frame_of w) kinds.L3 p (λ e. n (d ∙ e)), refl, refl)
asks_table kinds.L1 i w lo hi c p n = absurd (omega arith)
asks_table kinds.None i w lo hi c p n = absurd (omega arith)
asks_table kinds.Desc i w lo hi c p n = absurd (omega arith)
asks_table kinds.Writable i w lo hi c p n = absurd (omega arith)

-- one of a table of level 1
pub asks_leaf : (k : PageType) (i w : ℕ) → type_number k ≡ 1 → is_bit 0 w ≡ true → demand_at k i w ≢ Bad →
    LeafAsks (demand_at k i w) (is_bit 1 w) (frame_of w)
unfolding demand_at demand_of
asks_leaf kinds.L1 i w e p n = low (is_bit 0 w) _ (is_bit 1 w) (frame_of w) p n
asks_leaf kinds.L2 i w e p n = absurd (omega arith)
asks_leaf kinds.L3 i w e p n = absurd (omega arith)
asks_leaf kinds.L4 i w e p n = absurd (omega arith)
asks_leaf kinds.None i w e p n = absurd (omega arith)
asks_leaf kinds.Desc i w e p n = absurd (omega arith)
asks_leaf kinds.Writable i w e p n = absurd (omega arith)
