-- What lowers the weight of the tables in work.
use Rattle.std.proofs.Common.{◌≡◌, ℕ, zero, suc, ◌+◌, ◌-◌, ◌*◌, ◌<◌, ◌≤◌, List, [], ◌∷◌, ap, subst, ◌∙◌, arith}
use Rattle.std.proofs.Math.Nat.{mul-le-mul_right}
use Rattle.partial_state.specs.declared.stack.TableWork.{TableWork}
use Rattle.partial_state.specs.Stacks.{IsStack, IsTable, IsUnder, advanced, left_on_top}
use Rattle.partial_state.specs.Weights.{entry_weight, weight}

-- an entry weighs something, and more than a table that it may name
some_weight : (l : ℕ) → 1 ≤ l → 0 < entry_weight l
some_weight zero b = absurd (omega arith)
some_weight (suc zero) b = omega arith
some_weight (suc (suc zero)) b = omega arith
some_weight (suc (suc (suc zero))) b = omega arith
some_weight (suc (suc (suc (suc l)))) b = omega arith

below_less : (l : ℕ) → 1 ≤ l → l < 4 → 1 + 512 * entry_weight l < entry_weight (l + 1)
below_less zero b c = absurd (omega arith)
below_less (suc zero) b c = omega arith
below_less (suc (suc zero)) b c = omega arith
below_less (suc (suc (suc zero))) b c = omega arith
below_less (suc (suc (suc (suc l)))) b c = absurd (omega arith)

-- and no less than such a table and one of its entries
below_fills : (l : ℕ) → 1 ≤ l → l < 4 → 1 + 512 * entry_weight l + entry_weight l ≤ entry_weight (l + 1)
below_fills zero b c = absurd (omega arith)
below_fills (suc zero) b c = omega arith
below_fills (suc (suc zero)) b c = omega arith
below_fills (suc (suc (suc zero))) b c = omega arith
below_fills (suc (suc (suc (suc l)))) b c = absurd (omega arith)

one_less : (d w : ℕ) → 0 < 512 - d → (512 - d) * w ≡ (512 - (d + 1)) * w + w
one_less d w b =
    let k = 512 - (d + 1) in
    let s : 512 - d ≡ k + 1 = omega arith in
    let r : (k + 1) * w ≡ k * w + w = omega arith in
    ap (λ n. n * w) s ∙ r

pub most : (d w : ℕ) → (512 - d) * w ≤ 512 * w
most d w = let h : 512 - d ≤ 512 = omega arith in mul-le-mul_right w h

-- an entry is done with that opens no table
pub done_lowers : (s : List TableWork) → IsStack s → 0 < left_on_top s → weight (advanced s) < weight s
done_lowers [] is b = absurd (omega arith)
done_lowers (t ∷ ts) is b =
    let e = one_less t.done (entry_weight t.level) b in
    let w = some_weight t.level is.0.low in
    omega arith

-- or one that opens a table
pub opened_lowers : (u : TableWork) (s : List TableWork) → IsStack s → 0 < left_on_top s → IsTable u → IsUnder u (advanced s) → weight (u ∷ advanced s) < weight s
opened_lowers u [] is b table under = absurd (omega arith)
opened_lowers u (t ∷ ts) is b table under =
    let e = one_less t.done (entry_weight t.level) b in
    let high = is.0.high in
    let under_four : u.level < 4 = omega arith in
    let w = subst (λ l. 1 + 512 * entry_weight u.level < entry_weight l) under (below_less u.level table.low under_four) in
    let m = most u.done (entry_weight u.level) in
    omega arith

-- a table that is gone into, and one of its entries, weigh no more than an entry of the table around it
pub inner_fills : (u t : TableWork) (ts : List TableWork) → IsStack (u ∷ t ∷ ts) → weight (u ∷ t ∷ ts) + entry_weight u.level ≤ weight (t ∷ ts) + entry_weight t.level
inner_fills u t ts is =
    let high = is.2.0.high in
    let under = is.1 in
    let under_four : u.level < 4 = omega arith in
    let w = subst (λ l. 1 + 512 * entry_weight u.level + entry_weight u.level ≤ entry_weight l) under (below_fills u.level is.0.low under_four) in
    let m = most u.done (entry_weight u.level) in
    omega arith

-- a table weighs less by an entry that is done with
pub advanced_gives : (t : TableWork) (ts : List TableWork) → 0 < 512 - t.done → weight (advanced (t ∷ ts)) + entry_weight t.level ≡ weight (t ∷ ts)
advanced_gives t ts b = let e = one_less t.done (entry_weight t.level) b in omega arith

-- the innermost table is left
pub popped_lowers : (t : TableWork) (ts : List TableWork) → weight ts < weight (t ∷ ts)
popped_lowers t ts = omega arith
