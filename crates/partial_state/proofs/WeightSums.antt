-- The weight of tables, whatever their order.
use Rattle.std.proofs.Common.{◌≡◌, ℕ, zero, suc, ◌+◌, ◌-◌, ◌*◌, ◌<◌, ◌≤◌, List, [], ◌∷◌, length, drop, reverse, slice_index_or, false, arith}
use mathlib.Core.List.{reverse_aux}
use Rattle.std.proofs.Math.Nat.{mul-le-mul_right}
use Rattle.partial_state.specs.declared.stack.TableWork.{TableWork}
use Rattle.partial_state.specs.Stacks.{AreTables, IsStack, IsTable}
use Rattle.partial_state.specs.Weights.{entry_weight, table_weight, weight}

entry_most : (l : ℕ) → l ≤ 4 → entry_weight l ≤ 135796744
entry_most zero b = omega arith
entry_most (suc zero) b = omega arith
entry_most (suc (suc zero)) b = omega arith
entry_most (suc (suc (suc zero))) b = omega arith
entry_most (suc (suc (suc (suc l)))) b = omega arith

-- no table weighs more than a whole one of the highest level
table_most : (t : TableWork) → IsTable t → table_weight t ≤ 69527932929
table_most t is =
    let e = entry_most t.level is.high in
    let h : 512 - t.done ≤ 512 = omega arith in
    let m = mul-le-mul_right (entry_weight t.level) h in
    omega arith

pub weight_most : (ts : List TableWork) → AreTables ts → weight ts ≤ length ts * 69527932929
weight_most [] are = omega arith
weight_most (t ∷ ts) are =
    let one = table_most t are.0 in
    let rest = weight_most ts are.1 in
    omega (arith, one, rest)

abbrev pub no_table : TableWork
no_table = record { frame = 0; level = 0; done = 0; own = false; recorded = false }

-- the tables at a place, and those behind it
pub table_at : (ts : List TableWork) (d : TableWork) (i : ℕ) → AreTables ts → i < length ts → IsTable (slice_index_or ts i d)
table_at [] d i are b = absurd (omega arith)
table_at (t ∷ ts) d zero are b = are.0
table_at (t ∷ ts) d (suc i) are b = table_at ts d i are.1 (omega arith)

pub some_at : (ts : List TableWork) (d : TableWork) (i : ℕ) → i < length ts → table_weight (slice_index_or ts i d) ≤ weight (drop i ts)
some_at [] d i b = absurd (omega arith)
some_at (t ∷ ts) d zero b = omega arith
some_at (t ∷ ts) d (suc i) b = some_at ts d i (omega arith)

-- ---- in the order of a stack, or from its outermost table on
turned_weighs : (ts us : List TableWork) → weight (reverse_aux ts us) ≡ weight ts + weight us
turned_weighs [] us = omega arith
turned_weighs (t ∷ ts) us = let e = turned_weighs ts (t ∷ us) in omega (arith, e)

pub reversed_weighs : (ts : List TableWork) → weight (reverse ts) ≡ weight ts
reversed_weighs ts = let e = turned_weighs ts [] in omega (arith, e)

stack_tables : (ts : List TableWork) → IsStack ts → AreTables ts
stack_tables [] is = tt
stack_tables (t ∷ ts) is = (is.0, stack_tables ts is.2)

turned_tables : (ts us : List TableWork) → AreTables (reverse_aux ts us) → AreTables ts × AreTables us
turned_tables [] us are = (tt, are)
turned_tables (t ∷ ts) us are = let r = turned_tables ts (t ∷ us) are in ((r.1.0, r.0), r.1.1)

pub items_tables : (ts : List TableWork) → IsStack (reverse ts) → AreTables ts
items_tables ts is = (turned_tables ts [] (stack_tables (reverse ts) is)).0
