-- How much is left to do at most for the tables in work: what makes a loop over them end.
use Rattle.std.specs.Prelude.{ℕ, zero, suc, ◌+◌, ◌-◌, ◌*◌, List, [], ◌∷◌}
use Rattle.partial_state.specs.declared.stack.TableWork.{TableWork}

-- For an entry of a table of that level: 514 times that of the level below, as the entry may name a table with 512 of those.
abbrev pub entry_weight : ℕ → ℕ
entry_weight zero = 0
entry_weight (suc zero) = 1
entry_weight (suc (suc zero)) = 514
entry_weight (suc (suc (suc zero))) = 264196
entry_weight (suc (suc (suc (suc l)))) = 135796744

-- for a table: the entries that are left, and to go out of it
abbrev pub table_weight : TableWork → ℕ
table_weight t = 1 + (512 - t.done) * entry_weight t.level

abbrev pub weight : List TableWork → ℕ
weight [] = 0
weight (t ∷ ts) = table_weight t + weight ts
