use Rattle.std.proofs.Common.{◌≡◌, ℕ, ◌<◌, ◌||◌, false, length, slice_index_or}
use Rattle.machine_draw.specs.Named.{tables_name}
use Rattle.machine_draw.proofs.named.mark_tables.Given as goal

abbrev pub invariant-loop-table : goal.invariant-loop-table
invariant-loop-table l =
    (f : ℕ) → f < length l.initial.named → slice_index_or l.named f false ≡ (slice_index_or l.initial.named f false || tables_name l.image l.table f)
