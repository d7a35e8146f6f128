use Rattle.std.proofs.Common.{arith}
use Rattle.partial_state.proofs.WeightSums.{no_table, some_at, table_at, weight_most}
use Rattle.partial_state.proofs.stack.weight_of.Goals as goal

pub table_weight-sum-requires : goal.table_weight-sum-requires
table_weight-sum-requires c = table_at c.args.tables.now _ c.loop-table.table-index c.requires.tables c.loop-table-test.true

pub overflow_add-sum : goal.overflow_add-sum
overflow_add-sum c =
    let here = some_at c.args.tables.now no_table c.loop-table.table-index c.loop-table-test.true in
    let most = weight_most c.args.tables.now c.requires.tables in
    let few = c.requires.few in
    omega (arith, here, most, few, c.loop-table.invariant, c.table_weight-sum.ensures)
