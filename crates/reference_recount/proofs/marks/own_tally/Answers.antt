use Rattle.std.proofs.Common.{arith}
use Rattle.xp_board.specs.Recorded.{marks}
use Rattle.xp_board.proofs.Sums.{bit_most}
use Rattle.reference_recount.proofs.KindForms.{marks_few}
use Rattle.reference_recount.proofs.marks.own_tally.Goals as goal

pub overflow_add-result : goal.overflow_add-result
unfolding marks
overflow_add-result c =
    let a = bit_most c.is_allocated.result in
    let b = marks_few c.kind_of-kind.result in
    omega arith
