use Rattle.std.proofs.Common.{subst}
use Rattle.level_validate.proofs.Unwound.{Unwinding, unwinding_begins, unwinding_done, unwinding_on}
use Rattle.level_validate.proofs.unwinding.unwind.Goals as goal

pub loop-table-init : goal.loop-table-init
loop-table-init g c = unwinding_begins _ _ _ _

pub loop-table-preserved : goal.loop-table-preserved
loop-table-preserved g c =
    let w = g.P.Port.value c.loop-table.port in
    unwinding_on (subst (λ us. Unwinding (g.P.Port.value c.args.port.now) w c.args.owner c.args.kept c.args.stack.now us) c.in-Some.ensures.some c.loop-table.invariant)
    (g.P.Port.value c.leave_table.new.port) c.leave_table.new.stack c.leave_table.ensures.came c.leave_table.ensures.around c.leave_table.ensures.hand c.leave_table.ensures.serves c.leave_table.ensures.course

pub returns : goal.returns
returns g c = unwinding_done c.in_default.ensures.none.0 c.loop-table.invariant
