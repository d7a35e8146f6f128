use Rattle.std.proofs.Common.{[], ◌∷◌, subst}
use Rattle.level_validate.specs.Serving.{CarriesOn}
use Rattle.level_validate.proofs.Serving.{left_on}
use Rattle.level_validate.proofs.Unwound.{around_none, outer_lent}
use Rattle.level_validate.proofs.unwinding.leave_outermost.Goals as goal

pub returns-else-table-clause-hand : goal.returns-else-table-clause-hand
returns-else-table-clause-hand g c v s = outer_lent v (g.P.Port.value c.leave_lent.new.port) c.args.owner c.args.table c.args.kept c.if-table.false (c.leave_lent.ensures.stands c.args.owner [] v s)

pub returns-else-table-clause-serves : goal.returns-else-table-clause-serves
returns-else-table-clause-serves g c =
    let x = g.P.Port.value c.leave_lent.new.port in
    let goes = subst (λ us. CarriesOn (g.P.Port.value c.args.port.now) x c.args.owner (c.args.table ∷ []) us []) (around_none _) (c.leave_lent.ensures.serves c.args.owner []) in
    left_on _ _ _ _ _ (c.args.table ∷ []) [] [] goes
