use Rattle.mmuext_ops.specs.declared.element.Element.TheVariants.{FlushLocal, Invalidate}
use Rattle.vcpu_turn.proofs.ByAddress.{drops_as, local_performs, own_local, own_page, page_performs}
use Rattle.vcpu_turn.proofs.mappings.drop_own.Goals as goal

pub returns-in-1-clause-drops : goal.returns-in-1-clause-drops
returns-in-1-clause-drops g c =
    let e = c.flush_local.ensures in
    drops_as FlushLocal (own_local _ _ c.in-1.is) (local_performs _ c.flush_local.result e.serves e.stops e.kinds e.hand e.rests e.course)

pub returns-in-2-clause-drops : goal.returns-in-2-clause-drops
returns-in-2-clause-drops g c =
    let e = c.invalidate.ensures in
    drops_as (Invalidate _) (own_page _ _ c.in-2.is) (page_performs _ _ e.serves e.hand e.rests e.course)
