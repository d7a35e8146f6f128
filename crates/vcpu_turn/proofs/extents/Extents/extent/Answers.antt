use Rattle.std.proofs.Common.{arith}
use Rattle.vcpu_turn.proofs.OnExtents.{populates}
use Rattle.vcpu_turn.proofs.extents.Extents.extent.Goals as goal

pub returns-in_default : goal.returns-in_default
returns-in_default c =
    let list = c.args.self.now in
    populates list.command list.order list.items.now c.args.index c.requires.checked c.requires.index (λ e. omega (arith, e)) (λ e. omega (arith, e))
