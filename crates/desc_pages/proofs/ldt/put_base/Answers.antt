use Rattle.desc_pages.proofs.Unnaming.{base_hand, base_moves, may_put_base}
use Rattle.desc_pages.proofs.ldt.put_base.Goals as goal

pub make-requires : goal.make-requires
make-requires g c = may_put_base (g.P.Port.value c.args.port.now) _ _ c.args.base c.vcpu-vcpu.ensures.vcpu c.vcpu-vcpu.ensures.real c.write-new.ensures c.requires.base c.requires.may

pub returns-clause-moves : goal.returns-clause-moves
returns-clause-moves g c = base_moves (g.P.Port.value c.args.port.now) (g.P.Port.value c.make.new.port) _ _ c.make.result c.args.base c.vcpu-vcpu.ensures.vcpu c.write-new.ensures c.make.ensures

pub returns-clause-hand : goal.returns-clause-hand
returns-clause-hand g c =
    let v = g.P.Port.value c.args.port.now in
    base_hand v (g.P.Port.value c.make.new.port) _ c.make.result (base_moves v (g.P.Port.value c.make.new.port) _ _ c.make.result c.args.base c.vcpu-vcpu.ensures.vcpu c.write-new.ensures c.make.ensures)
