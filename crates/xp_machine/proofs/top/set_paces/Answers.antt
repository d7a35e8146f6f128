use Rattle.std.proofs.Common.{refl, arith}
use Rattle.xp_machine.proofs.Pacing.{one_more_paced, paced_all}
use Rattle.xp_machine.proofs.top.set_paces.Goals as goal

pub gates-init : goal.gates-init
gates-init g c = refl

pub gates-preserved : goal.gates-preserved
gates-preserved g c = one_more_paced _ c.args.every c.gates.gate-index c.args.gates.now c.gates.gates c.gate-item.result c.set_pace.new.gate c.gates.auto.gates c.gates-test.true c.gates.invariant c.set_pace.ensures

pub returns : goal.returns
returns g c = paced_all _ c.args.every c.gates.gate-index c.args.gates.now c.gates.gates (omega (arith, c.gates.auto.gate-index-end, c.gates-test.false)) c.gates.invariant
