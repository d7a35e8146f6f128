use Rattle.flush_words.proofs.RowSteps.{may_stop, stop_hand}
use Rattle.flush_words.proofs.turns.stop_vcpu.Goals as goal

pub make-requires : goal.make-requires
make-requires g c = may_stop (g.P.Port.value c.args.port.now) _ c.vcpu-vcpu.ensures.vcpu c.vcpu-vcpu.ensures.real c.requires.empty c.requires.landed

pub returns-clause-hand : goal.returns-clause-hand
returns-clause-hand g c = stop_hand _ _ _ _ c.vcpu-vcpu.ensures.vcpu c.make.ensures
