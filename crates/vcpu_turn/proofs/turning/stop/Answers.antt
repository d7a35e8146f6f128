use Rattle.vcpu_turn.proofs.Between.{of_stopped}
use Rattle.vcpu_turn.proofs.turning.stop.Goals as goal

pub returns-then-not-cpu-clause-of : goal.returns-then-not-cpu-clause-of
returns-then-not-cpu-clause-of g c = of_stopped _ _ _ _ c.requires.of c.retire.ensures.post c.retire.ensures.stop c.retire.ensures.idles
