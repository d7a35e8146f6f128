use Rattle.vcpu_turn.proofs.TurnSteps.{turn_came}
use Rattle.turn_measures.proofs.Stamps.{asks_stay}
use Rattle.turn_measures.proofs.flushing.no_ask_is_past_the_clock.Goals as goal

pub returns : goal.returns
returns c e d end v w answers t alone most turn = asks_stay c.alone_stays.ensures t v alone most w (turn_came e d end v w answers turn)
