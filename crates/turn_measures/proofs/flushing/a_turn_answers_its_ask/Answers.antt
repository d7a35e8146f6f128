use Rattle.vcpu_turn.proofs.TurnSteps.{turn_came}
use Rattle.turn_measures.proofs.Heeding.{acks_flush, acks_tick}
use Rattle.turn_measures.proofs.PausedForFlush.{acked_came}
use Rattle.turn_measures.proofs.flushing.a_turn_answers_its_ask.Goals as goal

pub returns-clause-clock : goal.returns-clause-clock
returns-clause-clock c e d end v w answers alone behind goes t =
    acks_tick v t.begins.acked alone t.begins.acks goes w (acked_came e d end v w answers t) (c.alone_stays.ensures v w alone (turn_came e d end v w answers t)) behind

pub returns-clause-flushed : goal.returns-clause-flushed
returns-clause-flushed c e d end v w answers alone most goes t =
    acks_flush v t.begins.acked alone t.begins.acks goes w (acked_came e d end v w answers t) (c.alone_stays.ensures v w alone (turn_came e d end v w answers t)) most
