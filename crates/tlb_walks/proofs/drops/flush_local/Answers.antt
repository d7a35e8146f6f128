use Rattle.flush_words.proofs.Flushed.{own_came, own_does}
use Rattle.step_maker.proofs.Visiting.{does_as}
use Rattle.tlb_walks.proofs.Flushes.{local_hand, local_serves, local_stops}
use Rattle.tlb_walks.proofs.drops.flush_local.Goals as goal

pub returns-clause-came : goal.returns-clause-came
returns-clause-came g c = own_came _ _ c.flush_own.result c.flush_own.ensures.flushes

pub returns-clause-serves : goal.returns-clause-serves
returns-clause-serves g c = local_serves _ _ c.flush_own.result c.flush_own.ensures.flushes

pub returns-clause-stops : goal.returns-clause-stops
returns-clause-stops g c = local_stops _ _ c.flush_own.result c.flush_own.ensures.flushes

pub returns-clause-course : goal.returns-clause-course
returns-clause-course g c = does_as _ _ _ _ (λ vs z. z) (own_does _ _ c.flush_own.result c.flush_own.ensures.flushes)

pub returns-clause-hand : goal.returns-clause-hand
returns-clause-hand g c = local_hand _ _ c.flush_own.result c.flush_own.ensures.flushes c.flush_own.ensures.hand
