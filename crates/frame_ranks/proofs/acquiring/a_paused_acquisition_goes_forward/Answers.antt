use Rattle.frame_ranks.proofs.Pausing.{gets_further, goes_forward}
use Rattle.frame_ranks.proofs.acquiring.a_paused_acquisition_goes_forward.Goals as goal

pub returns-clause-forward : goal.returns-clause-forward
returns-clause-forward c v w f owner level answers x alone alive acquired = goes_forward c.alone_stays.ensures v w f owner level answers alone alive x acquired

pub returns-clause-further : goal.returns-clause-further
returns-clause-further c v w f owner level answers alone alive acquired = gets_further c.alone_stays.ensures v w f owner level answers alone alive acquired
