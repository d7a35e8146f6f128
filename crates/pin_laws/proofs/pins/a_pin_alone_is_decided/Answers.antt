use Rattle.pin_laws.proofs.Pinning.{pin_decided}
use Rattle.pin_laws.proofs.pins.a_pin_alone_is_decided.Goals as goal

pub returns : goal.returns
returns c v w d f level answers answer alone one course none goes = pin_decided c.alone_stays.ensures v w d f level alone one goes c.an_acquisition_alone_is_decided.ensures.one answers answer course none
