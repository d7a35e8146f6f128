use Rattle.xp_board.specs.Readings.{domain_of}
use Rattle.pin_laws.proofs.Pinning.{done_where_lawful}
use Rattle.pin_laws.proofs.pins.a_pin_is_done_exactly_where_its_tree_is_lawful.Goals as goal

pub returns : goal.returns
returns c v w f level answers answer alone one calm low high free course none goes =
    done_where_lawful c.alone_stays.ensures v w (domain_of v.post.machine v.post.vcpu) f level alone one goes c.an_acquisition_is_had_exactly_where_lawful.ensures.one calm low high free answers answer course none
