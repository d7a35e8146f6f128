use Rattle.solo_accesses.proofs.Loading.{loads_come}
use Rattle.solo_accesses.proofs.walks.loads_lead_the_plain_way.Goals as goal

pub returns : goal.returns
returns c v w x va answer clean course = loads_come c.alone_stays.ensures v w x va clean answer course
