use Rattle.solo_accesses.proofs.Touching.{walk_barred, walk_comes}
use Rattle.solo_accesses.proofs.walks.a_walk_goes_the_plain_way.Goals as goal

pub returns-clause-walks : goal.returns-clause-walks
returns-clause-walks c v w x user va write answer clean free course = walk_comes c.alone_stays.ensures v w x clean user va write answer free course

pub returns-clause-barred : goal.returns-clause-barred
returns-clause-barred c v w x user va write y answer clean why course = walk_barred c.alone_stays.ensures v w x clean user va write y answer why course
