use Rattle.solo_accesses.proofs.Reading.{read_fresh, read_served}
use Rattle.solo_accesses.proofs.accesses.a_read_comes_to_its_plain_meaning.Goals as goal

pub returns-clause-never_stale : goal.returns-clause-never_stale
returns-clause-never_stale c v w x user va answer clean fresh course = read_served c.alone_stays.ensures v w x clean user va answer (read_fresh v w user va answer fresh course) course

pub returns-clause-served : goal.returns-clause-served
returns-clause-served c v w x user va answer clean fresh course = read_served c.alone_stays.ensures v w x clean user va answer fresh course
