use Rattle.solo_accesses.proofs.Writing.{write_fresh, write_served}
use Rattle.solo_accesses.proofs.accesses.a_write_comes_to_its_plain_meaning.Goals as goal

pub returns-clause-never_stale : goal.returns-clause-never_stale
returns-clause-never_stale c v w x user va val answer clean fresh course = write_served c.alone_stays.ensures v w x clean user va val answer (write_fresh v w user va val answer fresh course) course

pub returns-clause-served : goal.returns-clause-served
returns-clause-served c v w x user va val answer clean fresh course = write_served c.alone_stays.ensures v w x clean user va val answer fresh course
