use Rattle.solo_pages.proofs.Given.{alone_stays_whole, memory_given, memory_taken}
use Rattle.solo_pages.proofs.frames.memory_is_taken_and_given_back.Goals as goal

pub returns-clause-taken : goal.returns-clause-taken
returns-clause-taken c = memory_taken

pub returns-clause-given : goal.returns-clause-given
returns-clause-given c = memory_given

pub returns-clause-whole : goal.returns-clause-whole
returns-clause-whole c = alone_stays_whole
