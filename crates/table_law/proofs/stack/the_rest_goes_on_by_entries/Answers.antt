use Rattle.table_law.proofs.Steps.{alone_opened, rest_met, rest_stopped, rest_opened, rest_full}
use Rattle.table_law.proofs.stack.the_rest_goes_on_by_entries.Goals as goal

pub returns-clause-begins : goal.returns-clause-begins
returns-clause-begins c n owner l f p q took dead = alone_opened n owner l f p q took dead

pub returns-clause-met : goal.returns-clause-met
returns-clause-met c n owner f l k xs p q e = rest_met n owner f l k xs p q e

pub returns-clause-stopped : goal.returns-clause-stopped
returns-clause-stopped c n owner f l k xs p q cause e = rest_stopped n owner f l k xs p q cause e

pub returns-clause-opened : goal.returns-clause-opened
returns-clause-opened c n owner f l k g t xs p q asks took dead = rest_opened n owner f l k g t xs p q asks took dead

pub returns-clause-full : goal.returns-clause-full
returns-clause-full c n owner f l xs p = rest_full n owner f l xs p
