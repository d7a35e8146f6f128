use Rattle.thread_tests.proofs.Passing.{two_idle, two_opened}
use Rattle.thread_tests.proofs.two.two_passes.Goals as goal

pub returns-clause-opened : goal.returns-clause-opened
returns-clause-opened c = two_opened _ _ _ _ _ _ c.requires.count c.requires.opened c.in_ok-second.ensures.items c.in_ok-first.ensures.items

pub returns-clause-idle : goal.returns-clause-idle
returns-clause-idle c =
    two_idle _ _ _ c.requires.two (two_opened _ _ _ _ _ _ c.requires.count c.requires.opened c.in_ok-second.ensures.items c.in_ok-first.ensures.items)
