use Rattle.thread_tests.proofs.Passing.{two_are, two_closed}
use Rattle.thread_tests.proofs.two.both.Goals as goal

pub returns : goal.returns
returns g c =
    two_closed _ _ _ _ _ _ (two_are _ _ _ _ _ c.in_ok-passes.ensures.items c.push_reserved.ensures.items c.push_reserved-2.ensures.items) c.close.ensures
