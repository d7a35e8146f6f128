use Rattle.walk_audit.proofs.lines.VerdictDisplay.fmt.Goals as goal

pub returns-in-Pages-clause-writes : goal.returns-in-Pages-clause-writes
returns-in-Pages-clause-writes g c plain ok = rw c.in-Pages.is (rw (c.in-Pages.domain-is, c.in-Pages.want-is, c.in-Pages.found-is) at c.write-in-Pages.ensures.writes plain ok)
