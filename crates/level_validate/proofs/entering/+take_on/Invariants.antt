use Rattle.level_validate.proofs.entering.+take_on.Given as goal

abbrev pub decreases-take_on : goal.decreases-take_on
decreases-take_on g l = l.top.level
