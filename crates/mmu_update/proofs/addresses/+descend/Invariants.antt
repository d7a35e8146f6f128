use Rattle.mmu_update.proofs.addresses.+descend.Given as goal

abbrev pub decreases-descend : goal.decreases-descend
decreases-descend g l = l.level
