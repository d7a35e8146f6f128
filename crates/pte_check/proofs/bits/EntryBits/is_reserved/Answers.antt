use Rattle.std.proofs.Common.{◌∙◌}
use Rattle.pte_check.proofs.Masks.{meets_lowest, meets_above, not_lowest}
use Rattle.pte_check.proofs.bits.EntryBits.is_reserved.Goals as goal

pub returns-in-L1 : goal.returns-in-L1
returns-in-L1 c = rw c.in-L1.is (c.intersects.ensures tt ∙ meets_lowest c.args.self.0)

pub returns-in_default : goal.returns-in_default
returns-in_default c = rw (not_lowest c.args.table c.in_default.not-L1) (c.intersects-in_default.ensures tt ∙ meets_above c.args.self.0)
