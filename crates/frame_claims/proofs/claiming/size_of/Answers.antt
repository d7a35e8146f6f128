use Rattle.std.proofs.Common.{subst, sym}
use Rattle.frame_claims.specs.Blocks.{IsBlockSize}
use Rattle.frame_claims.proofs.Sizes.{block_size, shifted}
use Rattle.frame_claims.proofs.claiming.size_of.Goals as goal

pub returns-clause-power : goal.returns-clause-power
returns-clause-power c = shifted c.args.order c.requires.order

pub returns-clause-size : goal.returns-clause-size
returns-clause-size c = subst IsBlockSize (sym (shifted c.args.order c.requires.order)) (block_size c.args.order c.requires.order)
