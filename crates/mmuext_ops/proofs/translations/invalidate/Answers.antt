use Rattle.mmuext_ops.proofs.Dropped.{page_serves}
use Rattle.mmuext_ops.proofs.translations.invalidate.Goals as goal

pub returns-clause-serves : goal.returns-clause-serves
returns-clause-serves g c = λ d. page_serves _ _ c.args.va d c.invlpg.ensures.serves
