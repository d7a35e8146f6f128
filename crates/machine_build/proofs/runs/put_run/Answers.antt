use Rattle.std.proofs.Common.{refl}
use Rattle.machine_build.proofs.CellRuns.{run_written}
use Rattle.machine_build.proofs.runs.put_run.Goals as goal

pub returns-clause-words : goal.returns-clause-words
returns-clause-words c = run_written _ c.args.run c.args.words.now _ _ _ c.requires.inside.frame c.requires.inside.inside refl refl c.fill.ensures.filled
