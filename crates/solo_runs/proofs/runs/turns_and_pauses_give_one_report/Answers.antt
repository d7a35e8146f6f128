use Rattle.solo_runs.proofs.Reporting.{one_report}
use Rattle.solo_runs.proofs.runs.turns_and_pauses_give_one_report.Goals as goal

pub returns : goal.returns
returns c t us gates others script closed other last ends run again fair same = one_report t us gates others script closed other last ends run again (c.turns_and_pauses_do_not_matter.ensures t us gates others script closed other last ends run again fair same)
