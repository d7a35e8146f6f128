use Rattle.std.proofs.Common.{◌≡◌, ◌*◌, ◌≤◌, take}
use Rattle.report_text.specs.SummaryOf.{is_done, is_refused, lines_with}
use Rattle.report_text.proofs.counts.answers.Given as goal

abbrev pub invariant-loop-log : goal.invariant-loop-log
invariant-loop-log l =
    (l.all.done ≡ lines_with is_done (take l.log-index l.logs))
    × (l.all.refused ≡ lines_with is_refused (take l.log-index l.logs))
    × (l.all.done ≤ 18446744073709551615 * l.log-index)
    × (l.all.refused ≤ 18446744073709551615 * l.log-index)
