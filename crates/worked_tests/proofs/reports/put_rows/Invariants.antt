use Rattle.std.proofs.Common.{◌≡◌, length}
use Rattle.worked_tests.proofs.reports.put_rows.Given as goal

abbrev pub invariant-loop-place : goal.invariant-loop-place
invariant-loop-place l = length l.words ≡ length l.initial.words
