use Rattle.std.proofs.Common.{◌≡◌, ◌++◌, string_bytes}
use Rattle.report_text.specs.ReportOf.{domain_lines}
use Rattle.report_text.proofs.whole.put_domains.Given as goal

abbrev pub invariant-loop-domain : goal.invariant-loop-domain
invariant-loop-domain l =
    string_bytes l.out
    ≡ string_bytes l.initial.out ++ domain_lines l.machine l.domain
