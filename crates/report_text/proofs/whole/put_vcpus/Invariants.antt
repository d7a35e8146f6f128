use Rattle.std.proofs.Common.{◌≡◌, ◌++◌, string_bytes}
use Rattle.report_text.specs.ReportOf.{vcpu_texts}
use Rattle.report_text.proofs.whole.put_vcpus.Given as goal

abbrev pub invariant-loop-vcpu : goal.invariant-loop-vcpu
invariant-loop-vcpu l =
    string_bytes l.out
    ≡ string_bytes l.initial.out
    ++ vcpu_texts l.machine l.logs l.pending l.vcpu
