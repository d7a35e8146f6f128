use Rattle.std.proofs.Common.{◌≡◌, ◌∙◌, map}
use Rattle.std.proofs.lemmas.List.{length-map}
use Rattle.report_text.specs.ReportOf.{report_of}
use Rattle.vcpu_runners.specs.Turns.{pending_of}
use Rattle.xp_machine.specs.Ran.{log_of}
use Rattle.xp_machine.proofs.Reaching.{if_ok}
use Rattle.xp_machine.proofs.execute.report_with.Goals as goal

pub report-requires-clause-logs : goal.report-requires-clause-logs
report-requires-clause-logs g c = rw (c.deref.ensures.value, c.in_ok-logs.ensures.0, length-map, length-map) c.requires.each

pub report-requires-clause-pending : goal.report-requires-clause-pending
report-requires-clause-pending g c = rw (c.deref-2.ensures.value, c.in_ok-logs.ensures.1, length-map, length-map) c.requires.each

pub returns : goal.returns
returns g c =
    let logs = c.deref.ensures.value ∙ c.in_ok-logs.ensures.0 in
    let pending = c.deref-2.ensures.value ∙ c.in_ok-logs.ensures.1 in
    if_ok c.report.result (λ v. v.items ≡ report_of c.args.layout.now c.args.words.now c.deref.result.now c.deref-2.result.now)
    (λ v. v.items ≡ report_of c.args.layout.now c.args.words.now (map log_of (map (λ s. s.cpu) c.args.runners.items)) (map pending_of (map (λ s. s.cpu) c.args.runners.items)))
    (λ v is. is ∙ (λ i. report_of c.args.layout.now c.args.words.now (logs i) (pending i)))
    c.report.ensures
