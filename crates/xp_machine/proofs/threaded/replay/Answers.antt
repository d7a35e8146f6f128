use Rattle.std.proofs.Common.{◌≡◌, ◌∙◌, sym, ap, map}
use Rattle.xp_words.specs.Machine.{Machine}
use Rattle.xp_words.specs.Places.{size, sizes_of}
use Rattle.report_text.specs.ReportOf.{report_of}
use Rattle.vcpu_runners.specs.Turns.{pending_of}
use Rattle.xp_machine.specs.Ran.{log_of}
use Rattle.xp_machine.specs.Replay.{ReplayedTrace}
use Rattle.xp_machine.proofs.Reaching.{if_ok}
use Rattle.xp_machine.proofs.threaded.replay.Goals as goal

pub report_with-requires-clause-words : goal.report_with-requires-clause-words
report_with-requires-clause-words g c = c.in_ok-words.ensures.words ∙ ap (λ (n : Machine). size (sizes_of n)) (sym c.copy-layout.ensures)

pub report_with-requires-clause-each : goal.report_with-requires-clause-each
report_with-requires-clause-each g c = c.in_ok-words.ensures.cpus.0 ∙ ap (λ (n : Machine). (sizes_of n).vcpus) (sym c.copy-layout.ensures)

pub report_with-requires-clause-short : goal.report_with-requires-clause-short
report_with-requires-clause-short g c = c.in_ok-words.ensures.cpus.1

pub returns : goal.returns
returns g c =
    let words = c.in_ok-words.words in
    let cpus = map (λ s. s.cpu) c.in_ok-words.runners.items in
    if_ok c.report_with.result (λ v. v.items ≡ report_of c.copy-layout.result words (map log_of cpus) (map pending_of cpus)) (λ v. ReplayedTrace c.args.trace _ v.items)
    (λ v is. record { words = words; left = _; cpus = cpus; ran = c.in_ok-words.ensures.ran; report = is ∙ ap (λ (n : Machine). report_of n words (map log_of cpus) (map pending_of cpus)) c.copy-layout.ensures })
    c.report_with.ensures
