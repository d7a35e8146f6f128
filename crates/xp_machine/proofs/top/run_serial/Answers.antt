use Rattle.std.proofs.Common.{rules, ◌≡◌, Some, map, refl, string_bytes, sym, ap, ◌∙◌}
use Rattle.command_words.specs.declared.asked.Asked.TheVariants.{Run}
use Rattle.command_words.specs.declared.asked.Manner.TheVariants.{Turns, Replay}
use Rattle.command_words.proofs.Within.{generated_within}
use Rattle.xp_machine.specs.Outcome.{serial_of}
use Rattle.xp_machine.proofs.Statuses.{memory_outcome, no_outcome, outcome_by, outcome_untold}
use Rattle.xp_machine.proofs.top.run_serial.Goals as goal

pub returns-in-Run-Turns-default-clause-outcome : goal.returns-in-Run-Turns-default-clause-outcome
returns-in-Run-Turns-default-clause-outcome g c =
    let manner : c.in-Run-Turns-default.manner ≡ Turns = search rules in
    let asked = sym c.in-Ok-Some.ensures.reads ∙ c.in-Ok-Some.field-0-is ∙ ap Some c.in-Run-Turns-default.is ∙ ap (λ m. Some (Run m c.in-Run-Turns-default.pace)) manner in
    outcome_by _ _ _ _ _ _ _ _ _ _ (ap serial_of asked) refl c.paced.ensures.paced c.run_with.ensures.outcome

pub returns-in-Run-Replay-default-clause-outcome : goal.returns-in-Run-Replay-default-clause-outcome
returns-in-Run-Replay-default-clause-outcome g c =
    let manner : c.in-Run-Replay-default.manner ≡ Replay = search rules in
    let asked = sym c.in-Ok-Some.ensures.reads ∙ c.in-Ok-Some.field-0-is ∙ ap Some c.in-Run-Replay-default.is ∙ ap (λ m. Some (Run m c.in-Run-Replay-default.pace)) manner in
    no_outcome _ _ _ _ _ (ap serial_of asked) (search rules) (search rules)

pub returns-in-Steps-clause-outcome : goal.returns-in-Steps-clause-outcome
returns-in-Steps-clause-outcome g c =
    let asked = sym c.in-Ok-Some.ensures.reads ∙ c.in-Ok-Some.field-0-is ∙ ap Some c.in-Steps.is in
    outcome_by _ _ _ _ _ _ _ _ _ _ (ap serial_of asked) refl c.paced-in-Steps.ensures.paced c.run_with-in-Steps.ensures.outcome

pub returns-in-Image-clause-outcome : goal.returns-in-Image-clause-outcome
returns-in-Image-clause-outcome g c =
    let asked = sym c.in-Ok-Some.ensures.reads ∙ c.in-Ok-Some.field-0-is ∙ ap Some c.in-Image.is in
    outcome_by _ _ _ _ _ _ _ _ _ _ (ap serial_of asked) refl c.paced-in-Image.ensures.paced c.run_with-in-Image.ensures.outcome

pub returns-in-Audit-clause-outcome : goal.returns-in-Audit-clause-outcome
returns-in-Audit-clause-outcome g c =
    let asked = sym c.in-Ok-Some.ensures.reads ∙ c.in-Ok-Some.field-0-is ∙ ap Some c.in-Audit.is in
    outcome_untold _ _ _ _ _ _ _ _ (ap serial_of asked) refl c.show_what_is_read.ensures.outcome

pub returns-in-Draw-clause-outcome : goal.returns-in-Draw-clause-outcome
returns-in-Draw-clause-outcome g c =
    let asked = sym c.in-Ok-Some.ensures.reads ∙ c.in-Ok-Some.field-0-is ∙ ap Some c.in-Draw.is in
    outcome_untold _ _ _ _ _ _ _ _ (ap serial_of asked) refl c.show_what_is_read-in-Draw.ensures.outcome

pub run_generated-requires-clause-least : goal.run_generated-requires-clause-least
run_generated-requires-clause-least g c = (generated_within (map string_bytes c.args.words.now) _ (sym c.in-Ok-Some.ensures.reads ∙ c.in-Ok-Some.field-0-is ∙ ap Some c.in-Generate.is)).0

pub run_generated-requires-clause-most : goal.run_generated-requires-clause-most
run_generated-requires-clause-most g c = (generated_within (map string_bytes c.args.words.now) _ (sym c.in-Ok-Some.ensures.reads ∙ c.in-Ok-Some.field-0-is ∙ ap Some c.in-Generate.is)).1

pub returns-in-Ok-None-clause-outcome : goal.returns-in-Ok-None-clause-outcome
returns-in-Ok-None-clause-outcome g c = no_outcome _ _ _ _ _ (ap serial_of (sym c.in-Ok-None.ensures.reads ∙ c.in-Ok-None.field-0-is)) (search rules) (search rules)

pub returns-in-Err-clause-outcome : goal.returns-in-Err-clause-outcome
returns-in-Err-clause-outcome g c = memory_outcome _ _ (g.S.Source.left c.args.source.now) _ (search rules) (search rules)
