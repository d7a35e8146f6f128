use Rattle.std.proofs.Common.{rules, Some, map, refl, string_bytes, sym, ap, ◌∙◌}
use Rattle.command_words.specs.declared.asked.Asked.TheVariants.{Run}
use Rattle.command_words.proofs.Within.{generated_within}
use Rattle.xp_machine.proofs.Statuses.{memory_outcome, no_outcome, outcome_by, outcome_untold}
use Rattle.xp_machine.proofs.top.run.Goals as goal

pub returns-in-Turns-clause-outcome : goal.returns-in-Turns-clause-outcome
returns-in-Turns-clause-outcome g c =
    let asked = sym c.in-Ok-Some-Run.ensures.reads ∙ c.in-Ok-Some-Run.field-0-is ∙ ap Some c.in-Ok-Some-Run.field-0-0-is ∙ ap (λ m. Some (Run m c.in-Ok-Some-Run.pace)) c.in-Turns.is in
    outcome_by _ _ _ _ _ _ _ _ _ _ asked refl c.paced-gates.ensures.paced c.run_with.ensures.outcome

pub returns-in-Replay-clause-outcome : goal.returns-in-Replay-clause-outcome
returns-in-Replay-clause-outcome g c =
    let asked = sym c.in-Ok-Some-Run.ensures.reads ∙ c.in-Ok-Some-Run.field-0-is ∙ ap Some c.in-Ok-Some-Run.field-0-0-is ∙ ap (λ m. Some (Run m c.in-Ok-Some-Run.pace)) c.in-Replay.is in
    outcome_by _ _ _ _ _ _ _ _ _ _ asked refl c.paced-gates.ensures.paced c.run_with-in-Replay.ensures.outcome

pub returns-in-Ok-Some-Steps-clause-outcome : goal.returns-in-Ok-Some-Steps-clause-outcome
returns-in-Ok-Some-Steps-clause-outcome g c =
    let asked = sym c.in-Ok-Some-Steps.ensures.reads ∙ c.in-Ok-Some-Steps.field-0-is ∙ ap Some c.in-Ok-Some-Steps.field-0-0-is in
    outcome_by _ _ _ _ _ _ _ _ _ _ asked refl c.paced.ensures.paced c.run_with-in-Ok-Some-Steps.ensures.outcome

pub returns-in-Ok-Some-Image-clause-outcome : goal.returns-in-Ok-Some-Image-clause-outcome
returns-in-Ok-Some-Image-clause-outcome g c =
    let asked = sym c.in-Ok-Some-Image.ensures.reads ∙ c.in-Ok-Some-Image.field-0-is ∙ ap Some c.in-Ok-Some-Image.field-0-0-is in
    outcome_by _ _ _ _ _ _ _ _ _ _ asked refl c.paced-in-Ok-Some-Image.ensures.paced c.run_with-in-Ok-Some-Image.ensures.outcome

pub returns-in-Ok-Some-Audit-clause-outcome : goal.returns-in-Ok-Some-Audit-clause-outcome
returns-in-Ok-Some-Audit-clause-outcome g c =
    let asked = sym c.in-Ok-Some-Audit.ensures.reads ∙ c.in-Ok-Some-Audit.field-0-is ∙ ap Some c.in-Ok-Some-Audit.field-0-0-is in
    outcome_untold _ _ _ _ _ _ _ _ asked refl c.show_what_is_read.ensures.outcome

pub returns-in-Ok-Some-Draw-clause-outcome : goal.returns-in-Ok-Some-Draw-clause-outcome
returns-in-Ok-Some-Draw-clause-outcome g c =
    let asked = sym c.in-Ok-Some-Draw.ensures.reads ∙ c.in-Ok-Some-Draw.field-0-is ∙ ap Some c.in-Ok-Some-Draw.field-0-0-is in
    outcome_untold _ _ _ _ _ _ _ _ asked refl c.show_what_is_read-in-Ok-Some-Draw.ensures.outcome

pub run_generated-requires-clause-least : goal.run_generated-requires-clause-least
run_generated-requires-clause-least g c =
    (generated_within (map string_bytes c.args.words.now) _ (sym c.in-Ok-Some-Generate.ensures.reads ∙ c.in-Ok-Some-Generate.field-0-is ∙ ap Some c.in-Ok-Some-Generate.field-0-0-is)).0

pub run_generated-requires-clause-most : goal.run_generated-requires-clause-most
run_generated-requires-clause-most g c =
    (generated_within (map string_bytes c.args.words.now) _ (sym c.in-Ok-Some-Generate.ensures.reads ∙ c.in-Ok-Some-Generate.field-0-is ∙ ap Some c.in-Ok-Some-Generate.field-0-0-is)).1

pub returns-in-Ok-None-clause-outcome : goal.returns-in-Ok-None-clause-outcome
returns-in-Ok-None-clause-outcome g c = no_outcome _ _ _ _ _ (sym c.in-Ok-None.ensures.reads ∙ c.in-Ok-None.field-0-is) (search rules) (search rules)

pub returns-in-Err-clause-outcome : goal.returns-in-Err-clause-outcome
returns-in-Err-clause-outcome g c = memory_outcome _ _ (g.S.Source.left c.args.source.now) _ (search rules) (search rules)
