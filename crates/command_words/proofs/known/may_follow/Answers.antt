use Rattle.std.proofs.Common.{rules, ◌≡◌, ◌∙◌, false, is_some, map, string_bytes, sym, ap}
use Rattle.command_words.specs.Words.{asked_after, pace_after}
use Rattle.command_words.proofs.Knowing.{steps_else}
use Rattle.command_words.proofs.known.may_follow.Goals as goal

pub returns-else-has_pace : goal.returns-else-has_pace
returns-else-has_pace c =
    let words = map string_bytes c.args.words.now in
    let none : is_some (pace_after words) ≡ false = search rules in
    c.has_steps.ensures ∙ sym (steps_else words none) ∙ ap (λ name. is_some (asked_after name words)) (sym c.in-Turns.is)
