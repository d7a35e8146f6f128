use Rattle.std.proofs.Common.{rules, ◌≡◌, ◌∙◌, ◌&&◌, true, false, sym}
use Rattle.trace_lines.specs.Numbers.{is_proper as is_proper_lem}
use Rattle.command_words.specs.Words.{has_digits as has_digits_lem}
use Rattle.command_words.proofs.Spellings.{parsed, spells_none}
use Rattle.command_words.proofs.known.number_in.Goals as goal

pub returns-then-is_plain : goal.returns-then-is_plain
returns-then-is_plain c =
    let proper : is_proper_lem c.args.word.now ≡ true = search rules in
    let digits : has_digits_lem c.args.word.now ≡ true = search rules in
    c.ok.ensures.value ∙ parsed c.args.word.now c.parse.result proper digits c.parse.ensures.value.0

pub returns-else-is_plain : goal.returns-else-is_plain
returns-else-is_plain c =
    let none : (is_proper_lem c.args.word.now && has_digits_lem c.args.word.now) ≡ false = search rules in
    sym (spells_none c.args.word.now none)
