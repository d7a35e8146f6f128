use Rattle.std.proofs.Common.{rules, ap, ap₂, ◌≡◌, ◌∙◌}
use Rattle.std.proofs.lemmas.Result.{IfOk-weaker}
use Rattle.clap.specs.Words.{App, app_of, with_subcommand}
use Rattle.command_words.specs.Words.{command_word}
use Rattle.command_words.specs.Table.{generator, paced, program, reader, stepped}
use Rattle.command_words.specs.declared.asked.CommandName.TheVariants as names
use Rattle.command_words.proofs.reading.commands.Goals as goal

abbrev one : App
one = with_subcommand program (stepped (command_word names.Turns)).top

abbrev two : App
two = with_subcommand one (paced (command_word names.Replay)).top

abbrev three : App
three = with_subcommand two (paced (command_word names.Image)).top

abbrev four : App
four = with_subcommand three generator.top

abbrev five : App
five = with_subcommand four (reader (command_word names.Audit)).top

pub returns : goal.returns
returns c =
    let top_is : app_of c.subcommand_required.result ≡ program = search rules in
    let one_is : app_of c.in_ok-subcommand.field-0 ≡ one = c.in_ok-subcommand.ensures.shape c.in_ok-turns.ensures.local ∙ ap₂ with_subcommand top_is (ap (λ (a : App). a.top) c.in_ok-turns.ensures.app) in
    let two_is : app_of c.in_ok-subcommand-2.field-0 ≡ two = c.in_ok-subcommand-2.ensures.shape c.in_ok-replay.ensures.local ∙ ap₂ with_subcommand one_is (ap (λ (a : App). a.top) c.in_ok-replay.ensures.app) in
    let three_is : app_of c.in_ok-subcommand-3.field-0 ≡ three = c.in_ok-subcommand-3.ensures.shape c.in_ok-image.ensures.local ∙ ap₂ with_subcommand two_is (ap (λ (a : App). a.top) c.in_ok-image.ensures.app) in
    let four_is : app_of c.in_ok-subcommand-4.field-0 ≡ four = c.in_ok-subcommand-4.ensures.shape c.in_ok-generate.ensures.local ∙ ap₂ with_subcommand three_is (ap (λ (a : App). a.top) c.in_ok-generate.ensures.app) in
    let five_is : app_of c.in_ok-subcommand-5.field-0 ≡ five = c.in_ok-subcommand-5.ensures.shape c.in_ok-audit.ensures.local ∙ ap₂ with_subcommand four_is (ap (λ (a : App). a.top) c.in_ok-audit.ensures.app) in
    IfOk-weaker c.subcommand-6.result _ _ (λ r h. h.shape c.in_ok-draw.ensures.local ∙ ap₂ with_subcommand five_is (ap (λ (a : App). a.top) c.in_ok-draw.ensures.app)) c.subcommand-6.ensures
