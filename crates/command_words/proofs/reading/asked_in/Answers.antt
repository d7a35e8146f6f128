use Rattle.std.proofs.Common.{rules, ◌≡◌, ◌∙◌, Some, None, option_map, sym, ap}
use Rattle.std.specs.Str.Parse.{ParsesUnsigned, ExplainsUnsignedError, HasUnsignedDigitsIfOk}
use Rattle.clap.specs.Words.{found_of, subcommand_rows_of}
use Rattle.command_words.specs.Words.{argument_of, asked_as}
use Rattle.command_words.proofs.Found.{command_found, flag_read, is_read}
use Rattle.command_words.proofs.reading.asked_in.Goals as goal

pub returns-in_err-number-in-Some : goal.returns-in_err-number-in-Some
returns-in_err-number-in-Some c name text steps number e flags spells =
    let found : c.named.result ≡ Some name = command_found c.args.matches.now name text c.in_ok-word.word.now c.named.result e (search rules) c.named.ensures in
    let named : c.named.result ≡ Some c.in_ok-name.name = search rules in
    let same : c.in_ok-name.name ≡ name = cc in
    let at = ap argument_of (sym same) ∙ sym c.argument.ensures ∙ ap (option_map (λ s. s.now)) c.in-Some.is in
    let read = is_read _ (λ bs r. ParsesUnsigned 32 10 bs r × ExplainsUnsignedError 10 bs r × HasUnsignedDigitsIfOk bs r) (subcommand_rows_of c.args.matches.now) (found_of c.in_ok-word.found.now) name c.in-Some.argument.now text number c.get_one.result at (search rules) e c.get_one.ensures.value (λ u x g. g.0) spells in
    let given : c.get_one.result ≡ None = search rules in
    absurd (let bad = sym given ∙ read in cc)

pub returns-in_ok-number-in-Some : goal.returns-in_ok-number-in-Some
returns-in_ok-number-in-Some c name text steps number e flags spells =
    let found : c.named.result ≡ Some name = command_found c.args.matches.now name text c.in_ok-word.word.now c.named.result e (search rules) c.named.ensures in
    let named : c.named.result ≡ Some c.in_ok-name.name = search rules in
    let same : c.in_ok-name.name ≡ name = cc in
    let at = ap argument_of (sym same) ∙ sym c.argument.ensures ∙ ap (option_map (λ s. s.now)) c.in-Some.is in
    let read = is_read _ (λ bs r. ParsesUnsigned 32 10 bs r × ExplainsUnsignedError 10 bs r × HasUnsignedDigitsIfOk bs r) (subcommand_rows_of c.args.matches.now) (found_of c.in_ok-word.found.now) name c.in-Some.argument.now text number c.get_one.result at (search rules) e c.get_one.ensures.value (λ u x g. g.0) spells in
    let given : c.get_one.result ≡ Some c.in_ok-number-in-Some.number = search rules in
    let number_is : c.in_ok-number-in-Some.number ≡ number = cc in
    let flag : c.get_flag-steps.result ≡ steps = flag_read (subcommand_rows_of c.args.matches.now) (found_of c.in_ok-word.found.now) steps c.get_flag-steps.result (search rules) c.get_flag-steps.ensures.none c.get_flag-steps.ensures.value c.get_flag-steps.ensures.other flags in
    ap Some (c.asked.ensures ∙ (λ i. asked_as (same i) (flag i) (number_is i)))
