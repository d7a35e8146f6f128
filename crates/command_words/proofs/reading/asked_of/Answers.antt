use Rattle.std.proofs.Common.{rules, ◌≡◌, ◌∙◌, map, string_bytes, sym, ap, subst}
use Rattle.clap.specs.Words.{App, app_of, is_simple, kind_of, subcommand_of, subcommand_rows_of, takes}
use Rattle.clap.specs.declared.error.kind.ErrorKind.TheVariants.{OutOfMemory}
use Rattle.command_words.specs.Table.{SpellsFlag, flag_found, found_with, table, text_found}
use Rattle.command_words.proofs.Knowing.{known}
use Rattle.command_words.proofs.Lists.{is_plain}
use Rattle.command_words.proofs.reading.asked_of.Goals as goal

pub returns-in-Ok-clause-reads : goal.returns-in-Ok-clause-reads
returns-in-Ok-clause-reads c =
    let words = map string_bytes c.args.words.now in
    let k = known words (search rules) in
    let told : app_of c.in_ok-commands.field-0 ≡ table = c.in_ok-commands.ensures in
    let rows = c.in-Ok.ensures.matches (ap is_simple told ∙ is_plain) in
    let found : text_found k.name (subcommand_rows_of c.in-Ok.matches) ≡ found_with k.name k.text =
    ap (text_found k.name) (rows.1 ∙ ap (λ (a : App). subcommand_of a words) told) ∙ k.reads.found in
    let flag : SpellsFlag (flag_found (subcommand_rows_of c.in-Ok.matches)) k.steps =
    subst (λ o. SpellsFlag (flag_found o) k.steps) (sym (rows.1 ∙ ap (λ (a : App). subcommand_of a words) told)) k.reads.flag in
    c.asked_in.ensures k.name k.text k.steps k.number found flag k.spells ∙ sym k.is

pub returns-in-Err-2-clause-reads : goal.returns-in-Err-2-clause-reads
returns-in-Err-2-clause-reads c =
    let words = map string_bytes c.args.words.now in
    let k = known words (search rules) in
    let told : app_of c.in_ok-commands.field-0 ≡ table = c.in_ok-commands.ensures in
    let short : kind_of c.in-Err.error ≡ OutOfMemory = c.in-Err.ensures.passes (ap (λ (a : App). takes a words) told ∙ k.reads.taken) in
    let is : c.kind.result ≡ OutOfMemory = c.kind.ensures ∙ short in
    absurd (let bad = rw is at c.if-eq.ensures in cc)
