-- The number in what `clap` found.
use Rattle.std.proofs.Common.{◌≡◌, ◌∙◌, ℕ, ◌<◌, ◌^◌, Bool, true, false, List, [], codes, inl, inr, Box, box_value, Option, Some, None, Result, Ok, Err, option_and_then, option_map, unwrap_or, sym, ap, subst}
use Rattle.std.specs.Str.Parse.{IsNumeral, ParsesUnsigned, digits_value}
use Rattle.clap.specs.Words.{ReadsOne, Row, Text, one_of, one_text, rows_of, subcommand_name_of, subcommand_rows_of}
use Rattle.clap.specs.declared.parser.matches.Found.{Found}
use Rattle.clap.proofs.WalkLemmas.{one_text-rows}
use Rattle.clap.specs.Simple.{subcommand_rows}
use Rattle.clap.specs.declared.parser.matches.ArgMatches.{ArgMatches}
use Rattle.clap.specs.declared.parser.matches.ArgMatches.TheViews.{out-ArgMatches, out-SubCommand}
use Rattle.clap.specs.declared.parser.matches.SubCommand.{SubCommand}
use Rattle.command_words.specs.Words.{argument_of, command_named, command_word}
use Rattle.command_words.specs.Table.{FoundText, SpellsFlag, SpellsNumber, flag_found, found_with, text_found}
use Rattle.command_words.specs.declared.asked.CommandName.{CommandName}
use Rattle.command_words.proofs.Knowing.{names_itself}
use Rattle.command_words.proofs.Spellings.{unsigned}

-- the name of the subcommand
is_named : (m : ArgMatches) (name : CommandName) (text : Text) → text_found name (subcommand_rows_of m) ≡ found_with name text
    → subcommand_name_of m ≡ Some (command_word name)
is_named m name text e = go (out-ArgMatches m).subcommand e
  where
    go : {Z : Type 0} (o : Option (Box SubCommand Z)) → text_found name (subcommand_rows o) ≡ found_with name text
        → option_map (λ b. (out-SubCommand (box_value b)).name.now) o ≡ Some (command_word name)
    go None e = absurd cc
    go (Some b) e = ap (option_map (λ (p : FoundText). p.0)) e

-- the command that the name of the subcommand names
pub command_found : (m : ArgMatches) (name : CommandName) (text word : Text) (found : Option CommandName) → text_found name (subcommand_rows_of m) ≡ found_with name text
    → Some word ≡ subcommand_name_of m → found ≡ command_named word → found ≡ Some name
command_found m name text word found e word_is by_word = by_word ∙ ap (option_and_then command_named) (word_is ∙ is_named m name text e) ∙ names_itself name

-- the text of the number in the rows of the subcommand
is_found : (o : Option (Text × List Row)) (rows : List Row) (name : CommandName) (argument text : Text) → argument_of name ≡ Some argument → option_map (λ p. p.1) o ≡ Some rows
    → text_found name o ≡ found_with name text → one_of argument rows ≡ Some text
is_found None rows name argument text at has e = absurd cc
is_found (Some p) rows name argument text at has e =
    let none : FoundText = ([], None) in
    let there = ap (λ (o : Option FoundText). (unwrap_or o none).1) e in
    sym (ap (λ (o : Option (List Row)). one_of argument (unwrap_or o [])) has) ∙ (rw at at there)

-- a text of digits is read as its number
text_read : (E : Type 0) (G : List ℕ → Result ℕ E → Type 0) (text : Text) (r : Option ℕ) → ReadsOne G text r
    → ((u : List ℕ) (x : Result ℕ E) → G u x → ParsesUnsigned 32 10 u x)
    → IsNumeral 10 text → digits_value 10 text < 2 ^ 32 → r ≡ Some (digits_value 10 text)
text_read E G text r read only digits small = go r read
  where
    go : (o : Option ℕ) → ReadsOne G text o → o ≡ Some (digits_value 10 text)
    go (Some v) h = ap Some ((only text (Ok v) h).1 ∙ ap (digits_value 10) (unsigned text digits))
    go None h = absurd (only text (Err h.0) h.1 (rw (unsigned text digits) (digits, small)))

-- the number in the matches of the subcommand
pub is_read : (E : Type 0) (G : List ℕ → Result ℕ E → Type 0) (o : Option (Text × List Row)) (f : Found) (name : CommandName) (argument text : Text) (number : ℕ) (r : Option ℕ)
    → argument_of name ≡ Some argument → option_map (λ p. p.1) o ≡ Some (rows_of f) → text_found name o ≡ found_with name text
    → ((t : Text) → one_text f argument ≡ Some t → ReadsOne G t r)
    → ((u : List ℕ) (x : Result ℕ E) → G u x → ParsesUnsigned 32 10 u x)
    → SpellsNumber (argument_of name) text number → r ≡ Some number
is_read E G o f name argument text number r at has e reads only spells =
    let spelled : SpellsNumber (Some argument) text number = subst (λ a. SpellsNumber a text number) at spells in
    text_read E G text r (reads text (one_text-rows f argument ∙ is_found o (rows_of f) name argument text at has e)) only spelled.0 (rw spelled.1 spelled.2) ∙ ap Some spelled.1

-- a command without a number
pub is_numberless : (name : CommandName) (text : Text) (number : ℕ) → argument_of name ≡ None → SpellsNumber (argument_of name) text number → number ≡ 0
is_numberless name text number at spells = subst (λ a. SpellsNumber a text number) at spells

-- the flag in the matches of the subcommand
pub flag_read : (o : Option (Text × List Row)) (f : Found) (steps r : Bool) → option_map (λ p. p.1) o ≡ Some (rows_of f)
    → (one_text f (codes "steps") ≡ None → r ≡ false) → (one_text f (codes "steps") ≡ Some (codes "true") → r ≡ true) → (one_text f (codes "steps") ≡ Some (codes "false") → r ≡ false)
    → SpellsFlag (flag_found o) steps → r ≡ steps
flag_read None f steps r has none given not_given spells = absurd cc
flag_read (Some p) f steps r has none given not_given spells = by steps spells
  where
    read : (t : Option Text) → one_of (codes "steps") p.1 ≡ t → one_text f (codes "steps") ≡ t
    read t e = one_text-rows f (codes "steps") ∙ ap (λ (rows : Option (List Row)). one_of (codes "steps") (unwrap_or rows [])) (sym has) ∙ e

    by : (b : Bool) → SpellsFlag (one_of (codes "steps") p.1) b → r ≡ b
    by true e = given (read _ e)
    by false (inl e) = none (read _ e)
    by false (inr e) = not_given (read _ e)
