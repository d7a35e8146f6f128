-- The commands as `clap` is told of them.
use Rattle.std.specs.Prelude.{◌≡◌, ℕ, ◌<◌, ◌^◌, ◌⊎◌, Bool, true, false, List, [], ◌∷◌, Option, Some, None, codes, option_and_then, option_map, pos}
use Rattle.std.specs.Str.Parse.{IsNumeral, digits_value}
use Rattle.clap.specs.Words.{App, Row, Rule, Text, new_app, new_rule, one_of, with_rule, with_subcommand}
use Rattle.clap.specs.Simple.{on_top}
use Rattle.clap.specs.declared.builder.value_parser.ValueParser.TheVariants.{Signed}
use Rattle.clap.specs.declared.builder.action.ArgAction.TheVariants.{SetTrue}
use Rattle.command_words.specs.Words.{argument_of, command_word}
use Rattle.command_words.specs.declared.asked.CommandName.{CommandName}
use Rattle.command_words.specs.declared.asked.CommandName.TheVariants as names

-- `--preempt N`, with N up to a million
abbrev pub preempt : Rule
preempt = record (new_rule (codes "preempt")) {
  long = Some (codes "preempt");
  defaults = codes "0" ∷ [];
  parser = Some (Signed (pos 0) (pos 1000000));
}

-- a command that may have that option
abbrev pub paced : Text → App
paced name = with_rule (new_app name) preempt

-- `--steps`
abbrev pub steps_flag : Rule
steps_flag = record (new_rule (codes "steps")) { long = Some (codes "steps"); action = Some SetTrue }

-- a command that may have both
abbrev pub stepped : Text → App
stepped name = with_rule (paced name) steps_flag

-- `N` by its place, from 1 to 60000
abbrev pub operations : Rule
operations = record (new_rule (codes "operations")) {
  parser = Some (Signed (pos 1) (pos 60000));
  required = true;
}

-- the command that has to have it
abbrev pub generator : App
generator = with_rule (new_app (codes "generate")) operations

-- a command that may have a path by its place
abbrev pub reader : Text → App
reader name = with_rule (new_app name) (new_rule (codes "path"))

-- the program, with no word of its name before the command
abbrev pub program : App
program = on_top (λ s. record s {
  no_binary_name = true;
  disable_help_flag = true;
  disable_help_subcommand = true;
  subcommand_required = true;
}) (new_app (codes "ptmac"))

abbrev pub table : App
table = with_subcommand (with_subcommand (with_subcommand (with_subcommand (with_subcommand (with_subcommand program
    (stepped (command_word names.Turns)).top) (paced (command_word names.Replay)).top) (paced (command_word names.Image)).top)
    generator.top) (reader (command_word names.Audit)).top) (reader (command_word names.Draw)).top

-- a command that was found, with the text of its number, where it has one
abbrev pub FoundText : Type 0
FoundText = Text × Option Text

abbrev pub text_found : CommandName → Option (Text × List Row) → Option FoundText
text_found name = option_map {U = FoundText} (λ p. (p.0, option_and_then (λ argument. one_of argument p.1) (argument_of name)))

-- this command was found, with this text of its number
abbrev pub found_with : CommandName → Text → Option FoundText
found_with name text = Some (command_word name, option_map (λ _. text) (argument_of name))

-- a command with this argument is asked with this number: the text spells it, and 0 where there is no argument
abbrev pub SpellsNumber : Option Text → Text → ℕ → Type 0
SpellsNumber None text n = n ≡ 0
SpellsNumber (Some argument) text n = IsNumeral 10 text × (digits_value 10 text ≡ n) × (n < 2 ^ 32)

-- what was found of the flag
abbrev pub flag_found : Option (Text × List Row) → Option Text
flag_found = option_and_then {U = Text} (λ p. one_of (codes "steps") p.1)

-- it was given, or not
abbrev pub SpellsFlag : Option Text → Bool → Type 0
SpellsFlag found true = found ≡ Some (codes "true")
SpellsFlag found false = (found ≡ None) ⊎ (found ≡ Some (codes "false"))
