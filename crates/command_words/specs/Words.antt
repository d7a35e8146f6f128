-- What the words of the command line ask for.
use Rattle.std.specs.Prelude.{ℕ, nat_le, ◌==◌, ◌&&◌, ◌||◌, not, Bool, true, false, if◌then◌else◌, List, [], ◌∷◌, take, drop, Option, Some, None, option_and_then, option_map, codes}
use Rattle.std.specs.Option.{option_or}
use Rattle.std.specs.List.{list_all}
use Rattle.std.specs.Str.{bytes_eq}
use Rattle.trace_lines.specs.Numbers.{is_digit, numeral}
use Rattle.command_words.specs.declared.asked.Asked.{Asked}
use Rattle.command_words.specs.declared.asked.Asked.TheVariants as asks
use Rattle.command_words.specs.declared.asked.CommandName.{CommandName}
use Rattle.command_words.specs.declared.asked.CommandName.TheVariants as names
use Rattle.command_words.specs.declared.asked.Manner.TheVariants as manners

abbrev pub within : ℕ → ℕ → Option ℕ → Option ℕ
within least most None = None
within least most (Some n) = if nat_le least n && nat_le n most then Some n else None

-- the number that a word spells, in decimal without a leading zero, where it is one of these
abbrev pub number_within : ℕ → ℕ → List ℕ → Option ℕ
number_within least most word = within least most (numeral 10 word)

-- a pace is at most a million
abbrev pub pace_in : List ℕ → Option ℕ
pace_in = number_within 0 1000000

-- a generated trace has from 1 to 60000 operations
abbrev pub operations_in : List ℕ → Option ℕ
operations_in = number_within 1 60000

-- `--preempt=N`
abbrev pub pace_behind : List ℕ → Option ℕ
pace_behind word = if bytes_eq (take 10 word) (codes "--preempt=") then pace_in (drop 10 word) else None

-- the words behind `turns`, `replay` or `image`: 0 where there are none, N where they are `--preempt N` or `--preempt=N`, and no pace where they are others
abbrev pub pace_after : List (List ℕ) → Option ℕ
pace_after [] = Some 0
pace_after (o ∷ []) = pace_behind o
pace_after (o ∷ p ∷ []) = if bytes_eq o (codes "--preempt") then pace_in p else None
pace_after (o ∷ p ∷ x ∷ xs) = None

abbrev pub is_steps : List ℕ → Bool
is_steps word = bytes_eq word (codes "--steps")

-- the same of words with `--steps`, once, before the others or behind them; no pace where they are without it
abbrev pub pace_with_steps : List (List ℕ) → Option ℕ
pace_with_steps [] = None
pace_with_steps (o ∷ []) = if is_steps o then Some 0 else None
pace_with_steps (o ∷ p ∷ []) = if is_steps o then pace_after (p ∷ []) else if is_steps p then pace_after (o ∷ []) else None
pace_with_steps (o ∷ p ∷ q ∷ []) = if is_steps o then pace_after (p ∷ q ∷ []) else if is_steps q then pace_after (o ∷ p ∷ []) else None
pace_with_steps (o ∷ p ∷ q ∷ x ∷ xs) = None

-- the words behind `generate`: one that spells how many operations
abbrev pub operations_after : List (List ℕ) → Option ℕ
operations_after [] = None
operations_after (n ∷ []) = operations_in n
operations_after (n ∷ x ∷ xs) = None

-- the path of a file: at least one byte, and the first is no `-`
abbrev pub is_path : List ℕ → Bool
is_path [] = false
is_path (c ∷ cs) = not (c == 45)

-- the words behind `audit` or `draw`: none, or the path of a file
abbrev pub names_source : List (List ℕ) → Bool
names_source [] = true
names_source (path ∷ []) = is_path path
names_source (path ∷ x ∷ xs) = false

-- the word of a command
abbrev pub command_word : CommandName → List ℕ
command_word names.Turns = codes "turns"
command_word names.Replay = codes "replay"
command_word names.Image = codes "image"
command_word names.Generate = codes "generate"
command_word names.Audit = codes "audit"
command_word names.Draw = codes "draw"

abbrev pub command_named : List ℕ → Option CommandName
command_named word = if bytes_eq word (command_word names.Turns) then Some names.Turns
    else if bytes_eq word (command_word names.Replay) then Some names.Replay
    else if bytes_eq word (command_word names.Image) then Some names.Image
    else if bytes_eq word (command_word names.Generate) then Some names.Generate
    else if bytes_eq word (command_word names.Audit) then Some names.Audit
    else if bytes_eq word (command_word names.Draw) then Some names.Draw else None

-- the argument of a command that is its number
abbrev pub argument_of : CommandName → Option (List ℕ)
argument_of names.Turns = Some (codes "preempt")
argument_of names.Replay = Some (codes "preempt")
argument_of names.Image = Some (codes "preempt")
argument_of names.Generate = Some (codes "operations")
argument_of names.Audit = None
argument_of names.Draw = None

-- what a command with its number asks for, with the steps or without
abbrev pub asked_as : CommandName → Bool → ℕ → Asked
asked_as names.Turns steps pace = if steps then asks.Steps pace else asks.Run manners.Turns pace
asked_as names.Replay steps pace = asks.Run manners.Replay pace
asked_as names.Image steps pace = asks.Image pace
asked_as names.Generate steps n = asks.Generate n
asked_as names.Audit steps n = asks.Audit
asked_as names.Draw steps n = asks.Draw

-- the number that the words behind a command give, where they may stand there: 0 where it has no number
abbrev pub number_after : CommandName → List (List ℕ) → Option ℕ
number_after names.Turns rest = pace_after rest
number_after names.Replay rest = pace_after rest
number_after names.Image rest = pace_after rest
number_after names.Generate rest = operations_after rest
number_after names.Audit rest = if names_source rest then Some 0 else None
number_after names.Draw rest = if names_source rest then Some 0 else None

-- the same of words with `--steps`, which `turns` alone may have
abbrev pub number_with_steps : CommandName → List (List ℕ) → Option ℕ
number_with_steps names.Turns rest = pace_with_steps rest
number_with_steps names.Replay rest = None
number_with_steps names.Image rest = None
number_with_steps names.Generate rest = None
number_with_steps names.Audit rest = None
number_with_steps names.Draw rest = None

-- what the words behind a command ask for
abbrev pub asked_after : CommandName → List (List ℕ) → Option Asked
asked_after name rest = option_or (option_map (asked_as name false) (number_after name rest)) (option_map (asked_as name true) (number_with_steps name rest))

-- What the words ask for: the first names the command, and those behind it give its number, and whether the steps are asked for.
abbrev pub words_ask : List (List ℕ) → Option Asked
words_ask [] = None
words_ask (word ∷ rest) = option_and_then (λ name. asked_after name rest) (command_named word)

-- a command that reads an image
abbrev pub reads_image : List ℕ → Bool
reads_image word = bytes_eq word (command_word names.Audit) || bytes_eq word (command_word names.Draw)

-- the path in words that ask for an audit or a picture of a file
abbrev pub path_in : List (List ℕ) → Option (List ℕ)
path_in (word ∷ path ∷ []) = if reads_image word && is_path path then Some path else None
path_in _ = None

-- digits alone
abbrev pub has_digits : List ℕ → Bool
has_digits = list_all (is_digit 10)
