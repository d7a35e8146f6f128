-- The words of a line.
use Rattle.std.specs.Prelude.{ℕ, List, [], ◌∷◌, Option, Some, None, Result, Ok, Err, Bool, true, false, ◌==◌, codes, ◌≡◌, ◌++◌}
use Rattle.std.specs.List.{slice_split, All}
use Rattle.std.specs.Str.{bytes_eq}
use Rattle.trace_lines.specs.declared.fault.LineFault.{LineFault}
use Rattle.trace_lines.specs.Steps.{bad_line, ◌>>=◌}
use Rattle.trace_lines.specs.Numbers.{number_of}

-- the words of a line, with one space between two of them
abbrev pub words_of : List ℕ → List (List ℕ)
words_of line = slice_split (λ b. b == 32) line

-- the words of a text that has a space before each of them
abbrev pub spaced_words : List ℕ → List (List ℕ)
spaced_words [] = []
spaced_words (c ∷ cs) = words_of cs

abbrev pub ok_or_line : {A : Type 0} → Option A → Result A LineFault
ok_or_line None = Err bad_line
ok_or_line (Some x) = Ok x

-- the next word, and those behind it
unfoldable pub next_word : List (List ℕ) → Result (List ℕ × List (List ℕ)) LineFault
next_word [] = Err bad_line
next_word (w ∷ ws) = Ok (w, ws)

-- the number that the next word spells, and the words behind it
unfoldable pub next_number : List (List ℕ) → Result (ℕ × List (List ℕ)) LineFault
next_number ws = do
  word ← next_word ws
  n ← ok_or_line (number_of word.0)
  Ok (n, word.1)

abbrev pub is_nil : List (List ℕ) → Bool
is_nil [] = true
is_nil (w ∷ ws) = false

-- no word is left
unfoldable pub end_at : List (List ℕ) → Result (Unit {0}) LineFault
end_at [] = Ok tt
end_at (w ∷ ws) = Err bad_line

-- the word between two calls
abbrev pub is_separator : List ℕ → Bool
is_separator w = bytes_eq w (codes ";")

-- words that stand before the first separator of a list, and behind it
pub record IsSeparated (ws front behind : List (List ℕ)) : Type 0 where
  pub whole : ws ≡ front ++ codes ";" ∷ behind
  pub none : All (λ w. is_separator w ≡ false) front

-- what each of a list gives, or what is wrong with the first that gives nothing
unfoldable pub each : {A B : Type 0} → (A → Result B LineFault) → List A → Result (List B) LineFault
each f [] = Ok []
each f (x ∷ xs) = do
  y ← f x
  ys ← each f xs
  Ok (y ∷ ys)
