-- A machine with its words.
use Rattle.std.specs.Prelude.{◌≡◌, ℕ, List, length}
use Rattle.xp_words.specs.Machine.{Machine}
use Rattle.xp_words.specs.declared.place.Place.{Place}
use Rattle.xp_words.specs.Places.{sizes_of, size, memory}

pub record Memory : Type 0 where
  pub machine : Machine
  pub words : List ℕ

-- as many words as the machine has
abbrev pub IsWhole : Memory → Type 0
IsWhole m = length m.words ≡ size (sizes_of m.machine)

-- the word by name
unfoldable pub word : Memory → Place → ℕ
word m p = memory (sizes_of m.machine) m.words p
