-- The words of a machine as a function of their names, and what one act makes of them.
use Rattle.std.specs.Prelude.{◌≡◌, ℕ, if◌then◌else◌}
use Rattle.xp_words.specs.declared.place.Place.{Place}
use Rattle.xp_board.specs.declared.step.Act.{Act}
use Rattle.xp_board.specs.Acts.{left_by}
use Rattle.xp_board.specs.Steps.{is_same}
use Rattle.xp_board.specs.Told.{PortValue, told_word}

abbrev pub Words : Type 0
Words = Place → ℕ

-- the words after that act there
abbrev pub change : Act → Place → Words → Words
change a p m q = if is_same q p then left_by a (m p) else m q

-- the board tells these words
abbrev pub Leaves : PortValue → Words → Type 0
Leaves w m = (q : Place) → told_word w q ≡ m q
