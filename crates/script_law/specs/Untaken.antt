-- What a refusal leaves: nothing is taken, and dead frames may have another type.
use Rattle.std.specs.Prelude.{◌≡◌, Option, Some, None}
use Rattle.xp_words.specs.Machine.{Machine}
use Rattle.table_law.specs.Undone.{CountsSome, IsSameButTypes}
use Rattle.script_law.specs.Values.{Solo, Outcome, Why}

pub record IsUntaken (s t : Solo) : Type 0 where
  pub frames : IsSameButTypes s.frames t.frames
  pub maps : t.maps ≡ s.maps
  pub own : t.own ≡ s.own
  pub privileges : t.privileges ≡ s.privileges
  pub lives : t.lives ≡ s.lives

-- Where each live frame has a type count and each owned one a reference, an element that is refused takes nothing.
abbrev pub TakesNothingRefused : Machine → (Solo → Outcome) → Type 0
TakesNothingRefused n one = (s : Solo) (y : Why) → CountsSome n s.frames → (one s).refusal ≡ Some y → IsUntaken s (one s).left
