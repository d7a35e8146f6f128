-- What is left of an acquisition that was given back: other types of dead frames, and nothing else.
use Rattle.std.specs.Prelude.{◌≡◌, ◌⊎◌, ℕ, ◌<◌, true, Some}
use Rattle.xp_words.specs.declared.kind.KindWord.{KindWord}
use Rattle.xp_words.specs.Machine.{Machine}
use Rattle.xp_board.specs.Readings.{is_dead}
use Rattle.table_law.specs.Plain.{Plain, Share}

-- the same word; or both are dead
abbrev pub IsSameButType : KindWord → KindWord → Type 0
IsSameButType k l = (l ≡ k) ⊎ ((is_dead k ≡ true) × (is_dead l ≡ true))

-- the frames as they were, but that dead ones may have another type
pub record IsSameButTypes (p q : Plain) : Type 0 where
  pub shares : (g : ℕ) → q.shares g ≡ p.shares g
  pub kinds : (g : ℕ) → IsSameButType (p.kinds g) (q.kinds g)
  pub cells : (g i : ℕ) → q.cells g i ≡ p.cells g i

-- each live frame has a type count, and each owned one a reference
pub record CountsSome (n : Machine) (p : Plain) : Type 0 where
  pub types : (g : ℕ) → g < n.frames → (p.kinds g).validated ≡ true → 0 < (p.kinds g).number
  pub refs : (g : ℕ) (s : Share) → g < n.frames → p.shares g ≡ Some s → 0 < s.count
