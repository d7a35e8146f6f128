-- What is done in order: the second part goes on where the first one ended.
use Rattle.std.specs.Prelude.{◌≡◌, ℕ, List, [], ◌∷◌, ◌++◌}
use Rattle.script_law.specs.Scripts.{and_then, element, in_order}
use Rattle.script_law.specs.Values.{Solo, Outcome}

-- A list of two parts is the first one, and behind it the second, unless the first is refused; and a list of one element is that one.
pub record IsInOrder {E : Type 0} (one : ℕ → E → Solo → Outcome) : Type 0 where
  pub parts : (es more : List E) (k : ℕ) (s : Solo) → in_order one (es ++ more) k s ≡ and_then (in_order one es k s) (in_order one more)
  pub single : (e : E) (k : ℕ) (s : Solo) → in_order one (e ∷ []) k s ≡ element k (one k e s)
