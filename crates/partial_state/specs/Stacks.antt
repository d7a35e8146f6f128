-- The tables in work, the innermost first.
use Rattle.std.specs.Prelude.{◌≡◌, ℕ, ◌+◌, ◌-◌, ◌≤◌, List, [], ◌∷◌}
use Rattle.partial_state.specs.declared.stack.TableWork.{TableWork}

pub record IsTable (t : TableWork) : Type 0 where
  pub low : 1 ≤ t.level
  pub high : t.level ≤ 4
  pub done : t.done ≤ 512

-- one level below the innermost of those, if there are any
abbrev pub IsUnder : TableWork → List TableWork → Type 0
IsUnder t [] = Unit {0}
IsUnder t (u ∷ us) = t.level + 1 ≡ u.level

-- each is one level below the one around it: so they are at most four
abbrev pub IsStack : List TableWork → Type 0
IsStack [] = Unit {0}
IsStack (t ∷ ts) = IsTable t × IsUnder t ts × IsStack ts

-- whatever their order
abbrev pub AreTables : List TableWork → Type 0
AreTables [] = Unit {0}
AreTables (t ∷ ts) = IsTable t × AreTables ts

-- ---- the innermost
-- one more of its entries is done with
abbrev pub advanced : List TableWork → List TableWork
advanced [] = []
advanced (t ∷ ts) = record t { done = t.done + 1 } ∷ ts

-- one fewer is
abbrev pub retreated : List TableWork → List TableWork
retreated [] = []
retreated (t ∷ ts) = record t { done = t.done - 1 } ∷ ts

-- how many are; none without a table
abbrev pub done_on_top : List TableWork → ℕ
done_on_top [] = 0
done_on_top (t ∷ ts) = t.done

-- how many are left
abbrev pub left_on_top : List TableWork → ℕ
left_on_top [] = 0
left_on_top (t ∷ ts) = 512 - t.done
