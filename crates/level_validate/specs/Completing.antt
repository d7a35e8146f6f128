-- Tables of which all entries are recorded.
use Rattle.std.specs.Prelude.{◌≡◌, List, [], ◌∷◌}
use Rattle.partial_state.specs.declared.stack.TableWork.{TableWork}

-- all entries of the innermost table are recorded, which is not the only one
abbrev pub IsInnerFull : List TableWork → Type 0
IsInnerFull [] = ⊥
IsInnerFull (t ∷ []) = ⊥
IsInnerFull (t ∷ u ∷ us) = t.done ≡ 512
