-- Gates as the clause of `run` sees them.
use Rattle.std.specs.Prelude.{◌≡◌, ℕ, List, [], ◌∷◌, Option, Some, None}
use Rattle.std.specs.declared.alloc.Global.{Global}
use Rattle.std.specs.declared.dyn_box.DynBox.{DynBox}
use Rattle.xp_preempt.specs.Gates.{Gate, IsPaced}

-- what a box tells, by what the value in it tells
abbrev pub in_box : {V : Type 0} {G : V → Type 0} → ((x : V) × G x → Gate) → DynBox V Global G → Gate
in_box gate b = gate (b.vtable, b.value)

abbrev pub ArePaced : ℕ → List Gate → List Gate → Type 0
ArePaced every [] [] = Unit {0}
ArePaced every (g ∷ gs) (h ∷ hs) = IsPaced every g h × ArePaced every gs hs
ArePaced every _ _ = ⊥

-- the gates after the words were read: where these ask for no run, as they were
abbrev pub SetBy : Option ℕ → List Gate → List Gate → Type 0
SetBy None before after = after ≡ before
SetBy (Some every) before after = ArePaced every before after
