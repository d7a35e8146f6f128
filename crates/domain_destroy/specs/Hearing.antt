-- What a gate answers where it is asked only behind something that was passed.
use Rattle.std.specs.Prelude.{Bool, true, false, List, ◌∷◌}

-- the gate is asked only where something was passed; it said no
abbrev pub heard_no : Bool → List Bool → List Bool
heard_no true answers = false ∷ answers
heard_no false answers = answers
