-- The bytes of a text that is to be written.
use Rattle.std.specs.Prelude.{ℕ, List}
use Rattle.xp_machine.specs.declared.due.Text.{Text}
use Rattle.xp_machine.specs.declared.due.Text.TheVariants.{Bytes, Image}

abbrev pub bytes_of : Text → List ℕ
bytes_of (Bytes v) = v.items
bytes_of (Image i) = i
