-- What an act leaves of the word that it finds.
use Rattle.std.specs.Prelude.{ℕ, ◌+◌, ◌%◌, ◌^◌, ◌==◌, max, if◌then◌else◌}
use Rattle.xp_board.specs.declared.step.Act.{Act}
use Rattle.xp_board.specs.declared.step.Act.TheVariants.{Load, Cas, Store, Add, Max}

unfoldable pub left_by : Act → ℕ → ℕ
left_by Load w = w
left_by (Cas expected new) w = if w == expected then new else w
left_by (Store new) w = new
left_by (Add by) w = (w + by) % 2 ^ 64
left_by (Max value) w = max w value
