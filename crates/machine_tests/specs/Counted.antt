-- Counts of steps, by what each does to its word.
use Rattle.std.specs.Prelude.{ℕ, ◌+◌, ◌-◌, ◌^◌, min}
use Rattle.xp_board.specs.declared.step.Act.{Act}
use Rattle.xp_board.specs.declared.step.Act.TheVariants.{Load, Cas, Store, Add, Max}
use Rattle.machine_tests.specs.declared.counting.Counts.{Counts}

-- a count stands still at the end of its type
abbrev pub one_more_of : ℕ → ℕ
one_more_of n = min (n + 1) (2 ^ 32 - 1)

-- one more of the count that the act belongs to
abbrev pub counted_act : Act → Counts → Counts
counted_act Load c = record c { loads = one_more_of c.loads }
counted_act (Cas _ _) c = record c { exchanges = one_more_of c.exchanges }
counted_act (Store _) c = record c { stores = one_more_of c.stores }
counted_act (Add _) c = record c { sums = one_more_of c.sums }
counted_act (Max _) c = record c { sums = one_more_of c.sums }
