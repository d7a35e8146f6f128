-- The vCPUs of a machine before their first turn.
use Rattle.std.specs.Prelude.{ℕ, ◌^◌, ◌<◌, All, List, length, map}
use Rattle.std.specs.List.{enumerate_from}
use Rattle.xp_words.specs.Machine.{Machine}
use Rattle.xp_words.specs.declared.ops.Op.{Op}
use Rattle.xp_board.specs.Readings.{domain_of}
use Rattle.vcpu_turn.specs.Cpus.{Processing, fresh}

abbrev pub first_cpu : Machine → ℕ × List Op → Processing
first_cpu n p = fresh n.frames p.0 (domain_of n p.0) p.1

-- the vCPUs of a machine with these scripts before their first turn
unfoldable pub first_cpus : Machine → List (List Op) → List Processing
first_cpus n scripts = map (first_cpu n) (enumerate_from 0 scripts)

-- a script whose operations a log line can number
abbrev pub IsShort : Processing → Type 0
IsShort c = length c.script < 2 ^ 32

abbrev pub AreShort : List Processing → Type 0
AreShort cpus = All IsShort cpus
