-- The order of the turns of a trace.
use Rattle.std.specs.Prelude.{ℕ, List, replicate}
use Rattle.std.specs.List.{flat_map}
use Rattle.trace_text.specs.declared.trace.TurnRun.{TurnRun}

abbrev pub turns_in : TurnRun → List ℕ
turns_in r = replicate r.count r.vcpu

-- the vCPUs in the order of the turns that a trace asks for
unfoldable pub order : List TurnRun → List ℕ
order runs = flat_map turns_in runs
