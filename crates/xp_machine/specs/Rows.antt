-- What a board and a row of runners hold, under a short name.
use Rattle.std.specs.Prelude.{List}
use Rattle.std.specs.declared.alloc.Global.{Global}
use Rattle.std.specs.declared.dyn_box.DynBox.{DynBox}
use Rattle.shared_board.specs.Board.{Board}
use Rattle.vcpu_runners.specs.declared.runner.Runner.{Runner}
use Rattle.vcpu_runners.specs.Rows.{cpus_of, gates_of}
use Rattle.xp_machine.specs.Turns.{Stage, stage}
use Rattle.xp_preempt.specs.Gates.{Gate}

-- The board, how far their vCPUs have come, and their gates. V and G say what the box of a gate holds.
abbrev pub stage_of : {V : Type 0} {G : V → Type 0} → (DynBox V Global G → Gate) → Board → List (Runner V G) → Stage
stage_of gate b runners = stage b.story (cpus_of runners) (gates_of gate runners)
