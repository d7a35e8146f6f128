-- What a row of runners holds, under short names.
use Rattle.std.specs.Prelude.{List, map}
use Rattle.std.specs.declared.alloc.Global.{Global}
use Rattle.std.specs.declared.dyn_box.DynBox.{DynBox}
use Rattle.vcpu_turn.specs.Cpus.{Processing}
use Rattle.vcpu_runners.specs.declared.runner.Runner.{Runner}
use Rattle.xp_preempt.specs.Gates.{Gate}

-- V and G say what the box of a gate holds: its vtable, and the values that this vtable serves.

-- their vCPUs
abbrev pub cpus_of : {V : Type 0} {G : V → Type 0} → List (Runner V G) → List Processing
cpus_of runners = map (λ s. s.cpu) runners

-- the gates of boxes, by what these tell
abbrev pub gates_of : {V : Type 0} {G : V → Type 0} → (DynBox V Global G → Gate) → List (Runner V G) → List Gate
gates_of gate runners = map (λ s. gate s.gate) runners
