use Rattle.std.proofs.Common.{◌≡◌, List, ℕ, ◌++◌, length}
use Rattle.std.specs.Io.KnownBytes.{Appends}
use Rattle.xp_io.proofs.whole.write_whole.Given as goal

abbrev pub invariant-loop-rest : goal.invariant-loop-rest
invariant-loop-rest g l = (g.K.Sink.faults l.sink ≡ g.K.Sink.faults l.initial.sink) × (done : List ℕ) × (l.bytes ≡ done ++ l.rest) × Appends (g.K.Sink.taken l.initial.sink) (g.K.Sink.taken l.sink) done

abbrev pub decreases-loop-rest : goal.decreases-loop-rest
decreases-loop-rest g l = length l.rest
