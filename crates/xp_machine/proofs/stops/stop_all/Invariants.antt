use Rattle.std.proofs.Common.{◌≡◌}
use Rattle.std.specs.List.{range_with_len}
use Rattle.xp_machine.specs.Turns.{Stops}
use Rattle.xp_machine.specs.Ready.{Ready}
use Rattle.vcpu_runners.specs.Rows.{cpus_of}
use Rattle.xp_machine.specs.Rows.{stage_of}
use Rattle.xp_machine.proofs.stops.stop_all.Given as goal

abbrev pub invariant-stops : goal.invariant-stops
invariant-stops g l = record {
  machine : (g.B.WholeBoard.board l.board).machine ≡ (g.B.WholeBoard.board l.initial.board).machine;
  opening : (g.B.WholeBoard.board l.board).story.opening ≡ (g.B.WholeBoard.board l.initial.board).story.opening;
  stops : Stops (g.B.WholeBoard.board l.initial.board).machine (range_with_len 0 l.vcpu) (stage_of (λ x. (goal.Preempt-dyn g (x.vtable, x.value)).policy x.value) (g.B.WholeBoard.board l.initial.board) l.initial.runners) (stage_of (λ x. (goal.Preempt-dyn g (x.vtable, x.value)).policy x.value) (g.B.WholeBoard.board l.board) l.runners);
  ready : Ready (g.B.WholeBoard.board l.board) (cpus_of l.runners);
}
