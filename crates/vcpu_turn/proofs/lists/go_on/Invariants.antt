use Rattle.std.proofs.Common.{◌≡◌, ◌≤◌, ◌-◌, false}
use Rattle.step_maker.specs.Holds.{Rests}
use Rattle.xp_preempt.specs.Gates.{GatedPast}
use Rattle.vcpu_turn.specs.Lists.{DidItems}
use Rattle.vcpu_turn.proofs.lists.go_on.Given as goal

abbrev pub invariant-loop-done : goal.invariant-loop-done
invariant-loop-done g l = record {
  did : GatedPast ((goal.Preempt-dyn g l.fn.gate.now).policy l.fn.gate.now.1) ((goal.Preempt-dyn g l.gate.now).policy l.gate.now.1) false (λ answers. DidItems (g.L.Items.fits l.items) (g.L.Items.count l.items) l.fn.done (g.P.Port.value l.fn.port) l.done (g.P.Port.value l.port) answers);
  most : l.done ≤ g.L.Items.count l.items;
  post : (g.P.Port.value l.port).post ≡ (g.P.Port.value l.fn.port).post;
  suits : g.L.Items.suits l.items (g.P.Port.value l.port);
  rests : Rests (g.P.Port.value l.port);
}

abbrev pub decreases-loop-done : goal.decreases-loop-done
decreases-loop-done g l = g.L.Items.count l.items - l.done
