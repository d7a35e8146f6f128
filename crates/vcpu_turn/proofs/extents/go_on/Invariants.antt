use Rattle.std.proofs.Common.{◌≡◌, ◌≤◌, ◌+◌, ◌-◌, false, vec_len, vec_capacity}
use Rattle.step_maker.specs.Holds.{Rests}
use Rattle.xp_preempt.specs.Gates.{GatedPast}
use Rattle.vcpu_turn.specs.Extents.{extents_in, lines_by}
use Rattle.vcpu_turn.specs.Settling.{IsWarm}
use Rattle.vcpu_turn.proofs.GoingExtents.{Went}
use Rattle.vcpu_turn.proofs.extents.go_on.Given as goal

abbrev pub invariant-loop-done : goal.invariant-loop-done
invariant-loop-done g l = record {
  went : GatedPast ((goal.Preempt-dyn g l.fn.gate.now).policy l.fn.gate.now.1) ((goal.Preempt-dyn g l.gate.now).policy l.gate.now.1) false
      (λ answers. Went l.list.domain l.list.command l.list.order l.list.items.now l.list.number l.fn.done l.fn.within (g.P.Port.value l.fn.port) l.fn.log.items l.done (g.P.Port.value l.port) l.within l.log.items answers);
  count : l.count ≡ extents_in l.list.command l.list.items.now;
  most : l.done ≤ l.count;
  capacity : vec_capacity l.log ≡ vec_capacity l.fn.log;
  room : vec_len l.log + lines_by l.list.command l.fn.done ≤ vec_len l.fn.log + lines_by l.list.command l.done;
  post : (g.P.Port.value l.port).post ≡ (g.P.Port.value l.fn.port).post;
  rests : Rests (g.P.Port.value l.port);
  warm : IsWarm (g.P.Port.value l.port);
}

abbrev pub decreases-loop-done : goal.decreases-loop-done
decreases-loop-done g l = l.count - l.done
