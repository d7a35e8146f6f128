use Rattle.std.proofs.Common.{◌≡◌, ◌≤◌, ◌+◌, ◌-◌, length, false, vec_len, vec_capacity}
use Rattle.step_maker.specs.Holds.{Rests}
use Rattle.mmuext_ops.specs.Elements.{KnowsAwaited}
use Rattle.xp_preempt.specs.Gates.{GatedPast}
use Rattle.vcpu_turn.specs.Calls.{AnsweredCalls}
use Rattle.vcpu_turn.specs.Cpus.{IsFewIn, OfCalls, made_within, room_from}
use Rattle.vcpu_turn.specs.Settling.{IsWarm}
use Rattle.vcpu_turn.proofs.calls.answer_calls.Given as goal

abbrev pub invariant-loop-at : goal.invariant-loop-at
invariant-loop-at g l = record {
  went : GatedPast ((goal.Preempt-dyn g l.fn.gate.now).policy l.fn.gate.now.1) ((goal.Preempt-dyn g l.gate.now).policy l.gate.now.1) false
      (λ answers. AnsweredCalls l.fn.domain l.fn.calls l.fn.op (g.P.Port.value l.fn.port) l.fn.at l.fn.log.items l.at (g.P.Port.value l.port) l.log.items answers);
  few : IsFewIn (OfCalls l.fn.calls) l.at;
  awaits : KnowsAwaited (g.P.Port.value l.port) l.at.awaited;
  capacity : vec_capacity l.log ≡ vec_capacity l.fn.log;
  room : vec_len l.log + room_from 0 (OfCalls l.fn.calls) l.at.call + made_within (OfCalls l.fn.calls) l.fn.at ≤ vec_len l.fn.log + room_from 0 (OfCalls l.fn.calls) l.fn.at.call + made_within (OfCalls l.fn.calls) l.at;
  post : (g.P.Port.value l.port).post ≡ (g.P.Port.value l.fn.port).post;
  rests : Rests (g.P.Port.value l.port);
  warm : IsWarm (g.P.Port.value l.port);
}

abbrev pub decreases-loop-at : goal.decreases-loop-at
decreases-loop-at g l = length l.fn.calls - l.at.call
