use Rattle.std.proofs.Common.{Ok, Err, ap, ◌∙◌}
use Rattle.step_maker.specs.Holds.{quiet}
use Rattle.xp_board.specs.Told.{PortValue}
use Rattle.tlb_walks.proofs.Flushes.{ack_acks, ack_came, ack_serves, looks_came, past_acks, past_serves}
use Rattle.tlb_walks.proofs.drops.ack.Goals as goal

pub returns-then-asked-flushed-clause-came : goal.returns-then-asked-flushed-clause-came
returns-then-asked-flushed-clause-came g c =
    looks_came _ _ _ c.vcpu-vcpu.result c.begin_turn-asked.result c.look_flushed-flushed.result c.vcpu-vcpu.ensures.vcpu c.begin_turn-asked.ensures.moves c.look_flushed-flushed.ensures.moves

pub returns-then-asked-flushed-clause-serves : goal.returns-then-asked-flushed-clause-serves
returns-then-asked-flushed-clause-serves g c =
    λ r. past_serves _ _ _ c.vcpu-vcpu.result c.begin_turn-asked.result c.look_flushed-flushed.result c.vcpu-vcpu.ensures.vcpu c.begin_turn-asked.ensures.moves c.look_flushed-flushed.ensures.moves r

pub returns-then-asked-flushed-clause-course : goal.returns-then-asked-flushed-clause-course
returns-then-asked-flushed-clause-course g c =
    past_acks _ _ _ c.vcpu-vcpu.result c.begin_turn-asked.result c.look_flushed-flushed.result c.vcpu-vcpu.ensures.vcpu c.begin_turn-asked.ensures.moves c.look_flushed-flushed.ensures.moves c.if-asked-flushed.true

pub returns-then-asked-flushed-clause-hand : goal.returns-then-asked-flushed-clause-hand
returns-then-asked-flushed-clause-hand g c =
    ap (λ (q : PortValue). quiet q) c.look_flushed-flushed.ensures.hand ∙ ap (λ (q : PortValue). quiet q) c.begin_turn-asked.ensures.hand

pub returns-in-Ok-clause-came : goal.returns-in-Ok-clause-came
returns-in-Ok-clause-came g c =
    ack_came _ _ _ c.vcpu-vcpu.result c.begin_turn-asked.result c.look_flushed-flushed.result c.vcpu-vcpu.ensures.vcpu c.begin_turn-asked.ensures.moves c.look_flushed-flushed.ensures.moves _ c.if-asked-flushed.false (Ok c.in-Ok.field-0) c.in-Ok.ensures.flushes

pub returns-in-Ok-clause-serves : goal.returns-in-Ok-clause-serves
returns-in-Ok-clause-serves g c =
    λ r. ack_serves _ _ _ c.vcpu-vcpu.result c.begin_turn-asked.result c.look_flushed-flushed.result c.vcpu-vcpu.ensures.vcpu c.begin_turn-asked.ensures.moves c.look_flushed-flushed.ensures.moves _ c.if-asked-flushed.false (Ok c.in-Ok.field-0) c.in-Ok.ensures.flushes r

pub returns-in-Ok-clause-course : goal.returns-in-Ok-clause-course
returns-in-Ok-clause-course g c =
    ack_acks _ _ _ c.vcpu-vcpu.result c.begin_turn-asked.result c.look_flushed-flushed.result c.vcpu-vcpu.ensures.vcpu c.begin_turn-asked.ensures.moves c.look_flushed-flushed.ensures.moves _ c.if-asked-flushed.false (Ok c.in-Ok.field-0) c.in-Ok.ensures.flushes

pub returns-in-Ok-clause-hand : goal.returns-in-Ok-clause-hand
returns-in-Ok-clause-hand g c =
    c.in-Ok.ensures.hand ∙ ap (λ (q : PortValue). quiet q) c.look_flushed-flushed.ensures.hand ∙ ap (λ (q : PortValue). quiet q) c.begin_turn-asked.ensures.hand

pub returns-in-Err-clause-came : goal.returns-in-Err-clause-came
returns-in-Err-clause-came g c =
    ack_came _ _ _ c.vcpu-vcpu.result c.begin_turn-asked.result c.look_flushed-flushed.result c.vcpu-vcpu.ensures.vcpu c.begin_turn-asked.ensures.moves c.look_flushed-flushed.ensures.moves _ c.if-asked-flushed.false (Err _) c.in-Err.ensures.flushes

pub returns-in-Err-clause-serves : goal.returns-in-Err-clause-serves
returns-in-Err-clause-serves g c =
    λ r. ack_serves _ _ _ c.vcpu-vcpu.result c.begin_turn-asked.result c.look_flushed-flushed.result c.vcpu-vcpu.ensures.vcpu c.begin_turn-asked.ensures.moves c.look_flushed-flushed.ensures.moves _ c.if-asked-flushed.false (Err _) c.in-Err.ensures.flushes r

pub returns-in-Err-clause-course : goal.returns-in-Err-clause-course
returns-in-Err-clause-course g c =
    ack_acks _ _ _ c.vcpu-vcpu.result c.begin_turn-asked.result c.look_flushed-flushed.result c.vcpu-vcpu.ensures.vcpu c.begin_turn-asked.ensures.moves c.look_flushed-flushed.ensures.moves _ c.if-asked-flushed.false (Err _) c.in-Err.ensures.flushes

pub returns-in-Err-clause-hand : goal.returns-in-Err-clause-hand
returns-in-Err-clause-hand g c =
    ap (λ (q : PortValue). quiet q) c.in-Err.ensures.hand ∙ ap (λ (q : PortValue). quiet q) c.look_flushed-flushed.ensures.hand ∙ ap (λ (q : PortValue). quiet q) c.begin_turn-asked.ensures.hand
