use Rattle.std.proofs.Common.{arith, refl, ap, ◌∙◌}
use Rattle.xp_preempt.proofs.Consulting.{past_none}
use Rattle.xp_board.specs.Told.{PortValue}
use Rattle.vcpu_turn.proofs.GoingExtents.{answers_all, answers_done, answers_due, answers_more, answers_stopped, went_none}
use Rattle.vcpu_turn.proofs.OnExtents.{room_behind}
use Rattle.vcpu_turn.proofs.Staying.{reserved_warm}
use Rattle.vcpu_turn.proofs.extents.go_on.Goals as goal

pub loop-done-init : goal.loop-done-init
loop-done-init g c =
    let r = c.requires in
    let within = r.within in
    let count = c.count-count.ensures in
    record {
      went = past_none refl (went_none _ _ _ _ _ _ _ _ _);
      count = count;
      most = omega (arith, within, count);
      capacity = refl;
      room = omega arith;
      post = refl;
      rests = r.rests;
      warm = r.warm;
    }

pub returns-in_err-given-clause-works : goal.returns-in_err-given-clause-works
returns-in_err-given-clause-works g c =
    let below = c.loop-done-test.true in
    let inv = c.loop-done.invariant in
    let count = inv.count in
    answers_stopped inv.went _ c.extent-extent.ensures _ _ _ c.in_err-given.ensures (omega (arith, below, count)) _ c.from_residual.ensures.1

pub returns-in_err-given-clause-warm : goal.returns-in_err-given-clause-warm
returns-in_err-given-clause-warm g c = reserved_warm c.reserve.ensures c.loop-done.invariant.warm

pub returns-then-done-count-clause-works : goal.returns-then-done-count-clause-works
returns-then-done-count-clause-works g c =
    let inv = c.loop-done.invariant in
    answers_done inv.went _ c.extent-extent.ensures _ _ _ c.in_ok-given.ensures _ c.log_block.ensures.lines (c.if-done-count.true ∙ inv.count)

pub returns-then-done-count-clause-room : goal.returns-then-done-count-clause-room
returns-then-done-count-clause-room g c =
    let list = c.args.list.now in
    room_behind list.command list.items.now c.loop-done.done c.extent-extent.ensures _ c.in_ok-given.ensures c.args.done.now _ _ _ c.loop-done.invariant.room c.log_block.ensures.len

pub returns-then-done-count-clause-warm : goal.returns-then-done-count-clause-warm
returns-then-done-count-clause-warm g c = reserved_warm c.in_ok-given.ensures c.loop-done.invariant.warm

pub returns-then-due-clause-works : goal.returns-then-due-clause-works
returns-then-due-clause-works g c =
    let below = c.loop-done-test.true in
    let off = c.if-done-count.false in
    let inv = c.loop-done.invariant in
    let count = inv.count in
    answers_due inv.went _ c.extent-extent.ensures _ _ _ c.in_ok-given.ensures _ c.log_block.ensures.lines (omega (arith, below, off, count)) c.if-due.ensures

pub returns-then-due-clause-room : goal.returns-then-due-clause-room
returns-then-due-clause-room g c =
    let list = c.args.list.now in
    room_behind list.command list.items.now c.loop-done.done c.extent-extent.ensures _ c.in_ok-given.ensures c.args.done.now _ _ _ c.loop-done.invariant.room c.log_block.ensures.len

pub returns-then-due-clause-warm : goal.returns-then-due-clause-warm
returns-then-due-clause-warm g c = reserved_warm c.in_ok-given.ensures c.loop-done.invariant.warm

pub returns-clause-works : goal.returns-clause-works
returns-clause-works g c =
    let past = c.loop-done-test.false in
    let inv = c.loop-done.invariant in
    let most = inv.most in
    let count = inv.count in
    answers_all inv.went (omega (arith, past, most, count))

pub loop-done-preserved : goal.loop-done-preserved
loop-done-preserved g c =
    let list = c.args.list.now in
    let below = c.loop-done-test.true in
    let off = c.if-done-count.false in
    let inv = c.loop-done.invariant in
    let count = inv.count in
    let r = c.in_ok-given.ensures in
    let logged = c.log_block.ensures in
    record {
      went = answers_more inv.went _ c.extent-extent.ensures _ _ _ r _ logged.lines (omega (arith, below, off, count)) c.if-due.ensures;
      count = count;
      most = omega (arith, below);
      capacity = logged.capacity ∙ inv.capacity;
      room = room_behind list.command list.items.now c.loop-done.done c.extent-extent.ensures _ r c.args.done.now _ _ _ inv.room logged.len;
      post = ap (λ (v : PortValue). v.post) r.hand ∙ inv.post;
      rests = r.rests;
      warm = reserved_warm r inv.warm;
    }
