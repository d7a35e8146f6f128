use Rattle.std.proofs.Common.{◌+◌, None, arith, ap, sym, ◌∙◌, refl, Some}
use Rattle.std.proofs.lemmas.Option.{slice_get-get_or}
use Rattle.xp_words.specs.declared.ops.Call.{Call}
use Rattle.xp_preempt.proofs.Consulting.{past_none}
use Rattle.vcpu_turn.specs.Calls.{none}
use Rattle.vcpu_turn.specs.declared.cpu.Progress.{Progress}
use Rattle.vcpu_turn.proofs.Calling.{call_at, few_at, few_past, room_at, room_long, room_more, room_past, room_stopped, went_all, went_long, went_more, went_stopped, none_past}
use Rattle.vcpu_turn.proofs.Staying.{own_domain}
use Rattle.vcpu_turn.proofs.calls.answer_calls.Goals as goal

pub returns-then-calls-gt-MOST-clause-few : goal.returns-then-calls-gt-MOST-clause-few
returns-then-calls-gt-MOST-clause-few g c = (c.requires.few.0, few_at c.args.calls.now c.args.at.now.call)

pub returns-then-calls-gt-MOST-clause-works : goal.returns-then-calls-gt-MOST-clause-works
returns-then-calls-gt-MOST-clause-works g c = went_long c.if-calls-gt-MOST.true

pub returns-then-calls-gt-MOST-clause-room : goal.returns-then-calls-gt-MOST-clause-room
returns-then-calls-gt-MOST-clause-room g c = room_long c.args.calls.now c.args.at.now (record c.args.at.now { done = 0; awaited = None }) _ c.if-calls-gt-MOST.true

pub loop-at-init : goal.loop-at-init
loop-at-init g c =
    let r = c.requires in
    record {
      went = past_none refl none;
      few = r.few;
      awaits = r.awaits;
      capacity = refl;
      room = omega arith;
      post = refl;
      rests = r.rests;
      warm = r.warm;
    }

pub overflow_cast-at : goal.overflow_cast-at
overflow_cast-at g c =
    let few = c.loop-at.invariant.few.0 in
    let most = c.if-calls-gt-MOST.false in
    omega (arith, few, most)

pub answer_call-requires-clause-number : goal.answer_call-requires-clause-number
answer_call-requires-clause-number g c =
    let below = c.loop-at-test.true in
    let most = c.if-calls-gt-MOST.false in
    omega (arith, below, most)

pub answer_call-requires-clause-few : goal.answer_call-requires-clause-few
answer_call-requires-clause-few g c = call_at c.args.calls.now c.loop-at.at _ (slice_get-get_or c.args.calls.now _ c.index-calls-at.result c.loop-at-test.true ∙ ap (λ (x : Call). Some x) (sym c.index-calls-at.is)) c.loop-at.invariant.few

pub answer_call-requires-clause-own : goal.answer_call-requires-clause-own
answer_call-requires-clause-own g c = own_domain _ _ _ c.loop-at.invariant.post c.requires.own

pub answer_call-requires-clause-room : goal.answer_call-requires-clause-room
answer_call-requires-clause-room g c =
    let inv = c.loop-at.invariant in
    room_at c.args.calls.now c.args.at.now c.loop-at.at _ _ _ c.if-calls-gt-MOST.false (slice_get-get_or c.args.calls.now _ c.index-calls-at.result c.loop-at-test.true ∙ ap (λ (x : Call). Some x) (sym c.index-calls-at.is)) _ _ c.requires.room inv.room inv.capacity

pub loop-at-smaller : goal.loop-at-smaller
loop-at-smaller g c =
    let below = c.loop-at-test.true in
    let next = ap (λ (p : Progress). p.call) c.in_ok-answer_call.ensures.next in
    omega (arith, below, next)

pub loop-at-preserved : goal.loop-at-preserved
loop-at-preserved g c =
    let inv = c.loop-at.invariant in
    let e = c.in_ok-answer_call.ensures in
    let is = slice_get-get_or c.args.calls.now c.loop-at.at.call c.index-calls-at.result c.loop-at-test.true ∙ ap (λ (x : Call). Some x) (sym c.index-calls-at.is) in
    record {
      went = went_more inv.went _ is e.answers;
      few = (let below = c.loop-at-test.true in rw e.next (omega (arith, below), few_at c.args.calls.now (c.loop-at.at.call + 1)));
      awaits = e.awaits;
      capacity = e.capacity ∙ inv.capacity;
      room = room_more c.args.calls.now c.args.at.now c.loop-at.at c.answer_call.new.at _ _ _ _ c.if-calls-gt-MOST.false is e.next inv.room e.answered;
      post = e.post ∙ inv.post;
      rests = e.rests;
      warm = e.warm;
    }

pub returns-in_err-answer_call-clause-post : goal.returns-in_err-answer_call-clause-post
returns-in_err-answer_call-clause-post g c = c.answer_call.ensures.post ∙ c.loop-at.invariant.post

pub returns-in_err-answer_call-clause-few : goal.returns-in_err-answer_call-clause-few
returns-in_err-answer_call-clause-few g c =
    let is = slice_get-get_or c.args.calls.now c.loop-at.at.call c.index-calls-at.result c.loop-at-test.true ∙ ap (λ (x : Call). Some x) (sym c.index-calls-at.is) in
    let same = c.in_err-answer_call.ensures.same in
    few_past c.args.calls.now c.loop-at.at c.answer_call.new.at _ is same.0 same.1

pub returns-in_err-answer_call-clause-works : goal.returns-in_err-answer_call-clause-works
returns-in_err-answer_call-clause-works g c =
    let inv = c.loop-at.invariant in
    let is = slice_get-get_or c.args.calls.now c.loop-at.at.call c.index-calls-at.result c.loop-at-test.true ∙ ap (λ (x : Call). Some x) (sym c.index-calls-at.is) in
    went_stopped inv.went _ is c.if-calls-gt-MOST.false _ _ c.from_residual.ensures.1 c.in_err-answer_call.ensures.answers

pub returns-in_err-answer_call-clause-capacity : goal.returns-in_err-answer_call-clause-capacity
returns-in_err-answer_call-clause-capacity g c = c.answer_call.ensures.capacity ∙ c.loop-at.invariant.capacity

pub returns-in_err-answer_call-clause-room : goal.returns-in_err-answer_call-clause-room
returns-in_err-answer_call-clause-room g c =
    let is = slice_get-get_or c.args.calls.now c.loop-at.at.call c.index-calls-at.result c.loop-at-test.true ∙ ap (λ (x : Call). Some x) (sym c.index-calls-at.is) in
    room_stopped c.args.calls.now c.args.at.now c.loop-at.at c.answer_call.new.at _ _ _ _ c.if-calls-gt-MOST.false is c.in_err-answer_call.ensures.same.0 c.loop-at.invariant.room c.in_err-answer_call.ensures.room

pub returns-clause-few : goal.returns-clause-few
returns-clause-few g c = (c.loop-at.invariant.few.0, none_past c.args.calls.now _ _ c.loop-at-test.false)

pub returns-clause-works : goal.returns-clause-works
returns-clause-works g c = went_all c.loop-at.invariant.went c.if-calls-gt-MOST.false c.loop-at-test.false

pub returns-clause-room : goal.returns-clause-room
returns-clause-room g c = room_past c.args.calls.now c.args.at.now c.loop-at.at _ _ c.loop-at-test.false c.loop-at.invariant.room
