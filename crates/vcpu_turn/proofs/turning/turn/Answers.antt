use Rattle.std.proofs.Common.{sym, ap, ◌∙◌}
use Rattle.step_maker.proofs.Coming.{came_post}
use Rattle.vcpu_turn.specs.Cpus.{Processing}
use Rattle.xp_board.specs.Told.{Post}
use Rattle.vcpu_turn.proofs.Between.{of_died, of_gone_on, of_left, of_retired, of_seen, of_unsettled}
use Rattle.vcpu_turn.proofs.Burying.{place_on}
use Rattle.vcpu_turn.proofs.Dying.{dies_seen, seen_dies}
use Rattle.vcpu_turn.proofs.Extending.{settle_answers}
use Rattle.vcpu_turn.proofs.NextOps.{more_seen}
use Rattle.vcpu_turn.proofs.Staying.{knows_on, own_domain, settled_warm}
use Rattle.vcpu_turn.proofs.Turns.{begins_came, settled_behind, settled_post, turn_goes_on, turn_retired, turn_retires, turn_unsettled}
use Rattle.vcpu_turn.proofs.turning.turn.Goals as goal

pub returns-then-cpu-clause-turn : goal.returns-then-cpu-clause-turn
returns-then-cpu-clause-turn g c = turn_retired c.args.cpu.now _ (sym (ap (λ (x : Processing). x.retired) c.cpu.view_is) ∙ c.if-cpu.true)

pub returns-in-Err-Paused-clause-post : goal.returns-in-Err-Paused-clause-post
returns-in-Err-Paused-clause-post g c = settled_post _ _ _ (begins_came _ _ c.begin-life.ensures.begins) c.settle.result c.settle.ensures.serves

pub returns-in-Err-Paused-clause-turn : goal.returns-in-Err-Paused-clause-turn
returns-in-Err-Paused-clause-turn g c =
    let s = c.in-Err-Paused.ensures in
    turn_unsettled c.cpu.view_is c.if-cpu.false c.if-life-ne0.false (c.begin-life.ensures.runs c.if-life-ne0.false) c.begin-life.ensures.begins c.in-Err-Paused.pause _ c.in-Err-Paused.field-0-is
    (settle_answers s.serves s.stops s.kinds s.rests s.clear s.clear_too s.course)

pub returns-in-Err-Paused-clause-of : goal.returns-in-Err-Paused-clause-of
returns-in-Err-Paused-clause-of g c =
    let s = c.settle.ensures in
    let came = settled_behind _ _ _ (begins_came _ _ c.begin-life.ensures.begins) c.settle.result s.serves in
    of_unsettled _ _ _ _ (of_seen _ _ _ c.cpu.view_is c.requires.of) (came_post _ _ came) came s.rests (settled_warm _ _ c.settle.result s.serves s.hand c.begin-life.ensures.warm)

pub go_on-requires-clause-own : goal.go_on-requires-clause-own
go_on-requires-clause-own g c =
    own_domain _ _ _ (settled_post _ _ _ (begins_came _ _ c.begin-life.ensures.begins) c.settle.result c.settle.ensures.serves) (of_seen _ _ _ c.cpu.view_is c.requires.of).domain

pub go_on-requires-clause-awaits : goal.go_on-requires-clause-awaits
go_on-requires-clause-awaits g c =
    knows_on _ _ _ (settled_behind _ _ _ (begins_came _ _ c.begin-life.ensures.begins) c.settle.result c.settle.ensures.serves) (of_seen _ _ _ c.cpu.view_is c.requires.of).awaits

pub go_on-requires-clause-warm : goal.go_on-requires-clause-warm
go_on-requires-clause-warm g c = let s = c.settle.ensures in settled_warm _ _ c.settle.result s.serves s.hand c.begin-life.ensures.warm

pub finish-requires-clause-more : goal.finish-requires-clause-more
finish-requires-clause-more g c = more_seen _ _ c.cpu.view_is c.settle.new.left _ _ c.go_on.new.cpu _ c.in-Some.answer c.in-Some.ensures.worked.course

pub returns-in-None-clause-post : goal.returns-in-None-clause-post
returns-in-None-clause-post g c = c.retire.ensures.post ∙ c.in-None.ensures.post ∙ settled_post _ _ _ (begins_came _ _ c.begin-life.ensures.begins) c.settle.result c.settle.ensures.serves

pub returns-in-None-clause-turn : goal.returns-in-None-clause-turn
returns-in-None-clause-turn g c =
    let s = c.in-Ok.ensures in
    turn_retires c.cpu.view_is c.if-cpu.false c.if-life-ne0.false (c.begin-life.ensures.runs c.if-life-ne0.false) c.begin-life.ensures.begins
    (settle_answers s.serves s.stops s.kinds s.rests s.clear s.clear_too s.course)
    s.none _ _ _ _ c.in-None.ensures.worked c.retire.ensures.stop

pub returns-in-None-clause-of : goal.returns-in-None-clause-of
returns-in-None-clause-of g c =
    let post = c.retire.ensures.post ∙ c.in-None.ensures.post ∙ settled_post _ _ _ (begins_came _ _ c.begin-life.ensures.begins) c.settle.result c.settle.ensures.serves in
    let came = settled_behind _ _ _ (begins_came _ _ c.begin-life.ensures.begins) c.settle.result c.settle.ensures.serves in
    of_retired _ _ _ _ _ (of_left _ _ c.settle.new.left (of_seen _ _ _ c.cpu.view_is c.requires.of)) post _ _ _ came c.in-None.ensures.worked.course c.retire.ensures.stop c.retire.ensures.idles

pub returns-in-Some-clause-post : goal.returns-in-Some-clause-post
returns-in-Some-clause-post g c = c.finish.ensures.post ∙ c.in-Some.ensures.post ∙ settled_post _ _ _ (begins_came _ _ c.begin-life.ensures.begins) c.settle.result c.settle.ensures.serves

pub returns-in-Some-clause-turn : goal.returns-in-Some-clause-turn
returns-in-Some-clause-turn g c =
    let s = c.in-Ok.ensures in
    rw c.finish.ensures.end
    (turn_goes_on c.cpu.view_is c.if-cpu.false c.if-life-ne0.false (c.begin-life.ensures.runs c.if-life-ne0.false) c.begin-life.ensures.begins
    (settle_answers s.serves s.stops s.kinds s.rests s.clear s.clear_too s.course)
    s.none _ _ _ _ c.in-Some.answer c.in-Some.ensures.worked c.finish.ensures.cpu c.finish.ensures.ends)

pub returns-in-Some-clause-of : goal.returns-in-Some-clause-of
returns-in-Some-clause-of g c =
    let post = c.finish.ensures.post ∙ c.in-Some.ensures.post ∙ settled_post _ _ _ (begins_came _ _ c.begin-life.ensures.begins) c.settle.result c.settle.ensures.serves in
    let came = settled_behind _ _ _ (begins_came _ _ c.begin-life.ensures.begins) c.settle.result c.settle.ensures.serves in
    of_gone_on _ _ _ _ _ (of_left _ _ c.settle.new.left (of_seen _ _ _ c.cpu.view_is c.requires.of)) post _ _ _ c.in-Some.answer came c.in-Some.ensures.worked.course c.finish.ensures.cpu c.in-Some.ensures.place c.in-Some.ensures.awaits
    c.finish.ensures.ends c.in-Some.ensures.rests c.finish.ensures.run c.finish.ensures.idles

-- ---- a domain that is found dying
pub returns-then-life-ne0-clause-post : goal.returns-then-life-ne0-clause-post
returns-then-life-ne0-clause-post g c = c.die.ensures.post ∙ came_post _ _ (begins_came _ _ c.begin-life.ensures.begins)

pub returns-then-life-ne0-clause-turn : goal.returns-then-life-ne0-clause-turn
returns-then-life-ne0-clause-turn g c = seen_dies c.cpu.view_is c.if-cpu.false c.begin-life.ensures.begins c.if-life-ne0.true _ _ _ (dies_seen _ _ _ c.cpu.view_is _ _ _ _ c.die.ensures.dies)

pub returns-then-life-ne0-clause-of : goal.returns-then-life-ne0-clause-of
returns-then-life-ne0-clause-of g c = of_died _ _ _ _ _ (of_seen _ _ _ c.cpu.view_is c.requires.of) _ _ c.begin-life.ensures.begins c.if-life-ne0.true _ (dies_seen _ _ _ c.cpu.view_is _ _ _ _ c.die.ensures.dies) c.die.ensures.idles

pub go_on-requires-clause-frames : goal.go_on-requires-clause-frames
go_on-requires-clause-frames g c =
    let post = settled_post _ _ _ (begins_came _ _ c.begin-life.ensures.begins) c.settle.result c.settle.ensures.serves in
    (of_seen _ _ _ c.cpu.view_is c.requires.of).frames ∙ sym (ap (λ (q : Post). q.machine.frames) post)

pub go_on-requires-clause-place : goal.go_on-requires-clause-place
go_on-requires-clause-place g c =
    place_on _ _ (settled_behind _ _ _ (begins_came _ _ c.begin-life.ensures.begins) c.settle.result c.settle.ensures.serves) _ _ _ _ (of_seen _ _ _ c.cpu.view_is c.requires.of).place
