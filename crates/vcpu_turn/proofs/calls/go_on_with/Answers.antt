use Rattle.std.proofs.Common.{arith, vec_len}
use Rattle.vcpu_turn.specs.Cpus.{OfCalls, OfOne, job_of, task_of}
use Rattle.vcpu_turn.proofs.Adding.{calls_add, went_adds}
use Rattle.vcpu_turn.proofs.Burying.{plain_place}
use Rattle.vcpu_turn.proofs.Destroyed.{destroying_room, did_room}
use Rattle.vcpu_turn.proofs.calls.go_on_with.Goals as goal

pub returns-in-Calls-clause-place : goal.returns-in-Calls-clause-place
returns-in-Calls-clause-place g c =
    plain_place (g.P.Port.value c.args.port.now) (g.P.Port.value c.answer_calls.new.port) _ c.args.at.now c.answer_calls.new.at _ _ (calls_add c.answer_calls.ensures.works.course) c.valued.result (job_of c.args.op.now) (OfCalls c.in-Calls.calls.now) c.in-Calls.ensures tt c.requires.place

pub returns-in-Destroy-clause-room : goal.returns-in-Destroy-clause-room
returns-in-Destroy-clause-room g c =
    let more = did_room c.go_on_destroying.ensures.went.course.destroyed in
    let new = c.go_on_destroying.new.log.ok.0 in
    let old = c.args.log.now.ok.0 in
    destroying_room (job_of c.args.op.now) c.in-Destroy.domain c.in-Destroy.ensures (g.P.Port.value c.args.port.now).post.machine.frames (vec_len c.args.log.now) (vec_len c.go_on_destroying.new.log) c.args.at.now c.go_on_destroying.new.at
    (omega (arith, more, new, old))

pub returns-in-One-clause-place : goal.returns-in-One-clause-place
returns-in-One-clause-place g c =
    plain_place (g.P.Port.value c.args.port.now) (g.P.Port.value c.work_on.new.port) _ c.args.at.now c.work_on.new.at _ _ (went_adds c.work_on.ensures.went.course) c.work_on.result (job_of c.args.op.now) (OfOne (task_of c.args.op.now)) c.in-One.ensures tt c.requires.place
