use Rattle.std.proofs.Common.{refl, sym, ◌∙◌, subst, vec_len}
use Rattle.vcpu_turn.specs.Cpus.{IsFew, job_of, made_within}
use Rattle.vcpu_turn.proofs.NextOps.{goes_nowhere, goes_on, no_op_found, op_found, room_kept, room_next}
use Rattle.vcpu_turn.proofs.Placing.{frames_seen, made_kept, place_behind, place_seen, room_of_cpu, room_of_port}
use Rattle.vcpu_turn.proofs.turning.go_on.Goals as goal

pub go_on_with-requires-clause-few : goal.go_on_with-requires-clause-few
go_on_with-requires-clause-few g c =
    let look = c.in-Some.ensures.lookup in
    subst (λ o. IsFew o c.cpu.inside.at) (op_found _ _ _ _ _ c.as_slice.ensures refl look.3.0 look.1) c.cpu.invariant.3

pub go_on_with-requires-clause-place : goal.go_on_with-requires-clause-place
go_on_with-requires-clause-place g c =
    let look = c.in-Some.ensures.lookup in
    place_seen _ _ c.cpu.view_is (g.P.Port.value c.args.port.now) c.in-Some.op.now (op_found _ _ _ _ _ c.as_slice.ensures refl look.3.0 look.1) c.requires.place

pub go_on_with-requires-clause-room : goal.go_on_with-requires-clause-room
go_on_with-requires-clause-room g c =
    let look = c.in-Some.ensures.lookup in
    room_of_port (job_of c.in-Some.op.now) _ _ (frames_seen _ _ c.cpu.view_is (g.P.Port.value c.args.port.now) c.requires.frames) c.cpu.inside.at.call _ _ _
    (room_next c.cpu.inside.frames c.cpu.inside.script c.cpu.inside.answered _ _ _ c.cpu.invariant.2 _ (op_found _ _ _ _ _ c.as_slice.ensures refl look.3.0 look.1))

pub invariant_of-cpu : goal.invariant_of-cpu
invariant_of-cpu g c =
    let look = c.in-Some.ensures.lookup in
    let next = op_found _ _ _ _ _ c.as_slice.ensures refl look.3.0 look.1 in
    let worked = c.go_on_with.ensures in
    let room = room_of_cpu (job_of c.in-Some.op.now) _ _ (frames_seen _ _ c.cpu.view_is (g.P.Port.value c.args.port.now) c.requires.frames) c.cpu.inside.at.call c.go_on_with.new.at.call (vec_len c.cpu.inside.log) (vec_len c.go_on_with.new.log)
    (made_within (job_of c.in-Some.op.now) c.cpu.inside.at) (made_within (job_of c.in-Some.op.now) c.go_on_with.new.at) worked.room in (
      c.cpu.invariant.0,
      worked.capacity ∙ c.cpu.invariant.1,
      room_kept c.cpu.inside.frames c.cpu.inside.script c.cpu.inside.answered _ _ _ c.cpu.invariant.2 _ next _ _ _ worked.capacity room,
      subst (λ o. IsFew o c.go_on_with.new.at) (sym next) worked.few,
      made_kept _ _ c.cpu.view_is (g.P.Port.value c.args.port.now) c.in-Some.op.now next c.requires.frames c.requires.place _ _ _ _ _ worked.went.course,
    )

pub returns-in-None-clause-worked : goal.returns-in-None-clause-worked
returns-in-None-clause-worked g c =
    let look = c.in-None.ensures.lookup in
    goes_nowhere c.cpu.view_is _ (no_op_found _ _ _ _ c.as_slice.ensures refl look.3)

pub returns-in-Some-clause-place : goal.returns-in-Some-clause-place
returns-in-Some-clause-place g c =
    let look = c.in-Some.ensures.lookup in
    place_behind _ _ c.cpu.view_is (g.P.Port.value c.go_on_with.new.port) c.in-Some.op.now (op_found _ _ _ _ _ c.as_slice.ensures refl look.3.0 look.1) c.go_on_with.result _ _ c.go_on_with.ensures.place

pub returns-in-Some-clause-worked : goal.returns-in-Some-clause-worked
returns-in-Some-clause-worked g c =
    let look = c.in-Some.ensures.lookup in
    goes_on c.cpu.view_is _ c.in-Some.op.now (op_found _ _ _ _ _ c.as_slice.ensures refl look.3.0 look.1) _ _ _ c.go_on_with.result c.go_on_with.ensures.went
