use Rattle.std.proofs.Common.{◌<◌, length, slice_get, ◌+◌, sym, ◌∙◌, arith, subst}
use Rattle.vcpu_turn.specs.Cpus.{IsFew, IsMade, Processing, job_next}
use Rattle.vcpu_turn.specs.declared.cpu.Progress.{Progress}
use Rattle.vcpu_turn.proofs.NextOps.{few_begun, made_less, room_answered, seen_begun}
use Rattle.vcpu_turn.proofs.turning.log_answer.Goals as goal

pub push_reserved-requires : goal.push_reserved-requires
push_reserved-requires g c =
    let more = subst (λ (x : Processing). x.answered < length x.script) (sym c.cpu.view_is) c.requires.more in
    let room = room_answered c.cpu.inside.frames _ _ _ _ _ c.cpu.invariant.2 more c.cpu.invariant.4 in
    omega (arith, room)

pub invariant_of-cpu : goal.invariant_of-cpu
invariant_of-cpu g c =
    let more = subst (λ (x : Processing). x.answered < length x.script) (sym c.cpu.view_is) c.requires.more in
    let room = room_answered c.cpu.inside.frames _ _ _ _ _ c.cpu.invariant.2 more c.cpu.invariant.4 in
    let len = c.push_reserved.ensures.len in
    let capacity = c.push_reserved.ensures.capacity in
    let o = slice_get c.cpu.inside.script (c.cpu.inside.answered + 1) in (
      omega (arith, more),
      capacity ∙ c.cpu.invariant.1,
      omega (arith, room, len, capacity),
      subst (λ (p : Progress). IsFew o p) (sym c.begun-cpu-inside.ensures) (few_begun o),
      subst (λ (p : Progress). IsMade c.cpu.inside.frames o p) (sym c.begun-cpu-inside.ensures) (made_less c.cpu.inside.frames (job_next o) _ (seen_begun c.cpu.inside.frames (job_next o))),
    )
