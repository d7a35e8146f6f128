use Rattle.std.proofs.Common.{◌<◌, length, List, Option, ap, refl, sym, ◌∙◌, subst, arith}
use Rattle.xp_words.specs.declared.ops.Op.{Op}
use Rattle.vcpu_turn.specs.Cpus.{done_at, job_next}
use Rattle.vcpu_turn.proofs.Dying.{dies_refused}
use Rattle.vcpu_turn.proofs.NextOps.{op_found}
use Rattle.vcpu_turn.proofs.turning.die.Goals as goal

pub returns-clause-dies : goal.returns-clause-dies
returns-clause-dies g c =
    let below = c.cpu.invariant.0 in
    let off = c.if-cpu-len.false in
    let all = c.len.ensures.value in
    let more : c.cpu.inside.answered < length c.cpu.inside.script = omega (arith, below, off, all) in
    let next = op_found _ _ _ _ _ c.as_slice.ensures refl (subst (λ (ops : List Op). c.cpu.inside.answered < length ops) (sym c.as_slice.ensures) more) c.index-as_slice-cpu.is in
    dies_refused c.args.found _ _ c.cpu.view_is (g.P.Port.value c.args.port.now) _ _ more (g.P.Port.value c.stop_vcpu.new.port) (_, c.stop_vcpu.ensures.moves) c.done_at-done.result
    (c.done_at-done.ensures ∙ ap (λ (o : Option Op). done_at (job_next o) c.cpu.inside.at) (sym next)) c.log_answer.result c.log_answer.ensures.reply c.log_answer.ensures.cpu c.log_answer.ensures.ends
