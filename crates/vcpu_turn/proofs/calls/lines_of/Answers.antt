use Rattle.std.proofs.Common.{ap, ◌+◌, ◌∙◌, sym}
use Rattle.vcpu_turn.specs.Cpus.{Job, room_from}
use Rattle.vcpu_turn.proofs.calls.lines_of.Goals as goal

pub returns-in-Calls-clause-lines : goal.returns-in-Calls-clause-lines
returns-in-Calls-clause-lines c = ap (λ n. n + 1) (c.lines_in.ensures.lines c.args.frames ∙ ap (λ (j : Job). room_from c.args.frames j 0) (sym c.in-Calls.ensures))
