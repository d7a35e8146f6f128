use Rattle.std.proofs.Common.{◌∙◌, sym, ap, subst, map, length, rules}
use Rattle.std.proofs.lemmas.Iterator.Adapters.{YieldsList-from_vec}
use Rattle.std.proofs.lemmas.Iterator.Consumers.{YieldsList-turn, YieldsList-end}
use Rattle.std.proofs.lemmas.List.{map-id}
use Rattle.std.proofs.lemmas.Simd.{map-map}
use Rattle.vcpu_runners.specs.Turns.{pending_of}
use Rattle.vcpu_runners.specs.Cpus.{IsShort}
use Rattle.xp_machine.specs.Ran.{log_of}
use Rattle.xp_machine.proofs.Reaching.{short_runner}
use Rattle.xp_machine.proofs.execute.logs_and_pending.Goals as goal

pub pending-requires : goal.pending-requires
pending-requires g c =
    let turn = YieldsList-turn (YieldsList-from_vec {s = c.into_iter-runner-iterator.result} c.args.runners.items (search rules) (search rules)) c.runners.yielded c.runners.runner-iterator c.runners.yielded_by c.next.result c.next.new.self c.in-Some.runner c.in-Some.is c.next.ensures.steps in
    let short = short_runner (λ s. s.cpu) c.args.runners.items (length c.runners.yielded) c.in-Some.runner turn.0 c.requires.short in
    subst IsShort (ap (λ s. s.cpu) (sym turn.1) ∙ sym c.into_parts-cpu.ensures.cpu) short

pub returns : goal.returns
returns g c =
    let end = YieldsList-end (YieldsList-from_vec {s = c.into_iter-runner-iterator.result} c.args.runners.items (search rules) (search rules)) c.runners.yielded c.runners.runner-iterator c.runners.yielded_by c.next.result c.next.new.self c.in-None.is c.next.ensures.steps in
    let all = sym (map-id c.runners.yielded) ∙ end.0 in (
      c.runners.invariant.logs ∙ ap (map (λ s. log_of s.cpu)) all ∙ sym (map-map log_of (λ s. s.cpu) c.args.runners.items),
      c.runners.invariant.pending ∙ ap (map (λ s. pending_of s.cpu)) all ∙ sym (map-map pending_of (λ s. s.cpu) c.args.runners.items),
    )
