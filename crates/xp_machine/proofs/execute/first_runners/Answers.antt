use Rattle.std.proofs.Common.{◌∙◌, ◌≤◌, length, refl, sym, ap, map, subst, sum_by, List, rules, arith}
use Rattle.std.specs.List.{range_with_len, zip}
use Rattle.xp_words.specs.declared.ops.Op.{Op}
use Rattle.std.specs.Iterator.Adapters.{zip_second}
use Rattle.std.proofs.lemmas.Iterator.{YieldsList-from_zip, YieldsList-from_range}
use Rattle.std.proofs.lemmas.Iterator.Adapters.{YieldsList-from_vec}
use Rattle.std.proofs.lemmas.Iterator.Consumers.{YieldsList-at, YieldsList-turn, YieldsList-end}
use Rattle.std.proofs.lemmas.List.{map-id}
use Rattle.vcpu_runners.specs.Cpus.{first_cpu}
use Rattle.xp_machine.proofs.Starting.{cpus_first, gates_first, number_below, script_short}
use Rattle.xp_machine.proofs.execute.first_runners.Goals as goal

pub new-requires : goal.new-requires
new-requires g c =
    let numbers = YieldsList-from_zip (YieldsList-at c.zip.ensures.first (YieldsList-from_range 0 c.vcpus.result c.vcpus.result refl (omega arith))) (YieldsList-from_vec {s = zip_second c.zip.result} c.into_items.result.items (search rules) (search rules)) in
    let road = YieldsList-from_zip (YieldsList-at c.zip-vcpu-items.ensures.first numbers) (YieldsList-from_vec {s = zip_second c.zip-vcpu-items.result} c.args.gates.items (search rules) (search rules)) in
    let turn = YieldsList-turn (YieldsList-at c.into_iter-vcpu-iterator.ensures.into_iter_gives road) c.runners.yielded c.runners.vcpu-iterator c.runners.yielded_by c.next.result c.next.new.self ((c.in-Some.vcpu, c.in-Some.script), c.in-Some.gate) c.in-Some.is c.next.ensures.steps in
    record {
      vcpu = number_below c.vcpus.result _ c.into_items.result.items c.args.gates.items _ _ _ turn.0 (ap (λ p. p.0.0) turn.1) c.vcpus.ensures.vcpus;
      short = script_short c.vcpus.result c.into_items.result.items c.args.gates.items _ _ _ turn.0 (ap (λ p. p.0.1) turn.1)
          (subst (λ (scripts : List (List Op)). sum_by length scripts ≤ 65536) (sym c.into_items.ensures) c.requires.few);
    }

pub returns : goal.returns
returns g c =
    let numbers = YieldsList-from_zip (YieldsList-at c.zip.ensures.first (YieldsList-from_range 0 c.vcpus.result c.vcpus.result refl (omega arith))) (YieldsList-from_vec {s = zip_second c.zip.result} c.into_items.result.items (search rules) (search rules)) in
    let road = YieldsList-from_zip (YieldsList-at c.zip-vcpu-items.ensures.first numbers) (YieldsList-from_vec {s = zip_second c.zip-vcpu-items.result} c.args.gates.items (search rules) (search rules)) in
    let end = YieldsList-end (YieldsList-at c.into_iter-vcpu-iterator.ensures.into_iter_gives road) c.runners.yielded c.runners.vcpu-iterator c.runners.yielded_by c.next.result c.next.new.self c.in-None.is c.next.ensures.steps in
    let all = sym (map-id c.runners.yielded) ∙ end.0 in
    let few : length c.args.scripts ≤ length c.args.gates.items = search rules in (
      c.runners.invariant.cpus ∙ ap (map (λ p. first_cpu c.args.layout.now p.0)) all
          ∙ ap (λ (scripts : List (List Op)). map (λ p. first_cpu c.args.layout.now p.0) (zip (zip (range_with_len 0 c.vcpus.result) scripts) c.args.gates.items)) c.into_items.ensures
          ∙ cpus_first c.args.layout.now c.vcpus.result c.args.scripts c.args.gates.items (c.vcpus.ensures.vcpus ∙ sym c.requires.scripts) few,
      c.runners.invariant.gates ∙ ap (map (λ p. (goal.Preempt-dyn g (p.1.vtable, p.1.value)).policy p.1.value)) all
          ∙ ap (λ (scripts : List (List Op)). map (λ p. (goal.Preempt-dyn g (p.1.vtable, p.1.value)).policy p.1.value) (zip (zip (range_with_len 0 c.vcpus.result) scripts) c.args.gates.items)) c.into_items.ensures
          ∙ gates_first (λ x. (goal.Preempt-dyn g (x.vtable, x.value)).policy x.value) _ c.vcpus.result c.args.scripts c.args.gates.items (sym c.requires.scripts) (c.vcpus.ensures.vcpus ∙ sym c.requires.scripts),
    )
