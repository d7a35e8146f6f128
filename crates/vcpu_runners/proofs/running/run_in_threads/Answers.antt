use Rattle.std.proofs.Common.{◌≡◌, ◌∙◌, sym, ap, map, length, arith, rules}
use Rattle.std.proofs.lemmas.Iterator.Adapters.{YieldsList-from_vec}
use Rattle.std.proofs.lemmas.Iterator.Consumers.{YieldsList-end, YieldsList-turn}
use Rattle.std.proofs.lemmas.List.{length-map, map-id}
use Rattle.vcpu_runners.specs.Gates.{in_box}
use Rattle.vcpu_runners.proofs.Gathering.{may_run, passes_own, ran_in_threads, written_back}
use Rattle.vcpu_runners.proofs.running.run_in_threads.Goals as goal

pub work_all-requires-after_bounds : goal.work_all-requires-after_bounds
work_all-requires-after_bounds g c κs within =
    may_run (λ w. w.pass) (λ w. w.runner) (λ s. s.cpu) c.args.board c.args.passes.items c.args.runners.items c.deref_mut.result.now (ap (map (λ w. w.pass)) c.deref_mut.ensures.value ∙ c.in_ok-workers.ensures.passes)
    (ap (map (λ w. w.runner)) c.deref_mut.ensures.value ∙ c.in_ok-workers.ensures.runners) c.requires.count c.requires.opened c.requires.first

pub push_reserved-requires : goal.push_reserved-requires
push_reserved-requires g c =
    let behind = c.work_all.new.workers in
    let turn = YieldsList-turn (YieldsList-from_vec {s = c.into_iter-worker-iterator.result} behind (written_back _ c.in_ok-workers.workers.items _ _ c.into_iter-worker-iterator.ensures.into_iter_gives.0 (omega (arith, c.in_ok-workers.workers.ok.0, ap length c.deref_mut.ensures.value, c.work_all.ensures.count))) (search rules)) c.ended.yielded c.ended.worker-iterator c.ended.yielded_by c.next.result c.next.new.self c.in-Some.worker c.in-Some.is c.next.ensures.steps in
    let many : length behind ≡ length c.args.passes.items =
    omega (arith, c.work_all.ensures.count, ap length c.deref_mut.ensures.value, length-map c.in_ok-workers.workers.items (λ w. w.pass), ap length c.in_ok-workers.ensures.passes) in
    let taken : length c.ended.ended.items ≡ length c.ended.yielded = ap length c.ended.invariant.passes ∙ length-map c.ended.yielded (λ w. w.pass) in
    omega (arith, turn.0, many, taken, c.ended.ended.ok.0, c.ended.invariant.room, c.in_ok-ended.ensures.capacity, c.len.ensures)

pub close-requires-clause-count : goal.close-requires-clause-count
close-requires-clause-count g c =
    let behind = c.work_all.new.workers in
    let end = YieldsList-end (YieldsList-from_vec {s = c.into_iter-worker-iterator.result} behind (written_back _ c.in_ok-workers.workers.items _ _ c.into_iter-worker-iterator.ensures.into_iter_gives.0 (omega (arith, c.in_ok-workers.workers.ok.0, ap length c.deref_mut.ensures.value, c.work_all.ensures.count))) (search rules)) c.ended.yielded c.ended.worker-iterator c.ended.yielded_by c.next.result c.next.new.self c.in-None.is c.next.ensures.steps in
    let many : length behind ≡ length c.args.passes.items =
    omega (arith, c.work_all.ensures.count, ap length c.deref_mut.ensures.value, length-map c.in_ok-workers.workers.items (λ w. w.pass), ap length c.in_ok-workers.ensures.passes) in
    let taken : length c.ended.ended.items ≡ length c.ended.yielded = ap length c.ended.invariant.passes ∙ length-map c.ended.yielded (λ w. w.pass) in
    taken ∙ end.1 ∙ many ∙ c.requires.count

pub close-requires-clause-own : goal.close-requires-clause-own
close-requires-clause-own g c =
    let before = c.deref_mut.result.now in
    let behind = c.work_all.new.workers in
    let with_passes = ap (map (λ w. w.pass)) c.deref_mut.ensures.value ∙ c.in_ok-workers.ensures.passes in
    let with_runners = ap (map (λ w. w.runner)) c.deref_mut.ensures.value ∙ c.in_ok-workers.ensures.runners in
    let end = YieldsList-end (YieldsList-from_vec {s = c.into_iter-worker-iterator.result} behind (written_back _ c.in_ok-workers.workers.items _ _ c.into_iter-worker-iterator.ensures.into_iter_gives.0 (omega (arith, c.in_ok-workers.workers.ok.0, ap length c.deref_mut.ensures.value, c.work_all.ensures.count))) (search rules)) c.ended.yielded c.ended.worker-iterator c.ended.yielded_by c.next.result c.next.new.self c.in-None.is c.next.ensures.steps in
    let all = sym (map-id c.ended.yielded) ∙ end.0 in
    passes_own (λ w. w.pass) (λ w. w.runner) (λ s. in_box (λ z. (goal.Preempt-dyn g z).policy z.1) s.gate) (λ s. s.cpu) c.args.board c.args.passes.items c.args.runners.items before behind with_passes with_runners c.requires.count c.requires.opened c.requires.first
    c.work_all.ensures.count c.work_all.ensures.each c.ended.ended.items (c.ended.invariant.passes ∙ ap (map (λ w. w.pass)) all)

pub returns : goal.returns
returns g c =
    let before = c.deref_mut.result.now in
    let behind = c.work_all.new.workers in
    let with_passes = ap (map (λ w. w.pass)) c.deref_mut.ensures.value ∙ c.in_ok-workers.ensures.passes in
    let with_runners = ap (map (λ w. w.runner)) c.deref_mut.ensures.value ∙ c.in_ok-workers.ensures.runners in
    let end = YieldsList-end (YieldsList-from_vec {s = c.into_iter-worker-iterator.result} behind (written_back _ c.in_ok-workers.workers.items _ _ c.into_iter-worker-iterator.ensures.into_iter_gives.0 (omega (arith, c.in_ok-workers.workers.ok.0, ap length c.deref_mut.ensures.value, c.work_all.ensures.count))) (search rules)) c.ended.yielded c.ended.worker-iterator c.ended.yielded_by c.next.result c.next.new.self c.in-None.is c.next.ensures.steps in
    let all = sym (map-id c.ended.yielded) ∙ end.0 in
    ran_in_threads (λ w. w.pass) (λ w. w.runner) (λ s. in_box (λ z. (goal.Preempt-dyn g z).policy z.1) s.gate) (λ s. s.cpu) c.args.board c.args.passes.items c.args.runners.items before behind with_passes with_runners c.requires.count c.requires.opened c.requires.first
    c.work_all.ensures.count c.work_all.ensures.each c.rested_words_are_sound.ensures c.a_burial_leaves_only_what_is_listed.ensures c.close.result c.ended.ended.items c.ended.retired.items (c.ended.invariant.passes ∙ ap (map (λ w. w.pass)) all)
    (c.ended.invariant.runners ∙ ap (map (λ w. w.runner)) all) c.close.ensures
