use Rattle.std.proofs.Common.{rules, ◌<◌, ◌∙◌, refl, ap, sym, subst, length, All}
use Rattle.std.proofs.lemmas.List.{length-map}
use Rattle.trace_text.specs.declared.trace.TurnRun.{TurnRun}
use Rattle.xp_words.specs.Machine.{Machine}
use Rattle.xp_words.specs.Places.{size, sizes_of}
use Rattle.xp_machine.specs.Cpus.{order}
use Rattle.xp_machine.specs.Rows.{stage_of}
use Rattle.xp_machine.proofs.Reaching.{ran, ready_board}
use Rattle.xp_machine.proofs.Starting.{length_first}
use Rattle.xp_machine.proofs.execute.run_told.Goals as goal

pub run_all-board-requires-clause-known : goal.run_all-board-requires-clause-known
run_all-board-requires-clause-known g c =
    let t = c.args.trace in
    let all = sym (length-map c.in_ok-first.first.items (λ s. s.cpu)) ∙ ap length c.in_ok-first.ensures.0 ∙ length_first t.layout t.scripts ∙ c.requires.well.scripts in
    rw c.as_slice.ensures (subst (λ k. All (λ (r : TurnRun). r.vcpu < k) t.turns) (sym all) c.requires.well.turns)

pub run_all-board-requires-clause-ready : goal.run_all-board-requires-clause-ready
run_all-board-requires-clause-ready g c =
    ready_board c.args.trace c.in_ok-board.board c.in_ok-words.words _ (c.opening_words_are_sound.ensures c.args.trace c.in_ok-words.words c.requires.well c.in_ok-words.ensures) c.in_ok-words.ensures c.in_ok-board.ensures.0 c.in_ok-board.ensures.1 c.requires.well.scripts c.requires.well.few_ops c.in_ok-first.ensures.0

pub returns-clause-ran : goal.returns-clause-ran
returns-clause-ran g c =
    let closed = stage_of (λ x. (goal.Preempt-dyn g (x.vtable, x.value)).policy x.value) c.run_all-board.result.0 c.run_all-board.result.1.items in
    let sound = c.opening_words_are_sound.ensures c.args.trace c.in_ok-words.words c.requires.well c.in_ok-words.ensures in record {
      closed = closed;
      ran = ran c.a_run_leaves_it_safe.ensures c.rested_words_are_sound.ensures c.a_burial_leaves_only_what_is_listed.ensures c.args.trace c.in_ok-board.board c.run_all-board.result.0 c.in_ok-words.words _ closed.cpus _ _ closed.gates (order c.as_slice.result.now)
          sound c.in_ok-words.ensures c.in_ok-board.ensures.0 c.in_ok-board.ensures.1 c.run_all-board.ensures.machine c.run_all-board.ensures.opening c.run_all-board.ensures.ready c.in_ok-first.ensures.0
          c.in_ok-first.ensures.1 (ap order c.as_slice.ensures) c.run_all-board.ensures.works c.into_parts-words.ensures.run;
      words_are = c.into_parts-words.ensures.words;
      steps_are = search rules;
      cpus_are = refl;
    }

pub returns-clause-words : goal.returns-clause-words
returns-clause-words g c =
    ap length c.into_parts-words.ensures.words ∙ c.into_parts-words.ensures.sound.all_words ∙ ap (λ (n : Machine). size (sizes_of n)) (c.run_all-board.ensures.machine ∙ c.in_ok-board.ensures.0)

pub returns-clause-cpus : goal.returns-clause-cpus
returns-clause-cpus g c =
    let ready = c.run_all-board.ensures.ready in
    (sym (length-map c.run_all-board.result.1.items (λ s. s.cpu)) ∙ ready.all ∙ ap (λ (n : Machine). (sizes_of n).vcpus) (c.run_all-board.ensures.machine ∙ c.in_ok-board.ensures.0), ready.short)
