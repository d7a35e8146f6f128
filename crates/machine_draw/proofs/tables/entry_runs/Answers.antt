use Rattle.std.proofs.Common.{ap, sym, ◌∙◌}
use Rattle.machine_draw.proofs.Texts.{no_runs, runs_more, one_more, none_more}
use Rattle.machine_draw.proofs.tables.entry_runs.Goals as goal
use Rattle.machine_draw.proofs.tables.entry_runs.Goals.{in-Some+in_ok-push, in_default}

pub loop-index-init : goal.loop-index-init
loop-index-init c = c.new-runs.ensures.items ∙ sym (no_runs _ _)

pub loop-index-preserved : goal.loop-index-preserved
loop-index-preserved c =
    let more = runs_more c.args.image.now c.args.table c.loop-index.index in
    elim c.match-run_at.branch [
      | in-Some+in_ok-push w ↦
          ap (λ v. v.items) w.runs-is ∙ one_more _ _ _ _ _ _ w.in_ok-push.ensures.items c.loop-index.invariant w.in-Some.ensures more
      | in_default w ↦
          ap (λ v. v.items) w.runs-is ∙ none_more _ _ _ _ c.loop-index.invariant w.in_default.ensures more
    ]
