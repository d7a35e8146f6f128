use Rattle.std.proofs.Common.{◌+◌, ap, sym, ◌∙◌, arith}
use Rattle.report_text.proofs.Blocks.{none_free, one_free, one_held}
use Rattle.report_text.proofs.whole.free_count.Goals as goal
use Rattle.report_text.proofs.whole.free_count.Goals.{then-is_free, else-is_free}

pub loop-frame-init : goal.loop-frame-init
loop-frame-init c = (omega arith, sym (none_free _))

pub loop-frame-preserved : goal.loop-frame-preserved
loop-frame-preserved c =
    elim c.if-is_free.branch [
      | then-is_free w ↦
          let free = sym c.is_free.ensures ∙ w.if-is_free.true in
          (omega arith, w.free-is ∙ ap (λ n. n + 1) c.loop-frame.invariant.1 ∙ sym (one_free _ _ _ c.refs.ensures free))
      | else-is_free w ↦
          let held = sym c.is_free.ensures ∙ w.if-is_free.false in
          (omega arith, w.free-is ∙ c.loop-frame.invariant.1 ∙ sym (one_held _ _ _ c.refs.ensures held))
    ]
