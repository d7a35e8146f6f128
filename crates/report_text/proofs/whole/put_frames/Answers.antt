use Rattle.std.proofs.Common.{◌++◌, ap, sym, ◌∙◌, string_bytes}
use Rattle.report_text.proofs.Blocks.{no_frames, free_frame, held_frame, none_yet}
use Rattle.xp_words.proofs.Joining.{joined}
use Rattle.report_text.proofs.whole.put_frames.Goals as goal
use Rattle.report_text.proofs.whole.put_frames.Goals.{then-not-is_free+in_ok-put_frame, else-not-is_free}

pub loop-frame-init : goal.loop-frame-init
loop-frame-init c = none_yet _ _ (no_frames _)

pub loop-frame-preserved : goal.loop-frame-preserved
loop-frame-preserved c =
    elim c.if-not-is_free.branch [
      | then-not-is_free+in_ok-put_frame w ↦
          let held = sym c.is_free.ensures ∙ w.if-not-is_free.true in
          ap string_bytes w.out-is ∙ joined _ _ _ _ _ c.loop-frame.invariant w.in_ok-put_frame.ensures ∙ ap (λ l. string_bytes c.args.out.now ++ l) (sym (held_frame _ _ _ _ _ c.refs-refs.ensures w.kind.ensures w.m2p.ensures held))
      | else-not-is_free w ↦
          let free = sym c.is_free.ensures ∙ w.if-not-is_free.false in
          ap string_bytes w.out-is ∙ c.loop-frame.invariant ∙ ap (λ l. string_bytes c.args.out.now ++ l) (sym (free_frame _ _ _ c.refs-refs.ensures free))
    ]
