use Rattle.xp_words.proofs.Joining.{joined}
use Rattle.report_text.proofs.Blocks.{none_yet}
use Rattle.machine_draw.proofs.Texts.{no_frames, frames_more}
use Rattle.machine_draw.proofs.frames.put_frames.Goals as goal

pub loop-frame-init : goal.loop-frame-init
loop-frame-init c = none_yet _ _ (no_frames _ _)

pub loop-frame-preserved : goal.loop-frame-preserved
loop-frame-preserved c = rw frames_more (joined _ _ _ _ _ c.loop-frame.invariant c.in_ok-put_frame.ensures)
