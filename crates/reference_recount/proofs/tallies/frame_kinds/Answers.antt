use Rattle.std.proofs.Common.{sym, subst, ap}
use Rattle.xp_words.specs.Places.{sizes_of, memory}
use Rattle.reference_recount.specs.Growth.{AreKinds}
use Rattle.reference_recount.proofs.KindForms.{one_kind_more}
use Rattle.reference_recount.proofs.tallies.frame_kinds.Goals as goal

pub loop-frame-preserved : goal.loop-frame-preserved
loop-frame-preserved c =
    let m = memory (sizes_of c.args.layout.now) c.args.words.now in
    subst (AreKinds m _) (sym c.in_ok-push.ensures.items) (one_kind_more m c.loop-frame.frame c.loop-frame.kinds.items _ c.loop-frame.invariant (ap (λ k. k.kind) c.kind_of.ensures.kind))
