use Rattle.std.proofs.Common.{◌≡◌, ◌<◌, length, sym, ap, ◌∙◌, arith, length-set}
use Rattle.std.specs.Slots.{slots_items}
use Rattle.std.specs.Mem.Slots.{slots_counts}
use Rattle.thread_board.proofs.Copying.{copied_over}
use Rattle.thread_board.proofs.closing.copy_words.Goals as goal

pub loop-place-preserved : goal.loop-place-preserved
loop-place-preserved c =
    let i = c.loop-place.invariant in
    let same : length (slots_items c.args.closed.now.words) ≡ length c.args.words.now = sym (slots_counts c.args.closed.now.words).0 ∙ sym c.requires.count in
    let there : c.loop-place.place < length c.args.words.now = omega (arith, c.len-place-end.ensures, c.loop-place-test.true) in
    record {
      words = copied_over _ _ _ _ _ _ there same c.word.ensures i.words c.set.ensures;
      count = ap length c.set.ensures ∙ length-set _ _ _ ∙ i.count;
    }
