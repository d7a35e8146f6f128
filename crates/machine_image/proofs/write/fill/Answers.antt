use Rattle.std.proofs.Common.{rules, drop, ◌+◌, ◌∙◌, sym, length, arith}
use Rattle.std.proofs.lemmas.List.{get_or-drop, length-drop}
use Rattle.machine_image.proofs.Bytes.{filled_more}
use Rattle.machine_image.proofs.write.fill.Goals as goal

pub loop-index-preserved : goal.loop-index-preserved
loop-index-preserved c =
    let row = drop c.args.start c.args.words.now in
    record {
      long = search rules;
      bytes = filled_more c.loop-index.piece c.set_number.new.bytes _ row c.loop-index.index c.get.result (search rules) c.set_number.ensures.set c.loop-index.invariant.bytes (search (rules, length-drop c.args.start c.args.words.now)) (c.get.ensures ∙ sym (get_or-drop c.args.start c.args.words.now c.loop-index.index 0));
    }
