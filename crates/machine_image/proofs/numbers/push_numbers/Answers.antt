use Rattle.std.proofs.Common.{rules, ap, ◌∙◌}
use Rattle.machine_image.specs.Image.{numbers_bytes}
use Rattle.machine_image.proofs.Bytes.{bytes_more}
use Rattle.machine_image.proofs.numbers.push_numbers.Goals as goal

pub loop-index-preserved : goal.loop-index-preserved
loop-index-preserved c = record {
  bytes = ap numbers_bytes c.push_reserved.ensures.items ∙ bytes_more c.args.bytes.now c.loop-index.whole.items (numbers_bytes c.args.whole.now.items) c.loop-index.index c.spelled.result c.spelled.ensures c.loop-index.invariant.bytes;
  len = search rules;
  room = search rules;
}
