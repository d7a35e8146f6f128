use Rattle.std.proofs.Common.{◌≡◌, ◌*◌, length, take, drop}
use Rattle.machine_image.specs.Image.{numbers_bytes}
use Rattle.machine_image.proofs.write.fill.Given as goal

abbrev pub invariant-loop-index : goal.invariant-loop-index
invariant-loop-index l = record {
  long : length l.piece ≡ length l.fn.piece;
  bytes : take (8 * l.index) l.piece ≡ numbers_bytes (take l.index (drop l.start l.words));
}
