use Rattle.std.proofs.Common.{◌≡◌, ◌≤◌, ◌-◌, ◌+◌, ◌*◌, ◌++◌, take, vec_len}
use Rattle.std.specs.Vec.{vec_capacity}
use Rattle.machine_image.specs.Image.{numbers_bytes}
use Rattle.machine_image.proofs.numbers.push_numbers.Given as goal

abbrev pub invariant-loop-index : goal.invariant-loop-index
invariant-loop-index l = record {
  bytes : numbers_bytes l.whole.items ≡ numbers_bytes l.fn.whole.items ++ take (8 * l.index) l.bytes;
  len : vec_len l.whole ≡ vec_len l.fn.whole + l.index;
  room : vec_len l.whole + (l.count - l.index) ≤ vec_capacity l.whole;
}
