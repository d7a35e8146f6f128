use Rattle.std.proofs.Common.{◌≡◌, ◌++◌, take}
use Rattle.machine_image.specs.Image.{numbers_bytes}
use Rattle.machine_image.proofs.write.put_each.Given as goal

abbrev pub invariant-loop-number : goal.invariant-loop-number
invariant-loop-number l = l.out.items ≡ l.fn.out.items ++ numbers_bytes (take l.number-index l.numbers)
