use Rattle.std.proofs.Common.{◌≡◌, ◌++◌, take}
use Rattle.machine_image.specs.Image.{numbers_bytes}
use Rattle.machine_image.proofs.write.put_limits.Given as goal

abbrev pub invariant-loop-limit : goal.invariant-loop-limit
invariant-loop-limit l = l.out.items ≡ l.fn.out.items ++ numbers_bytes (take l.limit-index l.limits)
