use Rattle.std.proofs.Common.{◌≡◌, ◌++◌, take}
use Rattle.machine_image.specs.Image.{numbers_bytes}
use Rattle.machine_image.proofs.write.put_words.Given as goal

abbrev pub invariant-loop-place : goal.invariant-loop-place
invariant-loop-place l = l.out.items ≡ l.fn.out.items ++ numbers_bytes (take l.place l.words)
