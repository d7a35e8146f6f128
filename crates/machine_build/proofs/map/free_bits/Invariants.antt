use Rattle.std.proofs.Common.{◌≡◌, ◌+◌, ◌*◌}
use Rattle.xp_words.specs.Places.{sizes_of, memory}
use Rattle.machine_build.specs.Opening.{bits_below}
use Rattle.machine_build.specs.Puts.{is_zero}
use Rattle.machine_build.proofs.map.free_bits.Given as goal

abbrev pub invariant-loop-bit : goal.invariant-loop-bit
invariant-loop-bit l = l.bits ≡ bits_below l.bit (λ b. is_zero l.layout.frames (memory (sizes_of l.layout) l.words) (64 * l.number + b))
