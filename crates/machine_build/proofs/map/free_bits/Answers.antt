use Rattle.std.proofs.Common.{refl, ◌∙◌, sym}
use Rattle.std.proofs.Math.Facts.{Fits-bits}
use Rattle.machine_build.specs.Opening.{bits_below}
use Rattle.machine_build.proofs.Steps.{bit_fits, bit_set, bit_clear}
use Rattle.machine_build.proofs.map.free_bits.Goals as goal
use Rattle.machine_build.proofs.map.free_bits.Goals.{then-is_free, else-is_free}

pub loop-bit-init : goal.loop-bit-init
unfolding bits_below
loop-bit-init c = refl

pub overflow_add-bits : goal.overflow_add-bits
overflow_add-bits c = Fits-bits 64 tt (bit_fits c.loop-bit.bit _ _ c.loop-bit-test.true c.loop-bit.invariant)

pub loop-bit-preserved : goal.loop-bit-preserved
loop-bit-preserved c =
    elim c.if-is_free.branch [
      | then-is_free w ↦ w.bits-is ∙ bit_set c.loop-bit.bit _ _ c.loop-bit-test.true c.loop-bit.invariant (sym c.is_free.ensures ∙ w.if-is_free.true)
      | else-is_free w ↦ w.bits-is ∙ bit_clear c.loop-bit.bit _ _ c.loop-bit.invariant (sym c.is_free.ensures ∙ w.if-is_free.false)
    ]
