use Rattle.std.proofs.Common.{◌≡◌, ℕ, ◌+◌, ◌*◌, ◌&&◌, nat_le, Option, None, ap, ◌∙◌, subst}
use Rattle.xp_words.specs.Machine.{Machine}
use Rattle.xp_words.proofs.Shared.{and_true as both_hold, and_first_false as first_fails, and_second_false as second_fails}
use Rattle.xp_board.specs.Told.{PortValue}
use Rattle.step_maker.specs.Visits.{Does}
use Rattle.frame_claims.specs.Found.{BlockBy, FreeBlock, TriedWhere, are_set, block_of}
use Rattle.frame_claims.proofs.Trying.{bits_off, bits_set, not_tried, tried}
use Rattle.frame_claims.proofs.Finding.{bits_aligned, looks_nothing}
use Rattle.frame_claims.proofs.choosing.try_bits.Goals.{then-bits-size-via-then-bits-size, then-bits-size-via-else-bits-size+then-first-size}
use Rattle.frame_claims.proofs.choosing.try_bits.Goals as goal
use Rattle.frame_words.proofs.Twinning.{full as fits_in, room as fits_not}

pub returns-then-bits-size-clause-looks : goal.returns-then-bits-size-clause-looks
returns-then-bits-size-clause-looks g c = looks_nothing (g.P.Port.value c.args.port.now)

pub try_block-requires-clause-aligned : goal.try_block-requires-clause-aligned
try_block-requires-clause-aligned g c = bits_aligned c.args.word c.args.at c.args.size c.requires.some c.requires.parts

-- the frames of the machine
frames_are : (v w : PortValue) (n : Machine) (k word x at frames : ℕ) (o : Option FreeBlock) → frames ≡ n.frames → Does v w (λ vs. TriedWhere (are_set k (k * at) x && nat_le (64 * word + k * at + k) frames) k (64 * word + k * at) o vs) →
    Does v w (λ vs. BlockBy n k word x at o vs)
frames_are v w n k word x at frames o is does = subst (λ m. Does v w (λ vs. TriedWhere (are_set k (k * at) x && nat_le (64 * word + k * at + k) m) k (64 * word + k * at) o vs)) is does

pub returns-clause-visits : goal.returns-clause-visits
returns-clause-visits g c =
    let v = g.P.Port.value c.args.port.now in
    let w = g.P.Port.value c.try_block.new.port in
    let k = c.args.size in
    let b = k * c.args.at in
    let o = block_of c.try_block.result c.try_block.new.stamps.items in
    frames_are v w v.post.machine k c.args.word c.args.bits c.args.at c.behind-port.inside.frames o (ap (λ (n : Machine). n.frames) (c.behind-port.view_is ∙ c.layout.ensures.layout))
    (tried v w _ k (64 * c.args.word + b) o
    (both_hold _ _ (bits_set k b c.args.bits c.requires.few c.if-bits-size.false) (fits_in (64 * c.args.word + b + k) c.behind-port.inside.frames c.if-first-size.false)) c.try_block.ensures.visits)

pub returns-then-bits-size-clause-visits : goal.returns-then-bits-size-clause-visits
returns-then-bits-size-clause-visits g c =
    let v = g.P.Port.value c.args.port.now in
    let k = c.args.size in
    let b = k * c.args.at in
    elim c.then-bits-size.branch [
      | then-bits-size-via-then-bits-size w ↦ not_tried v (are_set k b c.args.bits && nat_le (64 * c.args.word + b + k) v.post.machine.frames) k (64 * c.args.word + b) (first_fails _ _ (bits_off k b c.args.bits c.requires.few w.if-bits-size.true))
      | then-bits-size-via-else-bits-size+then-first-size w ↦
          frames_are v v v.post.machine k c.args.word c.args.bits c.args.at w.behind-port.inside.frames None (ap (λ (n : Machine). n.frames) (w.behind-port.view_is ∙ w.layout.ensures.layout))
          (not_tried v _ k (64 * c.args.word + b) (second_fails _ _ (fits_not (64 * c.args.word + b + k) w.behind-port.inside.frames w.if-first-size.true)))
    ]
