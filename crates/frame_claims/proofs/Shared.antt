-- Lemmas that several crates above cite.
use Rattle.std.proofs.Common.{ℕ, refl, ap, ◌∙◌}
use Rattle.frame_words.proofs.Putting.{without_newest}
use Rattle.frame_words.specs.Freeing.{gave}
use Rattle.frame_words.specs.Refs.{took}
use Rattle.step_maker.specs.Holds.{Holds, Same, still}
use Rattle.xp_board.specs.Told.{PortValue}
use Rattle.xp_board.specs.declared.holdings.OwnerFound.TheVariants as owners
use Rattle.xp_board.specs.declared.holdings.Reference.{Reference}

-- the mark's reference came into the hand, and went out
pub mark_same : (v u w x : PortValue) (f owner : ℕ) → Same v u → Holds u w (took f owner u.holdings) → Holds w x (gave f w.holdings) → Same v x
mark_same v u w x f owner look clear back =
    back ∙ ap (λ (q : PortValue). still (record q { holdings = gave f q.holdings })) clear ∙ ap (λ (q : PortValue). still (record q { holdings = gave f (took f owner q.holdings) })) look
    ∙ ap (λ rs. still (record v { holdings = record v.holdings { refs = rs } })) (without_newest (λ (e : Reference). e.frame) f (record { frame = f; owner = owners.Of owner }) v.holdings.refs refl)
