-- The cells of a frame that was taken are scrubbed, from the first on.
use Rattle.std.proofs.Common.{ℕ, ◌+◌, [], None}
use Rattle.xp_words.specs.declared.place.Place.TheVariants.{Cell}
use Rattle.xp_board.specs.Told.{PortValue}
use Rattle.xp_board.specs.declared.step.Act.TheVariants.{Store}
use Rattle.xp_board.specs.declared.step.StepKind.TheVariants as kinds
use Rattle.step_maker.specs.Holds.{Holds}
use Rattle.step_maker.specs.Moves.{Moves}
use Rattle.step_maker.specs.Visits.{Does}
use Rattle.step_maker.proofs.Piecing.{serves_nothing}
use Rattle.claim_words.specs.Claims.{MayScrub, scrubbed_newest}
use Rattle.frame_claims.specs.Blocks.{ServesBlock}
use Rattle.frame_claims.specs.Found.{ScrubsOne, Upwards}
use Rattle.frame_claims.proofs.Heads.{scrub_more, scrub_on, scrub_start}
use Rattle.frame_claims.proofs.Listing.{up_more, up_none}
use Rattle.frame_claims.proofs.Serving.{scrubs}
use Rattle.frame_claims.proofs.Visiting.{scrubbed_one}

-- those below i
pub record Scrubbed (v w : PortValue) (f i : ℕ) : Type 0 where
  pub serves : ServesBlock v w f 1 []
  pub hand : Holds v w (scrubbed_newest i v.holdings)
  pub visits : Does v w (λ vs. Upwards (ScrubsOne f) 0 i vs)

pub scrubbed_none : (v : PortValue) (f : ℕ) → MayScrub f 0 v.holdings → Scrubbed v v f 0
scrubbed_none v f may = record { serves = λ r b. serves_nothing v r; hand = scrub_start v f may; visits = up_none (ScrubsOne f) 0 v }

pub scrubbed_more : (v u w : PortValue) (f i found : ℕ) → MayScrub f 0 v.holdings → Scrubbed v u f i → Moves u w (Cell f i) (Store 0) kinds.Cell None found → Holds u w (scrubbed_newest (i + 1) u.holdings) → Scrubbed v w f (i + 1)
scrubbed_more v u w f i found may so moves hand =
    record {
      serves = scrubs v u w f i found (scrub_on v u f i may so.hand) so.serves moves;
      hand = scrub_more v u w i (i + 1) so.hand hand;
      visits = up_more (ScrubsOne f) 0 v u w i so.visits (scrubbed_one u w f i found moves);
    }
