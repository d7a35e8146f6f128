-- A claim at its end: whom its steps serve, and that nothing is in hand.
use Rattle.std.proofs.Common.{◌≡◌, ℕ, ◌≤◌, List, [], sym, ap, ◌∙◌, subst, append-nil}
use Rattle.xp_words.specs.Machine.{Machine}
use Rattle.xp_words.specs.declared.reply.Stop.{Stop}
use Rattle.xp_board.specs.Hands.{IsEmptyHand}
use Rattle.xp_board.specs.Lists.{times, with_more}
use Rattle.xp_board.specs.Told.{PortValue}
use Rattle.step_maker.specs.Holds.{FlushedSame, Holds, still}
use Rattle.step_maker.specs.Answers.{Deed, Serves, missed}
use Rattle.step_maker.proofs.Piecing.{serves_then}
use Rattle.claim_words.specs.Claims.{charged, uncharged}
use Rattle.frame_claims.specs.Blocks.{HasRow, ServesBlock, given_deeds, holding, rising}
use Rattle.frame_claims.specs.Claiming.{ServesPages, ServesWhole, TookBlock, TookNone}
use Rattle.frame_claims.proofs.Composing.{credits_there, given_same, refunded_same, row_of, takes_pages, then_block}

-- ---- steps
pub pages_first : (v x w : PortValue) (first size : ℕ) (ds : List Deed) → ServesPages v x [] → ServesWhole x w first size ds → ServesWhole v w first size ds
pages_first v x w first size ds pages whole =
    record { aligned = whole.aligned; serves = λ r b. subst (Serves v w r) (append-nil ds) (serves_then v x w r [] ds (pages r (takes_pages r first size b.asks)) (whole.serves r b)) }

pub pages_last : (v u w : PortValue) (first size : ℕ) (ds : List Deed) → ServesWhole v u first size ds → ServesPages u w [] → ServesWhole v w first size ds
pages_last v u w first size ds whole pages =
    record { aligned = whole.aligned; serves = λ r b. serves_then v u w r ds [] (whole.serves r b) (pages r (takes_pages r first size b.asks)) }

pub same_missed : (n m : Machine) (v w : PortValue) (first size : ℕ) (e : Stop) → n ≡ m → ServesWhole v w first size (missed n e) → ServesWhole v w first size (missed m e)
same_missed n m v w first size e same whole = subst (λ k. ServesWhole v w first size (missed k e)) same whole

pub given_all : (v u w : PortValue) (first size n : ℕ) → n ≡ size → ServesWhole v u first size [] → ServesBlock u w first n (given_deeds first n) → ServesWhole v w first size (given_deeds first size)
given_all v u w first size n is whole gives = then_block v u w first size (given_deeds first size) whole (subst (λ k. ServesBlock u w first k (given_deeds first k)) is gives)

-- ---- what is in hand
pub charged_row : (v x : PortValue) (d k : ℕ) → IsEmptyHand v.holdings → Holds v x (charged k d v.holdings) → HasRow x x 0 [] d k
charged_row v x d k rests charge =
    row_of x 0 d k (ap (λ (y : PortValue). y.holdings.claimed) charge ∙ rests.claimed) (ap (λ (y : PortValue). y.holdings.raised) charge ∙ rests.raised)
    (ap (λ (y : PortValue). y.holdings.credits) charge ∙ ap (λ cs. with_more k d cs) rests.credits)

-- the row behind another one
row_over : (x u w : PortValue) (at bt d j k : ℕ) (ss ts : List ℕ) → HasRow x u at ss d j → HasRow u w bt ts d k → HasRow x w bt ts d k
row_over x u w at bt d j k ss ts before row =
    record {
      claims = row.claims;
      row = row.row;
      hand = row.hand ∙ ap (λ (q : PortValue). still (record q { holdings = holding row.claims (rising bt ts) (with_more k d []) q.holdings })) before.hand;
    }

pub gave_all : (v c u w : PortValue) (d size first bt : ℕ) (ss : List ℕ) → IsEmptyHand v.holdings → Holds v c (charged size d v.holdings) → TookBlock c u d size first ss → HasRow u w bt [] d 0 → FlushedSame v w
gave_all v c u w d size first bt ss rests charge took row =
    given_same v c took.between w d size bt rests charge took.flushed (row_over took.between u w first bt d 0 0 ss [] took.row row)

pub gave_back : (v c u w : PortValue) (d size : ℕ) → IsEmptyHand v.holdings → Holds v c (charged size d v.holdings) → TookNone c u d size → Holds u w (uncharged size d u.holdings) → FlushedSame v w
gave_back v c u w d size rests charge took refund = refunded_same v c took.between w d size took.at rests charge took.flushed u took.row refund

-- ---- whose port it is
pub post_there : (v c u : PortValue) (d size : ℕ) → Holds v c (charged size d v.holdings) → TookNone c u d size → u.post ≡ v.post
post_there v c u d size charge took = ap (λ (y : PortValue). y.post) took.row.hand ∙ ap (λ (y : PortValue). y.post) took.flushed ∙ ap (λ (y : PortValue). y.post) charge

-- with the number as the call has it
pub credit_for : (c u : PortValue) (d size k : ℕ) → k ≡ size → TookNone c u d size → k ≤ times d u.holdings.credits
credit_for c u d size k is took = subst (λ j. j ≤ times d u.holdings.credits) (sym is) (credits_there took.between u took.at d size took.row)

pub back_for : (u w : PortValue) (d size k : ℕ) → k ≡ size → Holds u w (uncharged k d u.holdings) → Holds u w (uncharged size d u.holdings)
back_for u w d size k is refund = subst (λ j. Holds u w (uncharged j d u.holdings)) is refund
