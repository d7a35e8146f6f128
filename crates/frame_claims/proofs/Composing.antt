-- A claim, put together: pages, the choice, the wait, the block; and what is in hand behind each.
use Rattle.std.proofs.Common.{◌≡◌, ◌≢◌, ℕ, suc, zero, ◌+◌, ◌-◌, ◌/◌, ◌%◌, ◌*◌, ◌<◌, ◌≤◌, ◌++◌, List, [], ◌∷◌, length, slice_index, None, Result, Err, refl, sym, ap, ◌∙◌, subst, arith, append-nil}
use Rattle.std.proofs.Math.Nat.{div-add-mod, mod-lt, mul_comm}
use Rattle.std.proofs.lemmas.Nat.{div-mul-add}
use Rattle.xp_words.specs.Machine.{Machine}
use Rattle.xp_words.specs.Places.{number, place_at, sizes_of}
use Rattle.xp_words.specs.declared.place.Place.TheVariants.{Pages}
use Rattle.xp_words.specs.declared.reply.Pause.TheVariants as pauses
use Rattle.xp_words.specs.declared.reply.Refusal.TheVariants as refusals
use Rattle.xp_words.specs.declared.reply.Stop.{Stop}
use Rattle.xp_words.specs.declared.reply.Stop.TheVariants.{Refused, Paused}
use Rattle.xp_words.proofs.PlaceLaws.{place_back}
use Rattle.xp_words.proofs.Shared.{eq_false as when_ne}
use Rattle.xp_board.specs.declared.step.Act.TheVariants.{Load, Cas, Add}
use Rattle.xp_board.specs.declared.step.StepKind.TheVariants as kinds
use Rattle.xp_board.specs.Hands.{IsEmptyHand, empty}
use Rattle.xp_board.specs.Lists.{times, with_fewer, with_more, without_by}
use Rattle.xp_board.specs.Readings.{domain_of, free_stamp}
use Rattle.xp_board.specs.RefSteps.{IsUnreachable}
use Rattle.xp_board.specs.Told.{Post, PortValue}
use Rattle.xp_board.proofs.ListChanges.{times-with_more_here}
use Rattle.xp_board.proofs.Sums.{when_eq}
use Rattle.step_maker.specs.Holds.{FlushedSame, Holds, quiet, still}
use Rattle.step_maker.specs.Moves.{Came, Met, Moves}
use Rattle.step_maker.proofs.Coming.{came_post}
use Rattle.step_maker.specs.Answers.{Deed, Misses, Serves, deeds_by, missed, missed_at}
use Rattle.step_maker.specs.Asked.{Request}
use Rattle.step_maker.specs.Reasons.{AwaitsStamp, FoundFreeBy, Those, free, taken}
use Rattle.step_maker.proofs.Piecing.{serves_nothing, serves_step, serves_then}
use Rattle.frame_words.proofs.FreeSteps.{pages_there}
use Rattle.claim_words.specs.Claims.{charged, uncharged}
use Rattle.flush_waits.specs.Waiting.{ArePast, IsWait, ServesBehind, everyone}
use Rattle.flush_waits.proofs.Flushing.{free_stamp_is}
use Rattle.flush_waits.proofs.Shared.{wait_missed}
use Rattle.frame_claims.specs.Blocks.{HasRow, IsBlockOf, IsPlain, IsRow, ServesBlock, holding, rising}
use Rattle.frame_claims.specs.declared.choosing.Chosen.{Chosen}
use Rattle.frame_claims.specs.Choosing.{IsFound, Looks, SeenFree}
use Rattle.frame_claims.specs.Claiming.{IsClaimStop, ServesTaken, ServesWhole, TakesBlock, TakesPages, Took}
use Rattle.frame_claims.proofs.Reaching.{unreachable_by}
use Rattle.frame_claims.proofs.Rows.{empty_row}
use Rattle.frame_claims.proofs.Serving.{block_asks}

-- ---- pages
page_deeds : (d e w : ℕ) → deeds_by (Pages d) (Cas e w) kinds.Pages e empty ≡ []
page_deeds d e w = rw (when_eq e e refl) refl

page_missed : (d e w x : ℕ) → x ≢ e → deeds_by (Pages d) (Cas e w) kinds.Pages x empty ≡ Misses (Pages d) ∷ []
page_missed d e w x off = rw (when_ne x e off) refl

module _ (v a : PortValue) (d found : ℕ) (look : Moves v a (Pages d) Load kinds.Look None found) where
  pub pages_seen : (r : Request) → Serves v a r []
  pages_seen r = serves_step v v a r [] (Pages d) Load kinds.Look None found (serves_nothing v r) look tt

  module _ (w : PortValue) (k : ℕ) (own : d ≡ domain_of v.post.machine v.post.vcpu) where
    counts : (x : ℕ) → Moves a w (Pages d) (Cas found (found + k)) kinds.Pages None x → (ds : List Deed) → deeds_by (Pages d) (Cas found (found + k)) kinds.Pages x empty ≡ ds →
        (r : Request) → TakesPages r → Serves v w r ds
    counts x m ds is r t =
        subst (Serves v w r) (append-nil ds)
        (subst (λ es. Serves v w r (es ++ [])) is
        (serves_step v a w r [] (Pages d) (Cas found (found + k)) kinds.Pages None x (pages_seen r) m (taken t.number t.pages own, (t.number, t.pages))))

    pub pages_counted : Moves a w (Pages d) (Cas found (found + k)) kinds.Pages None found → (r : Request) → TakesPages r → Serves v w r []
    pages_counted m = counts found m [] (page_deeds d found (found + k))

    pub pages_lost : (x : ℕ) → x ≢ found → Moves a w (Pages d) (Cas found (found + k)) kinds.Pages None x → (r : Request) → TakesPages r → Serves v w r (Misses (Pages d) ∷ [])
    pages_lost x off m = counts x m (Misses (Pages d) ∷ []) (page_missed d found (found + k) x off)

pub pages_back : (v w : PortValue) (d by x : ℕ) → d ≡ domain_of v.post.machine v.post.vcpu → Moves v w (Pages d) (Add by) kinds.Pages None x → (r : Request) → TakesPages r → Serves v w r []
pages_back v w d by x own m r t = serves_step v v w r [] (Pages d) (Add by) kinds.Pages None x (serves_nothing v r) m (taken t.number t.pages own, tt)

pub page_place : (n : Machine) (d i : ℕ) → d < length n.page_limit → i ≡ number (sizes_of n) (Pages d) → missed_at (place_at (sizes_of n) i) ≡ Misses (Pages d) ∷ []
page_place n d i real is = ap (λ j. missed_at (place_at (sizes_of n) j)) is ∙ ap missed_at (place_back (sizes_of n) (Pages d) (pages_there (sizes_of n) d real))

pub takes_pages : (r : Request) (first k : ℕ) → IsBlockOf r first k → TakesPages r
takes_pages r first k b = record { number = b.number; pages = b.pages }

-- ---- the wait
-- a frame with that number of blocks below it is in this block
in_block : (first size g f : ℕ) → 0 < size → first % size ≡ 0 → first ≤ f → f < first + size → g / size ≡ f / size → (first ≤ g) × (g < first + size)
in_block first size g f some aligned from to same =
    let whole : size * (first / size) ≡ first = (let all = div-add-mod first size in omega (arith, all, aligned)) in
    let turned : first / size * size ≡ first = mul_comm (first / size) size ∙ whole in
    let number : f / size ≡ first / size =
    ap (λ k. k / size) (let at : f ≡ first / size * size + (f - first) = omega (arith, turned, from) in at) ∙ div-mul-add (first / size) size (f - first) (omega (arith, to, from)) in
    let all : size * (first / size) + g % size ≡ g = ap (λ k. size * k + g % size) (sym (same ∙ number)) ∙ div-add-mod g size in
    let less : g % size < size = mod-lt g some in
    (omega (arith, whole, all), omega (arith, whole, all, less))

pub block_free : (v a : PortValue) (size : ℕ) (stamps : List ℕ) (c : Chosen) → 0 < size → IsFound v a size stamps c → (g : ℕ) → g / size ≡ c.latest / size → FoundFreeBy (Met v a) g (free_stamp c.stamp)
block_free v a size stamps c some f g same =
    let inside = in_block c.first size g c.latest some f.aligned f.latest.from f.latest.to same in
    let at : c.first + (g - c.first) ≡ g = (let low = inside.0 in omega (arith, low)) in
    let under : g - c.first < size = (let high = inside.1 in let low = inside.0 in omega (arith, low, high)) in
    let seen = subst (λ k. SeenFree v a k (slice_index stamps (g - c.first))) at (f.seen (g - c.first) under).seen in
    let most = f.most (g - c.first) under in
    (slice_index stamps (g - c.first), seen.found, seen.free, subst (λ k. k ≤ free_stamp c.stamp) (sym (free_stamp_is _ seen.free)) (subst (λ k. slice_index stamps (g - c.first) ≤ k) (sym (free_stamp_is c.stamp f.latest.seen.free)) most))

pub awaits_block : (v a : PortValue) (r : Request) (size : ℕ) (stamps : List ℕ) (c : Chosen) → 0 < size → TakesBlock r c.first size → IsFound v a size stamps c → AwaitsStamp a.post.machine a.post.vcpu r (Met v a) (Those everyone) c.stamp
awaits_block v a r size stamps c some b f =
    let l = f.latest in
    free c.latest c.stamp b.asks.number size b.asks.pages b.block (block_asks a.post.machine a.post.vcpu c.latest r (Met v a) c.first size b.asks l.from l.to) l.seen.found l.seen.free
    (λ g same real. block_free v a size stamps c some f g same) refl (sym (free_stamp_is c.stamp l.seen.free))

pub waited_block : (v a x : PortValue) (size : ℕ) (stamps : List ℕ) (c : Chosen) → 0 < size → Looks v a → IsFound v a size stamps c → ServesBehind a x (Those everyone) c.stamp → ServesWhole v x c.first size []
unfolding ServesBehind
waited_block v a x size stamps c some looks f behind = record { aligned = f.aligned; serves = λ r b. behind v r [] (looks.serves r) (awaits_block v a r size stamps c some b f) }

-- what is done of the block behind that
pub then_block : (v u w : PortValue) (first size : ℕ) (ds : List Deed) → ServesWhole v u first size [] → ServesBlock u w first size ds → ServesWhole v w first size ds
then_block v u w first size ds whole more =
    record { aligned = whole.aligned; serves = λ r b. subst (Serves v w r) (append-nil ds) (serves_then v u w r [] ds (whole.serves r b) (more r b.asks)) }

pub wait_stop : (e : Stop) → IsWait e → IsClaimStop e
wait_stop (Refused (refusals.Clock found)) is = tt
wait_stop (Refused _) is = absurd is
wait_stop (Paused (pauses.Flush u s x)) is = tt
wait_stop (Paused _) is = absurd is

-- ---- what is in hand
no_row : (at : ℕ) → IsRow at [] []
unfolding IsRow
no_row at = tt

pub row_of : (x : PortValue) (at d k : ℕ) → x.holdings.claimed ≡ [] → x.holdings.raised ≡ [] → x.holdings.credits ≡ with_more k d [] → HasRow x x at [] d k
unfolding rising
row_of x at d k claims bits credits =
    record {
      claims = [];
      row = no_row at;
      hand = ap (λ cs. still (record x { holdings = record x.holdings { claimed = cs } })) claims
          ∙ ap (λ bs. still (record x { holdings = record x.holdings { claimed = []; raised = bs } })) bits
          ∙ ap (λ cs. still (record x { holdings = record x.holdings { claimed = []; raised = []; credits = cs } })) credits;
    }

pub row_flushed : (v x : PortValue) (at bt d k : ℕ) → FlushedSame v x → HasRow v v at [] d k → HasRow x x bt [] d k
unfolding rising
row_flushed v x at bt d k same row =
    row_of x bt d k
    (ap (λ (y : PortValue). y.holdings.claimed) same ∙ ap (λ (y : PortValue). y.holdings.claimed) row.hand ∙ empty_row at row.claims row.row)
    (ap (λ (y : PortValue). y.holdings.raised) same ∙ ap (λ (y : PortValue). y.holdings.raised) row.hand)
    (ap (λ (y : PortValue). y.holdings.credits) same ∙ ap (λ (y : PortValue). y.holdings.credits) row.hand)

pub plain_flushed : (v x : PortValue) → FlushedSame v x → IsPlain v.holdings → IsPlain x.holdings
plain_flushed v x same p =
    record {
      refs = ap (λ (y : PortValue). y.holdings.refs) same ∙ p.refs;
      typed = ap (λ (y : PortValue). y.holdings.typed) same ∙ p.typed;
      works = ap (λ (y : PortValue). y.holdings.works) same ∙ p.works;
      locks = ap (λ (y : PortValue). y.holdings.locks) same ∙ p.locks;
      ending = ap (λ (y : PortValue). y.holdings.ending) same ∙ p.ending;
    }

-- ---- at the end nothing is left
all_back : (k d : ℕ) → with_fewer k d (with_more k d []) ≡ []
unfolding with_more with_fewer without_by
all_back zero d = refl
all_back (suc k) d = rw (when_eq d d refl) (all_back k d)

module _ (v c x w : PortValue) (d size at : ℕ) (rests : IsEmptyHand v.holdings) (charge : Holds v c (charged size d v.holdings)) (flushed : FlushedSame c x) where
  bare : quiet (record x { holdings = holding [] [] [] x.holdings }) ≡ quiet v
  bare =
      ap (λ (q : PortValue). quiet (record q { holdings = holding [] [] [] q.holdings })) flushed
      ∙ ap (λ (q : PortValue). quiet (record q { holdings = holding [] [] [] q.holdings })) charge
      ∙ sym (ap (λ cs. quiet (record v { holdings = record v.holdings { claimed = cs } })) rests.claimed
      ∙ ap (λ bs. quiet (record v { holdings = record v.holdings { claimed = []; raised = bs } })) rests.raised
      ∙ ap (λ cs. quiet (record v { holdings = record v.holdings { claimed = []; raised = []; credits = cs } })) rests.credits)

  pub given_same : HasRow x w at [] d 0 → FlushedSame v w
  unfolding rising with_more
  given_same row = ap quiet row.hand ∙ ap (λ cs. quiet (record x { holdings = holding cs [] [] x.holdings })) (empty_row at row.claims row.row) ∙ bare

  pub refunded_same : (t : PortValue) → HasRow x t at [] d size → Holds t w (uncharged size d t.holdings) → FlushedSame v w
  unfolding rising
  refunded_same t row refund =
      ap quiet refund
      ∙ ap (λ (q : PortValue). quiet (record q { holdings = uncharged size d q.holdings })) row.hand
      ∙ ap (λ cs. quiet (record x { holdings = holding row.claims [] cs x.holdings })) (all_back size d)
      ∙ ap (λ cs. quiet (record x { holdings = holding cs [] [] x.holdings })) (empty_row at row.claims row.row)
      ∙ bare

pub credits_there : (x t : PortValue) (at d size : ℕ) → HasRow x t at [] d size → size ≤ times d t.holdings.credits
credits_there x t at d size row =
    let all = times-with_more_here size d [] in
    let is : times d t.holdings.credits ≡ times d (with_more size d []) = ap (λ (y : PortValue). times d y.holdings.credits) row.hand in
    omega (arith, all, is)

-- ---- the block is chosen, waited for and taken
-- looks, and then a wait
pub flushed_behind : (v a x : PortValue) → Looks v a → FlushedSame a x → FlushedSame v x
flushed_behind v a x looks flushed = flushed ∙ ap quiet looks.hand

-- refused or paused with these deeds, of that block
pub taken_stopped : (v w : PortValue) (first size : ℕ) (answer : Result ℕ Stop) (e : Stop) → answer ≡ Err e → ServesWhole v w first size (missed v.post.machine e) → ServesTaken v w size answer
taken_stopped v w first size answer e is whole = subst (ServesTaken v w size) (sym is) (first, whole)

pub wait_stopped : (v w : PortValue) (first size : ℕ) (answer : Result ℕ Stop) (e : Stop) → answer ≡ Err e → IsWait e → ServesWhole v w first size [] → ServesTaken v w size answer
wait_stopped v w first size answer e is wait whole = taken_stopped v w first size answer e is (subst (ServesWhole v w first size) (sym (wait_missed v.post.machine e wait)) whole)

pub none_taken : (v x w : PortValue) (d size at : ℕ) (stamps : List ℕ) (answer : Result ℕ Stop) (e : Stop) → answer ≡ Err e → FlushedSame v x → HasRow x w at [] d size → Took v w d size stamps answer
none_taken v x w d size at stamps answer e is flushed row = subst (Took v w d size stamps) (sym is) (record { between = x; at = at; flushed = flushed; row = row })

-- each frame of the block is past its flush
pub block_past : (v a x : PortValue) (size : ℕ) (stamps now : List ℕ) (c : Chosen) → now ≡ stamps → IsFound v a size stamps c → Came a x → ArePast a x c.stamp → (j : ℕ) → j < length now →
    IsUnreachable x.post.machine (c.first + j) (slice_index now j) x.holdings
block_past v a x size stamps now c is f came past j low =
    let under : j < size = (let whole = f.whole in let long = ap (λ (l : List ℕ). length l) is in omega (arith, low, whole, long)) in
    subst (λ l. IsUnreachable x.post.machine (c.first + j) (slice_index l j) x.holdings) (sym is)
    (subst (λ (q : Post). IsUnreachable q.machine (c.first + j) (slice_index stamps j) x.holdings) (sym (came_post a x came))
    (unreachable_by a x (c.first + j) (slice_index stamps j) c.stamp came (f.free j under) (f.most j under) past))
