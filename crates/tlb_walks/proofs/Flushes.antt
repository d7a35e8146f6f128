-- Flushes and dropped translations: what their steps show, and what they leave.
use Rattle.std.proofs.Common.{◌≡◌, ℕ, ◌<◌, ◌≤◌, ◌==◌, not, if◌then◌else◌, Bool, true, false, [], ◌∷◌, Some, None, Result, Ok, Err, IfErr, MatchResult, refl, sym, ap, ◌∙◌, subst, nat_lt}
use Rattle.xp_words.specs.Places.{asked_of, flushed_of, sizes_of}
use Rattle.xp_words.specs.declared.place.Place.TheVariants.{Clock}
use Rattle.xp_words.specs.declared.reply.Refusal.{Refusal}
use Rattle.xp_words.specs.declared.reply.Stop.TheVariants.{Refused}
use Rattle.xp_words.proofs.Shared.{lt_true as less_is, lt_false as no_later}
use Rattle.xp_board.specs.AckSteps.{after_ack}
use Rattle.xp_board.specs.declared.holdings.Holdings.{Holdings}
use Rattle.xp_board.specs.declared.step.Act.TheVariants.{Load}
use Rattle.xp_board.specs.declared.step.Mark.TheVariants.{Forget, Turn}
use Rattle.xp_board.specs.declared.step.StepKind.TheVariants as kinds
use Rattle.xp_board.specs.Lists.{kept_of}
use Rattle.xp_board.specs.Told.{PortValue}
use Rattle.step_maker.specs.Holds.{FlushedSame, Holds, Same, still}
use Rattle.step_maker.specs.Moves.{Came, May, Moves}
use Rattle.step_maker.proofs.Coming.{came_self, came_trans, moves_came}
use Rattle.step_maker.specs.Answers.{BeginsTurn, Forgets, Serves, Stops, only_if}
use Rattle.step_maker.specs.Asked.{Request}
use Rattle.step_maker.specs.Reasons.{needed, own}
use Rattle.step_maker.specs.Visits.{Does, Where}
use Rattle.step_maker.proofs.Piecing.{moves_serves, serves_nothing, serves_step}
use Rattle.step_maker.proofs.Visiting.{does_as, does_nothing, does_one}
use Rattle.flush_words.specs.Flushing.{FlushesOwn}
use Rattle.flush_words.proofs.Flushed.{own_came, own_flushed}
use Rattle.flush_words.proofs.RowSteps.{clock_there}
use Rattle.flush_words.proofs.FlushServes.{asked_flush, own_serves, own_stops}
use Rattle.tlb_walks.specs.Addresses.{is_canonical, page_of}
use Rattle.tlb_walks.specs.Dropping.{Acks, Heeds, Uncached, ForgetsBy, Invalidates, left_cached, of_flush}

-- ---- the own flush
pub emptied : (v w : PortValue) → FlushesOwn v w (Ok tt) → FlushedSame v w → Uncached v w
emptied v w f same =
    let a = own_flushed v w f in
    let h = a.exchanged.holdings in
    record {
      hand = same;
      cache = ap (λ (q : PortValue). q.holdings.cache) a.ack.to ∙ cache_by (v.post.vcpu == a.exchanged.post.vcpu) h;
      warm = ap (λ (q : PortValue). q.holdings.cold) a.ack.to ∙ warm_by (v.post.vcpu == a.exchanged.post.vcpu) h;
    }
  where
    cache_by : (b : Bool) (h : Holdings) → (if b then after_ack h else after_ack h).cache ≡ []
    cache_by true h = refl
    cache_by false h = refl

    warm_by : (b : Bool) (h : Holdings) → (if b then after_ack h else after_ack h).cold ≡ false
    warm_by true h = refl
    warm_by false h = refl

-- ---- an ask
module _ (v a b : PortValue) (s x y : ℕ) (own_is : s ≡ v.post.vcpu) (first : Moves v a (asked_of v.post.vcpu) Load kinds.Look (Some Turn) x) (second : Moves a b (flushed_of s) Load kinds.Look None y) where
  looked_own : Moves a b (flushed_of v.post.vcpu) Load kinds.Look None y
  looked_own = subst (λ k. Moves a b (flushed_of k) Load kinds.Look None y) own_is second

  pub past_serves : (r : Request) → Serves v b r (BeginsTurn ∷ [])
  past_serves r = serves_step v a b r (BeginsTurn ∷ []) _ _ _ _ _ (moves_serves v a r _ _ _ _ _ first tt) second tt

  pub looks_came : Came v b
  looks_came = came_trans v a b (moves_came v a _ _ _ _ _ first) (moves_came a b _ _ _ _ _ second)

  acks_as : (w : PortValue) (past : Bool) → past ≡ nat_lt x y → Heeds past b w → Acks v w
  acks_as w past is heeds = record { a = a; b = b; asked = x; flushed = y; marked = first; looked = looked_own; heeds = subst (λ p. Heeds p b w) is heeds }

  pub past_acks : x < y → Acks v b
  past_acks less = acks_as b true (sym (less_is x y less)) refl

  module _ (w : PortValue) (low : y ≤ x) (answer : Result (Unit {0}) Refusal) (f : FlushesOwn b w answer) where
    pub ack_came : Came v w
    ack_came = came_trans v b w looks_came (own_came b w answer f)

    pub ack_serves : (r : Request) → Serves v w r (BeginsTurn ∷ [])
    ack_serves r = own_serves v b w r (BeginsTurn ∷ []) (past_serves r) (asked_flush v v a b r (Some Turn) x y (came_self v) first looked_own low) answer f

    pub ack_acks : Acks v w
    ack_acks = acks_as w false (sym (no_later x y low)) (answer, f)

pub heeds_came : (past : Bool) (v w : PortValue) → Heeds past v w → Came v w
heeds_came true v w same = subst (Came v) (sym same) (came_self v)
heeds_came false v w flush = own_came v w flush.0 flush.1

pub acks_came : (v w : PortValue) → Acks v w → Came v w
acks_came v w k =
    came_trans v k.a w (moves_came v k.a _ _ _ _ _ k.marked)
    (came_trans k.a k.b w (moves_came k.a k.b _ _ _ _ _ k.looked) (heeds_came (nat_lt k.asked k.flushed) k.b w k.heeds))

-- ---- a flush that is asked for itself
pub local_serves : (v w : PortValue) (answer : Result (Unit {0}) Refusal) → FlushesOwn v w answer → Serves v w of_flush []
local_serves v w answer f = own_serves v v w of_flush [] (serves_nothing v of_flush) (needed (own refl)) answer f

pub local_stops : (v w : PortValue) (answer : Result (Unit {0}) Refusal) → FlushesOwn v w answer → IfErr answer (λ e. Stops v w of_flush (Refused e))
local_stops v w (Ok tt) f = tt
local_stops v w (Err e) f = own_stops v v w of_flush e (came_self v) (own refl) f

pub local_hand : (v w : PortValue) (answer : Result (Unit {0}) Refusal) → FlushesOwn v w answer → MatchResult answer (λ x. FlushedSame v w) (λ x. Same v w) → MatchResult answer (λ x. Uncached v w) (λ x. Same v w)
local_hand v w (Ok tt) f same = emptied v w f same
local_hand v w (Err e) f same = same

-- ---- one page
pub may_forget : (v : PortValue) (page : ℕ) → v.holdings.walk ≡ None → May v Clock Load kinds.Look (Some (Forget page))
may_forget v page none = record { place = clock_there (sizes_of v.post.machine); marked = none; running = λ needs. absurd cc; spelling = tt; act = tt }

module _ (v w : PortValue) (va x : ℕ) (m : Moves v w Clock Load kinds.Look (Some (Forget (page_of va))) x) (is : is_canonical va ≡ true) where
  pub forget_serves : (r : Request) → Serves v w r (only_if (is_canonical va) (Forgets (page_of va)))
  forget_serves r = subst (λ b. Serves v w r (only_if b (Forgets (page_of va)))) (sym is) (moves_serves v w r _ _ _ _ _ m tt)

  pub forget_does : Does v w (Invalidates va)
  forget_does = subst (λ b. Does v w (λ vs. Where b (ForgetsBy (page_of va)) vs)) (sym is) (does_as v w _ _ (λ vs a. (x, a)) (does_one v w _ _ _ _ _ m))

  pub forget_hand : Holds v w (record v.holdings { cache = left_cached va v.holdings.cache })
  forget_hand =
      ap still m.to
      ∙ ap (λ b. still (record v { holdings = record v.holdings { cache = if b then kept_of (λ z. not (z.page == page_of va)) v.holdings.cache else v.holdings.cache } })) (sym is)

module _ (v : PortValue) (va : ℕ) (is : is_canonical va ≡ false) where
  pub none_serves : (r : Request) → Serves v v r (only_if (is_canonical va) (Forgets (page_of va)))
  none_serves r = subst (λ b. Serves v v r (only_if b (Forgets (page_of va)))) (sym is) (serves_nothing v r)

  pub none_does : Does v v (Invalidates va)
  none_does = subst (λ b. Does v v (λ vs. Where b (ForgetsBy (page_of va)) vs)) (sym is) (does_nothing v)

  pub none_hand : Holds v v (record v.holdings { cache = left_cached va v.holdings.cache })
  none_hand = ap (λ b. still (record v { holdings = record v.holdings { cache = if b then kept_of (λ z. not (z.page == page_of va)) v.holdings.cache else v.holdings.cache } })) (sym is)
