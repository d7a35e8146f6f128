-- The steps of a claim, put together.
use Rattle.std.proofs.Common.{◌≡◌, ℕ, ◌-◌, ◌^◌, List, Option, Some, None, Result, Ok, Err, inl, inr, refl, sym, subst}
use Rattle.xp_words.specs.declared.place.Place.TheVariants.{Pages}
use Rattle.xp_words.specs.declared.reply.Refusal.TheVariants.{NoFree}
use Rattle.xp_words.specs.declared.reply.Stop.{Stop}
use Rattle.xp_words.specs.declared.reply.Stop.TheVariants.{Refused}
use Rattle.xp_board.specs.declared.step.Act.TheVariants.{Add}
use Rattle.xp_board.specs.declared.step.StepKind.TheVariants as kinds
use Rattle.xp_board.specs.Told.{PortValue}
use Rattle.step_maker.specs.Moves.{Moves}
use Rattle.step_maker.specs.Reasons.{Those}
use Rattle.step_maker.specs.Visits.{Visit, Does, Then}
use Rattle.step_maker.proofs.Visiting.{does_as}
use Rattle.flush_waits.specs.Listing.{WaitedFor}
use Rattle.flush_waits.specs.Waiting.{everyone}
use Rattle.frame_claims.specs.Choosing.{greatest}
use Rattle.frame_claims.specs.Found.{AllGivenBy, ChargedBy, ChosenBy, ClaimsBy, FlushedFor, FreeBlock, RefundedBy, TakenBy, TookBy}
use Rattle.frame_claims.proofs.Listing.{behind}
use Rattle.frame_claims.proofs.Visiting.{some_word}

-- ---- the block
pub took_none : (v a : PortValue) (d k : ℕ) → Does v a (λ vs. ChosenBy v.post.machine k None vs) → Does v a (λ vs. TookBy v.post d k (Err (Refused NoFree)) vs)
took_none v a d k chosen = does_as v a (λ vs. ChosenBy v.post.machine k None vs) (λ vs. TookBy v.post d k (Err (Refused NoFree)) vs) (λ vs t. inl (refl, t)) chosen

module _ (v a x : PortValue) (d k : ℕ) (b : FreeBlock) (stamp : ℕ) (is : stamp ≡ greatest b.stamps) (chosen : Does v a (λ vs. ChosenBy v.post.machine k (Some b) vs)) where
  flushed : (answer : Result (Unit {0}) Stop) → Does a x (λ vs. WaitedFor a.post (Those everyone) stamp answer vs) → Does v x (λ vs. FlushedFor v.post k b answer vs)
  flushed answer waited =
      behind v a x (λ vs. ChosenBy v.post.machine k (Some b) vs) (λ q vs. WaitedFor q (Those everyone) (greatest b.stamps) answer vs) chosen
      (subst (λ s. Does a x (λ vs. WaitedFor a.post (Those everyone) s answer vs)) is waited)

  pub took_waiting : (e : Stop) → Does a x (λ vs. WaitedFor a.post (Those everyone) stamp (Err e) vs) → Does v x (λ vs. TookBy v.post d k (Err e) vs)
  took_waiting e waited = does_as v x (λ vs. FlushedFor v.post k b (Err e) vs) (λ vs. TookBy v.post d k (Err e) vs) (λ vs t. inr (inl (b, t))) (flushed (Err e) waited)

  module _ (w : PortValue) (waited : Does a x (λ vs. WaitedFor a.post (Those everyone) stamp (Ok tt) vs)) (now : List ℕ) (same : now ≡ b.stamps) where
    taken : (answer : Result (Unit {0}) Stop) → Does x w (λ vs. TakenBy x.post.machine d b.first now answer vs) → Does v w (Then (FlushedFor v.post k b (Ok tt)) (TakenBy v.post.machine d b.first b.stamps answer))
    taken answer takes =
        behind v x w (λ vs. FlushedFor v.post k b (Ok tt) vs) (λ q vs. TakenBy q.machine d b.first b.stamps answer vs) (flushed (Ok tt) waited)
        (subst (λ l. Does x w (λ vs. TakenBy x.post.machine d b.first l answer vs)) same takes)

    pub took_lost : (e : Stop) → Does x w (λ vs. TakenBy x.post.machine d b.first now (Err e) vs) → Does v w (λ vs. TookBy v.post d k (Err e) vs)
    took_lost e takes =
        does_as v w (Then (FlushedFor v.post k b (Ok tt)) (TakenBy v.post.machine d b.first b.stamps (Err e))) (λ vs. TookBy v.post d k (Err e) vs) (λ vs t. inr (inr (b, t))) (taken (Err e) takes)

    pub took_all : Does x w (λ vs. TakenBy x.post.machine d b.first now (Ok tt) vs) → Does v w (λ vs. TookBy v.post d k (Ok b.first) vs)
    took_all takes =
        does_as v w (Then (FlushedFor v.post k b (Ok tt)) (TakenBy v.post.machine d b.first b.stamps (Ok tt))) (λ vs. TookBy v.post d k (Ok b.first) vs) (λ vs t. (b.stamps, t)) (taken (Ok tt) takes)

-- what is answered with `?`
pub answers : {A : Type 0} (v w : PortValue) (P : Result A Stop → List Visit → Type 0) (answer : Result A Stop) (e : Stop) → answer ≡ Err e → Does v w (λ vs. P (Err e) vs) → Does v w (λ vs. P answer vs)
answers v w P answer e is does = subst (λ a. Does v w (λ vs. P a vs)) (sym is) does

-- ---- as a whole
pub claim_uncounted : (v x : PortValue) (d k j : ℕ) (g : Option ℕ) (e : Stop) → j ≡ k → Does v x (λ vs. ChargedBy v.post.machine d j (Err e) vs) → Does v x (λ vs. ClaimsBy v.post d k g (Err e) vs)
claim_uncounted v x d k j g e is does =
    does_as v x (λ vs. ChargedBy v.post.machine d k (Err e) vs) (λ vs. ClaimsBy v.post d k g (Err e) vs) (λ vs t. inl t) (subst (λ i. Does v x (λ vs. ChargedBy v.post.machine d i (Err e) vs)) is does)

module _ (v x u w : PortValue) (d k : ℕ) (g : Option ℕ) (charged : Does v x (λ vs. ChargedBy v.post.machine d k (Ok tt) vs)) where
  module _ (e : Stop) (took : Does x u (λ vs. TookBy x.post d k (Err e) vs)) (y j : ℕ) (same : j ≡ k) (refund : Moves u w (Pages d) (Add (2 ^ 64 - j)) kinds.Pages None y) where
    pub claim_stopped : Does v w (λ vs. ClaimsBy v.post d k g (Err e) vs)
    claim_stopped =
        does_as v w (Then (ChargedBy v.post.machine d k (Ok tt)) (Then (TookBy v.post d k (Err e)) (RefundedBy d k))) (λ vs. ClaimsBy v.post d k g (Err e) vs) (λ vs t. inr t)
        (behind v x w (λ vs. ChargedBy v.post.machine d k (Ok tt) vs) (λ q vs. Then (TookBy q d k (Err e)) (RefundedBy d k) vs) charged
        (behind x u w (λ vs. TookBy x.post d k (Err e) vs) (λ q vs. RefundedBy d k vs) took
        (subst (λ i. Does u w (λ vs. RefundedBy d i vs)) same (some_word u w (Pages d) (Add (2 ^ 64 - j)) y refund))))

  pub claim_had : (f j : ℕ) → j ≡ k → Does x u (λ vs. TookBy x.post d k (Ok f) vs) → Does u w (λ vs. AllGivenBy d f g j vs) → Does v w (λ vs. ClaimsBy v.post d k g (Ok f) vs)
  claim_had f j same took gives =
      behind v x w (λ vs. ChargedBy v.post.machine d k (Ok tt) vs) (λ q vs. Then (TookBy q d k (Ok f)) (AllGivenBy d f g k) vs) charged
      (behind x u w (λ vs. TookBy x.post d k (Ok f) vs) (λ q vs. AllGivenBy d f g k vs) took (subst (λ i. Does u w (λ vs. AllGivenBy d f g i vs)) same gives))
