-- Fresh after a vCPU has flushed its translations: it comes to nothing, and the others come to what they did.
use Rattle.std.proofs.Common.{◌≡◌, ◌≢◌, ℕ, inl, refl, ◌∙◌, ap, subst}
use Rattle.xp_words.specs.Machine.{Machine}
use Rattle.xp_words.specs.declared.place.Place.{Place}
use Rattle.xp_words.specs.declared.place.Place.TheVariants.{Refs, Kind, Cell, Priv}
use Rattle.xp_words.specs.Places.{sizes_of, flushed_of}
use Rattle.xp_board.specs.declared.step.Step.{Step}
use Rattle.xp_board.specs.declared.holdings.Holdings.{Holdings}
use Rattle.xp_board.specs.Hands.{claims_of}
use Rattle.xp_board.specs.AckSteps.{after_ack}
use Rattle.xp_board.specs.Reach.{Use, Reach}
use Rattle.xp_board.specs.Fresh.{Fresh}
use Rattle.xp_board.specs.Keeping.{Acted}
use Rattle.xp_board.specs.Sound.{Sound}
use Rattle.step_effects.proofs.ActEffects.{Flushed}
use Rattle.stale_rule.proofs.Like.{parts_like}
use Rattle.stale_rule.proofs.Moves.{by_vcpu, awaits_on, not_clock}
use Rattle.stale_rule.proofs.Stays.{ref_same, ever_same, fresh_law}
use Rattle.xp_board.proofs.ReachAll.{Reach-none, Reach-same}

module _ (n : Machine) (s : ℕ) (x : Step) (m m2 : Place → ℕ) (b c : ℕ → Holdings) (acted : Acted n s x m m2 b c) (sound : Sound n m b)
    (d : Flushed n s x m m2 (b s) (c s)) where
  nothing_left : (g : ℕ) (u : Use) → Reach (sizes_of n) m2 (c s) g u → ⊥
  nothing_left g u r = Reach-none (ap (λ k. k.cache) d.hand) (ap (λ k. k.walk) d.hand ∙ d.may.landed) r

  not_mine : (v g : ℕ) (u : Use) → Reach (sizes_of n) m2 (c v) g u → v ≢ s
  not_mine v g u r e = nothing_left g u (subst (λ k. Reach (sizes_of n) m2 (c k) g u) e r)

  before : (v g : ℕ) (u : Use) → Reach (sizes_of n) m2 (c v) g u → Reach (sizes_of n) m (b v) g u
  before v g u r =
      subst (λ k. Reach (sizes_of n) m k g u) (acted.others v (not_mine v g u r))
      (Reach-same (λ f i. d.wrote.others (Cell f i) (λ k. cc)) (λ x e. e) (λ x e. e) r)

  pub flush_row : Fresh n m2 c
  flush_row =
      fresh_law n m m2 b c (ever_same m m2 (λ e. d.wrote.others (Priv e) (λ k. cc))) (λ v g u real r. before v g u r)
      (λ v g u real r old.
      record {
        flush = d.wrote.others (flushed_of v) (λ k. not_mine v g u r (cc));
        ref = inl (ref_same _ _ (d.wrote.others (Refs g) (λ k. cc)));
        kind = λ e. rw (d.wrote.others (Kind g) (λ k. cc)) e;
        claims = λ t live. by_vcpu (λ t k. claims_of g (b t).claimed ≡ 0 → claims_of g k.claimed ≡ 0) s t b c acted.others
            (λ e. ap (λ k. claims_of g k.claimed) d.hand ∙ e) (λ off e. e);
        awaits = λ t live.
            awaits_on n s x (m (flushed_of s)) m m2 b c (after_ack (b s)) sound acted.others d.hand (parts_like _ _ refl refl refl)
            (not_clock n x (flushed_of s) _ _ d.wrote.place (λ e. cc)) v g t u;
      })
      sound.fresh
