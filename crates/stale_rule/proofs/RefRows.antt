-- Fresh after a step on a reference word, and after privileges change.
use Rattle.std.proofs.Common.{◌≡◌, ◌≢◌, ℕ, ◌+◌, ◌<◌, ◌==◌, ◌⊎◌, inl, inr, true, false, refl, sym, subst, arith, IsTrue}
use Rattle.std.proofs.lemmas.Bool.{cases_eq}
use Rattle.xp_words.specs.Machine.{Machine}
use Rattle.xp_words.specs.declared.place.Place.{Place}
use Rattle.xp_words.specs.declared.place.Place.TheVariants.{Refs, Kind, Cell, Priv}
use Rattle.xp_words.specs.Places.{sizes_of, flushed_of}
use Rattle.xp_board.specs.declared.step.Step.{Step}
use Rattle.xp_board.specs.declared.step.StepKind.TheVariants as steps
use Rattle.xp_board.specs.declared.holdings.Holdings.{Holdings}
use Rattle.xp_board.specs.Lists.{Member}
use Rattle.xp_board.specs.Hands.{claims_of}
use Rattle.xp_board.specs.RefSteps.{took_ref, gave_ref}
use Rattle.xp_board.specs.PrivSteps.{granted, revoked}
use Rattle.xp_board.specs.Readings.{ref_count, has_ever}
use Rattle.xp_board.specs.After.{noted}
use Rattle.xp_board.specs.Reach.{Use, reached_by, Reach}
use Rattle.xp_board.specs.Fresh.{Fresh}
use Rattle.xp_board.specs.Keeping.{Acted}
use Rattle.xp_board.specs.Sound.{Sound}
use Rattle.step_effects.proofs.ActEffects.{Wrote, Raised, Cleared, Lowered, Privileged}
use Rattle.xp_board.proofs.Bits.{granted-ever, revoked-ever}
use Rattle.xp_board.proofs.HandLists.{EachOf-if, EachOf-more}
use Rattle.stale_rule.proofs.Like.{HandStays, HandLike, same_stays, parts_stay}
use Rattle.stale_rule.proofs.Lowers.{owned_kept, lowered_kept}
use Rattle.stale_rule.proofs.Moves.{act_law, quiet_law, not_clock}
use Rattle.stale_rule.proofs.Stays.{RefKept, RefStays, ref_same, KeepsEver, ever_same}

-- ---- hands
pub took_stays : (f w : ℕ) (a : Holdings) → HandStays a (took_ref f w a)
took_stays f w a = parts_stay a _ refl refl refl refl refl refl

pub gave_stays : (f w : ℕ) (a : Holdings) → HandStays a (gave_ref f w a)
gave_stays f w a =
    record {
      like = record {
        steps = refl;
        works = λ P new e. e;
        ending = λ P new e. EachOf-if (λ x. P x.frame x.since) (ref_count w == 1) _ a.ending (EachOf-more (λ x. P x.frame x.since) _ a.ending (new f) e) e;
      };
      claims = λ g e. e;
      cache = λ x e. e;
      walk = λ x e. e;
    }

-- ---- privileges
ever_more : (m m2 : Place → ℕ) (d over : ℕ) → over < 16 → ((q : Place) → q ≢ Priv d → m2 q ≡ m q) →
    (m2 (Priv d) ≡ granted over (m (Priv d))) ⊎ (m2 (Priv d) ≡ revoked over (m (Priv d))) → KeepsEver m m2
ever_more m m2 d over few others left e o ever =
    elim (cases_eq e d) [
      | inr off ↦ subst (λ w. IsTrue (has_ever o w)) (sym (others (Priv e) (λ k. off (cc)))) ever
      | inl at ↦
          subst (λ k. IsTrue (has_ever o (m2 (Priv k)))) (sym at)
          (let was : IsTrue (has_ever o (m (Priv d))) = subst (λ k. IsTrue (has_ever o (m (Priv k)))) at ever in
          elim left [
            | inl given ↦ subst (λ w. IsTrue (has_ever o w)) (sym given) (granted-ever (m (Priv d)) over o was)
            | inr taken ↦ subst (λ w. IsTrue (has_ever o w)) (sym taken) (revoked-ever (m (Priv d)) over o few was)
          ])
    ]

module _ (n : Machine) (s : ℕ) (x : Step) (m m2 : Place → ℕ) (b c : ℕ → Holdings) (acted : Acted n s x m m2 b c) (sound : Sound n m b) where
  -- a step on the reference word of f that leaves what is known of it where f is reached
  pub ref_law : (f : ℕ) (y : Holdings) → Wrote n x (Refs f) steps.Ref m m2 (b s) → c s ≡ noted x (m (Refs f)) y → HandLike (b s) y →
      y.cache ≡ (b s).cache → y.walk ≡ (b s).walk →
      ((v g : ℕ) (u : Use) → v < (sizes_of n).vcpus → Reach (sizes_of n) m (b v) g u → claims_of g (b s).claimed ≡ 0 → claims_of g y.claimed ≡ 0) →
      ((v : ℕ) (u : Use) → v < (sizes_of n).vcpus → Reach (sizes_of n) m (b v) f u → RefStays (m (flushed_of v)) (m (Refs f)) (m2 (Refs f))) → Fresh n m2 c
  ref_law f y wrote hand like cache walk claims here =
      act_law n s x (m (Refs f)) m m2 b c y sound acted.others hand like (not_clock n x (Refs f) _ _ wrote.place (λ e. cc))
      (λ e i. wrote.others (Cell e i) (λ k. cc)) (ever_same m m2 (λ d. wrote.others (Priv d) (λ k. cc))) (λ v. wrote.others (flushed_of v) (λ k. cc))
      (λ i e. subst (λ xs. Member i xs) cache e) (λ i e. subst (λ o. Member i (reached_by o)) walk e) claims
      (λ v g u real r.
      elim (cases_eq g f) [
        | inl at ↦ subst (λ e. RefStays (m (flushed_of v)) (m (Refs e)) (m2 (Refs e))) (sym at) (here v u real (subst (λ e. Reach (sizes_of n) m (b v) e u) at r))
        | inr off ↦ inl (ref_same _ _ (wrote.others (Refs g) (λ k. off (cc))))
      ])
      (λ v g u real r old. rw (wrote.others (Kind g) (λ k. cc)) old)

  pub raise_row : (f : ℕ) → Raised n x f m m2 (b s) (c s) → Fresh n m2 c
  raise_row f d =
      ref_law f (took_ref f (m (Refs f)) (b s)) d.wrote d.hand (took_stays f (m (Refs f)) (b s)).like refl refl (λ v g u real r e. e)
      (λ v u real r. inl (owned_kept (m (Refs f)) (m2 (Refs f)) d.owner d.count (d.count + 1) d.allocated d.allocated d.was d.is))

  pub clear_row : (f : ℕ) → Cleared n x f m m2 (b s) (c s) → Fresh n m2 c
  clear_row f d =
      ref_law f (took_ref f (m (Refs f)) (b s)) d.wrote d.hand (took_stays f (m (Refs f)) (b s)).like refl refl (λ v g u real r e. e)
      (λ v u real r. inl (owned_kept (m (Refs f)) (m2 (Refs f)) d.owner d.count d.count true false d.was d.is))

  pub privilege_row : (d : ℕ) → Privileged n s x d m m2 (b s) (c s) → Fresh n m2 c
  privilege_row d e =
      let few : e.may.over < 16 = (let most = sound.machine.few_domains in let under = e.may.domain in omega arith) in
      quiet_law n s x (m (Priv d)) m m2 b c (b s) sound acted.others e.hand (same_stays (b s)) (not_clock n x (Priv d) _ _ e.wrote.place (λ k. cc))
      (λ f i. e.wrote.others (Cell f i) (λ k. cc)) (ever_more m m2 d e.may.over few e.wrote.others e.may.left)
      (λ v. e.wrote.others (flushed_of v) (λ k. cc)) (λ f. e.wrote.others (Refs f) (λ k. cc)) (λ f. e.wrote.others (Kind f) (λ k. cc))

module _ (n : Machine) (s : ℕ) (x : Step) (m m2 : Place → ℕ) (b c : ℕ → Holdings) (real : s < (sizes_of n).vcpus) (acted : Acted n s x m m2 b c) (sound : Sound n m b) where
  pub lower_row : (f : ℕ) → Lowered n x f m m2 (b s) (c s) → Fresh n m2 c
  lower_row f d =
      ref_law n s x m m2 b c acted sound f (gave_ref f (m (Refs f)) (b s)) d.wrote d.hand (gave_stays f (m (Refs f)) (b s)).like refl refl (λ v g u live r e. e)
      (λ v u live r. inl (subst (λ w. RefKept (m (Refs f)) w) (sym d.is) (lowered_kept n m b s f sound real d.may.in_hand)))
