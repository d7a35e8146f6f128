-- The clock, life words and privileges.
use Rattle.std.proofs.Common.{◌≡◌, ◌≢◌, ℕ, ◌<◌, ◌≤◌, IsTrue, refl, sym, subst, ◌⊎◌, inl, inr, arith}
use Rattle.std.proofs.lemmas.Bool.{cases_eq}
use Rattle.xp_words.specs.Machine.{Machine}
use Rattle.xp_words.specs.declared.place.Place.{Place}
use Rattle.xp_words.specs.declared.place.Place.TheVariants.{Clock, Life, Vcpu, Refs, Kind, Cell, Priv}
use Rattle.xp_words.specs.Places.{sizes_of, is_place, flushed_of, run_of}
use Rattle.xp_board.specs.declared.step.Step.{Step}
use Rattle.xp_board.specs.declared.holdings.Holdings.{Holdings}
use Rattle.xp_board.specs.Readings.{clock_value, has_now, has_ever}
use Rattle.xp_board.specs.Sound.{Sound}
use Rattle.step_effects.proofs.ActEffects.{Ticked, Doomed, Buried, Privileged}
use Rattle.found_rule.proofs.Learning.{Act, act}
use Rattle.found_rule.proofs.Words.{Words}
use Rattle.found_rule.proofs.WordsOf.{words_lone, lone_off}
use Rattle.found_rule.proofs.SoundWords.{had}
use Rattle.found_rule.proofs.Quiet.{Done, same_hand, done_same}
use Rattle.xp_board.proofs.Bits.{granted-ever, revoked-ever, granted-now, revoked-now}

module _ (n : Machine) (s : ℕ) (x : Step) (m m2 : Place → ℕ) (b c : ℕ → Holdings) (l : s < (sizes_of n).vcpus) (sound : Sound n m b) (others : (t : ℕ) → t ≢ s → c t ≡ b t) where
  -- a word that is neither a frame's nor a vCPU's
  lone_done : (p : Place) → Act n s p m m2 (b s) (b s) (c s) → ((v k : ℕ) → p ≢ Vcpu v k) → ((f : ℕ) → p ≢ Refs f) → ((f : ℕ) → p ≢ Kind f) → ((f i : ℕ) → p ≢ Cell f i) →
      Words n s m m2 b → Done n s m m2 b c
  lone_done p a vcpu refs kind cell words =
      done_same n s p m m2 b c (b s) a l sound (same_hand (b s)) words others
      (λ f i. a.others (Cell f i) (λ e. cell f i (sym e))) (λ f. a.others (Kind f) (λ e. kind f (sym e))) (λ f. a.others (Refs f) (λ e. refs f (sym e)))
      (λ v. a.others (flushed_of v) (λ e. vcpu v 5 (sym e))) (λ v. a.others (run_of v) (λ e. vcpu v 6 (sym e))) refl refl

  clock_kept : (p : Place) → p ≢ Clock → ((q : Place) → q ≢ p → m2 q ≡ m q) → m Clock ≤ m2 Clock
  clock_kept p off o = let e = o Clock (λ k. off (sym k)) in omega arith

  life_kept : (p : Place) → ((d : ℕ) → p ≢ Life d) → ((q : Place) → q ≢ p → m2 q ≡ m q) → (d w : ℕ) → w ≢ 0 → (m (Life d) ≡ w) ⊎ (m (Life d) ≡ 255) → (m2 (Life d) ≡ w) ⊎ (m2 (Life d) ≡ 255)
  life_kept p off o d w k h = rw (o (Life d) (λ e. off d (sym e))) h

  ever_kept : (p : Place) → ((d : ℕ) → p ≢ Priv d) → ((q : Place) → q ≢ p → m2 q ≡ m q) → (d i : ℕ) → IsTrue (has_ever i (m (Priv d))) → IsTrue (has_ever i (m2 (Priv d)))
  ever_kept p off o d i h = rw (o (Priv d) (λ e. off d (sym e))) h

  now_kept : (p : Place) → ((d : ℕ) → p ≢ Priv d) → ((q : Place) → q ≢ p → m2 q ≡ m q) → (d i : ℕ) → i < 16 → IsTrue (is_place (sizes_of n) (Priv d)) → IsTrue (has_now i (m2 (Priv d))) →
      IsTrue (has_ever i (m2 (Priv d)))
  now_kept p off o d i few r h = let e = o (Priv d) (λ k. off d (sym k)) in rw e (had n m b sound d r i few (rw e at h))

  pub ticked_done : Ticked n x m m2 (b s) (c s) → Done n s m m2 b c
  unfolding clock_value
  ticked_done d =
      let w = d.wrote in
      let a = act n s x Clock m m2 (b s) (b s) (c s) w.place w.real w.left w.others refl refl refl refl d.hand in
      lone_done Clock a (λ v k e. cc) (λ f e. cc) (λ f e. cc) (λ f i e. cc)
      (words_lone n s m m2 b sound Clock w.others (λ f e. cc) (λ f e. cc) (λ f i e. cc)
      (lone_off n s m m2 b sound Clock w.others (λ v k e. cc) (let e = d.is in omega arith) (life_kept Clock (λ q e. cc) w.others) (ever_kept Clock (λ q e. cc) w.others) (now_kept Clock (λ q e. cc) w.others))
      (omega arith))

  -- a life word only goes from alive to dying to dead
  life_done : (g : ℕ) → Act n s (Life g) m m2 (b s) (b s) (c s) → ((w : ℕ) → w ≢ 0 → (m (Life g) ≡ w) ⊎ (m (Life g) ≡ 255) → (m2 (Life g) ≡ w) ⊎ (m2 (Life g) ≡ 255)) → Words n s m m2 b
  unfolding clock_value
  life_done g a goes =
      words_lone n s m m2 b sound (Life g) a.others (λ f e. cc) (λ f e. cc) (λ f i e. cc)
      (lone_off n s m m2 b sound (Life g) a.others (λ v k e. cc) (clock_kept (Life g) (λ e. cc) a.others)
      (λ d w o h. elim (cases_eq d g) [ inl at ↦ rw at (goes w o (rw at at h)) | inr off ↦ rw (a.others (Life d) (λ e. off (cc))) h ])
      (ever_kept (Life g) (λ q e. cc) a.others) (now_kept (Life g) (λ q e. cc) a.others))
      (omega arith)

  pub privileged_done : (g : ℕ) → Privileged n s x g m m2 (b s) (c s) → Done n s m m2 b c
  unfolding clock_value
  privileged_done g d =
      let w = d.wrote in
      let y = d.may in
      let few : y.over < 16 = (let p = y.domain in let q = sound.machine.few_domains in omega arith) in
      let a = act n s x (Priv g) m m2 (b s) (b s) (c s) w.place w.real w.left w.others refl refl refl refl d.hand in
      lone_done (Priv g) a (λ v k e. cc) (λ f e. cc) (λ f e. cc) (λ f i e. cc)
      (words_lone n s m m2 b sound (Priv g) w.others (λ f e. cc) (λ f e. cc) (λ f i e. cc)
      (lone_off n s m m2 b sound (Priv g) w.others (λ v k e. cc) (clock_kept (Priv g) (λ e. cc) w.others) (life_kept (Priv g) (λ q e. cc) w.others)
      (λ e o h. elim (cases_eq e g) [
        | inl at ↦
            (let k = subst (λ i. IsTrue (has_ever o (m (Priv i)))) at h in
            subst (λ i. IsTrue (has_ever o (m2 (Priv i)))) (sym at)
            (elim y.left [ inl more ↦ rw more (granted-ever (m (Priv g)) y.over o k) | inr less ↦ rw less (revoked-ever (m (Priv g)) y.over o few k) ]))
        | inr off ↦ rw (w.others (Priv e) (λ q. off (cc))) h
      ])
      (λ e o i r h. elim (cases_eq e g) [
        | inl at ↦
            (let k = subst (λ j. IsTrue (has_now o (m2 (Priv j)))) at h in
            let f = had n m b sound g w.real o i in
            subst (λ j. IsTrue (has_ever o (m2 (Priv j)))) (sym at)
            (elim y.left [
              | inl more ↦ rw more (granted-now (m (Priv g)) y.over o i f (rw more at k))
              | inr less ↦ rw less (revoked-now (m (Priv g)) y.over o few f (rw less at k))
            ]))
        | inr off ↦ (let j = w.others (Priv e) (λ q. off (cc)) in rw j (had n m b sound e r o i (rw j at h)))
      ]))
      (omega arith))

  pub doomed_done : (g : ℕ) → Doomed n s x g m m2 (b s) (c s) → Done n s m m2 b c
  doomed_done g d =
      let w = d.wrote in
      let a = act n s x (Life g) m m2 (b s) (b s) (c s) w.place w.real w.left w.others refl refl refl refl d.hand in
      lone_done (Life g) a (λ v k e. cc) (λ f e. cc) (λ f e. cc) (λ f i e. cc)
      (life_done g a (λ y o h. let k = d.was in absurd (elim h [ inl at ↦ o (omega arith) | inr dead ↦ omega arith ])))

  pub buried_done : (g : ℕ) → Buried n s x g m m2 (b s) (c s) → Done n s m m2 b c
  buried_done g d =
      let w = d.wrote in
      let a = act n s x (Life g) m m2 (b s) (b s) (c s) w.place w.real w.left w.others refl refl refl refl d.hand in
      lone_done (Life g) a (λ v k e. cc) (λ f e. cc) (λ f e. cc) (λ f i e. cc) (life_done g a (λ y o h. inr d.may.dead))
