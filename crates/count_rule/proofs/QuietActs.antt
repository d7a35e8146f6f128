-- Acts that move nothing that is counted: loads, lost exchanges, walks, and stores of words that no part reads.
use Rattle.std.proofs.Common.{◌≡◌, ◌≢◌, ℕ, ◌<◌, true, [], Some, None, refl, sym, ◌∙◌, ap}
use Rattle.xp_words.specs.Machine.{Machine}
use Rattle.xp_words.specs.declared.place.Place.{Place}
use Rattle.xp_words.specs.declared.place.Place.TheVariants.{Vcpu, Kind, Cell, Pages, Map}
use Rattle.xp_words.specs.Places.{sizes_of, run_of}
use Rattle.xp_board.specs.declared.holdings.Holdings.{Holdings}
use Rattle.xp_board.specs.declared.step.Step.{Step}
use Rattle.xp_board.specs.FillSteps.{walked_by, started}
use Rattle.xp_board.specs.Keeping.{MayAct}
use Rattle.xp_board.specs.Sound.{Sound, Idle}
use Rattle.step_effects.proofs.ActEffects.{Looked, Missed, Started, WentOn, Stumbled}
use Rattle.count_rule.proofs.Learning.{Kept, learnt, same_refl, same_own, kept_same, kept_cell, kept_noted, still_own, empty_kept}
use Rattle.count_rule.proofs.PartLaws.{spelled_same, stamped_same, idle_running, idle_still}
use Rattle.count_rule.proofs.Outcome.{Outcome, calm_same, quiet_outcome, runs}
use Rattle.count_rule.proofs.WalkHands.{same_loaded, same_started, same_twice, cold_loaded, cold_started}

module _ (n : Machine) (s : ℕ) (x : Step) (m m2 : Place → ℕ) (b c : ℕ → Holdings) (vcpu : s < (sizes_of n).vcpus) (others : (t : ℕ) → t ≢ s → c t ≡ b t) (may : MayAct n s x (b s)) (sound : Sound n m b) where
  -- ---- no word changes
  still_outcome : ((q : Place) → m2 q ≡ m q) → Kept (b s) (c s) → ((v : ℕ) → v < (sizes_of n).vcpus → Idle n m2 c v) → Outcome n m2 c
  still_outcome words kept idle =
      quiet_outcome n s m m2 b c vcpu others sound (calm_same n s m m2 b c vcpu others words) kept (λ d. words (Pages d)) (λ k. words (Map k)) (spelled_same n m m2 words sound.spelled)
      (stamped_same n m m2 words sound.stamped) idle

  pub looked_outcome : (p : Place) → Looked n s x p m m2 (b s) (c s) → Outcome n m2 c
  looked_outcome p l =
      let k = learnt s p (m p) (m p) (b s) in
      let kept = kept_noted x (m p) (b s) _ (c s) l.hand k.kept in
      still_outcome l.words kept
      (idle_still n s m m2 b c vcpu others (λ v. l.words (run_of v)) (empty_kept (b s) (c s) kept (λ e. ap (λ u. u.looking) l.hand ∙ k.still.looking e))
      (ap (λ u. u.cold) l.hand ∙ k.still.cold) (ap (λ u. u.cache) l.hand ∙ k.still.cache) (ap (λ u. u.walk) l.hand ∙ k.still.walk) sound.idle)

  -- the vCPU runs, and its translations stay where it is cold
  going : ((q : Place) → m2 q ≡ m q) → (b s).run ≡ Some 0 → ((c s).cold ≡ true → (b s).cold ≡ true) → ((b s).cold ≡ true → (b s).cache ≡ [] → (c s).cache ≡ []) →
      ((b s).cold ≡ true → (b s).walk ≡ None → (c s).walk ≡ None) → (v : ℕ) → v < (sizes_of n).vcpus → Idle n m2 c v
  going words run cold cache walk =
      idle_running n s m m2 b c vcpu others (words (run_of s) ∙ runs n s m m2 b c vcpu others sound run) (λ v off. words (run_of v)) cold cache walk sound.idle

  pub missed_outcome : (f : ℕ) → Missed n x f m m2 (b s) (c s) → Outcome n m2 c
  missed_outcome f d =
      still_outcome d.words (kept_noted x (m (Kind f)) (b s) _ (c s) d.hand (kept_same (b s) _ (same_refl (b s) _ refl refl refl refl refl refl refl refl)))
      (going d.words d.running (λ e. sym (ap (λ u. u.cold) d.hand) ∙ e) (λ k e. ap (λ u. u.cache) d.hand ∙ e) (λ k e. ap (λ u. u.walk) d.hand ∙ e))

  pub started_outcome : (k : ℕ) → Started n s x k m m2 (b s) (c s) → Outcome n m2 c
  started_outcome k d =
      let warm = d.may.warm in
      let u = started k (m (Vcpu s k)) _ (b s) in
      still_outcome d.words
      (kept_noted x (m (Vcpu s k)) (b s) _ (c s) d.hand (kept_same (b s) _ (same_twice (b s) u _ (same_started k _ _ (b s)) (same_own k (m (Vcpu s k)) u))))
      (going d.words d.running (λ e. sym (ap (λ u. u.cold) d.hand ∙ ((still_own k (m (Vcpu s k)) u).cold ∙ (cold_started k _ _ (b s)).cold)) ∙ e)
      (λ k. absurd (cc)) (λ k. absurd (cc)))

  pub went_on_outcome : (f i : ℕ) → WentOn n x f i m m2 (b s) (c s) → Outcome n m2 c
  went_on_outcome f i d =
      let warm = d.may.warm in
      still_outcome d.words
      (kept_noted x (m (Cell f i)) (b s) _ (c s) d.hand (kept_cell f i (m (Cell f i)) (b s) _ (same_loaded n f i (m (Cell f i)) (walked_by i (m (Cell f i)) d.walk) (b s))))
      (going d.words d.running (λ e. sym (ap (λ u. u.cold) d.hand ∙ (cold_loaded n f i (m (Cell f i)) (walked_by i (m (Cell f i)) d.walk) (b s)).cold) ∙ e) (λ k. absurd (cc)) (λ k. absurd (cc)))

  pub stumbled_outcome : (f i : ℕ) → Stumbled n x f i m m2 (b s) (c s) → Outcome n m2 c
  stumbled_outcome f i d =
      still_outcome d.words
      (kept_noted x (m (Cell f i)) (b s) _ (c s) d.hand (kept_cell f i (m (Cell f i)) (b s) _ (same_refl (b s) _ refl refl refl refl refl refl refl refl)))
      (going d.words d.running (λ e. sym (ap (λ u. u.cold) d.hand) ∙ e) (λ k e. ap (λ u. u.cache) d.hand ∙ e) (λ k e. ap (λ u. u.walk) d.hand))
