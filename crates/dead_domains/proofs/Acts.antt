-- What an act leaves of the stopped, the dead and the dying. Only words of references, run words and life words count.
use Rattle.std.proofs.Common.{◌≡◌, ◌≢◌, ℕ, ◌+◌, ◌<◌, ◌==◌, ◌⊎◌, not, Bool, true, false, Some, IsTrue, ◌∙◌, sym, ap, subst, inl, inr, arith, refl}
use Rattle.std.proofs.lemmas.Bool.{cases_eq, eqb-true}
use Rattle.std.proofs.lemmas.Bool.Decides.{nat_tests}
use Rattle.xp_words.specs.Machine.{Machine}
use Rattle.xp_words.specs.declared.place.Place.{Place}
use Rattle.xp_words.specs.declared.place.Place.TheVariants.{Clock, Pages, Life, Vcpu, Refs, Kind, M2p, Cell, Map, Priv}
use Rattle.xp_words.specs.Places.{sizes_of, run_of, asked_of, flushed_of, ldt_base_of}
use Rattle.xp_words.specs.RefWords.{ref_read}
use Rattle.xp_board.specs.declared.step.Step.{Step}
use Rattle.xp_board.specs.declared.holdings.Holdings.{Holdings}
use Rattle.xp_board.specs.Readings.{domain_of, is_context, owner_of}
use Rattle.xp_board.specs.RunSteps.{AllowsRun}
use Rattle.xp_board.specs.Runs.{place_of}
use Rattle.xp_board.specs.Sound.{Sound}
use Rattle.xp_board.proofs.Counted.{in_hand_counted, not_context}
use Rattle.xp_board.proofs.RefWords.{OneLess, more, last, dying_says, free_says, one_down_leaves, owned_says}
use Rattle.xp_board.proofs.StepLists.{found_before}
use Rattle.step_effects.proofs.ActInversions.{act_effect}
use Rattle.step_effects.proofs.ActEffects.{ActEffect, Buried, Doomed, Ran, looked, raised, cleared, took, lowered, freed_frame, gave, turned, missed, dropped_type, unlocked_table, stored, exchanged, rewrote, filled, guest_stored, started_walk, went_on, touched_entry, stumbled, mapped, charged, refunded, named_frame, based, asked, flushed, ran, ticked, doomed, buried, hinted, privileged}
use Rattle.dead_domains.specs.Stopped.{ActsKeepDying, BringsNothing, GainsNothing, IsStopped, KeepsDying}

-- ---- places that do not count
is_aside : Place → Bool
is_aside (Refs f) = false
is_aside (Life d) = false
is_aside (Vcpu v k) = not (k == 6)
is_aside _ = true

-- no word that names a frame is a run word
aside_context : (v k : ℕ) → IsTrue (is_context k) → is_aside (Vcpu v k) ≡ true
unfolding is_aside
aside_context v k context = let off : k ≢ 6 = not_context 6 k refl context in grind (arith, nat_tests)

-- one reference less leaves the owner
less_owner : (w v : ℕ) → OneLess w v → owner_of v ≡ owner_of w
less_owner w v (more o c a was is) = (owned_says v o a _ is).owned ∙ sym ((owned_says w o a _ was).owned)
less_owner w v (last o was is) = (dying_says v o is).owned ∙ sym ((owned_says w o false 1 was).owned)

module _ (n : Machine) (s : ℕ) (x : Step) (m m2 : Place → ℕ) (b c : ℕ → Holdings) (real : s < (sizes_of n).vcpus) (sound : Sound n m b) where
  record Leaves : Type 0 where
    gains : GainsNothing n m m2
    dying : KeepsDying n s x m m2

  -- no life word changes
  by_lives : ((d : ℕ) → m2 (Life d) ≡ m (Life d)) → ((v : ℕ) → m (run_of v) ≡ 1 → m2 (run_of v) ≡ 1) →
      ((d f : ℕ) → IsStopped n m d → owner_of (m2 (Refs f)) ≡ Some d → owner_of (m (Refs f)) ≡ Some d) → Leaves
  by_lives lives runs owners =
      record {
        gains = record { stopped = runs; frames = owners; dead = λ d e. lives d ∙ e };
        dying = λ d t l e. inl (lives d ∙ e);
      }

  alike : ((q : Place) → m2 q ≡ m q) → Leaves
  alike same = by_lives (λ d. same (Life d)) (λ v e. same (run_of v) ∙ e) (λ d f all e. sym (ap owner_of (same (Refs f))) ∙ e)

  not_it : (p q : Place) → is_aside p ≡ true → is_aside q ≡ false → q ≢ p
  not_it p q aside counts at = let e : is_aside q ≡ true = subst (λ y. is_aside y ≡ true) (sym at) aside in absurd (cc)

  elsewhere : (p : Place) → is_aside p ≡ true → ((q : Place) → q ≢ p → m2 q ≡ m q) → Leaves
  unfolding is_aside
  elsewhere p aside same =
      by_lives (λ d. same (Life d) (not_it p (Life d) aside refl)) (λ v e. same (run_of v) (not_it p (run_of v) aside refl) ∙ e)
      (λ d f all e. sym (ap owner_of (same (Refs f) (not_it p (Refs f) aside refl))) ∙ e)

  -- ---- words of references
  at_refs : (f : ℕ) → ((q : Place) → q ≢ Refs f → m2 q ≡ m q) → ((d : ℕ) → IsStopped n m d → owner_of (m2 (Refs f)) ≡ Some d → owner_of (m (Refs f)) ≡ Some d) → Leaves
  at_refs f same owner =
      by_lives (λ d. same (Life d) (λ q. cc)) (λ v e. same (run_of v) (λ q. cc) ∙ e)
      (λ d g all e. elim (cases_eq g f) [
        | inl at ↦ rw at (owner d all (rw at at e))
        | inr off ↦ sym (ap owner_of (same (Refs g) (λ q. off (cc)))) ∙ e
      ])

  -- a vCPU that runs gives frames to its own domain alone, which then is not stopped
  given_by : (f : ℕ) → (b s).run ≡ Some 0 → owner_of (m2 (Refs f)) ≡ Some (domain_of n s) → (d : ℕ) → IsStopped n m d → owner_of (m2 (Refs f)) ≡ Some d → owner_of (m (Refs f)) ≡ Some d
  given_by f runs now d all e =
      let own : domain_of n s ≡ d = (let k : Some (domain_of n s) ≡ Some d = sym now ∙ e in cc) in
      let zero = (sound.found s real).own.run 0 runs in
      let one = all s real own in
      absurd (omega arith)

  -- ---- run words
  stays_stopped : (new : ℕ) → m (run_of s) ≡ 1 → AllowsRun new (b s) → new ≡ 1
  stays_stopped new e (inl stop) = stop.0
  stays_stopped new e (inr (inl unload)) = absurd (let r = (sound.found s real).own.run 0 unload.1.running in omega arith)
  stays_stopped new e (inr (inr load)) = absurd (let r = (sound.found s real).own.run 2 load.1.off in omega arith)

  at_run : Ran n s x m m2 (b s) (c s) → Leaves
  at_run k =
      by_lives (λ d. k.wrote.others (Life d) (λ q. cc))
      (λ v e. elim (cases_eq v s) [
        | inl at ↦ rw at (stays_stopped (m2 (run_of s)) (rw at at e) k.may)
        | inr off ↦ k.wrote.others (run_of v) (λ q. off (cc)) ∙ e
      ])
      (λ d f all e. sym (ap owner_of (k.wrote.others (Refs f) (λ q. cc))) ∙ e)

  -- ---- life words
  at_life : (p : ℕ) → ((q : Place) → q ≢ Life p → m2 q ≡ m q) → (m (Life p) ≡ 255 → m2 (Life p) ≡ 255) → ((t : ℕ) → t < (sizes_of n).vcpus → m (Life p) ≡ t + 1 → (s ≡ t) × (place_of n x ≡ Life p)) → Leaves
  at_life p same dead dying =
      record {
        gains = record {
          stopped = λ v e. same (run_of v) (λ q. cc) ∙ e;
          frames = λ d f all e. sym (ap owner_of (same (Refs f) (λ q. cc))) ∙ e;
          dead = λ d e. elim (cases_eq d p) [ inl at ↦ rw at (dead (rw at at e)) | inr off ↦ same (Life d) (λ q. off (cc)) ∙ e ];
        };
        dying = λ d t l e. elim (cases_eq d p) [ inl at ↦ rw at (inr (dying t l (rw at at e))) | inr off ↦ inl (same (Life d) (λ q. off (cc)) ∙ e) ];
      }

  at_doom : (p : ℕ) → Doomed n s x p m m2 (b s) (c s) → Leaves
  at_doom p k = at_life p k.wrote.others (λ e. absurd (let w = k.was in omega arith)) (λ t l e. absurd (let w = k.was in omega arith))

  -- a vCPU that buries a domain has stored that it destroys it
  at_burial : (p : ℕ) → Buried n s x p m m2 (b s) (c s) → Leaves
  at_burial p k =
      let h = k.may.emptied.stopped in
      let few = sound.machine.few_vcpus in
      at_life p k.wrote.others (λ e. k.may.dead)
      (λ t l e.
      found_before (sizes_of n) h.since (Life p) (λ w. w == s + 1) (λ w. w ≢ 0 → (m (Life p) ≡ w) ⊎ (m (Life p) ≡ 255)) (b s).steps ((sound.found s real).life p) h.stored
      (λ w passes is.
      let own = eqb-true w (s + 1) passes in
      elim (is (λ z. absurd (omega arith))) [ inl same ↦ (omega arith, k.wrote.place) | inr gone ↦ absurd (omega arith) ]))

  -- ---- all of them
  leaves : ActEffect n s x m m2 (b s) (c s) → Leaves
  unfolding is_aside
  leaves (looked p d) = alike d.words
  leaves (raised f d) = at_refs f d.wrote.others (λ q all e. (owned_says _ _ _ _ d.was).owned ∙ sym ((owned_says _ _ _ _ d.is).owned) ∙ e)
  leaves (cleared f d) = at_refs f d.wrote.others (λ q all e. (owned_says _ _ _ _ d.was).owned ∙ sym ((owned_says _ _ _ _ d.is).owned) ∙ e)
  leaves (took f d) = at_refs f d.wrote.others (given_by f (d.wrote.running refl) (dying_says _ _ (d.is ∙ ap Some d.may.left)).owned)
  leaves (lowered f d) =
      let some = in_hand_counted (sizes_of n) m b s f real sound.counts d.may.in_hand in
      let less = one_down_leaves (m (Refs f)) (ref_read (m (Refs f))) (sound.spelled.small (Refs f)) refl (omega arith) in
      at_refs f d.wrote.others (λ q all e. sym (ap owner_of d.is ∙ less_owner _ _ less) ∙ e)
  leaves (freed_frame f d) = at_refs f d.wrote.others (λ q all e. absurd (let now = (free_says _ _ d.is).owned in cc))
  leaves (gave f d) = at_refs f d.wrote.others (given_by f (d.wrote.running refl) ((owned_says _ _ _ _ d.is).owned ∙ ap Some d.may.own))
  leaves (turned f row d) = elsewhere (Kind f) refl d.wrote.others
  leaves (missed f d) = alike d.words
  leaves (dropped_type f d) = elsewhere (Kind f) refl d.wrote.others
  leaves (unlocked_table f d) = elsewhere (Kind f) refl d.wrote.others
  leaves (stored f form d) = elsewhere (Kind f) refl d.wrote.others
  leaves (exchanged f i d) = elsewhere (Cell f i) refl d.wrote.others
  leaves (rewrote f i d) = elsewhere (Cell f i) refl d.wrote.others
  leaves (filled f i d) = elsewhere (Cell f i) refl d.wrote.others
  leaves (guest_stored f i d) = elsewhere (Cell f i) refl d.wrote.others
  leaves (started_walk k d) = alike d.words
  leaves (went_on f i d) = alike d.words
  leaves (touched_entry f i d) = elsewhere (Cell f i) refl d.wrote.others
  leaves (stumbled f i d) = alike d.words
  leaves (mapped f d) = elsewhere (M2p f) refl d.wrote.others
  leaves (charged p d) = elsewhere (Pages p) refl d.wrote.others
  leaves (refunded p by d) = elsewhere (Pages p) refl d.wrote.others
  leaves (named_frame v k d) = elsewhere (Vcpu v k) (aside_context v k d.word) d.wrote.others
  leaves (based v d) = elsewhere (ldt_base_of v) refl d.wrote.others
  leaves (asked v d) = elsewhere (asked_of v) refl d.wrote.others
  leaves (flushed d) = elsewhere (flushed_of s) refl d.wrote.others
  leaves (ran d) = at_run d
  leaves (ticked d) = elsewhere Clock refl d.wrote.others
  leaves (doomed p d) = at_doom p d
  leaves (buried p d) = at_burial p d
  leaves (hinted k by d) = elsewhere (Map k) refl d.wrote.others
  leaves (privileged p d) = elsewhere (Priv p) refl d.wrote.others

pub acts_bring_nothing : BringsNothing
acts_bring_nothing n s x m m2 b c real may acted sound = (leaves n s x m m2 b c real sound (act_effect n s x m m2 b c may acted)).gains

pub acts_keep_dying : ActsKeepDying
acts_keep_dying n s x m m2 b c real may acted sound = (leaves n s x m m2 b c real sound (act_effect n s x m m2 b c may acted)).dying
