-- A domain that a vCPU destroys from now on, and one that is dead from now on.
use Rattle.std.proofs.Common.{◌≡◌, ◌≢◌, ℕ, ◌+◌, ◌<◌, ◌≤◌, ◌==◌, ◌⊎◌, not, nat_lt, if◌then◌else◌, Bool, true, false, ◌∷◌, length, Some, IsTrue, refl, sym, ◌∙◌, ap, subst, inl, inr, arith}
use Rattle.std.proofs.lemmas.Bool.{cases_eq, cases_Bool}
use Rattle.std.proofs.lemmas.Bool.Decides.{nat_tests}
use Rattle.xp_words.specs.Machine.{Machine}
use Rattle.xp_words.specs.declared.place.Place.{Place}
use Rattle.xp_words.specs.declared.place.Place.TheVariants.{Life, Vcpu, Refs, Kind}
use Rattle.xp_words.specs.Places.{sizes_of, is_place, run_of}
use Rattle.xp_words.proofs.Shared.{eq_one as is_one}
use Rattle.xp_board.specs.declared.step.Step.{Step}
use Rattle.xp_board.specs.declared.holdings.Holdings.{Holdings}
use Rattle.xp_board.specs.Lists.{kept_of}
use Rattle.xp_board.specs.Steps.{some_since, some_before}
use Rattle.xp_board.specs.Readings.{is_owned_by, owner_of}
use Rattle.xp_board.specs.LifeSteps.{HasStopped, HasCleared, MayBury, is_unallocated, is_unpinned, is_unkept}
use Rattle.xp_board.specs.Sound.{Sound, DeadDomain, DyingDomain, Domains}
use Rattle.step_effects.proofs.ActEffects.{Doomed, Buried}
use Rattle.xp_board.proofs.StepLists.{before_more, since_within, found_before, found_between, between_since, between_wider}
use Rattle.type_rule.proofs.DomainLaw.{DomainChange, dead_law, dying_law, by_owner}
use Rattle.type_rule.proofs.DomainWords.{change_by, same_words, learned_alive}
use Rattle.xp_board.proofs.RefWords.{zero_unowned}

is_next : (s w : ℕ) → (w == s + 1) ≡ true → w ≡ s + 1
is_next s w e = grind (arith, nat_tests)

life_steps : (t : Bool) (d : ℕ) (h : Holdings) → (if t then record h { looking = kept_of (λ e. not (e.owner == d)) h.looking } else h).steps ≡ h.steps
life_steps true d h = refl
life_steps false d h = refl

module _ (n : Machine) (s : ℕ) (x : Step) (m m2 : Place → ℕ) (b c : ℕ → Holdings) (real : s < (sizes_of n).vcpus) (sound : Sound n m b)
    (others : (t : ℕ) → t ≢ s → c t ≡ b t) where
  few_vcpus : s < 16
  few_vcpus = let k = sound.machine.few_vcpus in omega arith

  -- what was found of the life word that the vCPU stored
  stored_is : (a d : ℕ) → IsTrue (some_before (sizes_of n) a (Life d) (λ w. w == s + 1) (b s).steps) → (m (Life d) ≡ s + 1) ⊎ (m (Life d) ≡ 255)
  stored_is a d h =
      found_before (sizes_of n) a (Life d) (λ w. w == s + 1) (λ w. w ≢ 0 → (m (Life d) ≡ w) ⊎ (m (Life d) ≡ 255)) (b s).steps ((sound.found s real).life d) h
      (λ w e k. let at = is_next s w e in subst (λ y. (m (Life d) ≡ y) ⊎ (m (Life d) ≡ 255)) at (k (let g : w ≢ 0 = (λ z. absurd (omega arith)) in g)))

  -- ---- doomed
  doomed_change : (d : ℕ) → Doomed n s x d m m2 (b s) (c s) → DomainChange n s x m m2 b c
  doomed_change d k =
      change_by n s x m m2 b c others (Life d) _ k.wrote.place k.wrote.left k.hand (life_steps (m (Life d) == 0) d (b s))
      (same_words n s x m m2 b c others (λ v j a e. k.wrote.others (Vcpu v j) (λ q. cc)) (λ f. k.wrote.others (Refs f) (λ q. cc)) (λ f. k.wrote.others (Kind f) (λ q. cc))
      (λ f e there at w alive. rw (ap (λ u. u.looking) k.hand) (learned_alive d (m (Life d)) (b s) e there (λ o z. alive (ap (λ q. m (Life q)) (sym o) ∙ z)))))

  -- of this domain nothing is found yet
  module _ (d : ℕ) (k : Doomed n s x d m m2 (b s) (c s)) where
    steps_are : (c s).steps ≡ record { step = x; found = m (Life d) } ∷ (b s).steps
    steps_are = ap (λ u. u.steps) k.hand ∙ ap (λ l. record { step = x; found = m (Life d) } ∷ l) (life_steps (m (Life d) == 0) d (b s))

    -- only this step stored the life word
    stored_late : (a : ℕ) → IsTrue (some_before (sizes_of n) a (Life d) (λ w. w == s + 1) (c s).steps) → length (b s).steps < a
    stored_late a h =
        elim (before_more (sizes_of n) a (Life d) (λ w. w == s + 1) (record { step = x; found = m (Life d) }) (b s).steps (rw steps_are at h)) [
          | inl here ↦ here.1
          | inr there ↦ absurd (elim (stored_is a d there) [ inl p ↦ (let z = k.was in absurd (omega arith)) | inr p ↦ (let z = k.was in absurd (omega arith)) ])
        ]

    since_early : (a : ℕ) (p : Place) (test : ℕ → Bool) → IsTrue (some_since (sizes_of n) a p test (c s).steps) → a ≤ length (b s).steps
    since_early a p test h = let w = since_within (sizes_of n) a p test (c s).steps h in let l = ap length steps_are in omega arith

    too_late : (a : ℕ) (p : Place) (test : ℕ → Bool) → HasStopped n s d a (c s) → IsTrue (some_since (sizes_of n) a p test (c s).steps) → ⊥
    too_late a p test h found =
        let l = stored_late h.since h.stored in
        let e = since_early a p test found in
        let o = h.order in
        absurd (omega arith)

    doomed_dying : DyingDomain n m2 c d s
    doomed_dying =
        record {
          empty = λ v j a e o l u stored order halted found. absurd (let q = stored_late a stored in let r = since_early e (Vcpu v j) (λ w. w == 0) found in omega arith);
          unallocated = λ f a h o found. absurd (too_late a (Refs f) is_unallocated h found);
          unpinned = λ f a h o found. absurd (too_late a (Kind f) is_unpinned h found);
          unkept = λ f a h o found. absurd (too_late a (Kind f) is_unkept h found);
          other = λ f a h found. absurd (too_late a (Refs f) (λ w. not (is_owned_by d w)) h found);
        }

  -- the domains but one whose life word changes
  others_dead : (d : ℕ) → DomainChange n s x m m2 b c → ((q : Place) → q ≢ Life d → m2 q ≡ m q) → (q : ℕ) → q ≢ d → q < (sizes_of n).domains → m2 (Life q) ≡ 255 → DeadDomain n m2 c q
  others_dead d k same q off l e =
      let was : m (Life q) ≡ 255 = sym (same (Life q) (λ r. off (cc))) ∙ e in
      dead_law n s x m m2 b c k q (λ z. absurd (cc)) (sound.domains.dead q l was)

  others_dying : (d : ℕ) → DomainChange n s x m m2 b c → ((q : Place) → q ≢ Life d → m2 q ≡ m q) → (q t : ℕ) → q ≢ d → q < (sizes_of n).domains → t < (sizes_of n).vcpus →
      m2 (Life q) ≡ t + 1 → DyingDomain n m2 c q t
  others_dying d k same q t off l u e =
      let was : m (Life q) ≡ t + 1 = sym (same (Life q) (λ r. off (cc))) ∙ e in
      dying_law n s x m m2 b c k q t (λ z. absurd (omega arith)) ((sound.found t u).stopped) (sound.domains.dying q t l u was)

  pub doomed_law : (d : ℕ) → Doomed n s x d m m2 (b s) (c s) → Domains n m2 c
  doomed_law d k =
      let change = doomed_change d k in
      let few = few_vcpus in
      record {
        dead = λ q l e. elim (cases_eq q d) [
          | inl at ↦ absurd (let i = k.is in let f = rw at at e in omega arith)
          | inr off ↦ others_dead d change k.wrote.others q off l e
        ];
        dying = λ q t l u e. elim (cases_eq q d) [
          | inl at ↦ (let own : t ≡ s = (let i = k.is in let f = rw at at e in omega arith) in rw (at, own) (doomed_dying d k))
          | inr off ↦ others_dying d change k.wrote.others q t off l u e
        ];
      }

  -- ---- buried
  buried_change : (d : ℕ) → Buried n s x d m m2 (b s) (c s) → m (Life d) ≢ 0 → DomainChange n s x m m2 b c
  buried_change d k gone =
      change_by n s x m m2 b c others (Life d) _ k.wrote.place k.wrote.left k.hand (life_steps (m (Life d) == 0) d (b s))
      (same_words n s x m m2 b c others (λ v j a e. k.wrote.others (Vcpu v j) (λ q. cc)) (λ f. k.wrote.others (Refs f) (λ q. cc)) (λ f. k.wrote.others (Kind f) (λ q. cc))
      (λ f e there at w alive. rw (ap (λ u. u.looking) k.hand) (learned_alive d (m (Life d)) (b s) e there (λ o. gone))))

  -- what the destroying vCPU has found makes the domain dead
  module _ (d new : ℕ) (may : MayBury n s d new (b s)) (dying : DyingDomain n m b d s) where
    before : HasStopped n s d may.since (b s)
    before =
        let e = may.emptied in
        let h = e.stopped in
        let o = e.order in
        let p = h.order in
        record {
          since = h.since;
          stored = h.stored;
          stopped = λ v l q. between_wider (sizes_of n) h.since e.since may.since (run_of v) (λ w. w == 1) (b s).steps o (h.stopped v l q);
          order = omega arith;
        }

    owned_inside : (f : ℕ) → owner_of (m (Refs f)) ≡ Some d → f < n.frames
    unfolding is_place
    owned_inside f o =
        elim (cases_Bool (nat_lt f n.frames)) [
          | inl in_it ↦ grind (arith, nat_tests)
          | inr out ↦ absurd (let z : m (Refs f) ≡ 0 = sound.spelled.outside (Refs f) out in let q = rw z at o in zero_unowned d q)
        ]

    cleared : (f : ℕ) → owner_of (m (Refs f)) ≡ Some d → HasCleared n f may.since (b s)
    cleared f o =
        elim (may.frames f (owned_inside f o)) [
          | inl other ↦ absurd (let no_owner = dying.other f may.since before other in let own = by_owner d (m (Refs f)) o in cc)
          | inr marks ↦ marks
        ]

    buried_dead : DeadDomain n m b d
    buried_dead =
        record {
          unallocated = λ f o. dying.unallocated f may.since before o ((cleared f o).unallocated);
          unpinned = λ f o. dying.unpinned f may.since before o ((cleared f o).unpinned);
          unkept = λ f o. dying.unkept f may.since before o ((cleared f o).unkept);
          empty = λ v j l e t u.
              let h = may.emptied.stopped in
              dying.empty v j h.since may.emptied.since e t u h.stored h.order (h.stopped v l e)
              (between_since (sizes_of n) may.emptied.since may.since (Vcpu v j) (λ w. w == 0) (b s).steps (may.emptied.empty v j l e t u));
          stopped = λ v l e.
              let h = may.emptied.stopped in
              found_between (sizes_of n) h.since may.emptied.since (run_of v) (λ w. w == 1) (λ w. w ≡ 1 → m (run_of v) ≡ 1) (b s).steps ((sound.found s real).stopped v) (h.stopped v l e) (λ w r g. g (is_one w r));
        }

  pub buried_law : (d : ℕ) → d < (sizes_of n).domains → Buried n s x d m m2 (b s) (c s) → Domains n m2 c
  buried_law d inside k =
      let few = few_vcpus in
      let is = stored_is k.may.emptied.stopped.since d k.may.emptied.stopped.stored in
      let gone : m (Life d) ≢ 0 = (λ z. elim is [ inl p ↦ absurd (omega arith) | inr p ↦ absurd (omega arith) ]) in
      let change = buried_change d k gone in
      let was : DeadDomain n m b d = elim is [
        | inl p ↦ buried_dead d (m2 (Life d)) k.may (sound.domains.dying d s inside real p)
        | inr p ↦ sound.domains.dead d inside p
      ] in
      record {
        dead = λ q l e. elim (cases_eq q d) [
          | inl at ↦ rw at (dead_law n s x m m2 b c change d gone was)
          | inr off ↦ others_dead d change k.wrote.others q off l e
        ];
        dying = λ q t l u e. elim (cases_eq q d) [
          | inl at ↦ absurd (let i = k.may.dead in let f = rw at at e in let w = sound.machine.few_vcpus in omega arith)
          | inr off ↦ others_dying d change k.wrote.others q t off l u e
        ];
      }
