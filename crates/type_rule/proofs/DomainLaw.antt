-- Dying and dead domains after a step.
use Rattle.std.proofs.Common.{◌≡◌, ◌≢◌, ℕ, ◌+◌, ◌<◌, ◌≤◌, ◌==◌, not, Bool, true, false, ◌∷◌, length, Some, IsTrue, sym, ◌∙◌, inl, inr, arith}
use Rattle.std.proofs.lemmas.Bool.{cases_eq, cases_Bool, not-true}
use Rattle.std.proofs.lemmas.Bool.Decides.{nat_tests}
use Rattle.xp_words.specs.Machine.{Machine}
use Rattle.xp_words.specs.declared.place.Place.{Place}
use Rattle.xp_words.specs.declared.place.Place.TheVariants.{Life, Vcpu, Refs, Kind}
use Rattle.xp_words.specs.Places.{sizes_of, run_of}
use Rattle.xp_words.proofs.Shared.{eq_one as is_one}
use Rattle.xp_board.specs.declared.step.Step.{Step}
use Rattle.xp_board.specs.declared.holdings.Made.{Made}
use Rattle.xp_board.specs.declared.holdings.Holdings.{Holdings}
use Rattle.xp_board.specs.Acts.{left_by}
use Rattle.xp_board.specs.Steps.{some_since, some_before, some_between}
use Rattle.xp_board.specs.Readings.{is_context, is_owned_by, owner_of, domain_of}
use Rattle.xp_board.specs.LifeSteps.{HasStopped, is_unallocated, is_unpinned, is_unkept}
use Rattle.xp_board.specs.Found.{StoppedFound}
use Rattle.xp_board.specs.Runs.{place_of}
use Rattle.xp_board.specs.Sound.{Sound, KeptForNobody, DeadDomain, DyingDomain, Domains}
use Rattle.xp_board.proofs.StepLists.{Hit, since_more, before_more, between_more, since_within, found_between, hit_left}

-- all vCPUs of the domain are stopped
abbrev pub AllStopped : Machine → (Place → ℕ) → ℕ → Type 0
AllStopped n m d = (v : ℕ) → v < (sizes_of n).vcpus → domain_of n v ≡ d → m (run_of v) ≡ 1

-- What an act changes of the words, as far as these laws read them: a vCPU that is stopped stays so and gets no frame, and no
-- frame of a domain whose vCPUs are stopped comes to it or gets a mark, but `kept` by a vCPU that looks at the domain's life.
pub record DomainWords (n : Machine) (m m2 : Place → ℕ) (b c : ℕ → Holdings) : Type 0 where
  pub stopped : (v : ℕ) → m (run_of v) ≡ 1 → m2 (run_of v) ≡ 1
  pub empty : (v k : ℕ) → IsTrue (is_context k) → m (run_of v) ≡ 1 → m (Vcpu v k) ≡ 0 → m2 (Vcpu v k) ≡ 0
  pub owners : (d f : ℕ) → AllStopped n m d → owner_of (m2 (Refs f)) ≡ Some d → owner_of (m (Refs f)) ≡ Some d
  pub unallocated : (d f : ℕ) → AllStopped n m d → owner_of (m (Refs f)) ≡ Some d → IsTrue (is_unallocated (m (Refs f))) → IsTrue (is_unallocated (m2 (Refs f)))
  pub unpinned : (d f : ℕ) → AllStopped n m d → owner_of (m (Refs f)) ≡ Some d → IsTrue (is_unpinned (m (Kind f))) → IsTrue (is_unpinned (m2 (Kind f)))
  pub unkept : (d f : ℕ) → m (Life d) ≢ 0 → AllStopped n m d → owner_of (m (Refs f)) ≡ Some d → KeptForNobody n m b d f → KeptForNobody n m2 c d f

-- the words, and one more step of vCPU s
pub record DomainChange (n : Machine) (s : ℕ) (x : Step) (m m2 : Place → ℕ) (b c : ℕ → Holdings) : Type 0 where
  pub words : DomainWords n m m2 b c
  pub others : (t : ℕ) → t ≢ s → c t ≡ b t
  pub found : ℕ
  pub left : left_by x.act found ≡ m2 (place_of n x)
  pub steps : (c s).steps ≡ record { step = x; found = found } ∷ (b s).steps

is_zero : (w : ℕ) → (w == 0) ≡ true → w ≡ 0
is_zero w e = grind (arith, nat_tests)

pub owned_by : (d w : ℕ) → is_owned_by d w ≡ true → owner_of w ≡ Some d
owned_by d w e = grind (arith, nat_tests)

pub by_owner : (d w : ℕ) → owner_of w ≡ Some d → is_owned_by d w ≡ true
by_owner d w e = rw e (grind (arith, nat_tests))

module _ (n : Machine) (s : ℕ) (x : Step) (m m2 : Place → ℕ) (b c : ℕ → Holdings) (k : DomainChange n s x m m2 b c) where
  abbrev made : Made
  made = record { step = x; found = k.found }

  -- what this step left at p stands there
  left_there : (p : Place) (test : ℕ → Bool) → Hit (sizes_of n) p test made → test (m2 p) ≡ true
  left_there p test a = hit_left (sizes_of n) m2 p test made k.left a

  pub dead_law : (d : ℕ) → m (Life d) ≢ 0 → DeadDomain n m b d → DeadDomain n m2 c d
  dead_law d gone y =
      record {
        unallocated = λ f o. let was = k.words.owners d f y.stopped o in k.words.unallocated d f y.stopped was (y.unallocated f was);
        unpinned = λ f o. let was = k.words.owners d f y.stopped o in k.words.unpinned d f y.stopped was (y.unpinned f was);
        unkept = λ f o. let was = k.words.owners d f y.stopped o in k.words.unkept d f gone y.stopped was (y.unkept f was);
        empty = λ v j l e t u. k.words.empty v j u (y.stopped v l e) (y.empty v j l e t u);
        stopped = λ v l e. k.words.stopped v (y.stopped v l e);
      }

  -- all vCPUs of a domain that a vCPU found stopped are stopped
  all_stopped : (d t a : ℕ) → StoppedFound (sizes_of n) m (b t) → HasStopped n t d a (b t) → AllStopped n m d
  all_stopped d t a found y v l e =
      found_between (sizes_of n) y.since a (run_of v) (λ w. w == 1) (λ w. w ≡ 1 → m (run_of v) ≡ 1) (b t).steps (found v) (y.stopped v l e) (λ w r g. g (is_one w r))

  -- a frame that is not the domain's does not come to it
  still_other : (d f : ℕ) → AllStopped n m d → is_owned_by d (m (Refs f)) ≡ false → is_owned_by d (m2 (Refs f)) ≡ false
  still_other d f all was =
      elim (cases_Bool (is_owned_by d (m2 (Refs f)))) [
        | inl now ↦ absurd (let e = by_owner d (m (Refs f)) (k.words.owners d f all (owned_by d (m2 (Refs f)) now)) in cc)
        | inr off ↦ off
      ]

  -- another vCPU destroys it
  others_law : (d t : ℕ) → t ≢ s → m (Life d) ≢ 0 → StoppedFound (sizes_of n) m (b t) → DyingDomain n m b d t → DyingDomain n m2 c d t
  others_law d t off gone stopped y =
      let same = k.others t off in
      record {
        empty = λ v j a e o l u stored order halted found.
            k.words.empty v j u
            (found_between (sizes_of n) a e (run_of v) (λ w. w == 1) (λ w. w ≡ 1 → m (run_of v) ≡ 1) (b t).steps (stopped v) (rw same at halted) (λ w r g. g (is_one w r)))
            (y.empty v j a e o l u (rw same at stored) order (rw same at halted) (rw same at found));
        unallocated = λ f a h o found.
            let all = all_stopped d t a stopped (rw same at h) in
            let was = k.words.owners d f all o in
            k.words.unallocated d f all was (y.unallocated f a (rw same at h) was (rw same at found));
        unpinned = λ f a h o found.
            let all = all_stopped d t a stopped (rw same at h) in
            let was = k.words.owners d f all o in
            k.words.unpinned d f all was (y.unpinned f a (rw same at h) was (rw same at found));
        unkept = λ f a h o found.
            let all = all_stopped d t a stopped (rw same at h) in
            let was = k.words.owners d f all o in
            k.words.unkept d f gone all was (y.unkept f a (rw same at h) was (rw same at found));
        other = λ f a h found. still_other d f (all_stopped d t a stopped (rw same at h)) (y.other f a (rw same at h) (rw same at found));
      }

  -- what had been found of all its vCPUs before this step, where the findings are older
  stopped_before : (d a : ℕ) (y : HasStopped n s d a (c s)) → a < length (b s).steps → HasStopped n s d a (b s)
  stopped_before d a y old =
      record {
        since = y.since;
        stored = elim (before_more (sizes_of n) y.since (Life d) (λ w. w == s + 1) made (b s).steps (rw k.steps at y.stored)) [
          | inl here ↦ absurd (let l = here.1 in let o = y.order in omega arith)
          | inr there ↦ there
        ];
        stopped = λ v l e. elim (between_more (sizes_of n) y.since a (run_of v) (λ w. w == 1) made (b s).steps (rw k.steps at (y.stopped v l e))) [
          | inl here ↦ absurd (let l = here.1 in omega arith)
          | inr there ↦ there
        ];
        order = y.order;
      }

  older : (d a : ℕ) (p : Place) (test : ℕ → Bool) → HasStopped n s d a (c s) → IsTrue (some_since (sizes_of n) a p test (b s).steps) → HasStopped n s d a (b s)
  older d a p test y old = stopped_before d a y (since_within (sizes_of n) a p test (b s).steps old)

  -- an empty word of a vCPU that was found stopped
  empty_after : (d : ℕ) → StoppedFound (sizes_of n) m (b s) → DyingDomain n m b d s → (v j a e : ℕ) → domain_of n v ≡ d → j < 38 → IsTrue (is_context j) →
      IsTrue (some_before (sizes_of n) a (Life d) (λ w. w == s + 1) (c s).steps) → a ≤ e →
      IsTrue (some_between (sizes_of n) a e (run_of v) (λ w. w == 1) (c s).steps) →
      IsTrue (some_since (sizes_of n) e (Vcpu v j) (λ w. w == 0) (c s).steps) → m2 (Vcpu v j) ≡ 0
  empty_after d stopped y v j a e o l u stored order halted found =
      elim (since_more (sizes_of n) e (Vcpu v j) (λ w. w == 0) made (b s).steps (rw k.steps at found)) [
        | inl now ↦ is_zero (m2 (Vcpu v j)) (left_there (Vcpu v j) (λ w. w == 0) now.0)
        | inr old ↦
            let within = since_within (sizes_of n) e (Vcpu v j) (λ w. w == 0) (b s).steps old in
            let was_stored : IsTrue (some_before (sizes_of n) a (Life d) (λ w. w == s + 1) (b s).steps) =
            elim (before_more (sizes_of n) a (Life d) (λ w. w == s + 1) made (b s).steps (rw k.steps at stored)) [
              | inl here ↦ absurd (let g = here.1 in omega arith)
              | inr there ↦ there
            ] in
            let was_halted : IsTrue (some_between (sizes_of n) a e (run_of v) (λ w. w == 1) (b s).steps) =
            elim (between_more (sizes_of n) a e (run_of v) (λ w. w == 1) made (b s).steps (rw k.steps at halted)) [
              | inl here ↦ absurd (let g = here.1 in omega arith)
              | inr there ↦ there
            ] in
            k.words.empty v j u
            (found_between (sizes_of n) a e (run_of v) (λ w. w == 1) (λ w. w ≡ 1 → m (run_of v) ≡ 1) (b s).steps (stopped v) was_halted (λ w r g. g (is_one w r)))
            (y.empty v j a e o l u was_stored order was_halted old)
      ]

  -- the vCPU that makes the step destroys it
  mine_law : (d : ℕ) → m (Life d) ≢ 0 → StoppedFound (sizes_of n) m (b s) → DyingDomain n m b d s → DyingDomain n m2 c d s
  mine_law d gone stopped y =
      record {
        empty = empty_after d stopped y;
        unallocated = λ f a h o found.
            elim (since_more (sizes_of n) a (Refs f) is_unallocated made (b s).steps (rw k.steps at found)) [
              | inl now ↦ left_there (Refs f) is_unallocated now.0
              | inr old ↦
                  (let was_h = older d a (Refs f) is_unallocated h old in
                  let all = all_stopped d s a stopped was_h in
                  let was = k.words.owners d f all o in
                  k.words.unallocated d f all was (y.unallocated f a was_h was old))
            ];
        unpinned = λ f a h o found.
            elim (since_more (sizes_of n) a (Kind f) is_unpinned made (b s).steps (rw k.steps at found)) [
              | inl now ↦ left_there (Kind f) is_unpinned now.0
              | inr old ↦
                  (let was_h = older d a (Kind f) is_unpinned h old in
                  let all = all_stopped d s a stopped was_h in
                  let was = k.words.owners d f all o in
                  k.words.unpinned d f all was (y.unpinned f a was_h was old))
            ];
        unkept = λ f a h o found.
            elim (since_more (sizes_of n) a (Kind f) is_unkept made (b s).steps (rw k.steps at found)) [
              | inl now ↦ inl (left_there (Kind f) is_unkept now.0)
              | inr old ↦
                  (let was_h = older d a (Kind f) is_unkept h old in
                  let all = all_stopped d s a stopped was_h in
                  let was = k.words.owners d f all o in
                  k.words.unkept d f gone all was (y.unkept f a was_h was old))
            ];
        other = λ f a h found.
            elim (since_more (sizes_of n) a (Refs f) (λ w. not (is_owned_by d w)) made (b s).steps (rw k.steps at found)) [
              | inl now ↦ not-true (is_owned_by d (m2 (Refs f))) (left_there (Refs f) (λ w. not (is_owned_by d w)) now.0)
              | inr old ↦
                  (let was_h = older d a (Refs f) (λ w. not (is_owned_by d w)) h old in
                  still_other d f (all_stopped d s a stopped was_h) (y.other f a was_h old))
            ];
      }

  pub dying_law : (d t : ℕ) → m (Life d) ≢ 0 → StoppedFound (sizes_of n) m (b t) → DyingDomain n m b d t → DyingDomain n m2 c d t
  dying_law d t gone stopped y =
      elim (cases_eq t s) [
        | inl at ↦ rw at (mine_law d gone (rw at at stopped) (rw at at y))
        | inr off ↦ others_law d t off gone stopped y
      ]

  -- an act that changes no life word
  pub domains_law : Sound n m b → ((d : ℕ) → m2 (Life d) ≡ m (Life d)) → Domains n m2 c
  domains_law sound lives =
      record {
        dead = λ d l e. let was : m (Life d) ≡ 255 = sym (lives d) ∙ e in dead_law d (λ z. absurd (cc)) (sound.domains.dead d l was);
        dying = λ d t l u e.
            let was : m (Life d) ≡ t + 1 = sym (lives d) ∙ e in
            dying_law d t (λ z. absurd (omega arith)) ((sound.found t u).stopped) (sound.domains.dying d t l u was);
      }
