-- Acts that change no mark of a frame, and no word of a vCPU that counts here.
use Rattle.std.proofs.Common.{◌≡◌, ◌≢◌, ℕ, ◌<◌, ◌==◌, not, Bool, true, false, List, [], ◌∷◌, Some, refl, sym, ◌∙◌, ap, inl, inr, arith}
use Rattle.std.proofs.lemmas.Bool.{cases_eq, cases_Bool}
use Rattle.std.proofs.lemmas.Bool.Decides.{nat_tests}
use Rattle.xp_words.specs.Machine.{Machine}
use Rattle.xp_words.specs.declared.place.Place.{Place}
use Rattle.xp_words.specs.declared.place.Place.TheVariants.{Life, Vcpu, Refs, Kind}
use Rattle.xp_words.specs.Places.{sizes_of, run_of}
use Rattle.xp_board.specs.declared.step.Step.{Step}
use Rattle.xp_board.specs.declared.holdings.Looking.{Looking}
use Rattle.xp_board.specs.declared.holdings.Holdings.{Holdings}
use Rattle.xp_board.specs.Acts.{left_by}
use Rattle.xp_board.specs.Lists.{kept_of, Member}
use Rattle.xp_board.specs.Readings.{domain_of}
use Rattle.xp_board.specs.After.{noted, learned_life}
use Rattle.xp_board.specs.Runs.{place_of}
use Rattle.xp_board.specs.Sound.{Sound, KeptForNobody}
use Rattle.type_rule.proofs.DomainLaw.{AllStopped, DomainWords, DomainChange}
use Rattle.xp_board.proofs.Counted.{not_context}

-- ---- looking
pub kept_member : (test : Looking → Bool) (e : Looking) (xs : List Looking) → Member e xs → test e ≡ true → Member e (kept_of test xs)
unfolding Member kept_of
kept_member test e [] k t = k
kept_member test e (y ∷ ys) (inl at) t = let here : test y ≡ true = ap test at ∙ t in rw here (inl at)
kept_member test e (y ∷ ys) (inr there) t =
    elim (cases_Bool (test y)) [
      | inl in_it ↦ rw in_it (inr (kept_member test e ys there t))
      | inr out ↦ rw out (kept_member test e ys there t)
    ]

-- a vCPU that looks at a domain that is not alive goes on looking, when it finds a life word
pub learned_alive : (d w : ℕ) (b : Holdings) (e : Looking) → Member e b.looking → (d ≡ e.owner → w ≢ 0) → Member e (learned_life d w b).looking
learned_alive d w b e there alive =
    elim (cases_eq w 0) [
      | inl zero_found ↦
          let other : (e.owner == d) ≡ false = elim (cases_eq e.owner d) [
            | inl at ↦ absurd (alive (sym at) zero_found)
            | inr off ↦ grind (arith, nat_tests)
          ] in
          rw zero_found (kept_member (λ y. not (y.owner == d)) e b.looking there (rw other refl))
      | inr found ↦ (let t : (w == 0) ≡ false = grind (arith, nat_tests) in rw t there)
    ]

module _ (n : Machine) (s : ℕ) (x : Step) (m m2 : Place → ℕ) (b c : ℕ → Holdings) (others : (t : ℕ) → t ≢ s → c t ≡ b t) where
  -- the vCPU goes on looking at a frame whose kind word stays, where the domain is not alive
  abbrev pub LooksOn : ℕ → Type 0
  LooksOn f = (e : Looking) → Member e (b s).looking → e.frame ≡ f → e.word ≡ m (Kind f) → m (Life e.owner) ≢ 0 → Member e (c s).looking

  pub kept_after : (d f : ℕ) → m (Life d) ≢ 0 → m2 (Kind f) ≡ m (Kind f) → LooksOn f → KeptForNobody n m b d f → KeptForNobody n m2 c d f
  kept_after d f gone same on (inl unkept) = inl (rw same unkept)
  kept_after d f gone same on (inr l) =
      inr
      (record {
        vcpu = l.vcpu;
        real = l.real;
        looking = l.looking;
        here = elim (cases_eq l.vcpu s) [
          | inl at ↦ rw at (on l.looking (rw at at l.here) l.frame l.word (λ e. gone (ap (λ o. m (Life o)) (sym l.owner) ∙ e)))
          | inr off ↦ rw (others l.vcpu off) l.here
        ];
        frame = l.frame;
        owner = l.owner;
        word = l.word ∙ sym same;
      })

  -- no reference word, kind word or word of a vCPU that counts here changes
  pub same_words : ((v k : ℕ) → k ≢ 4 → k ≢ 5 → m2 (Vcpu v k) ≡ m (Vcpu v k)) → ((f : ℕ) → m2 (Refs f) ≡ m (Refs f)) → ((f : ℕ) → m2 (Kind f) ≡ m (Kind f)) →
      ((f : ℕ) → LooksOn f) → DomainWords n m m2 b c
  same_words vcpus refs kinds looks =
      record {
        stopped = λ v e. vcpus v 6 (λ z. absurd (cc)) (λ z. absurd (cc)) ∙ e;
        empty = λ v k u e z. vcpus v k (λ q. not_context 4 k refl u q) (λ q. not_context 5 k refl u q) ∙ z;
        owners = λ d f all e. rw (refs f) at e;
        unallocated = λ d f all o u. rw (refs f) u;
        unpinned = λ d f all o u. rw (kinds f) u;
        unkept = λ d f gone all o k. kept_after d f gone (kinds f) (looks f) k;
      }

  pub change_by : (p : Place) (y : Holdings) → place_of n x ≡ p → left_by x.act (m p) ≡ m2 p → c s ≡ noted x (m p) y → y.steps ≡ (b s).steps →
      DomainWords n m m2 b c → DomainChange n s x m m2 b c
  change_by p y place left hand same words =
      record {
        words = words;
        others = others;
        found = m p;
        left = left ∙ ap m2 (sym place);
        steps = ap (λ u. u.steps) hand ∙ ap (λ l. record { step = x; found = m p } ∷ l) same;
      }

  -- a vCPU that makes this step runs
  pub runs : Sound n m b → s < (sizes_of n).vcpus → (b s).run ≡ Some 0 → m (run_of s) ≡ 0
  runs sound real e = (sound.found s real).own.run 0 e

  -- and so its domain is not stopped
  pub not_stopped : Sound n m b → s < (sizes_of n).vcpus → (b s).run ≡ Some 0 → (d : ℕ) → domain_of n s ≡ d → AllStopped n m d → ⊥
  not_stopped sound real e d own all = let r = runs sound real e in let a = all s real own in omega arith
