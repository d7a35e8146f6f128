-- Dying and dead domains: acts on the words of a vCPU that count here.
use Rattle.std.proofs.Common.{◌≡◌, ◌≢◌, ℕ, ◌<◌, IsTrue, refl, sym, ◌∙◌, ap, inl, inr, arith}
use Rattle.xp_words.specs.Machine.{Machine}
use Rattle.xp_words.specs.declared.place.Place.{Place}
use Rattle.xp_words.specs.declared.place.Place.TheVariants.{Vcpu, Refs, Kind}
use Rattle.xp_words.specs.Places.{sizes_of, run_of, ldt_base_of}
use Rattle.xp_board.specs.declared.step.Step.{Step}
use Rattle.xp_board.specs.declared.holdings.Holdings.{Holdings}
use Rattle.xp_board.specs.Readings.{is_context, owner_of}
use Rattle.xp_board.specs.ContextSteps.{named_in, named_out}
use Rattle.xp_board.specs.RunSteps.{AllowsRun, ran_now}
use Rattle.xp_board.specs.Sound.{Sound}
use Rattle.xp_board.proofs.PlaceTests.{same_or_other}
use Rattle.step_effects.proofs.ActEffects.{Named, Based, Ran}
use Rattle.type_rule.proofs.HandParts.{three_name_in, three_name_out, three_own, three_ran}
use Rattle.type_rule.proofs.DomainLaw.{DomainWords, DomainChange}
use Rattle.type_rule.proofs.DomainWords.{kept_after, change_by, runs}
use Rattle.type_rule.proofs.DomainOthers.{own_two}
use Rattle.xp_board.proofs.Counted.{not_context}

module _ (n : Machine) (s : ℕ) (x : Step) (m m2 : Place → ℕ) (b c : ℕ → Holdings) (real : s < (sizes_of n).vcpus) (sound : Sound n m b)
    (others : (t : ℕ) → t ≢ s → c t ≡ b t) where
  -- one word of a vCPU changes
  vcpu_words : (w j : ℕ) → ((q : Place) → q ≢ Vcpu w j → m2 q ≡ m q) → (c s).looking ≡ (b s).looking →
      (j ≡ 6 → m (run_of w) ≡ 1 → m2 (run_of w) ≡ 1) → (IsTrue (is_context j) → m (run_of w) ≡ 1 → m (Vcpu w j) ≡ 0 → m2 (Vcpu w j) ≡ 0) → DomainWords n m m2 b c
  vcpu_words w j same looking run empty =
      record {
        stopped = λ v e. elim (same_or_other (run_of v) (Vcpu w j)) [
          | inl at ↦ (let p : v ≡ w = cc in let q : j ≡ 6 = cc in rw p (run q (rw p at e)))
          | inr off ↦ same (run_of v) off ∙ e
        ];
        empty = λ v k u e z. elim (same_or_other (Vcpu v k) (Vcpu w j)) [
          | inl at ↦ (let p : v ≡ w = cc in let q : k ≡ j = cc in rw (p, q) (empty (rw q at u) (rw p at e) (rw (p, q) at z)))
          | inr off ↦ same (Vcpu v k) off ∙ z
        ];
        owners = λ d g all e. sym (ap owner_of (same (Refs g) (λ q. cc))) ∙ e;
        unallocated = λ d g all o u. rw (same (Refs g) (λ q. cc)) u;
        unpinned = λ d g all o u. rw (same (Kind g) (λ q. cc)) u;
        unkept = λ d g gone all o y. kept_after n s x m m2 b c others d g gone (same (Kind g) (λ q. cc)) (λ e there at v alive. rw looking there) y;
      }

  pub named_change : (v k : ℕ) → Named n s x v k m m2 (b s) (c s) → DomainChange n s x m m2 b c
  named_change v k d =
      let out = three_name_out (m2 (Vcpu v k)) (b s) in
      let back = three_name_in k (m (Vcpu v k)) (named_out (m2 (Vcpu v k)) (b s)) in
      let own = three_own s v k (m (Vcpu v k)) (m2 (Vcpu v k)) (named_in k (m (Vcpu v k)) (named_out (m2 (Vcpu v k)) (b s))) in
      change_by n s x m m2 b c others (Vcpu v k) _ d.wrote.place d.wrote.left d.hand (own.steps ∙ back.steps ∙ out.steps)
      (vcpu_words v k d.wrote.others (ap (λ u. u.looking) d.hand ∙ own.looking ∙ back.looking ∙ out.looking)
      (λ six e. absurd (not_context 6 k refl d.word six))
      (λ u e z. elim d.may [
        | inl name ↦ absurd (let r = runs n s x m m2 b c others sound real (d.wrote.running refl) in let q = rw (name.own) at e in omega arith)
        | inr empty ↦ empty.none
      ]))

  pub based_change : (v : ℕ) → Based n s x v m m2 (b s) (c s) → DomainChange n s x m m2 b c
  based_change v d =
      change_by n s x m m2 b c others (ldt_base_of v) _ d.wrote.place d.wrote.left d.hand refl
      (vcpu_words v 7 d.wrote.others (ap (λ u. u.looking) d.hand) (λ six e. absurd (cc)) (λ u e z. absurd (not_context 7 7 refl u refl)))

  stays_stopped : m (run_of s) ≡ 1 → (new : ℕ) → AllowsRun new (b s) → new ≡ 1
  stays_stopped e new (inl stop) = stop.0
  stays_stopped e new (inr (inl unload)) = absurd (let r = (sound.found s real).own.run 0 unload.1.running in omega arith)
  stays_stopped e new (inr (inr load)) = absurd (let r = (sound.found s real).own.run 2 load.1.off in omega arith)

  pub ran_change : Ran n s x m m2 (b s) (c s) → DomainChange n s x m m2 b c
  ran_change d =
      let first = three_ran (m2 (run_of s)) (b s) in
      let own = own_two n s x m m2 b c real sound others 6 (m2 (run_of s)) (ran_now (m2 (run_of s)) (b s)) in
      change_by n s x m m2 b c others (run_of s) _ d.wrote.place d.wrote.left d.hand (own.steps ∙ first.steps)
      (vcpu_words s 6 d.wrote.others (ap (λ u. u.looking) d.hand ∙ own.looking ∙ first.looking)
      (λ six e. stays_stopped e (m2 (run_of s)) d.may) (λ u e z. absurd (not_context 6 6 refl u refl)))
