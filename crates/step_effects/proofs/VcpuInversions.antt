-- The effects of legal acts on the words of vCPUs.
use Rattle.std.proofs.Common.{◌≡◌, ℕ, ◌==◌, ◌⊎◌, if◌then◌else◌, Bool, true, false, Option, IsTrue, refl, ap, subst, ◌∙◌, inl, inr, arith}
use Rattle.std.proofs.lemmas.Bool.{or_cases}
use Rattle.std.proofs.lemmas.Bool.Decides.{nat_tests}
use Rattle.xp_words.specs.Machine.{Machine}
use Rattle.xp_words.specs.declared.place.Place.{Place}
use Rattle.xp_words.specs.declared.place.Place.TheVariants.{Vcpu}
use Rattle.xp_words.specs.Places.{asked_of, flushed_of, run_of, ldt_base_of}
use Rattle.xp_board.specs.declared.step.Act.{Act}
use Rattle.xp_board.specs.declared.step.Act.TheVariants.{Store, Max}
use Rattle.xp_board.specs.declared.step.Mark.{Mark}
use Rattle.xp_board.specs.declared.step.Step.{Step}
use Rattle.xp_board.specs.declared.step.StepKind.TheVariants as steps
use Rattle.xp_board.specs.declared.holdings.Holdings.{Holdings}
use Rattle.xp_board.specs.Acts.{left_by}
use Rattle.xp_board.specs.Readings.{is_context}
use Rattle.xp_board.specs.ContextSteps.{MayName, MayEmpty}
use Rattle.xp_board.specs.After.{noted}
use Rattle.step_effects.proofs.Doing.{Doing, wrote_by, store_now}
use Rattle.step_effects.proofs.ActEffects.{ActEffect, asked, flushed, ran, named_frame, based}
use Rattle.xp_board.proofs.Sums.{when_found}

module _ (n : Machine) (s : ℕ) (x : Step) (m m2 : Place → ℕ) (b c : Holdings) (mark : Option Mark) where
  abbrev Effect : Type 0
  Effect = ActEffect n s x m m2 b c

  same_if : (t : Bool) (y : Holdings) → (if t then y else y) ≡ y
  same_if true y = refl
  same_if false y = refl

  own_if : (y z : Holdings) → (if s == s then y else z) ≡ y
  own_if y z = when_found s s y z refl

  -- ---- a vCPU is asked
  ask_at : (v value : ℕ) → Doing n s x m m2 b c mark (asked_of v) (Max value) steps.Ask → Effect
  ask_at v value d =
      asked v
      (record {
        wrote = wrote_by _ _ _ _ _ _ _ _ (asked_of v) (Max value) steps.Ask d;
        value = value;
        may = d.legal.1;
        hand = d.hand ∙ ap (λ y. noted x (m (asked_of v)) y) (same_if (v == s) b);
      })

  pub ask_effect : (p : Place) (a : Act) → Doing n s x m m2 b c mark p a steps.Ask → Effect
  ask_effect (Vcpu v k) (Max value) d = ask_at v value (subst (λ j. Doing n s x m m2 b c mark (Vcpu v j) (Max value) steps.Ask) d.legal.0 d)
  ask_effect _ _ d = absurd d.legal

  -- ---- the own translations are flushed
  ack_at : (w : ℕ) → Doing n s x m m2 b c mark (flushed_of s) (Store w) steps.Ack → Effect
  ack_at w d =
      let now : m2 (flushed_of s) ≡ w = store_now _ _ _ _ _ _ _ _ (flushed_of s) w steps.Ack d in
      flushed
      (record {
        wrote = wrote_by _ _ _ _ _ _ _ _ (flushed_of s) (Store w) steps.Ack d;
        may = rw now d.legal;
        hand = d.hand ∙ ap (λ y. noted x (m (flushed_of s)) y) (same_if (s == s) _);
      })

  ack_own : (v k w : ℕ) → v ≡ s → k ≡ 5 → Doing n s x m m2 b c mark (Vcpu v k) (Store w) steps.Ack → Effect
  ack_own v k w own word d =
      ack_at w
      (subst (λ u. Doing n s x m m2 b c mark (flushed_of u) (Store w) steps.Ack) own
      (subst (λ j. Doing n s x m m2 b c mark (Vcpu v j) (Store w) steps.Ack) word d))

  pub ack_effect : (p : Place) (a : Act) → Doing n s x m m2 b c mark p a steps.Ack → Effect
  ack_effect (Vcpu v k) (Store w) d = ack_own v k w d.legal.own d.legal.word d
  ack_effect _ _ d = absurd d.legal

  -- ---- the own vCPU runs or not
  run_at : (w : ℕ) → Doing n s x m m2 b c mark (run_of s) (Store w) steps.Run → Effect
  unfolding left_by
  run_at w d =
      let now : m2 (run_of s) ≡ w = store_now _ _ _ _ _ _ _ _ (run_of s) w steps.Run d in
      ran
      (record {
        wrote = wrote_by _ _ _ _ _ _ _ _ (run_of s) (Store w) steps.Run d;
        may = rw now d.legal.2;
        hand = d.hand ∙ ap (λ y. noted x (m (run_of s)) y) (own_if _ _ ∙ rw now refl);
      })

  run_own : (v k w : ℕ) → v ≡ s → k ≡ 6 → Doing n s x m m2 b c mark (Vcpu v k) (Store w) steps.Run → Effect
  run_own v k w own word d =
      run_at w
      (subst (λ u. Doing n s x m m2 b c mark (run_of u) (Store w) steps.Run) own
      (subst (λ j. Doing n s x m m2 b c mark (Vcpu v j) (Store w) steps.Run) word d))

  pub run_effect : (p : Place) (a : Act) → Doing n s x m m2 b c mark p a steps.Run → Effect
  run_effect (Vcpu v k) (Store w) d = run_own v k w d.legal.0 d.legal.1 d
  run_effect _ _ d = absurd d.legal

  -- ---- a word that may name a frame, and the base of an LDT
  named_at : (v k w : ℕ) → IsTrue (is_context k) → MayName n s v k w b ⊎ MayEmpty n s v k w b →
      Doing n s x m m2 b c mark (Vcpu v k) (Store w) steps.Context → Effect
  unfolding left_by
  named_at v k w word may d =
      let now : m2 (Vcpu v k) ≡ w = store_now _ _ _ _ _ _ _ _ (Vcpu v k) w steps.Context d in
      named_frame v k
      (record {
        wrote = wrote_by _ _ _ _ _ _ _ _ (Vcpu v k) (Store w) steps.Context d;
        word = word;
        may = rw now may;
        hand = d.hand ∙ rw (now, word) refl;
      })

  based_at : (v w : ℕ) → (v ≡ s) ⊎ MayEmpty n s v 7 w b → Doing n s x m m2 b c mark (ldt_base_of v) (Store w) steps.Context → Effect
  based_at v w may d =
      let now : m2 (ldt_base_of v) ≡ w = store_now _ _ _ _ _ _ _ _ (ldt_base_of v) w steps.Context d in
      based v
      (record {
        wrote = wrote_by _ _ _ _ _ _ _ _ (ldt_base_of v) (Store w) steps.Context d;
        may = rw now may;
        hand = d.hand ∙ ap (λ y. noted x (m (ldt_base_of v)) y) (same_if (v == s) b);
      })

  empty_at : (v k w : ℕ) → MayEmpty n s v k w b → Doing n s x m m2 b c mark (Vcpu v k) (Store w) steps.Context → Effect
  empty_at v k w may d =
      elim (or_cases (is_context k) (k == 7) may.word) [
        | inl word ↦ named_at v k w word (inr may) d
        | inr seven ↦
            let e : k ≡ 7 = grind (arith, nat_tests) in
            based_at v w (inr (subst (λ j. MayEmpty n s v j w b) e may)) (subst (λ j. Doing n s x m m2 b c mark (Vcpu v j) (Store w) steps.Context) e d)
      ]

  pub context_effect : (p : Place) (a : Act) → Doing n s x m m2 b c mark p a steps.Context → Effect
  context_effect (Vcpu v k) (Store w) d =
      elim d.legal [
        | inl name ↦ named_at v k w name.word (inl name) d
        | inr rest ↦
            elim rest [
              | inl base ↦ based_at v w (inl base.own) (subst (λ j. Doing n s x m m2 b c mark (Vcpu v j) (Store w) steps.Context) base.word d)
              | inr empty ↦ empty_at v k w empty d
            ]
      ]
  context_effect _ _ d = absurd d.legal
