-- The own vCPU stops, leaves its processor or comes to it.
use Rattle.std.proofs.Common.{◌≡◌, ◌≢◌, ℕ, suc, ◌+◌, ◌<◌, ◌≤◌, true, [], length, Some, None, refl, sym, ap, subst, ◌∙◌, ◌⊎◌, inl, inr, arith}
use Rattle.std.proofs.lemmas.Bool.{cases_eq}
use Rattle.xp_words.specs.Machine.{Machine}
use Rattle.xp_words.specs.declared.place.Place.{Place}
use Rattle.xp_words.specs.declared.place.Place.TheVariants.{Clock, Vcpu}
use Rattle.xp_words.specs.Places.{sizes_of, place_at, run_of, flushed_of}
use Rattle.xp_board.specs.declared.step.Step.{Step}
use Rattle.xp_board.specs.declared.holdings.Holdings.{Holdings}
use Rattle.xp_board.specs.Steps.{left_of, EachSince}
use Rattle.xp_board.specs.Readings.{clock_value}
use Rattle.xp_board.specs.Found.{before_off}
use Rattle.xp_board.specs.RunSteps.{AllowsRun, ran_now}
use Rattle.xp_board.specs.After.{noted, learned_own}
use Rattle.xp_board.specs.Sound.{Sound}
use Rattle.step_effects.proofs.ActEffects.{Ran}
use Rattle.found_rule.proofs.Learning.{Act, act}
use Rattle.found_rule.proofs.Words.{Words}
use Rattle.found_rule.proofs.WordsOf.{words_lone, lone_vcpu}
use Rattle.found_rule.proofs.MyHand.{mine_by}
use Rattle.found_rule.proofs.FormedLaw.{formed_by, ending_formed_old, claimed_formed_old}
use Rattle.found_rule.proofs.Quiet.{Done, works_form, locks_form}
use Rattle.found_rule.proofs.FlushSteps.{less_reach, vcpu_hand, other_off, other_cold}
use Rattle.xp_board.proofs.HandLists.{EachOf-all}
use Rattle.xp_board.proofs.MoreSteps.{EachSince-none}
use Rattle.xp_board.proofs.Sums.{if_itself}

module _ (n : Machine) (s : ℕ) (x : Step) (m m2 : Place → ℕ) (b c : ℕ → Holdings) (l : s < (sizes_of n).vcpus) (sound : Sound n m b) (others : (t : ℕ) → t ≢ s → c t ≡ b t) where
  -- ---- stopped, off, or on a processor
  -- what the own run word was
  run_was : (w : ℕ) → (b s).run ≡ Some w → m (run_of s) ≡ w
  run_was w e = (sound.found s l).own.run w e

  ran_stops : AllowsRun (m2 (run_of s)) (b s) → m (run_of s) ≡ 1 → m2 (run_of s) ≡ 1
  ran_stops (inl stop) was = stop.0
  ran_stops (inr (inl unload)) was = absurd (let e = run_was 0 unload.1.running in omega arith)
  ran_stops (inr (inr load)) was = absurd (let e = run_was 2 load.1.off in omega arith)

  module _ (may : AllowsRun (m2 (run_of s)) (b s)) (u : Holdings) (acted : Act n s (run_of s) m m2 (b s) u (c s)) where
    ran_words : Words n s m m2 b
    unfolding clock_value
    ran_words =
        let o = acted.others in
        words_lone n s m m2 b sound (run_of s) o (λ g e. cc) (λ g e. cc) (λ g i e. cc)
        (lone_vcpu n s m m2 b sound (run_of s) o s 6 refl (λ t. let e = o (flushed_of t) (λ e. cc) in omega arith)
        (λ t was. elim (cases_eq t s) [ inl at ↦ rw at (ran_stops may (rw at at was)) | inr off ↦ o (run_of t) (λ q. off (cc)) ∙ was ])
        (λ t off. o (flushed_of t) (λ e. cc)) (λ t off. o (run_of t) (λ q. off (cc))) (λ t off k a b q. o (Vcpu t k) (λ e. off (cc))))
        (omega arith)

    ran_done : u.refs ≡ (b s).refs → u.typed ≡ (b s).typed → u.works ≡ (b s).works → u.locks ≡ (b s).locks → u.ending ≡ (b s).ending → u.claimed ≡ (b s).claimed →
        u.raised ≡ (b s).raised → u.looking ≡ (b s).looking → u.turn ≡ (b s).turn → u.acked ≡ (b s).acked → u.walk ≡ (b s).walk → (u.cache ≡ []) ⊎ (u.cache ≡ (b s).cache) →
        (b s).walk ≡ None → u.ran ≡ suc (length (b s).steps) → (m2 (run_of s) ≢ 0) ⊎ (u.cold ≡ true) → Done n s m m2 b c
    unfolding ran_words
    ran_done refs typed works locks ending claimed raised looking turn acks walk cache landed ran how =
        let z = sizes_of n in
        let p = run_of s in
        let reach = less_reach n s x m m2 b c l sound others 6 u acted (elim cache [ inl none ↦ inl (none, walk ∙ landed) | inr same ↦ inr (same, walk) ]) in
        let flushed : m2 (flushed_of s) ≡ m (flushed_of s) = acted.others (flushed_of s) (λ e. cc) in
        let g = sound.formed s l in
        let long : length (c s).steps ≡ suc (length (b s).steps) = ap length acted.steps in
        let now : (c s).ran ≡ suc (length (b s).steps) = acted.learned.ran ∙ ran in
        record {
          found = record {
            place = p;
            moved = u;
            words = ran_words;
            reach = reach;
            offs = record {
              off = λ v r h found off cold. elim (cases_eq v s) [
                | inr away ↦ other_off n s x m m2 b c l sound others 6 u acted v away h off
                | inl at ↦
                    (let q : (m2 (run_of v) ≢ 0) ⊎ ((c v).cold ≡ true) = rw at (elim how [ inl idle ↦ inl idle | inr cold ↦ inr (acted.learned.cold ∙ cold) ]) in
                    EachOf-all (λ y. ((m2 (run_of v) ≢ 0) ⊎ (((c v).cold ≡ true) ⊎ (clock_value (place_at z y.step.place) y.found < m2 (flushed_of v)))) × ((m2 (run_of v) ≢ 0) ⊎ (((c v).cold ≡ true) ⊎ (clock_value (place_at z y.step.place) (left_of y) < m2 (flushed_of v)))))
                    (before_off z v h) (λ y. elim q [ inl idle ↦ (inl idle, inl idle) | inr cold ↦ (inr (inl cold), inr (inl cold)) ]))
              ];
              cold = λ v r h found cold. elim (cases_eq v s) [
                | inr away ↦ other_cold n s x m m2 b c l sound others 6 u acted v away h found cold
                | inl at ↦
                    (λ is run.
                    let none : (y : ℕ) → EachSince z (c v).ran Clock (λ w. y ≤ w) (c v).steps =
                    λ y. subst (λ t. EachSince z (c t).ran Clock (λ w. y ≤ w) (c t).steps) (sym at) (EachSince-none z (c s).ran Clock (λ w. y ≤ w) (c s).steps (omega arith)) in
                    EachOf-all (λ y. EachSince z (c v).ran Clock (λ w. clock_value (place_at z y.step.place) y.found ≤ w) (c v).steps × EachSince z (c v).ran Clock (λ w. clock_value (place_at z y.step.place) (left_of y) ≤ w) (c v).steps)
                    (before_off z v h) (λ y. (none (clock_value (place_at z y.step.place) y.found), none (clock_value (place_at z y.step.place) (left_of y)))))
              ];
            };
            mine = mine_by n s p m m2 b c u acted (vcpu_hand n s x m m2 b c l sound others 6 u acted refs typed works locks ending claimed ran_words reach (inl (flushed, acks)));
          };
          formed = formed_by n s p m m2 (b s) u (c s) acted
              (record {
                works = works_form n s p m m2 b c u acted l sound works;
                locks = locks_form n s p m m2 b c u acted l sound locks;
                ending = rw ending (ending_formed_old n s p m m2 (b s) u (c s) acted g);
                claimed = rw claimed (claimed_formed_old n s p m m2 (b s) u (c s) acted g);
                raised = record { held = λ f. rw (raised, ending, claimed) (g.raised.held f) };
                looking = rw looking g.looking;
                cache = record {
                  few = elim cache [ inl none ↦ (let k = ap length none in omega arith) | inr same ↦ (let k = ap length same in let q = g.cache.few in omega arith) ];
                  walk = λ y t. g.cache.walk y (sym walk ∙ t);
                };
                turn = let q = g.turn in let e = turn in omega arith;
                acked = let q = g.acked in let e = acks in omega arith;
                ran = omega arith;
              }) g;
        }

  ran_hand : Ran n s x m m2 (b s) (c s) → (new : ℕ) → m2 (run_of s) ≡ new → (u : Holdings) → ran_now new (b s) ≡ u → u.steps ≡ (b s).steps → u.run ≡ (b s).run → u.old0 ≡ (b s).old0 → u.old1 ≡ (b s).old1 →
      Act n s (run_of s) m m2 (b s) u (c s)
  ran_hand d new e u is steps run old0 old1 =
      let w = d.wrote in
      let p = run_of s in
      act n s x p m m2 (b s) u (c s) w.place w.real w.left w.others steps run old0 old1
      (d.hand ∙ ap (λ y. noted x (m p) (learned_own 6 (m2 p) (ran_now y (b s)))) e ∙ ap (λ y. noted x (m p) (learned_own 6 (m2 p) y)) is
      ∙ ap (noted x (m p)) (sym (if_itself s (learned_own 6 (m2 p) u) u)))

  pub ran_by : Ran n s x m m2 (b s) (c s) → AllowsRun (m2 (run_of s)) (b s) → Done n s m m2 b c
  ran_by d (inl stop) =
      let u = record (b s) { cache = []; ran = length (b s).steps + 1 } in
      ran_done d.may u (ran_hand d 1 stop.0 u refl refl refl refl refl) refl refl refl refl refl refl refl refl refl refl refl (inl refl) stop.1.landed (omega arith)
      (inl (λ e. let k = stop.0 in omega arith))
  ran_by d (inr (inl unload)) =
      let u = record (b s) { cache = []; ran = length (b s).steps + 1 } in
      ran_done d.may u (ran_hand d 2 unload.0 u refl refl refl refl refl) refl refl refl refl refl refl refl refl refl refl refl (inl refl) unload.1.landed (omega arith)
      (inl (λ e. let k = unload.0 in omega arith))
  ran_by d (inr (inr load)) =
      let u = record (b s) { cold = true; ran = length (b s).steps + 1 } in
      ran_done d.may u (ran_hand d 0 load.0 u refl refl refl refl refl) refl refl refl refl refl refl refl refl refl refl refl (inr refl) load.1.landed (omega arith) (inr refl)

  pub ran_step : Ran n s x m m2 (b s) (c s) → Done n s m m2 b c
  ran_step d = ran_by d d.may
