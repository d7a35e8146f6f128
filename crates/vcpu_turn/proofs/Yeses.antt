-- Lists whose items ask nothing, and the yes of their gate: none goes on past it, and none is due without it.
use Rattle.std.proofs.Common.{◌≡◌, ℕ, ◌+◌, ◌-◌, ◌<◌, ◌≤◌, Bool, true, false, List, [], ◌∷◌, ◌++◌, length, Result, Ok, Err, refl, sym, ap, ◌∙◌, arith, inl, inr, subst, append-nil, length-append}
use Rattle.std.proofs.lemmas.Bool.{cases_order}
use Rattle.xp_words.specs.declared.reply.Stop.{Stop}
use Rattle.xp_board.specs.Told.{PortValue}
use Rattle.xp_preempt.specs.Gates.{GivesAnswers, ends_yes, last_ask, yeses}
use Rattle.xp_preempt.proofs.Consulting.{yeses_then}
use Rattle.xp_preempt.proofs.Numbering.{says_last, says_no}
use Rattle.vcpu_turn.specs.Lists.{AsksNothing, DidItems, Fitting, WorksOn, none, more, all_done, last_done, due, stopped, is_due_answer}
use Rattle.vcpu_turn.proofs.Listing.{did_count, did_no}

module _ (fits : Fitting) (count from : ℕ) (v : PortValue) (quiet : AsksNothing fits) (before : ℕ) (says : ℕ → Bool) where
  -- the gate says no behind each item that more follow
  did_says : (early : List Bool) → yeses early ≡ 0 → (k : ℕ) (u : PortValue) (answers : List Bool) → DidItems fits count from v k u answers → GivesAnswers says before (answers ++ early) →
      (j : ℕ) → 0 < j → before + j < last_ask → says (before + j) ≡ true → k < from + j
  did_says early first k u answers did gives j some most is_yes = elim (cases_order (from + j) (k + 1)) [
    | inl at ↦ omega (arith, at)
    | inr (inl below) ↦ absurd (both (says (before + j)) is_yes (said below))
    | inr (inr above) ↦ omega (arith, above)
  ]
    where
      both : (b : Bool) → b ≡ true → b ≡ false → ⊥
      both b on off = cc

      said : from + j < k + 1 → says (before + j) ≡ false
      said below =
          let number = did_count fits count from v quiet k u answers did in
          let all = length-append answers early in
          let later = did_no fits count from v quiet k u answers did in
          let sum = yeses_then early answers in
          says_no says before (answers ++ early) gives (omega (arith, first, later, sum)) j some (omega (arith, below, number, all)) (omega (arith, most))

  -- the list ends no later than behind the item at which the gate says yes, whatever it was asked before, if it said no
  pub never_past : (early : List Bool) → yeses early ≡ 0 → (to : ℕ) (w : PortValue) (answers : List Bool) (answer : Result (Unit {0}) Stop) → WorksOn fits count from v to w answers answer →
      GivesAnswers says before (answers ++ early) → (j : ℕ) → 0 < j → before + j < last_ask → says (before + j) ≡ true → to ≤ from + j
  unfolding GivesAnswers
  never_past early first _ _ _ _ (all_done at) gives j some most is_yes = omega arith
  never_past early first _ _ _ _ (last_done k u w answers asked d f at) gives j some most is_yes =
      let fewer : GivesAnswers says before (answers ++ early) = subst (λ (xs : List Bool). GivesAnswers says before ((xs ++ answers) ++ early)) (quiet k u w asked (Ok tt) f) gives in
      let less = did_says early first k u answers d fewer j some most is_yes in
      omega (arith, less)
  never_past early first _ _ _ _ (due k u w answers asked d f within) gives j some most is_yes =
      let fewer : GivesAnswers says before (answers ++ early) = subst (λ (xs : List Bool). GivesAnswers says before ((xs ++ answers) ++ early)) (quiet k u w asked (Ok tt) f) gives.1 in
      let less = did_says early first k u answers d fewer j some most is_yes in
      omega (arith, less)
  never_past early first _ _ _ _ (stopped k u w answers asked e d f within) gives j some most is_yes =
      let fewer : GivesAnswers says before (answers ++ early) = subst (λ (xs : List Bool). GivesAnswers says before ((xs ++ answers) ++ early)) (quiet k u w asked (Err e) f) gives in
      let less = did_says early first k u answers d fewer j some most is_yes in
      omega (arith, less)

  pub never_past_a_yes : (to : ℕ) (w : PortValue) (answers : List Bool) (answer : Result (Unit {0}) Stop) → WorksOn fits count from v to w answers answer →
      GivesAnswers says before answers → (j : ℕ) → 0 < j → before + j < last_ask → says (before + j) ≡ true → to ≤ from + j
  unfolding yeses
  never_past_a_yes to w answers answer works gives j some most is_yes =
      never_past [] refl to w answers answer works (subst (λ (xs : List Bool). GivesAnswers says before xs) (sym (append-nil answers)) gives) j some most is_yes

  -- where it is paused for the gate, that said yes behind its last item
  pub due_at_a_yes : (to : ℕ) (w : PortValue) (answers : List Bool) (answer : Result (Unit {0}) Stop) → WorksOn fits count from v to w answers answer → GivesAnswers says before answers →
      (is_due_answer answer ≡ true → ends_yes answers ≡ true) → is_due_answer answer ≡ true → before + (to - from) ≤ last_ask → says (before + (to - from)) ≡ true
  due_at_a_yes _ _ _ _ (all_done at) gives said is_due most = absurd (cc)
  due_at_a_yes _ _ _ _ (last_done k u w answers asked d f at) gives said is_due most = absurd (cc)
  due_at_a_yes _ _ _ _ (due k u w answers asked d f within) gives said is_due most =
      let number = did_count fits count from v quiet k u answers d in
      let fewer : GivesAnswers says before (true ∷ answers) = subst (λ (xs : List Bool). GivesAnswers says before (true ∷ (xs ++ answers))) (quiet k u w asked (Ok tt) f) gives in
      let there : before + (k + 1 - from) ≡ before + length answers + 1 = omega (arith, number) in
      ap says there ∙ says_last says before true answers fewer (omega (arith, number, most))
  due_at_a_yes _ _ _ _ (stopped k u w answers asked e d f within) gives said is_due most =
      absurd (no_yes k u answers d (subst (λ (xs : List Bool). ends_yes (xs ++ answers) ≡ true) (quiet k u w asked (Err e) f) (said is_due)))
    where
      no_yes : (k : ℕ) (u : PortValue) (answers : List Bool) → DidItems fits count from v k u answers → ends_yes answers ≡ true → ⊥
      no_yes _ _ _ none is = cc
      no_yes _ _ _ (more k u w answers asked d f less) is = cc
