-- Lists of items, whatever they are.
use Rattle.std.proofs.Common.{◌≡◌, ℕ, ◌+◌, ◌-◌, ◌<◌, ◌≤◌, Bool, true, false, List, ◌∷◌, ◌++◌, length, Result, Ok, Err, refl, sym, arith, subst}
use Rattle.xp_words.specs.declared.reply.Stop.{Stop}
use Rattle.xp_board.specs.Told.{PortValue}
use Rattle.xp_preempt.specs.Gates.{yeses}
use Rattle.vcpu_turn.specs.Lists.{AsksNothing, DidItems, Fitting, WorksOn, none, more, all_done, last_done, due, stopped, asks_between}

module _ (fits : Fitting) (count from : ℕ) (v : PortValue) where
  pub did_on : (to : ℕ) (u : PortValue) (answers : List Bool) → DidItems fits count from v to u answers → from ≤ to
  did_on _ _ _ none = omega arith
  did_on _ _ _ (more k u w answers asked d f less) = let on = did_on k u answers d in omega (arith, on)

  -- a list that has no item left as the turn begins
  pub works_none : (to : ℕ) (u : PortValue) (answers : List Bool) → DidItems fits count from v to u answers → to ≡ count → WorksOn fits count from v to u answers (Ok tt)
  works_none _ _ _ none at = all_done at
  works_none _ _ _ (more k u w answers asked d f less) at = absurd (past k count less at)
    where
      past : (a c : ℕ) → a + 1 < c → a + 1 ≡ c → ⊥
      past a c l e = omega (arith, l, e)

  -- no more are done than there are
  pub works_within : from ≤ count → (to : ℕ) (w : PortValue) (answers : List Bool) (answer : Result (Unit {0}) Stop) → WorksOn fits count from v to w answers answer → to ≤ count
  works_within most _ _ _ _ (all_done at) = omega (arith, at)
  works_within most _ _ _ _ (last_done k u w answers asked d f at) = omega (arith, at)
  works_within most _ _ _ _ (due k u w answers asked d f less) = omega (arith, less)
  works_within most _ _ _ _ (stopped k u w answers asked e d f less) = omega (arith, less)

  -- ---- where the items ask nothing: the gate is asked once less than items were done in this turn, and says no
  module _ (quiet : AsksNothing fits) where
    pub did_count : (to : ℕ) (u : PortValue) (answers : List Bool) → DidItems fits count from v to u answers → length answers + from ≡ to
    did_count _ _ _ none = omega arith
    did_count _ _ _ (more k u w answers asked d f less) =
        let before = did_count k u answers d in
        subst (λ (xs : List Bool). length (false ∷ (xs ++ answers)) + from ≡ k + 1) (sym (quiet k u w asked (Ok tt) f)) (omega (arith, before))

    pub did_no : (to : ℕ) (u : PortValue) (answers : List Bool) → DidItems fits count from v to u answers → yeses answers ≡ 0
    unfolding yeses
    did_no _ _ _ none = refl
    did_no _ _ _ (more k u w answers asked d f less) =
        subst (λ (xs : List Bool). yeses (false ∷ (xs ++ answers)) ≡ 0) (sym (quiet k u w asked (Ok tt) f)) (did_no k u answers d)

    pub asked_exactly : (to : ℕ) (w : PortValue) (answers : List Bool) (answer : Result (Unit {0}) Stop) → WorksOn fits count from v to w answers answer → length answers ≡ asks_between from to answer
    asked_exactly _ _ _ _ (all_done at) = omega arith
    asked_exactly _ _ _ _ (last_done k u w answers asked d f at) =
        let number = did_count k u answers d in
        subst (λ (xs : List Bool). length (xs ++ answers) ≡ k + 1 - from - 1) (sym (quiet k u w asked (Ok tt) f)) (omega (arith, number))
    asked_exactly _ _ _ _ (due k u w answers asked d f less) =
        let number = did_count k u answers d in
        subst (λ (xs : List Bool). length (true ∷ (xs ++ answers)) ≡ k + 1 - from) (sym (quiet k u w asked (Ok tt) f)) (omega (arith, number))
    asked_exactly _ _ _ _ (stopped k u w answers asked e d f less) =
        let number = did_count k u answers d in
        subst (λ (xs : List Bool). length (xs ++ answers) ≡ k - from) (sym (quiet k u w asked (Err e) f)) (omega (arith, number))
