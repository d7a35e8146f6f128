-- Turns one by one, the first one first.
use Rattle.std.proofs.Common.{◌≡◌, ℕ, List, [], ◌∷◌, ◌++◌, refl, subst}
use Rattle.xp_machine.specs.Turns.{InOrder, Stage, none, more}

module _ (S : Type 0) (DoesNext : ℕ → S → S → Type 0) where
  abbrev pub OneByOne : List ℕ → S → S → Type 0
  OneByOne [] s s' = s' ≡ s
  OneByOne (v ∷ vs) s s' = (m : S) × DoesNext v s m × OneByOne vs m s'

  one_more : (vs : List ℕ) (v : ℕ) (s m s' : S) → OneByOne vs s m → DoesNext v m s' → OneByOne (vs ++ v ∷ []) s s'
  one_more [] v s m s' same does = (s', subst (λ x. DoesNext v x s') same does, refl)
  one_more (w ∷ vs) v s m s' goes does = (goes.0, goes.1, one_more vs v goes.0 m s' goes.2 does)

  -- those of two lists are those of one, and then those of the other
  pub split : (vs ws : List ℕ) (s s' : S) → OneByOne (vs ++ ws) s s' → (m : S) × OneByOne vs s m × OneByOne ws m s'
  split [] ws s s' goes = (s, refl, goes)
  split (v ∷ vs) ws s s' goes =
      let rest = split vs ws goes.0 s' goes.2 in
      (rest.0, (goes.0, goes.1, rest.1), rest.2)

module _ (DoesNext : ℕ → Stage → Stage → Type 0) where
  pub one_by_one : (vs : List ℕ) (s s' : Stage) → InOrder DoesNext vs s s' → OneByOne Stage DoesNext vs s s'
  one_by_one _ s _ (none _) = refl
  one_by_one _ s _ (more vs v _ m s' goes does) = one_more Stage DoesNext vs v s m s' (one_by_one vs s m goes) does
