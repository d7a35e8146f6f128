-- What is done in order is determined where each part is.
use Rattle.std.proofs.Common.{◌≡◌, ℕ, List, [], ◌∷◌, ◌++◌, refl, sym, ap, ◌∙◌, subst}
use Rattle.xp_machine.specs.Turns.{InOrder, Stage}

-- from the end: none, or a last one
data Last (D : ℕ → Stage → Stage → Type 0) (xs : List ℕ) (s t : Stage) : Type 0 where
  ended : xs ≡ [] → t ≡ s → Last D xs s t
  behind : (vs : List ℕ) (v : ℕ) (m : Stage) → xs ≡ vs ++ (v ∷ []) → InOrder D vs s m → D v m t → Last D xs s t

last : {D : ℕ → Stage → Stage → Type 0} (xs : List ℕ) (s t : Stage) → InOrder D xs s t → Last D xs s t
last _ _ _ (InOrder.none s) = ended refl refl
last _ _ _ (InOrder.more vs v s m t before step) = behind vs v m refl before step

none_behind : {A : Type 0} (vs : List ℕ) (v : ℕ) → vs ++ (v ∷ []) ≡ [] → A
none_behind [] v e = absurd cc
none_behind (x ∷ vs) v e = absurd cc

same_front : (vs ws : List ℕ) (v w : ℕ) → vs ++ (v ∷ []) ≡ ws ++ (w ∷ []) → (vs ≡ ws) × (v ≡ w)
same_front [] [] v w e = (refl, cc)
same_front [] (x ∷ ws) v w e = none_behind ws w (let t : [] ≡ ws ++ (w ∷ []) = cc in sym t)
same_front (x ∷ vs) [] v w e = none_behind vs v (let t : vs ++ (v ∷ []) ≡ [] = cc in t)
same_front (x ∷ vs) (y ∷ ws) v w e =
    let rest = same_front vs ws v w (let t : vs ++ (v ∷ []) ≡ ws ++ (w ∷ []) = cc in t) in
    let first : x ≡ y = cc in
    (ap (λ z. z ∷ vs) first ∙ ap (λ zs. y ∷ zs) rest.0, rest.1)

pub order_same : {D : ℕ → Stage → Stage → Type 0} → ((v : ℕ) (m a b : Stage) → D v m a → D v m b → a ≡ b) → (xs : List ℕ) (s a b : Stage) → InOrder D xs s a → InOrder D xs s b → a ≡ b
order_same {D} one _ _ _ b (InOrder.none s) q = by (last [] s b q)
  where
    by : Last D [] s b → s ≡ b
    by (ended e same) = sym same
    by (behind vs v m e before step) = none_behind vs v (sym e)
order_same {D} one _ _ _ b (InOrder.more vs v s m a before step) q = by (last (vs ++ (v ∷ [])) s b q) (λ k earlier. order_same one vs s m k before earlier)
  where
    by : Last D (vs ++ (v ∷ [])) s b → ((k : Stage) → InOrder D vs s k → m ≡ k) → a ≡ b
    by (ended e same) front = none_behind vs v e
    by (behind ws w k e earlier next) front =
        let f = same_front vs ws v w e in
        let g = front k (subst (λ z. InOrder D z s k) (sym f.0) earlier) in
        one v m a b step (subst (λ z. D z m b) (sym f.1) (subst (λ z. D w z b) (sym g) next))
