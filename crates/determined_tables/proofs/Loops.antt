-- Loops that count up, of which a round may be the last: they are determined where each round is.
use Rattle.std.proofs.Common.{◌≡◌, ℕ, ◌+◌, ◌<◌, ◌≤◌, Option, Some, None, refl, sym, ap, ◌∙◌, inl, inr, arith}
use Rattle.xp_board.specs.Told.{PortValue}
use Rattle.step_maker.specs.Moves.{Came}
use Rattle.determined_laws.specs.Courses.{Alike}
use Rattle.determined_laws.proofs.Courses.{Goes, alike_map, goes_came, goes_same, more, none}
use Rattle.determined_tables.proofs.Chains.{IsFixed}

-- so many rounds, each of which went on
pub data Rounds {E : Type 0} (Round : ℕ → PortValue → PortValue → Option E → Type 0) (v : PortValue) : ℕ → PortValue → Type 0 where
  begun : Rounds Round v 0 v
  round : (i : ℕ) (u w : PortValue) → Rounds Round v i u → Round i u w None → Rounds Round v (i + 1) w

-- all of them; or some, and one more, with which the loop stopped
pub data Looped {E : Type 0} (Round : ℕ → PortValue → PortValue → Option E → Type 0) (limit : ℕ) (v w : PortValue) : ℕ × Option E → Type 0 where
  through : Rounds Round v limit w → Looped Round limit v w (limit, None)
  halted : (i : ℕ) (u : PortValue) (e : E) → i < limit → Rounds Round v i u → Round i u w (Some e) → Looped Round limit v w (i, Some e)

module _ {E : Type 0} (Round : ℕ → PortValue → PortValue → Option E → Type 0) (fixed : (i : ℕ) (u : PortValue) → IsFixed u (Round i u)) (limit : ℕ) where
  abbrev State : Type 0
  State = PortValue × ℕ × Option E

  abbrev next : ℕ → Option E → ℕ
  next i None = i + 1
  next i (Some e) = i

  record Next (s t : State) : Type 0 where
    on : s.2 ≡ None
    low : s.1 < limit
    steps : Round s.1 s.0 t.0 t.2
    index : t.1 ≡ next s.1 t.2

  state_same : (s t : State) → s.0 ≡ t.0 → s.1 ≡ t.1 → s.2 ≡ t.2 → s ≡ t
  state_same s t a b c = ap (λ z. (z, s.1, s.2)) a ∙ (ap (λ z. (t.0, z, s.2)) b ∙ ap (λ z. (t.0, t.1, z)) c)

  came : (s t : State) → Next s t → Came s.0 t.0
  came s t p = (fixed s.1 s.0).came t.0 t.2 p.steps

  same : (s t u : State) → Next s t → Next s u → Alike s.0 t.0 u.0 (t ≡ u)
  same s t u p q = by ((fixed s.1 s.0).alike t.0 u.0 t.2 u.2 p.steps q.steps)
    where
      by : Alike s.0 t.0 u.0 (t.2 ≡ u.2) → Alike s.0 t.0 u.0 (t ≡ u)
      by (inl f) = inl f
      by (inr e) = inr (e.0, state_same t u e.0 (p.index ∙ (ap (λ o. next s.1 o) e.1 ∙ sym q.index)) e.1)

  goes_rounds : (v : PortValue) (i : ℕ) (w : PortValue) → Rounds Round v i w → i ≤ limit → Goes Next (v, 0, None) (w, i, None)
  goes_rounds v _ _ begun low = none
  goes_rounds v _ _ (round i u w before r) low =
      more (u, i, None) (w, i + 1, None) (goes_rounds v i u before (omega (arith, low))) (record { on = refl; low = omega (arith, low); steps = r; index = refl })

  goes_looped : (v w : PortValue) (z : ℕ × Option E) → Looped Round limit v w z → Goes Next (v, 0, None) (w, z.0, z.1)
  goes_looped v w _ (through r) = goes_rounds v limit w r (omega arith)
  goes_looped v w _ (halted i u e low r s) = more (u, i, None) (w, i, Some e) (goes_rounds v i u r (omega (arith, low))) (record { on = refl; low = low; steps = s; index = refl })

  ends : (v w : PortValue) (z : ℕ × Option E) → Looped Round limit v w z → (t : State) → Next (w, z.0, z.1) t → ⊥
  ends v w _ (through r) t p = let low = p.low in omega (arith, low)
  ends v w _ (halted i u e low r s) t p = let on = p.on in cc

  pub looped_fixed : (v : PortValue) → IsFixed v (Looped Round limit v)
  looped_fixed v =
      record {
        came = λ w z p. goes_came Next (λ (s : State). s.0) came same (v, 0, None) (w, z.0, z.1) (goes_looped v w z p);
        alike = λ w x z y p q.
            alike_map
            (goes_same Next (λ (s : State). s.0) came same (v, 0, None) (w, z.0, z.1) (x, y.0, y.1) (ends v w z p) (ends v x y q) (goes_looped v w z p) (goes_looped v x y q))
            (λ e. ap (λ (s : State). (s.1, s.2)) e);
      }
