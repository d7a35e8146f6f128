-- Gates that were asked, one ask behind the other.
use Rattle.std.proofs.Common.{◌≡◌, ℕ, ◌+◌, ◌<◌, ◌≤◌, ◌==◌, ◌&&◌, if◌then◌else◌, Bool, true, false, refl, sym, ap, ◌∙◌, arith, inl, inr, subst}
use Rattle.std.proofs.lemmas.Bool.{cases_order}
use Rattle.std.proofs.lemmas.Bool.Decides.{nat_tests}
use Rattle.xp_preempt.specs.Gates.{Heard, last_ask, next_ask}

pub no : (a b : ℕ) → a ≤ b → b < a → ⊥
no a b x y = omega (arith, x, y)

pub not_there : (k c : ℕ) → k < c → (k == c) ≡ false
not_there k c l = grind (arith, nat_tests)

pub is_there : (k c : ℕ) → k ≡ c → (k == c) ≡ true
is_there k c e = grind (arith, nat_tests)

before_last : (due : Bool) (k c : ℕ) → (due ≡ true → k < c) → false ≡ (due && (k == c))
before_last false k c less = refl
before_last true k c less = sym (not_there k c (less refl))

-- nothing was asked
pub heard_none : (says : ℕ → Bool) (a : ℕ) → Heard says a a false
heard_none says a = record { on = omega arith; told = λ k above most. absurd (no k a most above); some = λ d. absurd (cc) }

pub heard_same : (says : ℕ → Bool) (a b : ℕ) → b ≡ a → Heard says a b false
heard_same says a b same = subst (λ c. Heard says a c false) (sym same) (heard_none says a)

-- one piece behind another
pub heard_then : (says : ℕ → Bool) (a b c : ℕ) (due : Bool) → Heard says a b false → Heard says b c due → Heard says a c due
heard_then says a b c due h i =
    let first = h.on in
    let second = i.on in
    record { on = omega (arith, first, second); told = told; some = λ d. (let less = i.some d in omega (arith, first, less)) }
  where
    within : (k : ℕ) → a < k → k ≤ b → says k ≡ (due && (k == c))
    within k above most = h.told k above most ∙ before_last due k c (λ d. (let less = i.some d in omega (arith, most, less)))

    told : (k : ℕ) → a < k → k ≤ c → says k ≡ (due && (k == c))
    told k above most = elim (cases_order k b) [
      | inl at ↦ within k above (omega (arith, at))
      | inr (inl less) ↦ within k above (omega (arith, less))
      | inr (inr more) ↦ i.told k more most
    ]

-- ---- one ask
at_last : (says : ℕ → Bool) (a b : ℕ) (due : Bool) → (a == last_ask) ≡ true → due ≡ (if a == last_ask then false else says (a + 1)) → b ≡ next_ask a → Heard says a b due
at_last says a b due last is on =
    let no_more : due ≡ false = is ∙ ap (λ (t : Bool). if t then false else says (a + 1)) last in
    let same : b ≡ a = on ∙ ap (λ (t : Bool). if t then a else a + 1) last in
    subst (λ d. Heard says a b d) (sym no_more) (heard_same says a b same)

one_further : (says : ℕ → Bool) (a b : ℕ) (due : Bool) → due ≡ says (a + 1) → b ≡ a + 1 → Heard says a b due
one_further says a b due is on = record { on = omega (arith, on); told = told; some = λ d. omega (arith, on) }
  where
    all_of : (x : Bool) → x ≡ (x && true)
    all_of false = refl
    all_of true = refl

    told : (k : ℕ) → a < k → k ≤ b → says k ≡ (due && (k == b))
    told k above most =
        let at : k ≡ b = omega (arith, above, most, on) in
        ap says (at ∙ on) ∙ sym is ∙ all_of due ∙ ap (λ (t : Bool). due && t) (sym (is_there k b at))

before_end : (says : ℕ → Bool) (a b : ℕ) (due : Bool) → (a == last_ask) ≡ false → due ≡ (if a == last_ask then false else says (a + 1)) → b ≡ next_ask a → Heard says a b due
before_end says a b due last is on =
    one_further says a b due (is ∙ ap (λ (t : Bool). if t then false else says (a + 1)) last) (on ∙ ap (λ (t : Bool). if t then a else a + 1) last)

pub heard_ask : (says : ℕ → Bool) (a b : ℕ) (due : Bool) → due ≡ (if a == last_ask then false else says (a + 1)) → b ≡ next_ask a → Heard says a b due
heard_ask says a b due is on = by_test (a == last_ask) refl
  where
    by_test : (t : Bool) → (a == last_ask) ≡ t → Heard says a b due
    by_test true last = at_last says a b due last is on
    by_test false last = before_end says a b due last is on
