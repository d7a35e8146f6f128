-- The answers of a gate by the numbers of its asks.
use Rattle.std.proofs.Common.{◌≡◌, ℕ, zero, suc, ◌+◌, ◌<◌, ◌≤◌, ◌==◌, if◌then◌else◌, Bool, true, false, List, [], ◌∷◌, length, sym, ap, ◌∙◌, arith, inl, inr}
use Rattle.std.proofs.lemmas.Bool.{cases_order}
use Rattle.xp_preempt.specs.Gates.{GivesAnswers, answer_at, asks_on, last_ask, next_ask, yeses}
use Rattle.xp_preempt.proofs.Hearing.{no, not_there}

-- below the end of the numbers each ask counts
one_ask : (a : ℕ) → a < last_ask → next_ask a ≡ a + 1
one_ask a less = ap (λ (t : Bool). if t then a else a + 1) (not_there a last_ask less)

pub asks_sum : (k a : ℕ) → a + k ≤ last_ask → asks_on k a ≡ a + k
unfolding asks_on
asks_sum zero a most = omega arith
asks_sum (suc k) a most = ap next_ask (asks_sum k a (omega (arith, most))) ∙ one_ask (a + k) (omega (arith, most)) ∙ (omega arith)

-- what the gate says at the last ask
pub says_last : (says : ℕ → Bool) (before : ℕ) (a : Bool) (rest : List Bool) → GivesAnswers says before (a ∷ rest) → before + length rest < last_ask → says (before + length rest + 1) ≡ a
unfolding GivesAnswers
says_last says before a rest gives less =
    let there : asks_on (length rest) before ≡ before + length rest = asks_sum (length rest) before (omega (arith, less)) in
    sym (gives.0 ∙ ap (λ (n : ℕ). answer_at says n) there ∙ ap (λ (t : Bool). if t then false else says (before + length rest + 1)) (not_there (before + length rest) last_ask less))

-- where no answer is yes, it says no at each of the asks
pub says_no : (says : ℕ → Bool) (before : ℕ) (answers : List Bool) → GivesAnswers says before answers → yeses answers ≡ 0 → (j : ℕ) → 0 < j → j ≤ length answers → before + j ≤ last_ask → says (before + j) ≡ false
unfolding GivesAnswers yeses
says_no says before [] gives none j some most last = absurd (no j 0 most some)
says_no says before (true ∷ rest) gives none j some most last = absurd (let more : yeses rest + 1 ≡ 0 = none in omega (arith, more))
says_no says before (false ∷ rest) gives none j some most last = elim (cases_order j (suc (length rest))) [
  | inl at ↦ (let there : before + j ≡ before + length rest + 1 = omega (arith, at) in ap says there ∙ says_last says before false rest gives (omega (arith, last, at)))
  | inr (inl below) ↦ says_no says before rest gives.1 none j some (omega (arith, below)) last
  | inr (inr above) ↦ absurd (no j (suc (length rest)) most above)
]
