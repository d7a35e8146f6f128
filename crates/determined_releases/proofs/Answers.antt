-- The answers of a gate, taken apart again: those of the first part, and those of the rest.
use Rattle.std.proofs.Common.{ℕ, Bool, List, [], ◌∷◌, ◌++◌, length, sym, ap, ◌∙◌}
use Rattle.xp_preempt.specs.Gates.{GivesAnswers, answer_at, asks_on}
use Rattle.xp_preempt.proofs.Consulting.{asks_then}

module _ (says : ℕ → Bool) (n : ℕ) (xs : List Bool) where
  pub gives_first : (ys : List Bool) → GivesAnswers says n (ys ++ xs) → GivesAnswers says n xs
  unfolding GivesAnswers
  gives_first [] g = g
  gives_first (y ∷ ys) g = gives_first ys g.1

  pub gives_rest : (ys : List Bool) → GivesAnswers says n (ys ++ xs) → GivesAnswers says (asks_on (length xs) n) ys
  unfolding GivesAnswers
  gives_rest [] g = tt
  gives_rest (y ∷ ys) g = (g.0 ∙ sym (ap (λ z. answer_at says z) (asks_then xs ys n)), gives_rest ys g.1)
