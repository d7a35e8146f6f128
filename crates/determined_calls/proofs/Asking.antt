-- The answers of a gate to two calls behind each other.
use Rattle.std.proofs.Common.{◌≡◌, ℕ, ◌+◌, Bool, List, [], ◌∷◌, ◌++◌, length, refl, sym, ap, ◌∙◌, subst}
use Rattle.xp_preempt.specs.Gates.{GivesAnswers, answer_at, asks_on}
use Rattle.xp_preempt.proofs.Consulting.{asks_then}

-- those that came first, and those that came behind them
pub gives_first : (says : ℕ → Bool) (n : ℕ) (more first : List Bool) → GivesAnswers says n (more ++ first) → GivesAnswers says n first
unfolding GivesAnswers
gives_first says n [] first g = g
gives_first says n (a ∷ more) first g = gives_first says n more first g.1

pub gives_more : (says : ℕ → Bool) (n : ℕ) (more first : List Bool) → GivesAnswers says n (more ++ first) → GivesAnswers says (asks_on (length first) n) more
unfolding GivesAnswers
gives_more says n [] first g = tt
gives_more says n (a ∷ more) first g = (g.0 ∙ ap (λ k. answer_at says k) (sym (asks_then first more n)), gives_more says n more first g.1)
