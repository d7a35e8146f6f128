-- Lemmas that several crates above cite.
use Rattle.std.proofs.Common.{ℕ, ◌^◌, ◌<◌, Bool, true, false, Result, ◌≡◌, List, [], sym, ap, ◌∙◌, arith}
use Rattle.step_maker.proofs.Visiting.{does_came}
use Rattle.step_maker.specs.Moves.{Came}
use Rattle.table_entries.specs.Acquiring.{GotRef, GaveRef, type_counts}
use Rattle.xp_board.specs.KindSteps.{still_looking}
use Rattle.xp_board.specs.Lists.{kept_of}
use Rattle.xp_board.specs.Told.{PortValue}
use Rattle.xp_board.specs.declared.holdings.Looking.{Looking}
use Rattle.xp_words.specs.declared.reply.Stop.{Stop}

pub ref_came : (v u : PortValue) (f owner : ℕ) (r : Result ℕ Stop) → GotRef v u f owner r → Came v u
ref_came v u f owner r a = does_came v u _ a.found

pub gave_came : (v w : PortValue) (f : ℕ) → GaveRef v w f → Came v w
gave_came v w f a = does_came v w _ a.found

pub no_looks : (f w : ℕ) (xs : List Looking) → xs ≡ [] → still_looking f w xs ≡ xs
unfolding kept_of
no_looks f w xs none = ap (λ ys. still_looking f w ys) none ∙ sym none

pub few_counts : (own : Bool) → type_counts own < 2 ^ 26
few_counts true = omega arith
few_counts false = omega arith
