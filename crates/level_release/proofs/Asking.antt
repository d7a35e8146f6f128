-- What the old words ask: what a release within asks is asked of the whole.
use Rattle.std.proofs.Common.{ℕ, Bool, true, IsTrue, refl, rules}
use Rattle.xp_words.specs.Machine.{Machine}
use Rattle.step_maker.specs.Moves.{Moment}
use Rattle.step_maker.specs.Asked.{Implies, IsAsked, Request, Within}
use Rattle.step_maker.specs.Finding.{Finding}
use Rattle.step_maker.proofs.Grown.{grown_by, implied, risen}
use Rattle.table_entries.specs.Asking.{of_entries}

-- the frames that the own old words name, and what recorded entries hold
abbrev pub settling : ℕ → ℕ → Bool → Request
settling owner pages rose = record (of_entries owner pages) { contexts = true; rose = rose }

module _ (n : Machine) (s owner pages : ℕ) (backs : ℕ → Bool) (contexts rose up : Bool) (F G : Finding) (more : (m : Moment) → F m → G m) where
  abbrev inner : Request
  inner = record (of_entries owner pages) { backs = backs; contexts = contexts; rose = rose }

  pub settle_within : ((f : ℕ) → IsTrue (backs f) → IsAsked n s (settling owner pages up) G f) → Implies rose up → Within n s inner F (settling owner pages up) G
  settle_within back rises =
      let words = risen contexts in
      let gate = implied rose up rises in
      grown_by n s inner (settling owner pages up) F G more (search (rules, words, gate)) (record { owner = refl; pages_of = refl }) (λ g none k is. absurd cc) (λ any g none. absurd cc) back
