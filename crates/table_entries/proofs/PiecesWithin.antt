-- A call on the entries of the tables in the own works, within a larger one whose request has entries ask.
use Rattle.std.proofs.Common.{◌≡◌, ℕ, true, refl, rules, sym}
use Rattle.xp_words.specs.Machine.{Machine}
use Rattle.step_maker.specs.Moves.{Moment}
use Rattle.step_maker.specs.Asked.{Request, Within}
use Rattle.step_maker.specs.Finding.{Finding}
use Rattle.step_maker.proofs.Grown.{grown_by}
use Rattle.table_entries.specs.Asking.{of_entries}

pub within_entries : (n : Machine) (s owner : ℕ) (r : Request) (F G : Finding) → ((m : Moment) → F m → G m) → r.entries ≡ true → r.owner ≡ owner → Within n s (of_entries owner r.pages_of) F r G
within_entries n s owner r F G more entries a =
    grown_by n s (of_entries owner r.pages_of) r F G more (search (rules, entries)) (record { owner = sym a; pages_of = refl }) (λ g none k is. absurd cc) (λ any g none. absurd cc) (λ g none. absurd cc)
