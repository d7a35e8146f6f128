-- What an acquisition or a release asks is within what the element asks that calls it.
use Rattle.std.proofs.Common.{◌≡◌, ℕ, ◌==◌, Bool, true, Some, None, refl, rules, ◌∙◌, ap, sym, arith}
use Rattle.xp_words.specs.Machine.{Machine}
use Rattle.xp_words.specs.declared.kind.PageType.{PageType}
use Rattle.xp_board.specs.Hands.{refs_to, work_on}
use Rattle.xp_board.specs.Told.{PortValue}
use Rattle.step_maker.specs.Holds.{Same}
use Rattle.step_maker.specs.Moves.{Moment}
use Rattle.step_maker.specs.Asked.{Implies, NoMore, Request, Within, back, named, of_table}
use Rattle.step_maker.specs.Finding.{Finding}
use Rattle.step_maker.proofs.Grown as rising
use Rattle.step_maker.proofs.Grown.{grown_by, implied}
use Rattle.table_entries.specs.Asking.{of_entries}

-- ---- an acquisition, within a pin
module _ (n : Machine) (s f d level : ℕ) (want : PageType) (rose risen : Bool) (F G : Finding) (more : (m : Moment) → F m → G m) where
  abbrev inner : Request
  inner = of_table f d (Some want) d rose

  abbrev outer : Request
  outer = record (of_table f d (Some want) d risen) { pins = true; locks = true }

  pub within_table : Implies rose risen → Within n s inner F outer G
  within_table rises =
      let gate = implied rose risen rises in
      grown_by n s inner outer F G more (search (rules, gate)) (record { owner = refl; pages_of = refl }) (λ g is k less. named is refl less) (λ any g is. is) (λ g none. absurd cc)

-- ---- a port that holds the same has no more
pub same_no_more : (v c : PortValue) (r : Request) → r.entries ≡ true → Same v c → NoMore r c.holdings v.holdings
same_no_more v c r entries same f =
    record {
      refs = λ away. let is = ap (λ (q : PortValue). refs_to f q.holdings.refs) same in omega (arith, is);
      works = λ none. sym (ap (λ (q : PortValue). work_on f q.holdings.works) same) ∙ none;
      typed = λ off. absurd (let on = entries in let not_on = off in cc);
    }

-- ---- a release, within an unpin
abbrev pub of_unpin : ℕ → ℕ → Request
of_unpin d f = record (of_table f d None d true) { pins = true; locks = true; backs = λ g. g == f }

module _ (n : Machine) (s f d : ℕ) (rose : Bool) (F G : Finding) (more : (m : Moment) → F m → G m) where
  abbrev releasing : Request
  releasing = record (of_entries d d) { backs = λ g. g == f; rose = rose }

  pub within_release : Within n s releasing F (of_unpin d f) G
  within_release =
      let gate = rising.risen rose in
      grown_by n s releasing (of_unpin d f) F G more (search (rules, gate)) (record { owner = refl; pages_of = refl }) (λ g none k is. absurd cc) (λ any g none. absurd cc) (λ g is. back is)
