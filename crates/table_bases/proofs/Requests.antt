-- What a release or an acquisition asks is within what a new base asks.
use Rattle.std.proofs.Common.{◌≡◌, ℕ, ◌==◌, Bool, true, Option, Some, None, IsTrue, refl, rules, sym, subst, arith}
use Rattle.std.proofs.lemmas.Bool.Decides.{nat_tests}
use Rattle.xp_words.specs.Machine.{Machine}
use Rattle.xp_words.specs.declared.kind.PageType.TheVariants as kinds
use Rattle.step_maker.specs.Moves.{Moment}
use Rattle.step_maker.specs.Asked.{Implies, IsAsked, Request, Within, named, of_table}
use Rattle.step_maker.specs.Finding.{Finding}
use Rattle.step_maker.proofs.Grown.{grown_by, implied}
use Rattle.table_entries.specs.Asking.{of_entries}
use Rattle.table_bases.specs.Asking.{of_base}

-- ---- a new base as a call in which entries and words of the vCPU ask frames, and which flushes
pub base_entries : (d : ℕ) (new : Option ℕ) (rose : Bool) → (of_base d new rose).entries ≡ true
base_entries d None rose = refl
base_entries d (Some f) rose = refl

pub base_owner : (d : ℕ) (new : Option ℕ) (rose : Bool) → (of_base d new rose).owner ≡ d
base_owner d None rose = refl
base_owner d (Some f) rose = refl

pub base_rose : (d : ℕ) (new : Option ℕ) (rose : Bool) → (of_base d new rose).rose ≡ rose
base_rose d None rose = refl
base_rose d (Some f) rose = refl

pub base_contexts : (d : ℕ) (new : Option ℕ) (rose : Bool) → (of_base d new rose).contexts ≡ true
base_contexts d None rose = refl
base_contexts d (Some f) rose = refl

pub base_flushes : (d : ℕ) (new : Option ℕ) (rose : Bool) → (of_base d new rose).flushes ≡ true
base_flushes d None rose = refl
base_flushes d (Some f) rose = refl

-- ---- an acquisition
module _ (n : Machine) (s f d : ℕ) (rose risen : Bool) (F G : Finding) (more : (m : Moment) → F m → G m) where
  abbrev inner : Request
  inner = of_table f d (Some kinds.L4) d rose

  abbrev outer : Request
  outer = of_base d (Some f) risen

  pub within_acquire : Implies rose risen → Within n s inner F outer G
  within_acquire rises =
      let gate = implied rose risen rises in
      grown_by n s inner outer F G more (search (rules, gate)) (record { owner = refl; pages_of = refl }) (λ g is k less. named is refl less) (λ any g is. is) (λ g none. absurd cc)

-- ---- a release, within a call that asks its frame
module _ (n : Machine) (s f d : ℕ) (rose : Bool) (r : Request) (F G : Finding) (more : (m : Moment) → F m → G m) (entries : r.entries ≡ true) (owner : r.owner ≡ d) (risen : r.rose ≡ true) (asks : IsAsked n s r G f) where
  abbrev releasing : Request
  releasing = record (of_entries d r.pages_of) { backs = λ g. g == f; rose = rose }

  same_frame : (g : ℕ) → IsTrue (g == f) → g ≡ f
  same_frame g is = grind (arith, nat_tests)

  pub within_release : Within n s releasing F r G
  within_release =
      let gate = implied rose r.rose (λ on. risen) in
      grown_by n s releasing r F G more (search (rules, gate, entries)) (record { owner = sym owner; pages_of = refl }) (λ g none k is. absurd cc) (λ any g none. absurd cc)
      (λ g is. subst (λ k. IsAsked n s r G k) (sym (same_frame g is)) asks)
