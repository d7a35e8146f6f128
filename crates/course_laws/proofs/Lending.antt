-- A reference is taken on words, and on the plain value that describes them.
use Rattle.std.proofs.Common.{◌≡◌, ℕ, ◌<◌, ◌==◌, not, nat_lt, nat_le, if◌then◌else◌, Bool, true, false, Option, Some, None, refl, sym, ap, ◌∙◌, subst, arith}
use Rattle.table_twins.proofs.Entering.{no_cause}
use Rattle.xp_words.specs.Machine.{IsMachine, Machine}
use Rattle.xp_words.specs.declared.place.Place.TheVariants.{Refs}
use Rattle.step_maker.specs.Plain.{Words}
use Rattle.frame_words.specs.Plain.{refer}
use Rattle.table_law.specs.Alone.{CountFull, NoFrame, PlainOutcome, WrongOwner, fine, refused, take_reference, take_reference_of}
use Rattle.table_law.specs.Lawful.{share_count}
use Rattle.table_law.specs.Plain.{Describes, Plain, Share, raised_share, with_share}
use Rattle.table_twins.specs.Answers.{IsSameAnswer}
use Rattle.table_twins.proofs.Referring.{not_full, same_answer}
use Rattle.course_laws.proofs.Frames.{count_at}
use Rattle.xp_board.proofs.StepLists.{from_lt as is_inside}

-- ---- a plain reference that is fine
pub record Lent (n : Machine) (g : ℕ) (q : Plain) (o : PlainOutcome) : Type 0 where
  pub share : Share
  pub was : q.shares g ≡ Some share
  pub room : share.count < n.limit
  pub inside : g < n.frames
  pub is : o ≡ fine (with_share g (raised_share share) q)

module _ (n : Machine) (owner g : ℕ) (q : Plain) where
  lent_owned : (b k : Bool) (s : Share) (o : PlainOutcome) → q.shares g ≡ Some s → (k ≡ false → s.count < n.limit) → g < n.frames →
      o ≡ (if not b then refused (WrongOwner g (Some s)) q else if k then refused (CountFull g s) q else fine (with_share g (raised_share s) q)) → o.refusal ≡ None → Lent n g q o
  lent_owned false k s o was room inside is none = let e = ap (λ (x : PlainOutcome). x.refusal) is in absurd cc
  lent_owned true true s o was room inside is none = let e = ap (λ (x : PlainOutcome). x.refusal) is in absurd cc
  lent_owned true false s o was room inside is none = record { share = s; was = was; room = room refl; inside = inside; is = is }

  lent_of : (r : Option Share) (o : PlainOutcome) → q.shares g ≡ r → g < n.frames → o ≡ take_reference_of n owner g q r → o.refusal ≡ None → Lent n g q o
  lent_of None o was inside is none = let e = ap (λ (x : PlainOutcome). x.refusal) is in absurd cc
  lent_of (Some s) o was inside is none = lent_owned (s.owner == owner) (nat_le n.limit s.count) s o was (λ full. not_full n.limit s.count full) inside is none

  lent_by : (b : Bool) (o : PlainOutcome) → (b ≡ true → g < n.frames) → o ≡ (if b then take_reference_of n owner g q (q.shares g) else refused (NoFrame g) q) → o.refusal ≡ None → Lent n g q o
  lent_by true o inside is none = lent_of (q.shares g) o refl (inside refl) is none
  lent_by false o inside is none = let e = ap (λ (x : PlainOutcome). x.refusal) is in absurd cc

  pub lent : (take_reference n owner g q).refusal ≡ None → Lent n g q (take_reference n owner g q)
  lent none = lent_by (nat_lt g n.frames) (take_reference n owner g q) (λ is. is_inside g n.frames is) refl none

pub fine_there : (n : Machine) (m : Words) (q : Plain) (owner g : ℕ) → Describes n m q → refer n owner g (m (Refs g)) ≡ None → (take_reference n owner g q).refusal ≡ None
fine_there n m q owner g d none = no_cause (take_reference n owner g q).refusal (subst (λ o. IsSameAnswer o (take_reference n owner g q).refusal) none (same_answer n m q owner g d))

-- ---- words with a reference taken
module _ (n : Machine) (m : Words) (q : Plain) (owner g : ℕ) (machine : IsMachine n) (d : Describes n m q) (none : refer n owner g (m (Refs g)) ≡ None) where
  pub lent_there : Lent n g q (take_reference n owner g q)
  lent_there = lent n owner g q (fine_there n m q owner g d none)

  pub was_count : count_at m g ≡ lent_there.share.count
  was_count = sym (ap share_count (d.shares g lent_there.inside)) ∙ ap share_count lent_there.was

  pub was_room : count_at m g < n.limit
  was_room = let e = was_count in let room = lent_there.room in omega arith
