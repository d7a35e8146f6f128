-- Plain values with more references to some frames: those that resumed tables hold beside their entry's.
use Rattle.std.proofs.Common.{◌≡◌, ℕ, ◌+◌, ◌<◌, ◌≤◌, ◌==◌, not, nat_lt, nat_le, if◌then◌else◌, Bool, true, false, List, [], ◌∷◌, Option, Some, None, refl, sym, ap, ◌∙◌, arith}
use Rattle.std.proofs.lemmas.Bool.Decides.{nat_tests}
use Rattle.xp_words.specs.Machine.{IsMachine, Machine}
use Rattle.xp_words.specs.declared.place.Place.TheVariants.{Refs}
use Rattle.step_maker.specs.Plain.{Words}
use Rattle.frame_words.specs.Plain.{got, refer}
use Rattle.partial_state.specs.declared.stack.TableWork.{TableWork}
use Rattle.table_law.specs.Alone.{CountFull, NoFrame, PlainOutcome, WrongOwner, fine, refused, take_reference, take_reference_of}
use Rattle.table_law.specs.Lawful.{share_count}
use Rattle.table_law.specs.Plain.{Describes, Plain, Share, raised_share, with_share}
use Rattle.table_twins.proofs.Referring.{not_full, same_taken}
use Rattle.course_laws.proofs.Lending.{fine_there}
use Rattle.xp_board.proofs.StepLists.{from_lt as is_inside}

-- ---- the same plain value, frame by frame
pub record IsSame (p q : Plain) : Type 0 where
  pub shares : (g : ℕ) → q.shares g ≡ p.shares g
  pub kinds : (g : ℕ) → q.kinds g ≡ p.kinds g
  pub cells : (g i : ℕ) → q.cells g i ≡ p.cells g i

pub described_same : (n : Machine) (m : Words) (p q : Plain) → IsSame p q → Describes n m p → Describes n m q
described_same n m p q same d =
    record {
      shares = λ g inside. same.shares g ∙ d.shares g inside;
      kinds = λ g inside. same.kinds g ∙ d.kinds g inside;
      cells = λ g i inside few. same.cells g i ∙ d.cells g i inside few;
    }

-- ---- more references
abbrev pub more_of : ℕ → Option Share → Option Share
more_of e None = None
more_of e (Some s) = Some (record { owner = s.owner; allocated = s.allocated; count = s.count + e })

abbrev pub lent : (ℕ → ℕ) → Plain → Plain
lent x p = record { shares = λ g. more_of (x g) (p.shares g); kinds = p.kinds; cells = p.cells }

-- one for each of these tables that is not in hand with its type count
abbrev pub extra : List TableWork → ℕ → ℕ
extra [] g = 0
extra (t ∷ ts) g = (if t.own then 0 else (if g == t.frame then 1 else 0)) + extra ts g

pub more_count : (e : ℕ) (o : Option Share) → share_count o ≤ share_count (more_of e o)
more_count e None = omega arith
more_count e (Some s) = omega arith

-- ---- a reference that is taken
pub record Referred (n : Machine) (owner g : ℕ) (p : Plain) : Type 0 where
  pub share : Share
  pub was : p.shares g ≡ Some share
  pub owns : (share.owner == owner) ≡ true
  pub room : share.count < n.limit
  pub inside : g < n.frames
  pub is : take_reference n owner g p ≡ fine (with_share g (raised_share share) p)

module _ (n : Machine) (owner g : ℕ) (p : Plain) where
  referred_owned : (b k : Bool) (s : Share) → (s.owner == owner) ≡ b → nat_le n.limit s.count ≡ k → p.shares g ≡ Some s → g < n.frames →
      take_reference n owner g p ≡ (if not b then refused (WrongOwner g (Some s)) p else if k then refused (CountFull g s) p else fine (with_share g (raised_share s) p)) → (take_reference n owner g p).refusal ≡ None → Referred n owner g p
  referred_owned false k s own full was inside is none = absurd (let e = ap (λ (x : PlainOutcome). x.refusal) is in cc)
  referred_owned true true s own full was inside is none = absurd (let e = ap (λ (x : PlainOutcome). x.refusal) is in cc)
  referred_owned true false s own full was inside is none = record { share = s; was = was; owns = own; room = not_full n.limit s.count full; inside = inside; is = is }

  referred_of : (r : Option Share) → p.shares g ≡ r → g < n.frames → take_reference n owner g p ≡ take_reference_of n owner g p r → (take_reference n owner g p).refusal ≡ None → Referred n owner g p
  referred_of None was inside is none = absurd (let e = ap (λ (x : PlainOutcome). x.refusal) is in cc)
  referred_of (Some s) was inside is none = referred_owned (s.owner == owner) (nat_le n.limit s.count) s refl refl was inside is none

  in_frames : (b : Bool) → nat_lt g n.frames ≡ b → take_reference n owner g p ≡ (if b then take_reference_of n owner g p (p.shares g) else refused (NoFrame g) p) → (take_reference n owner g p).refusal ≡ None → Referred n owner g p
  in_frames true inside is none = referred_of (p.shares g) refl (is_inside g n.frames inside) is none
  in_frames false inside is none = absurd (let e = ap (λ (x : PlainOutcome). x.refusal) is in cc)

  pub referred : (take_reference n owner g p).refusal ≡ None → Referred n owner g p
  referred none = in_frames (nat_lt g n.frames) refl refl none

  -- it is taken where the share says so
  pub refers : (s : Share) → p.shares g ≡ Some s → (s.owner == owner) ≡ true → s.count < n.limit → g < n.frames → take_reference n owner g p ≡ fine (with_share g (raised_share s) p)
  refers s was own room inside =
      let here : nat_lt g n.frames ≡ true = grind (arith, nat_tests) in
      let low : nat_le n.limit s.count ≡ false = grind (arith, nat_tests) in
      ap (λ b. if b then take_reference_of n owner g p (p.shares g) else refused (NoFrame g) p) here
      ∙ ap (λ o. take_reference_of n owner g p o) was
      ∙ ap (λ b. if not b then refused (WrongOwner g (Some s)) p else if nat_le n.limit s.count then refused (CountFull g s) p else fine (with_share g (raised_share s) p)) own
      ∙ ap (λ b. if b then refused (CountFull g s) p else fine (with_share g (raised_share s) p)) low

-- one that is taken of the value with more references is taken of the value
less_of : (e : ℕ) (o : Option Share) (s : Share) → more_of e o ≡ Some s → (r : Share) × (o ≡ Some r) × (s ≡ record { owner = r.owner; allocated = r.allocated; count = r.count + e })
less_of e None s is = absurd cc
less_of e (Some r) s is = (r, refl, cc)

-- what comes of it: the share before, and the two values after
pub record Both (n : Machine) (owner g : ℕ) (x : ℕ → ℕ) (p : Plain) : Type 0 where
  pub share : Share
  pub was : p.shares g ≡ Some share
  pub owns : (share.owner == owner) ≡ true
  pub room : share.count + x g < n.limit
  pub inside : g < n.frames
  pub takes : take_reference n owner g p ≡ fine (with_share g (raised_share share) p)
  pub same : IsSame (take_reference n owner g (lent x p)).left (lent x (with_share g (raised_share share) p))

both_at : (b : Bool) (g h : ℕ) (x : ℕ → ℕ) (r : Share) (o : Option Share) → (h == g) ≡ b →
    more_of (x h) (if b then Some (raised_share r) else o) ≡ (if b then Some (record { owner = r.owner; allocated = r.allocated; count = r.count + x g + 1 }) else more_of (x h) o)
both_at true g h x r o is =
    let e : h ≡ g = grind (arith, nat_tests) in
    let k : x h ≡ x g = ap x e in
    ap (λ c. Some (record { owner = r.owner; allocated = r.allocated; count = c })) (omega arith)
both_at false g h x r o is = refl

pub both : (n : Machine) (owner g : ℕ) (x : ℕ → ℕ) (p : Plain) → (take_reference n owner g (lent x p)).refusal ≡ None → Both n owner g x p
both n owner g x p none =
    let a = referred n owner g (lent x p) none in
    let b = less_of (x g) (p.shares g) a.share a.was in
    let r = b.0 in
    let count : a.share.count ≡ r.count + x g = ap (λ (s : Share). s.count) b.2 in
    let own : (r.owner == owner) ≡ true = sym (ap (λ (s : Share). s.owner == owner) b.2) ∙ a.owns in
    record {
      share = r;
      was = b.1;
      owns = own;
      room = (let low = a.room in omega arith);
      inside = a.inside;
      takes = refers n owner g p r b.1 own (let low = a.room in omega arith) a.inside;
      same = record {
        shares = λ h.
            both_at (h == g) g h x r (p.shares h) refl
            ∙ ap (λ (s : Share). if h == g then Some (raised_share s) else more_of (x h) (p.shares h)) (sym b.2)
            ∙ sym (ap (λ (o : PlainOutcome). o.left.shares h) a.is);
        kinds = λ h. sym (ap (λ (o : PlainOutcome). o.left.kinds h) a.is);
        cells = λ h i. sym (ap (λ (o : PlainOutcome). o.left.cells h i) a.is);
      };
    }

-- the same by words
module _ (n : Machine) (m : Words) (owner g : ℕ) (x : ℕ → ℕ) (p : Plain) (machine : IsMachine n) (d : Describes n m (lent x p)) (none : refer n owner g (m (Refs g)) ≡ None) where
  pub both_there : Both n owner g x p
  both_there = both n owner g x p (fine_there n m (lent x p) owner g d none)

  pub got_both : Describes n (got g m) (lent x (with_share g (raised_share both_there.share) p))
  got_both = described_same n (got g m) _ _ both_there.same (same_taken n m (lent x p) owner g d machine none)
