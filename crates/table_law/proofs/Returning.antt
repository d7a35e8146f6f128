-- A release undoes what an acquisition did: frames that are like those it left come to be like those it began with.
use Rattle.std.proofs.Common.{◌≡◌, ℕ, ◌+◌, ◌-◌, ◌<◌, ◌==◌, ◌⊎◌, not, nat_lt, nat_le, Bool, true, false, Option, Some, None, refl, sym, ap, ◌∙◌, inl, inr, arith}
use Rattle.std.proofs.lemmas.Bool.{cases_eq}
use Rattle.std.proofs.lemmas.Bool.Decides.{nat_tests}
use Rattle.xp_words.specs.declared.kind.KindWord.{KindWord}
use Rattle.xp_words.specs.Machine.{Machine}
use Rattle.xp_board.specs.Readings.{is_dead}
use Rattle.table_law.specs.Plain.{Plain, Share, at, with_share, raised_share, fewer, reference_back}
use Rattle.table_law.specs.Alone.{Cause, NoFrame, WrongOwner, CountFull, PlainOutcome, fine, refused, take_reference, take_reference_of}
use Rattle.table_law.specs.Undone.{IsSameButType, CountsSome}
use Rattle.table_law.proofs.Counting.{at_here, at_there}

-- a frame that is neither dead nor live: no acquisition has anything to do with it
pub record IsStuck (k : KindWord) : Type 0 where
  pub undead : is_dead k ≡ false
  pub off : k.validated ≡ false

-- q is like p, but for types of dead frames, and for the kind words of those frames
pub record Like (but : ℕ → Bool) (p q : Plain) : Type 0 where
  pub shares : (g : ℕ) → q.shares g ≡ p.shares g
  pub kinds : (g : ℕ) → (but g ≡ true) ⊎ IsSameButType (p.kinds g) (q.kinds g)
  pub cells : (g i : ℕ) → q.cells g i ≡ p.cells g i

abbrev pub AreStuck : (ℕ → Bool) → Plain → Type 0
AreStuck but p = (x : ℕ) → but x ≡ true → IsStuck (p.kinds x)

-- what stays so from p to q
pub record GoesOn (n : Machine) (p q : Plain) : Type 0 where
  pub counts : CountsSome n q
  pub stuck : (x : ℕ) → IsStuck (p.kinds x) → q.kinds x ≡ p.kinds x
  pub cells : (g i : ℕ) → q.cells g i ≡ p.cells g i

-- it is done, and `back` undoes it
pub record Undoable (n : Machine) (p : Plain) (o : PlainOutcome) (back : Plain → Plain) : Type 0 where
  pub left : Plain
  pub is : o ≡ fine left
  pub on : GoesOn n p left
  pub undone : (but : ℕ → Bool) (q : Plain) → AreStuck but p → Like but left q → Like but p (back q)

-- or it is refused, and all is as before
pub record Refusing (p : Plain) (o : PlainOutcome) : Type 0 where
  pub cause : Cause
  pub left : Plain
  pub is : o ≡ refused cause left
  pub same : Like (λ x. false) p left

abbrev pub Either : Machine → Plain → PlainOutcome → (Plain → Plain) → Type 0
Either n p o back = Undoable n p o back ⊎ Refusing p o

pub like_itself : (but : ℕ → Bool) (p : Plain) → Like but p p
like_itself but p = record { shares = λ g. refl; kinds = λ g. inr (inl refl); cells = λ g i. refl }

-- ---- one reference
module _ (n : Machine) (p : Plain) (g : ℕ) (s : Share) (was : p.shares g ≡ Some s) (some : 0 < s.count) where
  fewer_raised : fewer (Some (raised_share s)) ≡ Some s
  fewer_raised =
      let off : (s.count + 1 == 1) ≡ false = grind (arith, nat_tests) in
      rw off (ap (λ k. Some (record { owner = s.owner; allocated = s.allocated; count = k })) (let e : s.count + 1 - 1 ≡ s.count = omega arith in e))

  pub share_back : (but : ℕ → Bool) (q : Plain) → Like but (with_share g (raised_share s) p) q → Like but p (reference_back g q)
  share_back but q like = record { shares = shares_back; kinds = like.kinds; cells = like.cells }
    where
      shares_back : (h : ℕ) → at g (fewer (q.shares g)) q.shares h ≡ p.shares h
      shares_back h =
          elim (cases_eq h g) [
            | inl e ↦
                ap (at g (fewer (q.shares g)) q.shares) e ∙ at_here g (fewer (q.shares g)) q.shares
                ∙ ap fewer (like.shares g ∙ at_here g (Some (raised_share s)) p.shares)
                ∙ fewer_raised ∙ sym was ∙ ap p.shares (sym e)
            | inr off ↦ at_there g h (fewer (q.shares g)) q.shares off ∙ like.shares h ∙ at_there g h (Some (raised_share s)) p.shares off
          ]

  pub share_on : CountsSome n p → GoesOn n p (with_share g (raised_share s) p)
  share_on counts =
      record {
        counts = record { types = counts.types; refs = refs };
        stuck = λ x is. refl;
        cells = λ x i. refl;
      }
    where
      refs : (h : ℕ) (u : Share) → h < n.frames → at g (Some (raised_share s)) p.shares h ≡ Some u → 0 < u.count
      refs h u inside is =
          elim (cases_eq h g) [
            | inl e ↦
                let same : Some (raised_share s) ≡ Some u = sym (at_here g (Some (raised_share s)) p.shares) ∙ ap (at g (Some (raised_share s)) p.shares) (sym e) ∙ is in
                let one : raised_share s ≡ u = cc in
                let count = ap (λ (v : Share). v.count) one in
                omega arith
            | inr off ↦ counts.refs h u inside (sym (at_there g h (Some (raised_share s)) p.shares off) ∙ is)
          ]

-- a reference is taken
pub record Lent (n : Machine) (p : Plain) (g : ℕ) (o : PlainOutcome) : Type 0 where
  pub share : Share
  pub inside : g < n.frames
  pub was : p.shares g ≡ Some share
  pub some : 0 < share.count
  pub is : o ≡ fine (with_share g (raised_share share) p)

module _ (n : Machine) (owner g : ℕ) (p : Plain) (counts : CountsSome n p) where
  abbrev Refers : Type 0
  Refers = Lent n p g (take_reference n owner g p) ⊎ Refusing p (take_reference n owner g p)

  not_had : (c : Cause) → take_reference n owner g p ≡ refused c p → Refers
  not_had c is = inr (record { cause = c; left = p; is = is; same = like_itself (λ x. false) p })

  by_count : (s : Share) → p.shares g ≡ Some s → nat_lt g n.frames ≡ true → not (s.owner == owner) ≡ false → (b : Bool) → nat_le n.limit s.count ≡ b → Refers
  by_count s was inside own true full = not_had (CountFull g s) (rw inside (ap (take_reference_of n owner g p) was ∙ rw (own, full) refl))
  by_count s was inside own false low =
      let real : g < n.frames = grind (arith, nat_tests) in
      inl (record { share = s; inside = real; was = was; some = counts.refs g s real was; is = rw inside (ap (take_reference_of n owner g p) was ∙ rw (own, low) refl) })

  by_owner : (s : Share) → p.shares g ≡ Some s → nat_lt g n.frames ≡ true → (b : Bool) → not (s.owner == owner) ≡ b → Refers
  by_owner s was inside true other = not_had (WrongOwner g (Some s)) (rw inside (ap (take_reference_of n owner g p) was ∙ rw other refl))
  by_owner s was inside false own = by_count s was inside own (nat_le n.limit s.count) refl

  by_share : (o : Option Share) → p.shares g ≡ o → nat_lt g n.frames ≡ true → Refers
  by_share None was inside = not_had (WrongOwner g None) (rw inside (ap (take_reference_of n owner g p) was))
  by_share (Some s) was inside = by_owner s was inside (not (s.owner == owner)) refl

  by_number : (b : Bool) → nat_lt g n.frames ≡ b → Refers
  by_number true inside = by_share (p.shares g) refl inside
  by_number false outside = not_had (NoFrame g) (rw outside refl)

  pub refers : Refers
  refers = by_number (nat_lt g n.frames) refl
