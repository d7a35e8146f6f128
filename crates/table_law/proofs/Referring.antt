-- A reference that is taken, or that a lawful acquisition would not be refused.
use Rattle.std.proofs.Common.{◌≡◌, ◌≢◌, ℕ, ◌+◌, ◌<◌, ◌≤◌, ◌==◌, ◌⊎◌, nat_lt, nat_le, Bool, true, false, Option, Some, None, refl, sym, ap, ◌∙◌, subst, inl, inr, arith}
use Rattle.std.proofs.lemmas.Bool.Decides.{nat_tests}
use Rattle.std.proofs.lemmas.Bool.{cases_eq}
use Rattle.xp_board.specs.Lists.{one_at}
use Rattle.xp_board.proofs.Sums.{one_at-same, one_at-other}
use Rattle.table_law.specs.Plain.{Plain, Share, at, with_share, raised_share}
use Rattle.table_law.specs.Alone.{NoFrame, WrongOwner, CountFull, PlainOutcome, fine, take_reference, take_reference_of}
use Rattle.table_law.specs.Lawful.{IsPlainOwned, IsShareOf, share_count}
use Rattle.table_law.proofs.Doing.{Case, IsLawful, more, Failed}
use Rattle.table_law.proofs.Counting.{at_here, at_there}

pub record Referred (c : Case) (p : Plain) (g : ℕ) (after : ℕ → ℕ) (o : PlainOutcome) : Type 0 where
  pub left : Plain
  pub is : o ≡ fine left
  pub owned : IsPlainOwned c.machine c.owner c.before g
  pub shares : (h : ℕ) → left.shares h ≡ more (after h) (c.before.shares h)
  pub room : (h : ℕ) → h < c.machine.frames → share_count (left.shares h) ≤ c.machine.limit
  pub kinds : left.kinds ≡ p.kinds
  pub cells : left.cells ≡ p.cells

module _ (c : Case) (p : Plain) (g : ℕ) (before after : ℕ → ℕ) (shares : (h : ℕ) → p.shares h ≡ more (before h) (c.before.shares h))
    (one : (h : ℕ) → after h ≡ before h + one_at h g) (room : (h : ℕ) → h < c.machine.frames → share_count (p.shares h) ≤ c.machine.limit)
    (owned : IsLawful c → IsPlainOwned c.machine c.owner c.before g) (bound : (s : Share) → g < c.machine.frames → c.before.shares g ≡ Some s → IsLawful c → s.count + after g ≤ c.machine.limit) where
  one_more : after g ≡ before g + 1
  one_more = one g ∙ ap (λ k. before g + k) (one_at-same g)

  taken_of : Share → Share
  taken_of s = record { owner = s.owner; allocated = s.allocated; count = s.count + before g }

  -- the reference is counted
  module _ (s : Share) (was : c.before.shares g ≡ Some s) (inside : nat_lt g c.machine.frames ≡ true) (own : (s.owner == c.owner) ≡ true)
      (low : nat_le c.machine.limit (s.count + before g) ≡ false) where
    now : p.shares g ≡ Some (taken_of s)
    unfolding taken_of
    now = shares g ∙ ap (more (before g)) was

    left_of : Plain
    left_of = with_share g (raised_share (taken_of s)) p

    counted : take_reference c.machine c.owner g p ≡ fine left_of
    unfolding left_of taken_of
    counted = rw inside (ap (take_reference_of c.machine c.owner g p) now ∙ rw (own, low) refl)

    share_here : at g (Some (raised_share (taken_of s))) p.shares g ≡ more (after g) (c.before.shares g)
    unfolding taken_of
    share_here =
        at_here g (Some (raised_share (taken_of s))) p.shares
        ∙ sym (ap (more (after g)) was ∙ ap (λ k. more k (Some s)) one_more ∙ ap (λ k. Some (record { owner = s.owner; allocated = s.allocated; count = k })) (let e : s.count + (before g + 1) ≡ s.count + before g + 1 = omega arith in e))

    share_there : (h : ℕ) → h ≢ g → at g (Some (raised_share (taken_of s))) p.shares h ≡ more (after h) (c.before.shares h)
    share_there h off =
        at_there g h (Some (raised_share (taken_of s))) p.shares off ∙ shares h
        ∙ ap (λ k. more k (c.before.shares h)) (let e = one h in let z = one_at-other h g off in let r : before h ≡ after h = omega arith in r)

    shares_left : (h : ℕ) → left_of.shares h ≡ more (after h) (c.before.shares h)
    unfolding left_of
    shares_left h =
        elim (cases_eq h g) [
          | inl e ↦ subst (λ k. at g (Some (raised_share (taken_of s))) p.shares k ≡ more (after k) (c.before.shares k)) (sym e) share_here
          | inr off ↦ share_there h off
        ]

    room_left : (h : ℕ) → h < c.machine.frames → share_count (left_of.shares h) ≤ c.machine.limit
    unfolding left_of taken_of
    room_left h real =
        elim (cases_eq h g) [
          | inl e ↦
              let at_g = ap share_count (ap (at g (Some (raised_share (taken_of s))) p.shares) e ∙ at_here g (Some (raised_share (taken_of s))) p.shares) in
              let l : s.count + before g < c.machine.limit = grind (arith, nat_tests) in
              omega arith
          | inr off ↦ let same = ap share_count (at_there g h (Some (raised_share (taken_of s))) p.shares off) in let r = room h real in omega arith
        ]

    referred_one : Referred c p g after (take_reference c.machine c.owner g p)
    unfolding left_of
    referred_one =
        record {
          left = left_of;
          is = counted;
          owned = record { inside = grind (arith, nat_tests); share = subst (IsShareOf c.owner) (sym was) (let e : s.owner ≡ c.owner = grind (arith, nat_tests) in e) };
          shares = shares_left;
          room = room_left;
          kinds = refl;
          cells = refl;
        }

  -- ---- or not
  abbrev Either : Type 0
  Either = Referred c p g after (take_reference c.machine c.owner g p) ⊎ Failed c (take_reference c.machine c.owner g p)

  module _ (s : Share) (was : c.before.shares g ≡ Some s) (inside : nat_lt g c.machine.frames ≡ true) where
    by_count : (own : (s.owner == c.owner) ≡ true) (b : Bool) → nat_le c.machine.limit (s.count + before g) ≡ b → Either
    unfolding taken_of now
    by_count own true full =
        inr
        (record {
          cause = CountFull g (taken_of s);
          left = p;
          is = rw inside (ap (take_reference_of c.machine c.owner g p) (shares g ∙ ap (more (before g)) was) ∙ rw (own, full) refl);
          why = λ law.
              let most = bound s (let i : g < c.machine.frames = grind (arith, nat_tests) in i) was law in
              let m = one_more in
              let f : c.machine.limit ≤ s.count + before g = grind (arith, nat_tests) in
              omega arith;
        })
    by_count own false low = inl (referred_one s was inside own low)

    by_owner : (b : Bool) → (s.owner == c.owner) ≡ b → Either
    unfolding taken_of
    by_owner true own = by_count own (nat_le c.machine.limit (s.count + before g)) refl
    by_owner false other =
        inr
        (record {
          cause = WrongOwner g (Some (taken_of s));
          left = p;
          is = rw inside (ap (take_reference_of c.machine c.owner g p) (shares g ∙ ap (more (before g)) was) ∙ rw other refl);
          why = λ law. let e : s.owner ≡ c.owner = subst (IsShareOf c.owner) was (owned law).share in grind (arith, nat_tests);
        })

  by_share : (o : Option Share) → c.before.shares g ≡ o → nat_lt g c.machine.frames ≡ true → Either
  by_share (Some s) was inside = by_owner s was inside (s.owner == c.owner) refl
  by_share None was inside =
      inr
      (record {
        cause = WrongOwner g None;
        left = p;
        is = rw inside (ap (take_reference_of c.machine c.owner g p) (shares g ∙ ap (more (before g)) was));
        why = λ law. subst (IsShareOf c.owner) was (owned law).share;
      })

  by_number : (b : Bool) → nat_lt g c.machine.frames ≡ b → Either
  by_number true inside = by_share (c.before.shares g) refl inside
  by_number false outside =
      inr (record { cause = NoFrame g; left = p; is = rw outside refl; why = λ law. let i = (owned law).inside in grind (arith, nat_tests) })

  pub refer_goes : Either
  refer_goes = by_number (nat_lt g c.machine.frames) refl
