-- Words of which one reference word was changed, and the plain value that describes them.
use Rattle.std.proofs.Common.{◌≡◌, ℕ, ◌+◌, ◌-◌, ◌%◌, ◌<◌, ◌^◌, ◌==◌, if◌then◌else◌, Bool, true, false, Option, Some, None, refl, sym, ap, ◌∙◌, subst, arith}
use Rattle.std.proofs.lemmas.Bool.Decides.{nat_tests}
use Rattle.xp_words.specs.KindWords.{kind_fields}
use Rattle.xp_words.specs.Machine.{Machine}
use Rattle.xp_words.specs.RefWords.{IsRef, ref_read, ref_write}
use Rattle.xp_words.specs.declared.refs.RefWord.{RefWord}
use Rattle.xp_words.specs.declared.refs.RefWord.TheVariants.{Free, Owned, Dying}
use Rattle.xp_words.specs.declared.place.Place.TheVariants.{Cell, Kind, Refs}
use Rattle.xp_words.proofs.RefLaws.{ref_read-write, ref_write-read}
use Rattle.xp_board.specs.Acts.{left_by}
use Rattle.xp_board.specs.Readings.{owner_of, ref_count}
use Rattle.xp_board.specs.RefSteps.{one_down, owner_number}
use Rattle.xp_board.specs.declared.step.Act.TheVariants.{Add}
use Rattle.xp_board.proofs.RefWords.{owned_says, read_small}
use Rattle.step_maker.specs.Plain.{Words}
use Rattle.frame_words.proofs.FreeSteps.{free_read}
use Rattle.frame_words.specs.Plain.{lowered, put, set_free, stamp_now}
use Rattle.table_law.specs.Plain.{Describes, Plain, Share, at, fewer, reference_back, share_in, share_of, sober}

pub either : {A B : Type 0} (f : A → B) (b : Bool) (x y : B) (z u : A) → x ≡ f z → y ≡ f u → (if b then x else y) ≡ f (if b then z else u)
either f true x y z u e k = e
either f false x y z u e k = k

-- the share of frame g is that of its new word
pub shared : (n : Machine) (m l : Words) (p : Plain) (g new : ℕ) (o : Option Share) → Describes n m p → o ≡ share_of new → ((h : ℕ) → l (Refs h) ≡ (if h == g then new else m (Refs h))) →
    ((h : ℕ) → l (Kind h) ≡ m (Kind h)) → ((h i : ℕ) → l (Cell h i) ≡ m (Cell h i)) → Describes n l (record { shares = at g o p.shares; kinds = p.kinds; cells = p.cells })
shared n m l p g new o d is refs kinds cells =
    record {
      shares = λ h inside. either share_of (h == g) o (p.shares h) new (m (Refs h)) is (d.shares h inside) ∙ sym (ap share_of (refs h));
      kinds = λ h inside. d.kinds h inside ∙ sym (ap (λ w. sober (kind_fields w)) (kinds h));
      cells = λ h i inside few. d.cells h i inside few ∙ sym (cells h i);
    }

-- ---- the word of an owned frame
pub share_owned : (w : ℕ) (r : Option RefWord) (s : Share) → share_in r ≡ Some s → r ≡ Some (Owned s.owner s.allocated s.count)
share_owned w (Some (Owned o a c)) s is = let same : record { owner = o; allocated = a; count = c } ≡ s = cc in ap (λ (x : Share). Some (Owned x.owner x.allocated x.count)) same
share_owned w (Some (Free stamp)) s is = absurd (cc)
share_owned w (Some (Dying o)) s is = absurd (cc)
share_owned w None s is = absurd (cc)

pub lower_word : (w o c : ℕ) (a : Bool) → 1 < c → ref_read w ≡ Some (Owned o a c) → ref_read ((w + one_down) % 2 ^ 64) ≡ Some (Owned o a (c - 1))
unfolding IsRef ref_write
lower_word w o c a more e =
    let low = read_small w (Owned o a c) e in
    let r = ref_write-read w (Owned o a c) low e in
    let k = r.1 in
    let n : (w + one_down) % 2 ^ 64 ≡ ref_write (Owned o a (c - 1)) = omega arith in
    rw n (ref_read-write (Owned o a (c - 1)) (let k = r.0 in (omega arith, omega arith, omega arith)))

module _ (n : Machine) (m : Words) (p : Plain) (g : ℕ) (s : Share) (d : Describes n m p) (is : share_of (m (Refs g)) ≡ Some s) where
  reads : ref_read (m (Refs g)) ≡ Some (Owned s.owner s.allocated s.count)
  reads = share_owned (m (Refs g)) (ref_read (m (Refs g))) s is

  counts : ref_count (m (Refs g)) ≡ s.count
  counts = (owned_says (m (Refs g)) s.owner s.allocated s.count reads).counts

  pub count_some : 0 < s.count
  unfolding IsRef
  count_some = (ref_write-read (m (Refs g)) (Owned s.owner s.allocated s.count) (read_small (m (Refs g)) (Owned s.owner s.allocated s.count) reads) reads).0.1

  over : (b : Bool) (x y z : ℕ) → (if b then x else (if b then y else z)) ≡ (if b then x else z)
  over true x y z = refl
  over false x y z = refl

  -- it was the last one
  last : (owner : ℕ) → Describes n (set_free g owner (lowered g m)) (record { shares = at g None p.shares; kinds = p.kinds; cells = p.cells })
  unfolding left_by
  last owner =
      let stamp = stamp_now (lowered g m) in
      let low : stamp < 2 ^ 36 = omega arith in
      shared n m (set_free g owner (lowered g m)) p g (ref_write (Free stamp)) None d (sym (ap share_in (free_read stamp low))) (λ h. over (h == g) (ref_write (Free stamp)) (left_by (Add one_down) (m (Refs g))) (m (Refs h))) (λ h. refl) (λ h i. refl)

  -- more are left
  more : 1 < s.count → Describes n (lowered g m) (record { shares = at g (Some (record { owner = s.owner; allocated = s.allocated; count = s.count - 1 })) p.shares; kinds = p.kinds; cells = p.cells })
  unfolding left_by
  more many =
      shared n m (lowered g m) p g ((m (Refs g) + one_down) % 2 ^ 64) (Some (record { owner = s.owner; allocated = s.allocated; count = s.count - 1 })) d
      (sym (ap share_in (lower_word (m (Refs g)) s.owner s.count s.allocated many reads))) (λ h. refl) (λ h. refl) (λ h i. refl)

  by_last : (b : Bool) (owner : ℕ) → (b ≡ false → 1 < s.count) → Describes n (if b then set_free g owner (lowered g m) else lowered g m)
      (record { shares = at g (if b then None else Some (record { owner = s.owner; allocated = s.allocated; count = s.count - 1 })) p.shares; kinds = p.kinds; cells = p.cells })
  by_last true owner many = last owner
  by_last false owner many = more (many refl)

  more_than_one : (c : ℕ) → 0 < c → (c == 1) ≡ false → 1 < c
  more_than_one c low off = grind (arith, nat_tests)

  pub put_described : Describes n (put g m) (record { shares = at g (fewer (Some s)) p.shares; kinds = p.kinds; cells = p.cells })
  put_described =
      subst (λ c. Describes n (if c == 1 then set_free g (owner_number (owner_of (m (Refs g)))) (lowered g m) else lowered g m) (record { shares = at g (fewer (Some s)) p.shares; kinds = p.kinds; cells = p.cells })) (sym counts)
      (by_last (s.count == 1) (owner_number (owner_of (m (Refs g)))) (λ off. more_than_one s.count count_some off))

-- a reference is given back
pub same_back : (n : Machine) (m : Words) (p : Plain) (g : ℕ) (s : Share) → Describes n m p → g < n.frames → p.shares g ≡ Some s → Describes n (put g m) (reference_back g p)
same_back n m p g s d inside is =
    subst (λ o. Describes n (put g m) (record { shares = at g (fewer o) p.shares; kinds = p.kinds; cells = p.cells })) (sym is) (put_described n m p g s d (sym (d.shares g inside) ∙ is))
