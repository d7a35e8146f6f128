-- Reference words: what they say, and one up and one down.
use Rattle.std.proofs.Common.{◌≡◌, ℕ, zero, suc, ◌+◌, ◌-◌, ◌%◌, ◌^◌, ◌<◌, ◌≤◌, Bool, true, false, length, Option, Some, None, IsTrue, refl, ◌∙◌, arith, nat_lt, nat_le, inl, inr}
use Rattle.std.proofs.lemmas.Bool.Decides.{nat_tests}
use Rattle.xp_words.specs.declared.refs.RefWord.{RefWord}
use Rattle.xp_words.specs.declared.refs.RefWord.TheVariants.{Free, Owned, Dying}
use Rattle.xp_words.specs.RefWords.{ref_read, ref_write, IsRef, bit}
use Rattle.xp_words.specs.Machine.{Machine}
use Rattle.xp_words.proofs.RefLaws.{ref_read-write, ref_write-read}
use Rattle.xp_board.specs.RefSteps.{one_down}
use Rattle.xp_board.specs.Readings.{ref_count, allocated_mark, owner_of, is_free, free_stamp, is_dying, owner_in}
use Rattle.xp_board.specs.Spelling.{is_ref_in, IsSpelling}
use Rattle.std.proofs.lemmas.Bool.{cases_Bool, and_parts}
use Rattle.xp_words.specs.declared.place.Place.{Place}
use Rattle.xp_words.specs.declared.place.Place.TheVariants.{Refs}
use Rattle.xp_words.specs.Places.{sizes_of, is_place}
use Rattle.xp_board.specs.declared.holdings.Holdings.{Holdings}
use Rattle.xp_board.specs.Sound.{Sound}

-- a word that is owned
pub record SaysOwned (w owner : ℕ) (allocated : Bool) (count : ℕ) : Type 0 where
  pub counts : ref_count w ≡ count
  pub mark : allocated_mark w ≡ bit allocated
  pub owned : owner_of w ≡ Some owner
  pub free : is_free w ≡ false
  pub stamp : free_stamp w ≡ 0
  pub dying : is_dying w ≡ false

pub owned_says : (w o : ℕ) (a : Bool) (c : ℕ) → ref_read w ≡ Some (Owned o a c) → SaysOwned w o a c
unfolding ref_count allocated_mark owner_of is_free free_stamp is_dying
owned_says w o a c e = record { counts = rw e refl; mark = rw e refl; owned = rw e refl; free = rw e refl; stamp = rw e refl; dying = rw e refl }

-- a word that is dying
pub record SaysDying (w owner : ℕ) : Type 0 where
  pub counts : ref_count w ≡ 0
  pub mark : allocated_mark w ≡ 0
  pub owned : owner_of w ≡ Some owner
  pub free : is_free w ≡ false
  pub stamp : free_stamp w ≡ 0
  pub dying : is_dying w ≡ true

pub dying_says : (w o : ℕ) → ref_read w ≡ Some (Dying o) → SaysDying w o
unfolding ref_count allocated_mark owner_of is_free free_stamp is_dying
dying_says w o e = record { counts = rw e refl; mark = rw e refl; owned = rw e refl; free = rw e refl; stamp = rw e refl; dying = rw e refl }

-- ---- one down
one_less : (w : ℕ) → w < 2 ^ 64 → 0 < w → (w + one_down) % 2 ^ 64 ≡ w - 1
one_less w b n = omega arith

lower_more : (w o c : ℕ) (a : Bool) → w < 2 ^ 64 → ref_read w ≡ Some (Owned o a (suc (suc c))) → ref_read ((w + one_down) % 2 ^ 64) ≡ Some (Owned o a (suc c))
unfolding IsRef ref_write
lower_more w o c a b e =
    let r = ref_write-read w (Owned o a (suc (suc c))) b e in
    let n : (w + one_down) % 2 ^ 64 ≡ ref_write (Owned o a (suc c)) = one_less w b (omega arith) ∙ (let k = r.1 in omega arith) in
    rw n (ref_read-write (Owned o a (suc c)) (let k = r.0 in (omega arith, omega arith, omega arith)))

lower_last : (w o : ℕ) → w < 2 ^ 64 → ref_read w ≡ Some (Owned o false 1) → ref_read ((w + one_down) % 2 ^ 64) ≡ Some (Dying o)
unfolding IsRef ref_write
lower_last w o b e =
    let r = ref_write-read w (Owned o false 1) b e in
    let n : (w + one_down) % 2 ^ 64 ≡ ref_write (Dying o) = one_less w b (omega arith) ∙ (let k = r.1 in omega arith) in
    rw n (ref_read-write (Dying o) (let k = r.0 in omega arith))

-- what one down leaves of a word that counts more than its mark: one reference less, or none
pub data OneLess (w v : ℕ) : Type 0 where
  more : (o c : ℕ) (a : Bool) → ref_read w ≡ Some (Owned o a (suc (suc c))) → ref_read v ≡ Some (Owned o a (suc c)) → OneLess w v
  last : (o : ℕ) → ref_read w ≡ Some (Owned o false 1) → ref_read v ≡ Some (Dying o) → OneLess w v

pub one_down_leaves : (w : ℕ) (r : Option RefWord) → w < 2 ^ 64 → ref_read w ≡ r → allocated_mark w < ref_count w → OneLess w ((w + one_down) % 2 ^ 64)
unfolding ref_count allocated_mark
one_down_leaves w (Some (Owned o a zero)) b e k = let n : ref_count w ≡ 0 = rw e in absurd (omega arith)
one_down_leaves w (Some (Owned o true (suc zero))) b e k = let n : ref_count w ≡ 1 = rw e in let p : allocated_mark w ≡ 1 = rw e in absurd (omega arith)
one_down_leaves w (Some (Owned o false (suc zero))) b e k = last o e (lower_last w o b e)
one_down_leaves w (Some (Owned o a (suc (suc c)))) b e k = more o c a e (lower_more w o c a b e)
one_down_leaves w (Some (Free stamp)) b e k = let n : ref_count w ≡ 0 = rw e in absurd (omega arith)
one_down_leaves w (Some (Dying o)) b e k = let n : ref_count w ≡ 0 = rw e in absurd (omega arith)
one_down_leaves w None b e k = let n : ref_count w ≡ 0 = rw e in absurd (omega arith)

-- ---- spellings
pub owned_fits : (n : Machine) (o c : ℕ) (a : Bool) → IsTrue (is_ref_in n (Some (Owned o a c))) → (o < length n.page_limit) × (c ≤ n.limit)
owned_fits n o c a h = grind (arith, nat_tests)

pub fits_owned : (n : Machine) (o c : ℕ) (a : Bool) → o < length n.page_limit → c ≤ n.limit → IsTrue (is_ref_in n (Some (Owned o a c)))
fits_owned n o c a h k = grind (arith, nat_tests)

pub fits_dying : (n : Machine) (o : ℕ) → o < length n.page_limit → IsTrue (is_ref_in n (Some (Dying o)))
fits_dying n o h = grind (arith, nat_tests)

pub read_small : (w : ℕ) (r : RefWord) → ref_read w ≡ Some r → w < 2 ^ 64
unfolding ref_read
read_small w r e = grind (arith, nat_tests)

-- a free word
pub record SaysFree (w value : ℕ) : Type 0 where
  pub counts : ref_count w ≡ 0
  pub mark : allocated_mark w ≡ 0
  pub owned : owner_of w ≡ None
  pub free : is_free w ≡ true
  pub stamp : free_stamp w ≡ value
  pub dying : is_dying w ≡ false

pub free_says : (w stamp : ℕ) → ref_read w ≡ Some (Free stamp) → SaysFree w stamp
unfolding ref_count allocated_mark owner_of is_free free_stamp is_dying
free_says w stamp e = record { counts = rw e refl; mark = rw e refl; owned = rw e refl; free = rw e refl; stamp = rw e refl; dying = rw e refl }

-- a dying word is read as one
dying_read : (w : ℕ) (r : Option RefWord) → ref_read w ≡ r → is_dying w ≡ true → (o : ℕ) × (ref_read w ≡ Some (Dying o))
unfolding is_dying
dying_read w (Some (Dying o)) e d = (o, e)
dying_read w (Some (Owned o a c)) e d = let n : is_dying w ≡ false = rw e refl in absurd (cc)
dying_read w (Some (Free stamp)) e d = let n : is_dying w ≡ false = rw e refl in absurd (cc)
dying_read w None e d = let n : is_dying w ≡ false = rw e refl in absurd (cc)

pub is_dying-read : (w : ℕ) → is_dying w ≡ true → (o : ℕ) × (ref_read w ≡ Some (Dying o))
is_dying-read w d = dying_read w (ref_read w) refl d

-- and of the owner that it was written with
pub dying_owner : (w o d : ℕ) → w < 2 ^ 64 → ref_read w ≡ Some (Dying o) → w ≡ ref_write (Dying d) → o ≡ d
unfolding ref_write
dying_owner w o d b e k = let r = (ref_write-read w (Dying o) b e).1 in omega arith

-- ---- owners have small numbers
owner_in_few : (r : Option RefWord) (n : Machine) (o : ℕ) → IsTrue (is_ref_in n r) → owner_in r ≡ Some o → o < length n.page_limit
owner_in_few None n o k e = absurd (cc)
owner_in_few (Some (Free t)) n o k e = absurd (cc)
owner_in_few (Some (Owned p a c)) n o k e = let q : p ≡ o = cc in let t = (and_parts (nat_lt p (length n.page_limit)) (nat_le c n.limit) k).0 in grind (arith, nat_tests)
owner_in_few (Some (Dying p)) n o k e = let q : p ≡ o = cc in grind (arith, nat_tests)

pub zero_unowned : (o : ℕ) → owner_of 0 ≡ Some o → ⊥
unfolding owner_of ref_read
zero_unowned o e = cc

pub owner_few : (n : Machine) (m : Place → ℕ) (b : ℕ → Holdings) (f o : ℕ) → Sound n m b → owner_of (m (Refs f)) ≡ Some o → o < 16
unfolding owner_of IsSpelling
owner_few n m b f o sound e =
    elim (cases_Bool (is_place (sizes_of n) (Refs f))) [
      | inl there ↦ (let k = owner_in_few (ref_read (m (Refs f))) n o (sound.spelled.spelled (Refs f) there) e in let few = sound.machine.few_domains in omega arith)
      | inr out ↦ absurd (let z : m (Refs f) ≡ 0 = sound.spelled.outside (Refs f) out in zero_unowned o (rw z at e))
    ]
