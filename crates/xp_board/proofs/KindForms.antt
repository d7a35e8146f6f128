-- What a kind word of each form says, and what it says after a sum.
use Rattle.std.proofs.Common.{Option, None, IsTrue, ap, ◌∙◌, inl, inr, ◌≡◌, ℕ, ◌+◌, ◌-◌, ◌/◌, ◌%◌, ◌^◌, ◌<◌, ◌==◌, ◌&&◌, ◌||◌, not, if◌then◌else◌, Bool, true, false, Some, refl, arith, ◌≤◌}
use Rattle.std.proofs.lemmas.Bool.{cases_Bool}
use Rattle.xp_words.proofs.KindLaws.{when_some, kind_write-read}
use Rattle.xp_words.specs.Machine.{Machine}
use Rattle.xp_words.specs.declared.place.Place.{Place}
use Rattle.xp_words.specs.declared.place.Place.TheVariants.{Kind}
use Rattle.xp_words.specs.Places.{sizes_of, is_place}
use Rattle.xp_board.specs.Readings.{kind_at}
use Rattle.xp_board.specs.Spelling.{IsSpelling, is_kind_in}
use Rattle.xp_board.specs.Sound.{Spelled}
use Rattle.std.proofs.lemmas.Bool.Decides.{nat_tests}
use Rattle.xp_words.specs.declared.kind.KindWord.{KindWord}
use Rattle.xp_words.specs.PageTypes.{is_none, is_table, type_number}
use Rattle.xp_words.specs.declared.kind.PageType.{PageType}
use Rattle.xp_words.specs.KindWords.{kind_read, kind_fields, has_form, is_partial_form}
use Rattle.xp_board.specs.RefSteps.{one_down}
use Rattle.xp_board.specs.KindSteps.{unlocked_down}

-- ---- the four forms
pub form_read : (w : ℕ) (k : KindWord) → kind_read w ≡ Some k → has_form k ≡ true
form_read w k e = let a = (kind_write-read w k e).0 in grind (arith, nat_tests)

-- a word that is a spelling has these fields
pub fields_of : (w : ℕ) (k : KindWord) → kind_read w ≡ Some k → kind_fields w ≡ k
unfolding kind_read
fields_of w k e = grind arith

-- a word that is spelled as one of the machine has a form
form_in : (n : Machine) (w : ℕ) (o : Option KindWord) → kind_read w ≡ o → IsTrue (is_kind_in n o) → has_form (kind_fields w) ≡ true
unfolding kind_read
form_in n w None e b = absurd (cc)
form_in n w (Some k) e b = let t = when_some _ _ _ e in grind (arith, t, nat_tests)

pub spelled_form : (n : Machine) (w : ℕ) → IsTrue (is_kind_in n (kind_read w)) → has_form (kind_fields w) ≡ true
spelled_form n w t = form_in n w (kind_read w) refl t

-- a marked word is not live
pub form_unlive : (k : KindWord) → has_form k ≡ true → k.unflushed ≡ true → k.validated ≡ false
unfolding has_form
form_unlive k f u = grind arith

pub zero_dead : (kind_fields 0).validated ≡ false
unfolding kind_fields
zero_dead = refl

zero_plain : (kind_fields 0).unflushed ≡ false
unfolding kind_fields
zero_plain = refl

pub marked_form : (n : Machine) (m : Place → ℕ) (g : ℕ) → Spelled n m → (kind_at m g).unflushed ≡ true → has_form (kind_at m g) ≡ true
unfolding IsSpelling
marked_form n m g spelled marked =
    elim (cases_Bool (is_place (sizes_of n) (Kind g))) [
      | inl there ↦ spelled_form n (m (Kind g)) (spelled.spelled (Kind g) there)
      | inr out ↦ absurd (let plain : (kind_at m g).unflushed ≡ false = ap (λ w. (kind_fields w).unflushed) (spelled.outside (Kind g) out) ∙ zero_plain in cc)
    ]

pub marked_unlive : (n : Machine) (m : Place → ℕ) (g : ℕ) → Spelled n m → (kind_at m g).unflushed ≡ true → (kind_at m g).validated ≡ false
marked_unlive n m g spelled marked = form_unlive (kind_at m g) (marked_form n m g spelled marked) marked

pub live_unmarked : (n : Machine) (m : Place → ℕ) (g : ℕ) → Spelled n m → (kind_at m g).validated ≡ true → (kind_at m g).unflushed ≡ false
live_unmarked n m g spelled live =
    elim (cases_Bool (kind_at m g).unflushed) [
      | inl marked ↦ absurd (let dead = marked_unlive n m g spelled marked in cc)
      | inr plain ↦ plain
    ]

pub record LiveForm (k : KindWord) : Type 0 where
  pub whole : k.partial ≡ false
  pub unkept : k.kept ≡ false
  pub flushed : k.unflushed ≡ false
  pub progress : k.progress ≡ 0
  pub typed : is_none k.kind ≡ false
  pub number : k.number < 2 ^ 26
  pub pinned : k.pinned ≡ true → (is_table k.kind ≡ true) × (0 < k.number)
  pub locked : k.locked ≡ true → (is_table k.kind ≡ true) × (0 < k.number)

pub live_form : (w : ℕ) (k : KindWord) → kind_read w ≡ Some k → k.validated ≡ true → LiveForm k
unfolding has_form
live_form w k e v =
    let f = form_read w k e in
    record {
      whole = grind (arith, nat_tests);
      unkept = grind (arith, nat_tests);
      flushed = grind (arith, nat_tests);
      progress = grind (arith, nat_tests);
      typed = grind (arith, nat_tests);
      number = grind (arith, nat_tests);
      pinned = λ p. grind (arith, nat_tests);
      locked = λ p. grind (arith, nat_tests);
    }

pub record PartialForm (k : KindWord) : Type 0 where
  pub unlocked : k.locked ≡ false
  pub unpinned : k.pinned ≡ false
  pub typed : is_none k.kind ≡ false
  pub progress : k.progress < 513
  pub number : k.unflushed ≡ false → k.number ≡ 0
  pub marked : k.unflushed ≡ true → k.progress ≡ 0
  pub page : is_table k.kind ≡ false → (k.progress ≡ 0) × (k.unflushed ≡ true)

chain : (a b c d e f g : Bool) → (not a && not b && not c && d && e && f && g) ≡ true → f ≡ true
chain a b c d e true g h = refl
chain a b c d e false g h = grind arith

page_by : (u t : Bool) (p : ℕ) → (if u || not t then (p == 0) && u else true) ≡ true → t ≡ false → (p ≡ 0) × (u ≡ true)
page_by u t p h q = grind (arith, nat_tests)

partial_page : (k : KindWord) → is_partial_form k ≡ true → is_table k.kind ≡ false → (k.progress ≡ 0) × (k.unflushed ≡ true)
partial_page k h q = page_by k.unflushed (is_table k.kind) k.progress (chain k.locked k.pinned (is_none k.kind) _ _ _ _ h) q

partial_by : (k : KindWord) → has_form k ≡ true → k.validated ≡ false → k.partial ≡ true → is_partial_form k ≡ true
unfolding has_form
partial_by k h v p = rw (v, p) at h

pub partial_form : (w : ℕ) (k : KindWord) → kind_read w ≡ Some k → k.validated ≡ false → k.partial ≡ true → PartialForm k
unfolding has_form
partial_form w k e v p =
    let f = form_read w k e in
    record {
      unlocked = grind (arith, nat_tests);
      unpinned = grind (arith, nat_tests);
      typed = grind (arith, nat_tests);
      progress = grind (arith, nat_tests);
      number = λ u. grind (arith, nat_tests);
      marked = λ u. grind (arith, nat_tests);
      page = partial_page k (partial_by k f v p);
    }

pub record WorkForm (k : KindWord) : Type 0 where
  pub unkept : k.kept ≡ false
  pub unpinned : k.pinned ≡ false
  pub progress : k.progress ≡ 0
  pub typed : is_none k.kind ≡ false
  pub number : k.unflushed ≡ false → k.number ≡ 0

pub work_form : (w : ℕ) (k : KindWord) → kind_read w ≡ Some k → k.validated ≡ false → k.partial ≡ false → k.locked ≡ true → WorkForm k
unfolding has_form
work_form w k e v p l =
    let f = form_read w k e in
    record {
      unkept = grind (arith, nat_tests);
      unpinned = grind (arith, nat_tests);
      progress = grind (arith, nat_tests);
      typed = grind (arith, nat_tests);
      number = λ u. grind (arith, nat_tests);
    }

pub record DeadForm (k : KindWord) : Type 0 where
  pub unkept : k.kept ≡ false
  pub unpinned : k.pinned ≡ false
  pub progress : k.progress ≡ 0
  pub marked : k.unflushed ≡ true → is_none k.kind ≡ false

pub dead_form : (w : ℕ) (k : KindWord) → kind_read w ≡ Some k → k.validated ≡ false → k.partial ≡ false → k.locked ≡ false → DeadForm k
unfolding has_form
dead_form w k e v p l =
    let f = form_read w k e in
    record {
      unkept = grind (arith, nat_tests);
      unpinned = grind (arith, nat_tests);
      progress = grind (arith, nat_tests);
      marked = λ u. grind (arith, nat_tests);
    }

-- ---- sums
-- one down, where the number is above 0
pub fields_down : (w : ℕ) → w < 2 ^ 64 → 0 < (kind_fields w).number →
    kind_fields ((w + one_down) % 2 ^ 64) ≡ record (kind_fields w) { number = (kind_fields w).number - 1 }
unfolding kind_fields
fields_down w small some =
    let a : (w + one_down) % 2 ^ 64 / 2 ^ 52 ≡ w / 2 ^ 52 = omega arith in
    let b : (w + one_down) % 2 ^ 64 / 2 ^ 51 % 2 ≡ w / 2 ^ 51 % 2 = omega arith in
    let c : (w + one_down) % 2 ^ 64 / 2 ^ 50 % 2 ≡ w / 2 ^ 50 % 2 = omega arith in
    let d : (w + one_down) % 2 ^ 64 / 2 ^ 49 % 2 ≡ w / 2 ^ 49 % 2 = omega arith in
    let e : (w + one_down) % 2 ^ 64 / 2 ^ 48 % 2 ≡ w / 2 ^ 48 % 2 = omega arith in
    let f : (w + one_down) % 2 ^ 64 / 2 ^ 47 % 2 ≡ w / 2 ^ 47 % 2 = omega arith in
    let g : (w + one_down) % 2 ^ 64 / 2 ^ 46 % 2 ≡ w / 2 ^ 46 % 2 = omega arith in
    let h : (w + one_down) % 2 ^ 64 / 2 ^ 36 % 2 ^ 10 ≡ w / 2 ^ 36 % 2 ^ 10 = omega arith in
    let i : (w + one_down) % 2 ^ 64 % 2 ^ 36 ≡ w % 2 ^ 36 - 1 = omega arith in
    rw (a, b, c, d, e, f, g, h, i) refl

bit_set : (n : ℕ) → (n % 2 == 1) ≡ true → n % 2 ≡ 1
bit_set n h = grind (arith, nat_tests)

-- and the lock off, where it is set
pub fields_unlocked : (w : ℕ) → w < 2 ^ 64 → 0 < (kind_fields w).number → (kind_fields w).locked ≡ true →
    kind_fields ((w + unlocked_down) % 2 ^ 64) ≡ record (kind_fields w) { number = (kind_fields w).number - 1; locked = false }
unfolding kind_fields
fields_unlocked w small some set =
    let l : w / 2 ^ 48 % 2 ≡ 1 = bit_set (w / 2 ^ 48) set in
    let a : (w + unlocked_down) % 2 ^ 64 / 2 ^ 52 ≡ w / 2 ^ 52 = omega arith in
    let b : (w + unlocked_down) % 2 ^ 64 / 2 ^ 51 % 2 ≡ w / 2 ^ 51 % 2 = omega arith in
    let c : (w + unlocked_down) % 2 ^ 64 / 2 ^ 50 % 2 ≡ w / 2 ^ 50 % 2 = omega arith in
    let d : (w + unlocked_down) % 2 ^ 64 / 2 ^ 49 % 2 ≡ w / 2 ^ 49 % 2 = omega arith in
    let e : (w + unlocked_down) % 2 ^ 64 / 2 ^ 48 % 2 ≡ 0 = omega arith in
    let f : (w + unlocked_down) % 2 ^ 64 / 2 ^ 47 % 2 ≡ w / 2 ^ 47 % 2 = omega arith in
    let g : (w + unlocked_down) % 2 ^ 64 / 2 ^ 46 % 2 ≡ w / 2 ^ 46 % 2 = omega arith in
    let h : (w + unlocked_down) % 2 ^ 64 / 2 ^ 36 % 2 ^ 10 ≡ w / 2 ^ 36 % 2 ^ 10 = omega arith in
    let i : (w + unlocked_down) % 2 ^ 64 % 2 ^ 36 ≡ w % 2 ^ 36 - 1 = omega arith in
    rw (a, b, c, d, e, f, g, h, i) refl

-- ---- tables
pub table_levels : (t : PageType) → is_table t ≡ true → (1 ≤ type_number t) × (type_number t ≤ 4)
table_levels t table = (grind (arith, nat_tests), grind (arith, nat_tests))

-- ---- places
pub frame_inside : (n : Machine) (g : ℕ) → IsTrue (is_place (sizes_of n) (Kind g)) → g < n.frames
unfolding is_place
frame_inside n g is = grind (arith, nat_tests)
