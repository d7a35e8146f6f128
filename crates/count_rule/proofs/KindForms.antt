-- What a kind word says, by its form.
use Rattle.std.proofs.Common.{◌≡◌, ℕ, ◌<◌, ◌==◌, true, false, refl, arith, IsTrue, Bool, if◌then◌else◌}
use Rattle.std.proofs.lemmas.Bool.{and_parts}
use Rattle.std.proofs.lemmas.Bool.Decides.{nat_tests}
use Rattle.xp_words.specs.declared.kind.KindWord.{KindWord}
use Rattle.xp_words.specs.KindWords.{has_form}
use Rattle.xp_words.specs.RefWords.{bit}
use Rattle.xp_board.specs.Readings.{type_count, is_live, is_partial, is_work, is_dead, is_closing, is_locked}
use Rattle.xp_board.specs.Recorded.{marks}
use Rattle.xp_board.specs.Sound.{is_busy}

-- its type count, its marks, and whether the frame is in one hand alone
pub record Says (k : KindWord) (count mark busy lock : ℕ) : Type 0 where
  pub counts : type_count k ≡ count
  pub mark_is : marks k ≡ mark
  pub busy_is : bit (is_busy k) ≡ busy
  pub lock_is : bit (is_locked k) ≡ lock

pub live_says : (k : KindWord) → has_form k ≡ true → IsTrue (is_live k) → 0 < k.number → Says k k.number (bit k.pinned) 0 (bit k.locked)
unfolding has_form type_count marks
live_says k form live some =
    let kept : k.kept ≡ false = grind (arith, nat_tests) in
    let off : (k.number == 0) ≡ false = grind (arith, nat_tests) in
    record { counts = rw live refl; mark_is = rw kept (omega arith); busy_is = rw (live, off) refl; lock_is = rw live refl }

pub closing_says : (k : KindWord) → has_form k ≡ true → IsTrue (is_closing k) → Says k 0 0 1 0
unfolding has_form type_count marks
closing_says k form closing =
    let p = and_parts _ _ closing in
    let live : k.validated ≡ true = p.0 in
    let none : k.number ≡ 0 = grind (arith, nat_tests) in
    let kept : k.kept ≡ false = grind (arith, nat_tests) in
    let pinned : k.pinned ≡ false = grind (arith, nat_tests) in
    let locked : k.locked ≡ false = grind (arith, nat_tests) in
    record { counts = rw live none; mark_is = rw (kept, pinned) refl; busy_is = rw (live, none) refl; lock_is = rw (live, locked) refl }

pub partial_says : (k : KindWord) → has_form k ≡ true → IsTrue (is_partial k) → Says k 1 (bit k.kept) 0 0
unfolding has_form type_count marks
partial_says k form partial =
    let live : k.validated ≡ false = grind (arith, nat_tests) in
    let part : k.partial ≡ true = grind (arith, nat_tests) in
    let pinned : k.pinned ≡ false = grind (arith, nat_tests) in
    record { counts = rw (live, part) refl; mark_is = rw pinned (omega arith); busy_is = rw (live, part) refl; lock_is = rw live refl }

pub work_says : (k : KindWord) → has_form k ≡ true → IsTrue (is_work k) → Says k 1 0 1 0
unfolding has_form type_count marks
work_says k form work =
    let live : k.validated ≡ false = grind (arith, nat_tests) in
    let part : k.partial ≡ false = grind (arith, nat_tests) in
    let locked : k.locked ≡ true = grind (arith, nat_tests) in
    let pinned : k.pinned ≡ false = grind (arith, nat_tests) in
    let kept : k.kept ≡ false = grind (arith, nat_tests) in
    record { counts = rw (live, part, locked) refl; mark_is = rw (kept, pinned) refl; busy_is = rw (live, part, locked) refl; lock_is = rw live refl }

pub dead_says : (k : KindWord) → has_form k ≡ true → IsTrue (is_dead k) → Says k 0 0 0 0
unfolding has_form type_count marks
dead_says k form dead =
    let live : k.validated ≡ false = grind (arith, nat_tests) in
    let part : k.partial ≡ false = grind (arith, nat_tests) in
    let locked : k.locked ≡ false = grind (arith, nat_tests) in
    let pinned : k.pinned ≡ false = grind (arith, nat_tests) in
    let kept : k.kept ≡ false = grind (arith, nat_tests) in
    record { counts = rw (live, part, locked) refl; mark_is = rw (kept, pinned) refl; busy_is = rw (live, part, locked) refl; lock_is = rw live refl }

-- ---- what else a form rules out
pub closing_flushed : (k : KindWord) → has_form k ≡ true → IsTrue (is_closing k) → k.unflushed ≡ false
unfolding has_form
closing_flushed k form closing = grind (arith, nat_tests)

-- the number of an unmarked partial word is no stamp
pub partial_number : (k : KindWord) → has_form k ≡ true → IsTrue (is_partial k) → k.unflushed ≡ false → k.number ≡ 0
unfolding has_form
partial_number k form partial flushed = grind (arith, nat_tests)

pub same_if : (t : Bool) (x y : ℕ) → (t ≡ true → x ≡ y) → (if t then x else 0) ≡ (if t then y else 0)
same_if true x y e = e refl
same_if false x y e = refl
