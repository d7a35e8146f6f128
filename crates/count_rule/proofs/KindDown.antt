-- A kind word one count down, and its lock off.
use Rattle.std.proofs.Common.{◌≡◌, ℕ, ◌+◌, ◌-◌, ◌%◌, ◌^◌, ◌/◌, ◌<◌, ◌≤◌, true, false, Some, refl, arith, IsTrue}
use Rattle.std.proofs.lemmas.Bool.Decides.{nat_tests}
use Rattle.xp_words.specs.declared.kind.KindWord.{KindWord}
use Rattle.xp_words.specs.KindWords.{kind_read, kind_fields, has_form, has_type}
use Rattle.xp_board.specs.Readings.{is_live}
use Rattle.xp_board.specs.KindSteps.{unlocked_down}
use Rattle.xp_board.specs.RefSteps.{one_down}

-- ---- what the sums leave
pub down_type : (w : ℕ) → w < 2 ^ 64 → 0 < (kind_fields w).number → has_type ((w + one_down) % 2 ^ 64) ≡ has_type w
unfolding kind_fields
down_type w small some = let j : (w + one_down) % 2 ^ 64 / 2 ^ 52 ≡ w / 2 ^ 52 = omega arith in rw j refl

pub unlock_type : (w : ℕ) → w < 2 ^ 64 → 0 < (kind_fields w).number → (kind_fields w).locked ≡ true → has_type ((w + unlocked_down) % 2 ^ 64) ≡ has_type w
unfolding kind_fields
unlock_type w small some on =
    let o : w / 2 ^ 48 % 2 ≡ 1 = grind (arith, nat_tests) in
    let j : (w + unlocked_down) % 2 ^ 64 / 2 ^ 52 ≡ w / 2 ^ 52 = omega arith in
    rw j refl

pub read_made : (w : ℕ) → has_type w ≡ true → has_form (kind_fields w) ≡ true → kind_read w ≡ Some (kind_fields w)
unfolding kind_read
read_made w t f = rw (t, f) refl

pub read_type : (w : ℕ) (k : KindWord) → kind_read w ≡ Some k → has_type w ≡ true
unfolding kind_read
read_type w k e = grind (arith, nat_tests)

-- ---- their forms
pub dropped_form : (k : KindWord) → has_form k ≡ true → IsTrue (is_live k) → 0 < k.number → (k.pinned ≡ true → 2 ≤ k.number) → (k.locked ≡ true → 2 ≤ k.number) →
    has_form (record k { number = k.number - 1 }) ≡ true
unfolding has_form
dropped_form k form live some pinned locked = grind (arith, nat_tests)

pub unlocked_form : (k : KindWord) → has_form k ≡ true → IsTrue (is_live k) → 0 < k.number → (k.pinned ≡ true → 2 ≤ k.number) →
    has_form (record k { locked = false; number = k.number - 1 }) ≡ true
unfolding has_form
unlocked_form k form live some pinned = grind (arith, nat_tests)
