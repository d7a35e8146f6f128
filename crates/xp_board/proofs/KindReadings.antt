-- What the readings of a kind word say, by its form.
use Rattle.std.proofs.Common.{◌≡◌, ℕ, ◌≤◌, ◌||◌, ◌⊎◌, if◌then◌else◌, Bool, true, false, IsTrue, refl, arith, inl, inr, not}
use Rattle.std.proofs.lemmas.Bool.{or_cases, and_parts}
use Rattle.std.proofs.lemmas.Bool.Decides.{nat_tests}
use Rattle.xp_words.specs.declared.kind.KindWord.{KindWord}
use Rattle.xp_words.specs.KindWords.{kind_fields}
use Rattle.xp_board.specs.KindSteps.{resumed_kind}
use Rattle.xp_board.specs.Readings.{is_partial, is_work, is_dead, is_closing, type_count, kind_stamp}
use Rattle.xp_board.specs.Sound.{is_busy}

-- ---- a form is no other one
pub work_alone : (k : KindWord) → IsTrue (is_work k) → is_closing k ≡ false
work_alone k work = grind (arith, nat_tests)

pub closing_alone : (k : KindWord) → IsTrue (is_closing k) → is_work k ≡ false
closing_alone k closing = grind (arith, nat_tests)

pub resumed_in_work : (k : KindWord) → IsTrue (is_partial k) → IsTrue (is_work (resumed_kind k))
resumed_in_work k partial = grind arith

pub work_unlive : (k : KindWord) → IsTrue (is_work k) → k.validated ≡ false
work_unlive k work = grind (arith, nat_tests)

pub partial_unlive : (k : KindWord) → IsTrue (is_partial k) → k.validated ≡ false
partial_unlive k partial = grind (arith, nat_tests)

pub partial_parts : (k : KindWord) → IsTrue (is_partial k) → (k.validated ≡ false) × (k.partial ≡ true)
partial_parts k partial = let a = and_parts (not k.validated) k.partial partial in (partial_unlive k partial, a.1)

pub dead_unlive : (k : KindWord) → IsTrue (is_dead k) → k.validated ≡ false
dead_unlive k dead = grind (arith, nat_tests)

-- ---- in one vCPU's hand alone: in work, or closing
pub busy_forms : (k : KindWord) → is_busy k ≡ true → IsTrue (is_work k) ⊎ IsTrue (is_closing k)
busy_forms k e = or_cases _ _ e

pub partial_idle : (k : KindWord) → IsTrue (is_partial k) → is_busy k ≡ false
partial_idle k p = grind arith

pub dead_idle : (k : KindWord) → IsTrue (is_dead k) → is_busy k ≡ false
dead_idle k p = grind arith

pub busy_closed : (k : KindWord) → is_busy k ≡ true → k.validated ≡ true → type_count k ≡ 0
unfolding type_count
busy_closed k h v = grind (arith, nat_tests)

pub busy_working : (k : KindWord) → is_busy k ≡ true → IsTrue (is_partial k || is_work k) → is_work k ≡ true
busy_working k h v = grind (arith, nat_tests)

pub busy_partial : (k : KindWord) → is_busy k ≡ true → IsTrue (is_partial k) → ⊥
busy_partial k h p = let e = partial_idle k p in cc

-- ---- type counts
pub live_count : (k : KindWord) → k.validated ≡ true → type_count k ≡ k.number
unfolding type_count
live_count k v = rw v refl

pub dead_count : (k : KindWord) → IsTrue (is_dead k) → type_count k ≡ 0
unfolding type_count
dead_count k dead = grind arith

pub work_count : (k : KindWord) → is_work k ≡ true → type_count k ≡ 1
unfolding type_count
work_count k work = grind arith

pub closing_count : (k : KindWord) → IsTrue (is_closing k) → type_count k ≡ 0
unfolding type_count
closing_count k closing = grind (arith, nat_tests)

pub busy_cases : (k : KindWord) → is_busy k ≡ true → (IsTrue (is_work k) × (type_count k ≡ 1)) ⊎ (IsTrue (is_closing k) × (type_count k ≡ 0))
busy_cases k e =
    elim (busy_forms k e) [
      | inl work ↦ inl (work, work_count k work)
      | inr closing ↦ inr (closing, closing_count k closing)
    ]

-- ---- stamps
pub stamp_live : (w : ℕ) (k : KindWord) → kind_fields w ≡ k → k.validated ≡ true → kind_stamp w ≡ 0
unfolding kind_stamp
stamp_live w k e v = rw (e, v) refl

pub stamp_of : (w : ℕ) (k : KindWord) → kind_fields w ≡ k → k.validated ≡ false → kind_stamp w ≡ k.number
unfolding kind_stamp
stamp_of w k e v = rw (e, v) refl

stamp_by : (t : Bool) (x : ℕ) → (if t then 0 else x) ≤ x
stamp_by true x = omega arith
stamp_by false x = omega arith

pub stamp_number : (w : ℕ) (k : KindWord) → kind_fields w ≡ k → kind_stamp w ≤ k.number
unfolding kind_stamp
stamp_number w k e = rw e (stamp_by k.validated k.number)
