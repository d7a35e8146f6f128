-- What is done, or asked, for each number below another.
use Rattle.std.specs.Prelude.{ℕ, zero, suc, ◌+◌, ◌&&◌, if◌then◌else◌, Bool, true, Option, Some, None}

-- for 0 first, and so on
unfoldable pub each_below : {A : Type 0} → ℕ → (ℕ → A → A) → A → A
each_below zero one a = a
each_below (suc k) one a = one k (each_below k one a)

unfoldable pub all_below : ℕ → (ℕ → Bool) → Bool
all_below zero test = true
all_below (suc k) test = all_below k test && test k

-- the first of the k numbers from that one on that passes the test
unfoldable pub first_of : ℕ → ℕ → (ℕ → Bool) → Option ℕ
first_of zero at test = None
first_of (suc k) at test = if test at then Some at else first_of k (at + 1) test
