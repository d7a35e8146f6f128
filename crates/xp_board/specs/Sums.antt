-- Sums over frames, entries and vCPUs.
use Rattle.std.specs.Prelude.{ℕ, zero, suc, ◌+◌}

-- the sum of what c gives at each number below n
unfoldable pub sum_below : ℕ → (ℕ → ℕ) → ℕ
sum_below zero c = 0
sum_below (suc n) c = sum_below n c + c n
