-- Both numbers taken off one after the other, or at once.
use Rattle.std.proofs.Common.{◌≡◌, ℕ, ◌+◌, ◌-◌, arith}

pub pending_left : (n done refused : ℕ) → n - refused - done ≡ n - (done + refused)
pending_left n done refused = omega arith
