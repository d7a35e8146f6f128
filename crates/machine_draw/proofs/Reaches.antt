-- Where a run ends.
use Rattle.std.proofs.Common.{◌≡◌, ℕ, zero, suc, ◌+◌, ◌-◌, ◌<◌, ◌≤◌, Bool, true, false, refl, arith, add-zero}
use Rattle.std.specs.List.{prefix_len, range_with_len}
use Rattle.machine_draw.specs.Runs.{run_end}

-- a run of at most k more numbers
reach : (p : ℕ → Bool) (i k : ℕ) → p i ≡ true → i + prefix_len p (range_with_len i (suc k)) ≡ (i + 1) + prefix_len p (range_with_len (i + 1) k)
reach p i k passing = rw passing (omega arith)

stop : (p : ℕ → Bool) (i k : ℕ) → p i ≡ false → prefix_len p (range_with_len i k) ≡ 0
stop p i zero failing = refl
stop p i (suc k) failing = rw failing refl

-- it goes on behind a number that passes
pub run_more : (p : ℕ → Bool) (i n : ℕ) → i < n → p i ≡ true → run_end p i n ≡ run_end p (i + 1) n
unfolding run_end
run_more p i n low passing =
    let left : n - i ≡ suc (n - (i + 1)) = omega arith in
    rw left (reach p i (n - (i + 1)) passing)

-- it ends where a number does not pass
pub run_stop : (p : ℕ → Bool) (i n : ℕ) → p i ≡ false → run_end p i n ≡ i
unfolding run_end
run_stop p i n failing = rw (stop p i (n - i) failing) (add-zero i)

-- or where there is none more
pub run_over : (p : ℕ → Bool) (i n : ℕ) → n ≤ i → run_end p i n ≡ i
unfolding run_end
run_over p i n over = let left : n - i ≡ 0 = omega arith in rw left (add-zero i)
