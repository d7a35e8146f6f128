-- Runs: neighbouring numbers that all pass a test.
use Rattle.std.specs.Prelude.{ℕ, ◌+◌, ◌-◌, ◌==◌, ◌||◌, not, if◌then◌else◌, Bool, List, ◌++◌, codes, decimal}
use Rattle.std.specs.List.{prefix_len, range_with_len}

-- no run reaches i from before
abbrev pub is_first : (ℕ → Bool) → ℕ → Bool
is_first passes i = (i == 0) || not (passes (i - 1))

-- the number behind the run that begins at i, at most n
unfoldable pub run_end : (ℕ → Bool) → ℕ → ℕ → ℕ
run_end passes i n = i + prefix_len passes (range_with_len i (n - i))

-- a run by its first number and its last
unfoldable pub range_text : ℕ → ℕ → List ℕ
range_text first last = if first == last then decimal first else decimal first ++ (codes "-" ++ decimal last)
