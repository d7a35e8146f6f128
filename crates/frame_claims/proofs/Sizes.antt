-- Blocks of 2^order frames.
use Rattle.std.proofs.Common.{◌≡◌, ℕ, zero, suc, ◌*◌, ◌/◌, ◌%◌, ◌^◌, ◌<◌, ◌≤◌, refl, ◌∙◌, ap, arith}
use Rattle.std.proofs.Math.Nat.{mod-eq_of_lt}
use Rattle.frame_claims.specs.Blocks.{IsBlockSize}

small_size : (k : ℕ) → 0 < k → k ≤ 64 → 64 % k ≡ 0 → IsBlockSize k
small_size k some few parts = record { some = some; few = omega (arith, few); whole = λ over. absurd (omega (arith, few, over)); parts = λ l. parts }

large_size : (k : ℕ) → 64 < k → k ≤ 512 → 64 * (k / 64) ≡ k → IsBlockSize k
large_size k over few whole = record { some = omega (arith, over); few = few; whole = λ l. whole; parts = λ l. absurd (omega (arith, l, over)) }

pub block_size : (order : ℕ) → order ≤ 9 → IsBlockSize (2 ^ order)
block_size zero low = small_size 1 (omega arith) (omega arith) refl
block_size (suc zero) low = small_size 2 (omega arith) (omega arith) refl
block_size (suc (suc zero)) low = small_size 4 (omega arith) (omega arith) refl
block_size (suc (suc (suc zero))) low = small_size 8 (omega arith) (omega arith) refl
block_size (suc (suc (suc (suc zero)))) low = small_size 16 (omega arith) (omega arith) refl
block_size (suc (suc (suc (suc (suc zero))))) low = small_size 32 (omega arith) (omega arith) refl
block_size (suc (suc (suc (suc (suc (suc zero)))))) low = small_size 64 (omega arith) (omega arith) refl
block_size (suc (suc (suc (suc (suc (suc (suc zero))))))) low = large_size 128 (omega arith) (omega arith) refl
block_size (suc (suc (suc (suc (suc (suc (suc (suc zero)))))))) low = large_size 256 (omega arith) (omega arith) refl
block_size (suc (suc (suc (suc (suc (suc (suc (suc (suc zero))))))))) low = large_size 512 (omega arith) (omega arith) refl
block_size (suc (suc (suc (suc (suc (suc (suc (suc (suc (suc k)))))))))) low = absurd (omega (arith, low))

-- as a shift makes it
pub shifted : (order : ℕ) → order ≤ 9 → 1 * 2 ^ order % 4294967296 ≡ 2 ^ order
shifted order low = let few = (block_size order low).few in (let one : 1 * 2 ^ order ≡ 2 ^ order = omega arith in ap (λ k. k % 4294967296) one) ∙ mod-eq_of_lt (omega (arith, few))
