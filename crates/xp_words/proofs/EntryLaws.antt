use Rattle.std.proofs.Common.{◌≡◌, ℕ, ◌/◌, ◌%◌, ◌^◌, ◌<◌, Some, arith}
use Rattle.std.proofs.lemmas.Bool.Decides.{nat_tests}
use Rattle.xp_words.specs.Entries.{fixed}

pub fixed_again : (w v : ℕ) → fixed w ≡ Some v → fixed v ≡ Some v
unfolding fixed
fixed_again w v h = grind (arith, nat_tests)

pub fixed-fits : (w v : ℕ) → w < 2 ^ 64 → fixed w ≡ Some v → v < 2 ^ 64
unfolding fixed
fixed-fits w v b h = grind (arith, nat_tests)

pub fixed-rest : (w v : ℕ) → fixed w ≡ Some v → (v % 2 ^ 45 ≡ w % 2 ^ 45) × (v / 2 ^ 47 ≡ w / 2 ^ 47)
unfolding fixed
fixed-rest w v h = grind (arith, nat_tests)
