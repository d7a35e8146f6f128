-- Numbers that are put together so that the first that differs decides.
use Rattle.std.proofs.Common.{◌≡◌, ℕ, zero, suc, ◌+◌, ◌*◌, ◌<◌, ◌≤◌, subst, arith}
use Rattle.xp_words.proofs.Shared.{one_more_times as mul_more}

-- ---- two of them: the second is at most m

pub mul_le : (x y m : ℕ) → x ≤ y → x * m ≤ y * m
mul_le zero y m h = omega arith
mul_le (suc x) zero m h = absurd (omega arith)
mul_le (suc x) (suc y) m h = let k = mul_le x y m (omega arith) in omega arith

pub first_falls : (x' x y' y m : ℕ) → x' < x → y' ≤ m → x' * (m + 1) + y' < x * (m + 1) + y
first_falls x' x y' y m less few =
    let k = mul_le (x' + 1) x (m + 1) (omega arith) in
    let e = mul_more x' (m + 1) in
    omega arith

pub second_falls : (x' x y' y m : ℕ) → x' ≡ x → y' < y → x' * (m + 1) + y' < x * (m + 1) + y
second_falls x' x y' y m same less = subst (λ k. x' * (m + 1) + y' < k * (m + 1) + y) same (omega arith)

pub none_rises : (x' x y' y m : ℕ) → x' ≤ x → y' ≤ y → x' * (m + 1) + y' ≤ x * (m + 1) + y
none_rises x' x y' y m less few = let k = mul_le x' x (m + 1) less in omega arith

-- ---- four of them
abbrev pub four_in_one : (o l r : ℕ) → ℕ → ℕ → ℕ → ℕ → ℕ
four_in_one o l r a b c d = ((a * (o + 1) + b) * (l + 1) + c) * (r + 1) + d

module _ (o l r a' b' c' d' a b c d : ℕ) (few : b' ≤ o) (low : c' ≤ l) (less : d' ≤ r) where
  pub falls_first : a' < a → four_in_one o l r a' b' c' d' < four_in_one o l r a b c d
  falls_first falls = first_falls ((a' * (o + 1) + b') * (l + 1) + c') ((a * (o + 1) + b) * (l + 1) + c) d' d r (first_falls (a' * (o + 1) + b') (a * (o + 1) + b) c' c l (first_falls a' a b' b o falls few) low) less

  pub falls_second : a' ≡ a → b' < b → four_in_one o l r a' b' c' d' < four_in_one o l r a b c d
  falls_second same falls = first_falls ((a' * (o + 1) + b') * (l + 1) + c') ((a * (o + 1) + b) * (l + 1) + c) d' d r (first_falls (a' * (o + 1) + b') (a * (o + 1) + b) c' c l (second_falls a' a b' b o same falls) low) less

  pub falls_third : a' ≡ a → b' ≡ b → c' < c → four_in_one o l r a' b' c' d' < four_in_one o l r a b c d
  falls_third same alike falls =
      first_falls ((a' * (o + 1) + b') * (l + 1) + c') ((a * (o + 1) + b) * (l + 1) + c) d' d r
      (second_falls (a' * (o + 1) + b') (a * (o + 1) + b) c' c l (λ i. same i * (o + 1) + alike i) falls) less

  pub falls_fourth : a' ≡ a → b' ≡ b → c' ≡ c → d' < d → four_in_one o l r a' b' c' d' < four_in_one o l r a b c d
  falls_fourth same alike so falls =
      second_falls ((a' * (o + 1) + b') * (l + 1) + c') ((a * (o + 1) + b) * (l + 1) + c) d' d r (λ i. (same i * (o + 1) + alike i) * (l + 1) + so i) falls

  pub stays_fourth : a' ≡ a → b' ≡ b → c' ≡ c → d' ≤ d → four_in_one o l r a' b' c' d' ≤ four_in_one o l r a b c d
  stays_fourth same alike so falls = rw (same, alike, so) (omega arith)
