-- How what parts add comes together.
use Rattle.std.proofs.Common.{◌≡◌, ℕ, zero, suc, ◌+◌, ◌*◌, ◌<◌, ◌≤◌, ◌||◌, nat_lt, Bool, true, false, List, length, refl, ◌∙◌, ap, subst, arith, add-one}
use Rattle.std.proofs.lemmas.Bool.Decides.{nat_tests}
use Rattle.xp_board.specs.Sums.{sum_below}
use Rattle.reference_recount.specs.declared.tallies.Tally.{Tally}
use Rattle.reference_recount.specs.Recounted.{tally_at}
use Rattle.reference_recount.specs.Growth.{IsMore, AreMore, AreSums, IsCountWithin}

-- ---- one tally
or_none : (b : Bool) → b ≡ (b || nat_lt 0 0)
or_none true = refl
or_none false = refl

or_sum : (b : Bool) (o p : ℕ) → ((b || nat_lt 0 o) || nat_lt 0 p) ≡ (b || nat_lt 0 (o + p))
or_sum true o p = refl
or_sum false o p = grind (arith, nat_tests)

pub more-none : (a : Tally) → IsMore a a 0 0 0
more-none a = record { refs = omega arith; types = omega arith; mistyped = or_none a.mistyped }

pub more-then : (a b c : Tally) (r t o s u p : ℕ) → IsMore a b r t o → IsMore b c s u p → IsMore a c (r + s) (t + u) (o + p)
more-then a b c r t o s u p x y =
    record {
      refs = let i = x.refs in let j = y.refs in omega arith;
      types = let i = x.types in let j = y.types in omega arith;
      mistyped = y.mistyped ∙ ap (λ e. e || nat_lt 0 p) x.mistyped ∙ or_sum a.mistyped o p;
    }

more-same : (a b : Tally) (r t o s u p : ℕ) → r ≡ s → t ≡ u → o ≡ p → IsMore a b r t o → IsMore a b s u p
more-same a b r t o s u p i j k x =
    record {
      refs = x.refs ∙ ap (λ e. a.refs + e) i;
      types = x.types ∙ ap (λ e. a.types + e) j;
      mistyped = x.mistyped ∙ ap (λ e. a.mistyped || nat_lt 0 e) k;
    }

-- ---- all tallies
pub all-same : (a b : List Tally) (r t o s u p : ℕ → ℕ) → ((g : ℕ) → g < length a → r g ≡ s g) → ((g : ℕ) → g < length a → t g ≡ u g) →
    ((g : ℕ) → g < length a → o g ≡ p g) → AreMore a b r t o → AreMore a b s u p
all-same a b r t o s u p i j k x =
    record {
      len = x.len;
      each = λ g l. more-same (tally_at a g) (tally_at b g) (r g) (t g) (o g) (s g) (u g) (p g) (i g l) (j g l) (k g l) (x.each g l);
    }

pub all-none : (a : List Tally) (r t o : ℕ → ℕ) → ((g : ℕ) → g < length a → 0 ≡ r g) → ((g : ℕ) → g < length a → 0 ≡ t g) →
    ((g : ℕ) → g < length a → 0 ≡ o g) → AreMore a a r t o
all-none a r t o i j k = all-same a a (λ g. 0) (λ g. 0) (λ g. 0) r t o i j k (record { len = refl; each = λ g l. more-none (tally_at a g) })

-- ---- sums
pub sums-none : (a : List Tally) (r t o : ℕ → ℕ → ℕ) → AreSums a a 0 r t o
unfolding sum_below
sums-none a r t o = all-none a _ _ _ (λ g l. refl) (λ g l. refl) (λ g l. refl)

pub sums-more : (a b c : List Tally) (n : ℕ) (r t o : ℕ → ℕ → ℕ) → AreSums a b n r t o → AreMore b c (λ g. r g n) (λ g. t g n) (λ g. o g n) → AreSums a c (n + 1) r t o
unfolding sum_below
sums-more a b c n r t o x y =
    rw add-one (
    record {
      len = y.len ∙ x.len;
      each = λ g l. (
          let inside : g < length b = let e = x.len in omega arith in
          more-then (tally_at a g) (tally_at b g) (tally_at c g) _ _ _ (r g n) (t g n) (o g n) (x.each g l) (y.each g inside)
          );
    }
    )

-- each part is at most c
pub sum_most : (n c : ℕ) (p : ℕ → ℕ) → ((k : ℕ) → p k ≤ c) → sum_below n p ≤ n * c
unfolding sum_below
sum_most zero c p h = omega arith
sum_most (suc n) c p h = let here = h n in let rest = sum_most n c p h in omega arith

-- so the counts stay few
pub within-sums : (a b : List Tally) (m c n top : ℕ) (r t o : ℕ → ℕ → ℕ) → m + n * c ≤ top → ((g k : ℕ) → r g k ≤ c) → ((g k : ℕ) → t g k ≤ c) →
    IsCountWithin m a → AreSums a b n r t o → IsCountWithin top b
within-sums a b m c n top r t o few i j w x =
    record {
      refs = λ g l. (
          let inside : g < length a = let e = x.len in omega arith in
          let was = w.refs g inside in
          let now = (x.each g inside).refs in
          let more = sum_most n c (r g) (i g) in
          omega arith
          );
      types = λ g l. (
          let inside : g < length a = let e = x.len in omega arith in
          let was = w.types g inside in
          let now = (x.each g inside).types in
          let more = sum_most n c (t g) (j g) in
          omega arith
          );
    }

-- the number of parts by another name
pub sums-end : (a b : List Tally) (n k : ℕ) (r t o : ℕ → ℕ → ℕ) → n ≡ k → AreSums a b n r t o → AreSums a b k r t o
sums-end a b n k r t o e x = subst (λ i. AreSums a b i r t o) e x
