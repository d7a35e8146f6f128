-- The frames that a domain owns, counted over frames and over runs.
use Rattle.std.proofs.Common.{◌≡◌, ℕ, zero, suc, ◌+◌, ◌-◌, ◌≤◌, ◌==◌, nat_le, if◌then◌else◌, cond, Bool, true, false, List, [], ◌∷◌, All, AllPairs, find, IsTrue, Option, Some, None, refl, ◌∙◌, arith}
use Rattle.std.proofs.lemmas.Bool.Decides.{nat_tests}
use Rattle.std.proofs.lemmas.List.Sums.{sum_by-cons}
use Rattle.xp_words.specs.RefWords.{bit}
use Rattle.xp_board.specs.Sums.{sum_below}
use Rattle.trace_text.specs.declared.trace.Own.{Own}
use Rattle.trace_text.specs.Counted.{pages_of, pages_in, is_apart, has_frame}
use Rattle.xp_board.proofs.Sums.{sum_below-same, sum_below-none, sum_below-plus}

-- ---- one run
-- 1 where the run has the frame and is the domain's
in_run : ℕ → Own → ℕ → ℕ
in_run d o f = if has_frame f o then bit (o.domain == d) else 0

-- how many of the first n frames the run has
cut : ℕ → Own → ℕ
cut n o = if nat_le n o.first then 0 else (if nat_le n (o.first + o.count) then n - o.first else o.count)

run_none : (d n : ℕ) (o : Own) → (o.domain == d) ≡ false → sum_below n (in_run d o) ≡ 0
unfolding in_run
run_none d n o e = sum_below-none n (in_run d o) (λ k l. grind (arith, nat_tests))

run_cut : (d n : ℕ) (o : Own) → (o.domain == d) ≡ true → sum_below n (in_run d o) ≡ cut n o
unfolding sum_below in_run cut
run_cut d zero o e = grind (arith, nat_tests)
run_cut d (suc n) o e =
    let rest = run_cut d n o e in
    let here : bit (o.domain == d) ≡ 1 = rw e refl in
    grind (arith, nat_tests)

cut_whole : (n : ℕ) (o : Own) → o.first + o.count ≤ n → cut n o ≡ o.count
unfolding cut
cut_whole n o h = grind (arith, nat_tests)

by_domain : (d n : ℕ) (o : Own) (b : Bool) → (o.domain == d) ≡ b → o.first + o.count ≤ n → sum_below n (in_run d o) ≡ pages_in d o
by_domain d n o true e h = run_cut d n o e ∙ cut_whole n o h ∙ rw e refl
by_domain d n o false e h = run_none d n o e ∙ rw e refl

-- ---- all runs
-- 1 where the run that has the frame is the domain's
unfoldable pub owner_in_run : ℕ → Option Own → ℕ
owner_in_run d None = 0
owner_in_run d (Some o) = bit (o.domain == d)

no_other : (f : ℕ) (o : Own) (xs : List Own) → All (λ x. IsTrue (is_apart o x)) xs → has_frame f o ≡ true → find (has_frame f) xs ≡ None
no_other f o [] h e = refl
no_other f o (x ∷ xs) h e =
    let apart : IsTrue (is_apart o x) = h 0 x (omega arith) in
    let off : has_frame f x ≡ false = grind (arith, nat_tests) in
    rw off (no_other f o xs (λ k d c. h (suc k) d (omega arith)) e)

one_more : (d f : ℕ) (o : Own) (b : Bool) (y : Option Own) → has_frame f o ≡ b → (b ≡ true → y ≡ None) →
    owner_in_run d (cond b (Some o) y) ≡ in_run d o f + owner_in_run d y
unfolding in_run owner_in_run
one_more d f o true y e n = let none = n refl in rw (none, e) (omega arith)
one_more d f o false y e n = rw e (omega arith)

pub frames_of_runs : (d n : ℕ) (xs : List Own) → All (λ x. x.first + x.count ≤ n) xs → AllPairs (λ a b. IsTrue (is_apart a b)) xs →
    sum_below n (λ f. owner_in_run d (find (has_frame f) xs)) ≡ pages_of d xs
unfolding owner_in_run
frames_of_runs d n [] h apart = sum_below-none n (λ f. owner_in_run d (find (has_frame f) [])) (λ k l. refl)
frames_of_runs d n (o ∷ os) h apart =
    let fits : o.first + o.count ≤ n = h 0 o (omega arith) in
    let rest = frames_of_runs d n os (λ k e c. h (suc k) e (omega arith)) (λ i j e a b. apart (suc i) (suc j) e (omega arith) (omega arith)) in
    let others : All (λ x. IsTrue (is_apart o x)) os = λ k e c. apart 0 (suc k) e (omega arith) (omega arith) in
    let each = sum_below-same n (λ f. owner_in_run d (find (has_frame f) (o ∷ os))) (λ f. in_run d o f + owner_in_run d (find (has_frame f) os))
    (λ f b. one_more d f o (has_frame f o) (find (has_frame f) os) refl (no_other f o os others)) in
    let both = sum_below-plus n (in_run d o) (λ f. owner_in_run d (find (has_frame f) os)) _ (λ f b. refl) in
    let here = by_domain d n o (o.domain == d) refl fits in
    let total = sum_by-cons (pages_in d) o os in
    omega arith
