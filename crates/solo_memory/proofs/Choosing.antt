-- The first block that is wholly free, on words and on the plain value.
use Rattle.std.proofs.Common.{◌≡◌, ℕ, zero, suc, ◌+◌, ◌*◌, ◌/◌, ◌%◌, ◌<◌, ◌≤◌, is_none, if◌then◌else◌, Bool, true, false, Some, None, refl, sym, ap, ◌∙◌, subst, inl, inr, arith}
use Rattle.std.proofs.Math.Nat.{div-add-mod', le-div_iff_mul-le}
use Rattle.std.proofs.lemmas.Bool.{cases_Bool, cases_eq, and_parts}
use Rattle.xp_words.specs.Machine.{Machine}
use Rattle.xp_words.specs.declared.place.Place.TheVariants.{Refs}
use Rattle.xp_words.proofs.Shared.{and_true}
use Rattle.xp_board.specs.Readings.{is_free}
use Rattle.step_maker.specs.Plain.{Words}
use Rattle.frame_claims.specs.Plain.{IsFirstFree, IsWhollyFree}
use Rattle.table_law.specs.Plain.{Plain}
use Rattle.script_law.specs.Memory.{first_free}
use Rattle.script_law.specs.Repeats.{all_below, first_of}
use Rattle.table_twins.proofs.Typing.{pick_first}

-- ---- of tests
all_on : (k : ℕ) (test : ℕ → Bool) → ((j : ℕ) → j < k → test j ≡ true) → all_below k test ≡ true
unfolding all_below
all_on zero test each = refl
all_on (suc k) test each = and_true (all_below k test) (test k) (all_on k test (λ j low. each j (omega arith))) (each k (omega arith))

last_or : (k : ℕ) (test : ℕ → Bool) (j : ℕ) → j < suc k → (j < k → test j ≡ true) → test k ≡ true → test j ≡ true
last_or k test j low below here = elim (cases_eq j k) [ inl is ↦ subst (λ i. test i ≡ true) (sym is) here | inr off ↦ below (omega (arith, low, off)) ]

each_on : (k : ℕ) (test : ℕ → Bool) → all_below k test ≡ true → (j : ℕ) → j < k → test j ≡ true
unfolding all_below
each_on zero test all j low = absurd (omega arith)
each_on (suc k) test all j low = let both = and_parts (all_below k test) (test k) all in last_or k test j low (λ less. each_on k test both.0 j less) both.1

next_by : {A : Type 0} (b : Bool) (x y : A) → b ≡ false → (if b then x else y) ≡ y
next_by b x y is = ap (λ t. if t then x else y) is

first_is : (k at b : ℕ) (test : ℕ → Bool) → at ≤ b → b < at + k → test b ≡ true → ((c : ℕ) → at ≤ c → c < b → test c ≡ false) → first_of k at test ≡ Some b
unfolding first_of
first_is zero at b test low high is off = absurd (omega arith)
first_is (suc k) at b test low high is off =
    elim (cases_eq at b) [
      | inl same ↦ pick_first (test at) (Some at) (first_of k (at + 1) test) (subst (λ i. test i ≡ true) (sym same) is) ∙ ap Some same
      | inr apart ↦
          next_by (test at) (Some at) (first_of k (at + 1) test) (off at (omega arith) (omega (arith, low, apart)))
          ∙ first_is k (at + 1) b test (omega (arith, low, apart)) (omega (arith, high)) is (λ c from to. off c (omega (arith, from)) to)
    ]

first_none : (k at : ℕ) (test : ℕ → Bool) → ((c : ℕ) → at ≤ c → c < at + k → test c ≡ false) → first_of k at test ≡ None
unfolding first_of
first_none zero at test off = refl
first_none (suc k) at test off = next_by (test at) (Some at) (first_of k (at + 1) test) (off at (omega arith) (omega arith)) ∙ first_none k (at + 1) test (λ c from to. off c (omega arith) (omega arith))

-- ---- of blocks
below_fits : (b n size : ℕ) → 0 < size → b * size + size ≤ n → b < n / size
below_fits b n size some fits = let e : (b + 1) * size ≡ b * size + size = grind arith in let low = (le-div_iff_mul-le {k = size} {x = b + 1} {y = n} some).1 (omega (arith, e, fits)) in omega (arith, low)

exactly : (f size : ℕ) → f % size ≡ 0 → f / size * size ≡ f
exactly f size aligned = let all = div-add-mod' f size in omega (arith, all, aligned)

before : (c b size : ℕ) → 0 < size → c < b → c * size < b * size
before c b size some less = grind (arith, some, less)

module _ (n : Machine) (m : Words) (p : Plain) (size : ℕ) (some : 0 < size) (free : (g : ℕ) → g < n.frames → is_free (m (Refs g)) ≡ is_none (p.shares g)) where
  abbrev test : ℕ → Bool
  test b = all_below size (λ j. is_none (p.shares (b * size + j)))

  whole_on : (b : ℕ) → b * size + size ≤ n.frames → IsWhollyFree m size (b * size) → test b ≡ true
  whole_on b inside whole = all_on size (λ j. is_none (p.shares (b * size + j))) (λ j low. sym (free (b * size + j) (omega arith)) ∙ whole j low)

  on_whole : (b : ℕ) → b * size + size ≤ n.frames → test b ≡ true → IsWhollyFree m size (b * size)
  on_whole b inside on j low = free (b * size + j) (omega arith) ∙ each_on size (λ j. is_none (p.shares (b * size + j))) on j low

  not_whole : (b : ℕ) → b * size + size ≤ n.frames → (IsWhollyFree m size (b * size) → ⊥) → test b ≡ false
  not_whole b inside off = elim (cases_Bool (test b)) [ inl on ↦ absurd (off (on_whole b inside on)) | inr is ↦ is ]

  fits : (b : ℕ) → b < n.frames / size → b * size + size ≤ n.frames
  fits b low = let k = (le-div_iff_mul-le {k = size} {x = b + 1} {y = n.frames} some).0 (omega (arith, low)) in grind (arith, k)

  -- it is the first one, or there is none
  pub first_there : (f : ℕ) → IsFirstFree n m size f → (first_free n size p ≡ Some (f / size)) × (f / size * size ≡ f)
  first_there f is =
      let b = f / size in
      let whole : b * size ≡ f = exactly f size is.aligned in
      let inside : b * size + size ≤ n.frames = (let low = is.inside in omega arith) in (
        first_is (n.frames / size) 0 b test (omega arith) (let low = below_fits b n.frames size some inside in omega (arith, low)) (whole_on b inside (subst (IsWhollyFree m size) (sym whole) is.whole))
            (λ c from to. not_whole c (fits c (let low = below_fits b n.frames size some inside in omega arith)) (λ free. is.least c (let less = before c b size some to in omega arith) free)),
        whole,
      )

  pub none_there : ((b : ℕ) → b * size + size ≤ n.frames → IsWhollyFree m size (b * size) → ⊥) → first_free n size p ≡ None
  none_there off = first_none (n.frames / size) 0 test (λ c from to. let low : c < n.frames / size = omega (arith, to) in not_whole c (fits c low) (off c (fits c low)))
