-- One frame, of which so many type counts more are in hand than before: what its kind word was and is.
use Rattle.std.proofs.Common.{◌≡◌, ◌≢◌, ℕ, zero, suc, ◌+◌, ◌-◌, ◌≤◌, ◌==◌, Bool, true, false, refl, sym, ◌∙◌, arith}
use Rattle.std.proofs.lemmas.Bool.Decides.{nat_tests}
use Rattle.xp_words.specs.declared.kind.KindWord.{KindWord}
use Rattle.frame_ranks.specs.Ranks.{rank_of}
use Rattle.frame_ranks.proofs.Facing.{face, same_live, same_number, same_rank}

-- A live frame has these more. One that was not has these alone, or where there are none is not live again, and no lower.
pub record Stands (k l : KindWord) (t : ℕ) : Type 0 where
  pub live : k.validated ≡ true → (l.validated ≡ true) × (l.number ≡ k.number + t) × (1 ≤ t → 1 ≤ k.number)
  pub idle : k.validated ≡ false → t ≡ 0 → (l.validated ≡ false) × (rank_of k ≤ rank_of l)
  pub had : k.validated ≡ false → 1 ≤ t → (l.validated ≡ true) × (l.number ≡ t) × (rank_of k ≤ 1)

pub stands_self : (k : KindWord) → Stands k k 0
stands_self k = record { live = λ on. (on, omega arith, λ some. absurd (omega arith)); idle = λ off none. (off, omega arith); had = λ off some. absurd (omega arith) }

clash : {A : Type 0} (b : Bool) → b ≡ true → b ≡ false → A
clash b on off = absurd (let both = sym on ∙ off in cc)

-- ---- it reads the same
pub stands_face : (k l j : KindWord) (t : ℕ) → face j ≡ face l → Stands k l t → Stands k j t
stands_face k l j t e s =
    record {
      live = λ on. let a = s.live on in let n = same_number j l e a.0 in let b = a.1 in (same_live j l e ∙ a.0, n ∙ b, a.2);
      idle = λ off none. let a = s.idle off none in let b = a.1 in let r = same_rank j l e in (same_live j l e ∙ a.0, omega (arith, b, r));
      had = λ off some. let a = s.had off some in let n = same_number j l e a.0 in (same_live j l e ∙ a.0, n ∙ a.1, a.2);
    }

-- ---- its type is taken: of a live frame, or of one that was dead or waited
pub data Taken (l j : KindWord) : Type 0 where
  counted : l.validated ≡ true → 1 ≤ l.number → j.number ≡ l.number + 1 → Taken l j
  begun : l.validated ≡ false → rank_of l ≤ 1 → j.number ≡ 1 → Taken l j

pub stands_taken : (k l j : KindWord) (t : ℕ) → j.validated ≡ true → Taken l j → Stands k l t → Stands k j (t + 1)
stands_taken k l j t is (counted on some more) s =
    record {
      live = λ was. let a = s.live was in let b = a.1 in let c = a.2 in (is, omega (arith, b, more), λ any. one_by t (λ none. omega (arith, b, none, some)) c);
      idle = λ off none. absurd (omega (arith, none));
      had = λ off any. had_by off (t == 0) refl;
    }
  where
    one_by : (t : ℕ) → (t ≡ 0 → 1 ≤ k.number) → (1 ≤ t → 1 ≤ k.number) → 1 ≤ k.number
    one_by zero a b = a refl
    one_by (suc t) a b = b (omega arith)

    had_by : k.validated ≡ false → (b : Bool) → (t == 0) ≡ b → (j.validated ≡ true) × (j.number ≡ t + 1) × (rank_of k ≤ 1)
    had_by off true none = let e : t ≡ 0 = grind (arith, nat_tests) in clash l.validated on (s.idle off e).0
    had_by off false none = let e : 1 ≤ t = grind (arith, nat_tests) in let a = s.had off e in let n = a.1 in (is, omega (arith, n, more), a.2)
stands_taken k l j t is (begun dead low one) s =
    record {
      live = λ was. clash l.validated (s.live was).0 dead;
      idle = λ off none. absurd (omega (arith, none));
      had = λ off any. had_by off (t == 0) refl;
    }
  where
    had_by : k.validated ≡ false → (b : Bool) → (t == 0) ≡ b → (j.validated ≡ true) × (j.number ≡ t + 1) × (rank_of k ≤ 1)
    had_by off true none = let e : t ≡ 0 = grind (arith, nat_tests) in let a = (s.idle off e).1 in (is, omega (arith, one, e), omega (arith, a, low))
    had_by off false none = let e : 1 ≤ t = grind (arith, nat_tests) in clash l.validated (s.had off e).0 dead

-- ---- it is not to be had, and no lower than before
pub stands_left : (k l j : KindWord) (t : ℕ) → l.validated ≡ false → j.validated ≡ false → rank_of l ≤ rank_of j → Stands k l t → Stands k j t
stands_left k l j t dead off low s =
    record {
      live = λ was. clash l.validated (s.live was).0 dead;
      idle = λ was none. let a = (s.idle was none).1 in (off, omega (arith, a, low));
      had = λ was some. clash l.validated (s.had was some).0 dead;
    }

-- ---- its type is given back: behind the last count it is dead, of rank 1
pub record GivenBack (l j : KindWord) : Type 0 where
  pub more : l.number ≢ 1 → (j.validated ≡ l.validated) × (j.number ≡ l.number - 1)
  pub last : l.number ≡ 1 → (j.validated ≡ false) × (rank_of j ≡ 1)

-- there is such a count to be given back
pub stands_some : (k l : KindWord) (t : ℕ) → Stands k l (t + 1) → (l.validated ≡ true) × (1 ≤ l.number)
stands_some k l t s = by k.validated refl
  where
    by : (b : Bool) → k.validated ≡ b → (l.validated ≡ true) × (1 ≤ l.number)
    by true was = let a = s.live was in let n = a.1 in (a.0, omega (arith, n))
    by false was = let a = s.had was (omega arith) in let n = a.1 in (a.0, omega (arith, n))

pub stands_given : (k l j : KindWord) (t : ℕ) → GivenBack l j → Stands k l (t + 1) → Stands k j t
stands_given k l j t g s =
    record {
      live = λ was.
          let a = s.live was in
          let n = a.1 in
          let some = a.2 (omega arith) in
          let b = g.more (λ e. omega (arith, n, some, e)) in
          let d = b.1 in
          (b.0 ∙ a.0, omega (arith, d, n), λ any. some);
      idle = λ was none.
          let a = s.had was (omega arith) in
          let n = a.1 in
          let low = a.2 in
          let b = g.last (omega (arith, n, none)) in
          let r = b.1 in
          (b.0, omega (arith, low, r));
      had = λ was any.
          let a = s.had was (omega arith) in
          let n = a.1 in
          let b = g.more (λ e. omega (arith, n, any, e)) in
          let d = b.1 in
          (b.0 ∙ a.0, omega (arith, d, n), a.2);
    }

-- ---- all are given back
pub stands_ranks : (k l : KindWord) → ((on : k.validated ≡ true) → rank_of k ≡ 515) → ((on : l.validated ≡ true) → rank_of l ≡ 515) → Stands k l 0 → rank_of k ≤ rank_of l
stands_ranks k l a b s = by k.validated refl
  where
    by : (c : Bool) → k.validated ≡ c → rank_of k ≤ rank_of l
    by true was = let x = a was in let y = b (s.live was).0 in omega (arith, x, y)
    by false was = (s.idle was refl).1

pub stands_counts : (k l : KindWord) → Stands k l 0 → k.validated ≡ true → (l.validated ≡ true) × (k.number ≤ l.number)
stands_counts k l s was = let a = s.live was in let n = a.1 in (a.0, omega (arith, n))
