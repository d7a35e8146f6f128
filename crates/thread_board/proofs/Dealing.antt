-- Making, splitting and joining keep the shared rule.
use Rattle.std.proofs.Common.{◌≡◌, ◌≢◌, ◌⊎◌, ℕ, zero, suc, ◌+◌, ◌-◌, ◌<◌, ◌≤◌, Bool, true, false, cond, List, [], ◌∷◌, ◌++◌, length, set, refl, sym, ap, ◌∙◌, subst, ⊎_elim, inl, inr, arith}
use Rattle.std.specs.Prelude.{nat_le, nat_lt, ◌&&◌, replicate}
use Rattle.std.proofs.lemmas.Bool.Decides.{nat_tests}
use Rattle.atomic_table.specs.Seated.{TableId}
use Rattle.thread_board.specs.Values.{BoardValue, PassValue, IsPassOf, opened_pass, AreOpened}
use mathlib.Core.Option.{Option, none, some, some-injective, some-ne-none}
use lib.ListN.{get_elem?}
use Rattle.atomic_table.proofs.Lists.{at_set, at_longer}
use Rattle.atomic_table.specs.Table.{opening, Splits, Joins}
use Rattle.xp_board.specs.declared.holdings.Holdings.{Holdings}
use Rattle.xp_board.specs.Hands.{empty}
use Rattle.xp_board.specs.Lists.{Member}
use Rattle.xp_words.specs.Places.{sizes_of}
use Rattle.thread_board.specs.declared.rule.Opening.{Opening}
use Rattle.thread_board.specs.declared.rule.SharedView.{SharedView}
use Rattle.thread_board.specs.Sharing.{one, hold_of, nobody, all_hands, first_view, rest_of, Fits, Kept}
use Rattle.thread_board.proofs.Sharing.{fits_set, fits_one, at_inside}

at_end : {A : Type 0} (l : List A) (a b : A) (j : ℕ) → get_elem? (l ++ a ∷ []) j ≡ some b → (get_elem? l j ≡ some b) ⊎ ((j ≡ length l) × (a ≡ b))
at_end [] a b zero e = inr (refl, some-injective a b e)
at_end [] a b (suc j) e = absurd (some-ne-none b (sym e))
at_end (x ∷ xs) a b zero e = inl e
at_end (x ∷ xs) a b (suc j) e = ⊎_elim (λ t. inl t) (λ t. inr (ap suc t.0, t.1)) (at_end xs a b j e)

at_append : {A : Type 0} (xs ys : List A) (k : ℕ) (a : A) → get_elem? (xs ++ ys) k ≡ some a → ((k < length xs) × (get_elem? xs k ≡ some a)) ⊎ ((j : ℕ) × (k ≡ length xs + j) × (get_elem? ys j ≡ some a))
at_append [] ys k a e = inr (k, omega arith, e)
at_append (x ∷ xs) ys zero a e = inl (omega arith, e)
at_append (x ∷ xs) ys (suc k) a e = ⊎_elim (λ t. let lt = t.0 in inl (omega arith, t.1)) (λ t. let same = t.1 in inr (t.0, omega arith, t.2)) (at_append xs ys k a e)

-- at the start
pub begins : (o : Opening) → length (replicate (sizes_of o.layout).vcpus empty) ≡ (sizes_of o.layout).vcpus → Kept o (opening o.words [] (all_hands o))
begins o many = record {
  log = [];
  hands = replicate (sizes_of o.layout).vcpus empty;
  owner = λ _. 0;
  run = refl;
  many = many;
  each = first;
}
  where
    first : (j : ℕ) (v : SharedView) → get_elem? (all_hands o ∷ []) j ≡ some v → Fits (λ _. 0) (replicate (sizes_of o.layout).vcpus empty) j v
    first zero v e = subst (Fits (λ _. 0) (replicate (sizes_of o.layout).vcpus empty) 0) (some-injective (all_hands o) v e) (λ k h at. let zero_more : 0 + k ≡ k = omega arith in (refl, rw zero_more at))
    first (suc j) v e = absurd (some-ne-none v (sym e))

-- the vCPUs from `from` on, n of them
abbrev pub among : ℕ → ℕ → ℕ → Bool
among from n k = nat_le from k && nat_lt k (from + n)

-- these vCPUs go to the seat j
abbrev pub given : (ℕ → Bool) → ℕ → (ℕ → ℕ) → ℕ → ℕ
given t j owner n = cond (t n) j (owner n)

given_no : (t : ℕ → Bool) (j : ℕ) (owner : ℕ → ℕ) (n : ℕ) → t n ≡ false → given t j owner n ≡ owner n
given_no t j owner n miss = rw miss refl

given_yes : (t : ℕ → Bool) (j : ℕ) (owner : ℕ → ℕ) (n : ℕ) → t n ≡ true → given t j owner n ≡ j
given_yes t j owner n hit = rw hit refl

-- a view of another seat than that which they are taken from
fits_given : (t : ℕ → Bool) (to was_of j : ℕ) (owner : ℕ → ℕ) (hands : List Holdings) (u : SharedView) → ((n : ℕ) → t n ≡ true → owner n ≡ was_of) → j ≢ was_of → Fits owner hands j u → Fits (given t to owner) hands j u
fits_given t to was_of j owner hands u taken apart fits k h e =
    let f = fits k h e in
    (cases (t (u.from + k)) refl f.0, f.1)
  where
    cases : (b : Bool) → t (u.from + k) ≡ b → owner (u.from + k) ≡ j → given t to owner (u.from + k) ≡ j
    cases true hit own = absurd (apart (sym own ∙ taken (u.from + k) hit))
    cases false miss own = given_no t to owner (u.from + k) miss ∙ own

among_at : (from n k : ℕ) → among from n k ≡ true → (i : ℕ) × (k ≡ from + i) × (i < n)
among_at from n k e = let a : from ≤ k = grind (arith, nat_tests) in let b : k < from + n = grind (arith, nat_tests) in (k - from, omega arith, omega arith)

among_yes : (from n i : ℕ) → i < n → among from n (from + i) ≡ true
among_yes from n i lt = grind (arith, nat_tests)

among_less : (from n k : ℕ) → k < from → among from n k ≡ false
among_less from n k lt = grind (arith, nat_tests)

there : {A : Type 0} (l : List A) (i : ℕ) → i < length l → (a : A) × (get_elem? l i ≡ some a)
there [] i lt = absurd (omega arith)
there (x ∷ xs) zero lt = (x, refl)
there (x ∷ xs) (suc i) lt = there xs i (omega arith)

pub splits : (o : Opening) (id from : ℕ) (h : Holdings) (hs : List Holdings) → Splits (Kept o) id (record { from = from; hands = h ∷ hs }) (one from h) (record { from = from + 1; hands = hs })
splits o id from h hs s was at =
    let v : SharedView = record { from = from; hands = h ∷ hs } in
    let right : SharedView = record { from = from + 1; hands = hs } in
    let new : ℕ = length (set s.views id (one from h)) in
    let t : ℕ → Bool = among (from + 1) (length hs) in
    let mine = was.each id v at in
    let taken : (n : ℕ) → t n ≡ true → was.owner n ≡ id = (λ n hit.
    let i = among_at (from + 1) (length hs) n hit in
    let same : n ≡ from + suc i.0 = omega (arith, i.1) in
    let e = there hs i.0 i.2 in
    ap was.owner same ∙ (mine (suc i.0) e.0 e.1).0) in
    let plus : from + 0 ≡ from = omega arith in
    let head : (was.owner from ≡ id) × (get_elem? was.hands from ≡ some h) = subst (λ n. (was.owner n ≡ id) × (get_elem? was.hands n ≡ some h)) plus (mine 0 h refl) in
    let old : (j : ℕ) (u : SharedView) → get_elem? (set s.views id (one from h)) j ≡ some u → Fits (given t new was.owner) was.hands j u =
    fits_set (given t new was.owner) was.hands s.views id (one from h)
    (λ j u apart e. fits_given t new id j was.owner was.hands u taken apart (was.each j u e))
    (fits_one (given t new was.owner) was.hands id from h (given_no t new was.owner from (among_less (from + 1) (length hs) from (omega arith)) ∙ head.0) head.1) in
    let last : Fits (given t new was.owner) was.hands new right = (λ k g e.
    let same : from + suc k ≡ from + 1 + k = omega arith in
    let f = mine (suc k) g e in
    (given_yes t new was.owner (from + 1 + k) (among_yes (from + 1) (length hs) k (at_inside hs k g e)), subst (λ n. get_elem? was.hands n ≡ some g) same f.1)) in
    record {
      log = was.log;
      hands = was.hands;
      owner = given t new was.owner;
      run = was.run;
      many = was.many;
      each = λ j u e. ⊎_elim (λ x. old j u x) (λ (x : (j ≡ new) × (right ≡ u)). subst (λ (y : ℕ × SharedView). Fits (given t new was.owner) was.hands y.0 y.1) (λ k. (sym x.0 k, x.1 k)) last) (at_end (set s.views id (one from h)) right u j e);
    }

pub joins : (o : Opening) (id other from : ℕ) (xs ys : List Holdings)
    → Joins (Kept o) id (record { from = from; hands = xs }) other (record { from = from + length xs; hands = ys }) (record { from = from; hands = xs ++ ys }) nobody
joins o id other from xs ys s was at apart there_is =
    let v : SharedView = record { from = from; hands = xs } in
    let w : SharedView = record { from = from + length xs; hands = ys } in
    let both : SharedView = record { from = from; hands = xs ++ ys } in
    let t : ℕ → Bool = among (from + length xs) (length ys) in
    let mine = was.each id v at in
    let at_other : get_elem? s.views other ≡ some w = ⊎_elim (λ (x : (other ≡ id) × (both ≡ w)). absurd (apart x.0)) (λ (x : (other ≢ id) × (get_elem? s.views other ≡ some w)). x.1) (at_set s.views id other both w there_is) in
    let theirs = was.each other w at_other in
    let taken : (n : ℕ) → t n ≡ true → was.owner n ≡ other = (λ n hit.
    let i = among_at (from + length xs) (length ys) n hit in
    let e = there ys i.0 i.2 in
    ap was.owner i.1 ∙ (theirs i.0 e.0 e.1).0) in
    let all : Fits (given t id was.owner) was.hands id both = (λ k g e. ⊎_elim
    (λ (x : (k < length xs) × (get_elem? xs k ≡ some g)).
    let lt = x.0 in
    let f = mine k g x.1 in
    (given_no t id was.owner (from + k) (among_less (from + length xs) (length ys) (from + k) (omega arith)) ∙ f.0, f.1))
    (λ (x : (j : ℕ) × (k ≡ length xs + j) × (get_elem? ys j ≡ some g)).
    let is = x.1 in
    let same : from + length xs + x.0 ≡ from + k = omega arith in
    let f = theirs x.0 g x.2 in
    subst (λ n. (given t id was.owner n ≡ id) × (get_elem? was.hands n ≡ some g)) same (given_yes t id was.owner (from + length xs + x.0) (among_yes (from + length xs) (length ys) x.0 (at_inside ys x.0 g x.2)), f.1))
    (at_append xs ys k g e)) in
    let empty_fits : Fits (given t id was.owner) was.hands other nobody = (λ k g e. absurd (some-ne-none g (sym e))) in
    record {
      log = was.log;
      hands = was.hands;
      owner = given t id was.owner;
      run = was.run;
      many = was.many;
      each = fits_set (given t id was.owner) was.hands (set s.views id both) other nobody
          (λ j u not e. ⊎_elim
          (λ (x : (j ≡ id) × (both ≡ u)). subst (λ (y : ℕ × SharedView). Fits (given t id was.owner) was.hands y.0 y.1) (λ k. (sym x.0 k, x.1 k)) all)
          (λ (x : (j ≢ id) × (get_elem? s.views j ≡ some u)). fits_given t id other j was.owner was.hands u taken not (was.each j u x.1))
          (at_set s.views id j both u e))
          empty_fits;
    }

-- at the view of vCPUs with nothing in hand
pub splits_at : (o : Opening) (id from n k : ℕ) (v : SharedView) → v ≡ record { from = from; hands = replicate n empty } → n ≡ suc k → Splits (Kept o) id v (first_view v) (rest_of v)
splits_at o id from n k v is some_left =
    let all : v ≡ record { from = from; hands = empty ∷ replicate k empty } = is ∙ ap (λ (i : ℕ). record { from = from; hands = replicate i empty }) some_left in
    subst (λ (u : SharedView). Splits (Kept o) id u (first_view u) (rest_of u)) (sym all) (splits o id from empty (replicate k empty))

-- the first, and the rest
pub first_is : (from n k : ℕ) (v : SharedView) → v ≡ record { from = from; hands = replicate n empty } → n ≡ suc k → (first_view v ≡ one from empty) × (rest_of v ≡ record { from = from + 1; hands = replicate k empty })
first_is from n k v is some_left = rw (is, some_left) (refl, refl)

-- one pass more
pub opened_more : (t : TableId) (before now : List PassValue) (p : PassValue) (n : ℕ) → AreOpened t before → length before ≡ n → now ≡ before ++ p ∷ [] → p ≡ opened_pass t n → AreOpened t now
opened_more t before now p n was count is new = subst (AreOpened t) (sym is) (λ k lt. cases k (get_elem? (before ++ p ∷ []) k) refl lt)
  where
    cases : (k : ℕ) (o : Option PassValue) → get_elem? (before ++ p ∷ []) k ≡ o → k < length (before ++ p ∷ []) → get_elem? (before ++ p ∷ []) k ≡ some (opened_pass t k)
    cases k none e lt = absurd (let x = there (before ++ p ∷ []) k lt in some-ne-none x.0 (sym x.1 ∙ e))
    cases k (some q) e lt =
        ⊎_elim
        (λ (x : get_elem? before k ≡ some q). at_longer before (p ∷ []) k (opened_pass t k) (was k (at_inside before k q x)))
        (λ (x : (k ≡ length before) × (p ≡ q)). e ∙ ap some (sym x.1 ∙ new ∙ ap (opened_pass t) (sym count ∙ sym x.0)))
        (at_end before p q k e)

-- the value of a pass whose seat has one vCPU's view with nothing in hand
pub pass_opened : (t x : TableId) (i : ℕ) (v : SharedView) → x ≡ t → v ≡ one i empty → record { table = x; vcpu = i; holdings = hold_of v } ≡ opened_pass t i
pass_opened t x i v same is = rw (same, is) refl

-- a pass as it was made
pub opened_is : (b : BoardValue) (p : PassValue) (k : ℕ) → p ≡ opened_pass b.table k → k < (sizes_of b.machine).vcpus → IsPassOf b p
unfolding Member
opened_is b p k is lt = subst (IsPassOf b) (sym is) (record { table = refl; vcpu = lt; inside = λ x m. absurd m })
