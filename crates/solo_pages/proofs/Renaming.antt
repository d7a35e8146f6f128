-- Own words that name descriptor pages get other values, and what they named is given back: each as the plain function, and in any order.
use Rattle.std.proofs.Common.{◌≡◌, ◌≢◌, ℕ, zero, suc, ◌+◌, ◌-◌, ◌≤◌, ◌==◌, if◌then◌else◌, Bool, true, false, Option, refl, sym, ap, ◌∙◌, subst, arith}
use Rattle.std.proofs.Math.Path.{fun_ext}
use Rattle.std.proofs.lemmas.Bool.Decides.{nat_tests}
use Rattle.xp_words.specs.declared.kind.KindWord.{KindWord}
use Rattle.xp_words.specs.declared.kind.PageType.TheVariants.{Desc}
use Rattle.xp_words.proofs.Shared.{eq_false}
use Rattle.kind_words.specs.Kinds.{dead_kind}
use Rattle.table_law.specs.Plain.{Plain, Share, at, fewer}
use Rattle.table_law.specs.Release.{emptying, is_counted_on, keeps_mark}
use Rattle.script_law.specs.Frames.{back_named, rename}
use Rattle.script_law.specs.Pages.{give_page}
use Rattle.script_law.specs.Repeats.{each_below}
use Rattle.script_law.specs.Values.{Solo, put_at}
use Rattle.xp_board.proofs.PlaceTests.{equal_by}
use Rattle.solo_pages.proofs.Giving.{given, given_last, given_more}

-- ---- one place of a function is changed by what is there
abbrev pub acted : {A : Type 0} → (A → A) → ℕ → (ℕ → A) → ℕ → A
acted act f old = at f (act (old f)) old

module _ {A : Type 0} (act : A → A) (f g : ℕ) (old : ℕ → A) (off : f ≢ g) where
  swapped_by : (b c : Bool) (h : ℕ) → (h == f) ≡ b → (h == g) ≡ c → acted act f (acted act g old) h ≡ acted act g (acted act f old) h
  swapped_by true true h one two = absurd (off (sym (equal_by h f one) ∙ equal_by h g two))
  swapped_by true false h one two = rw (one, two, eq_false f g off) refl
  swapped_by false true h one two = rw (one, two, eq_false g f (λ e. off (sym e))) refl
  swapped_by false false h one two = rw (one, two) refl

  pub swapped : acted act f (acted act g old) ≡ acted act g (acted act f old)
  swapped = fun_ext (λ h. swapped_by (h == f) (h == g) h refl refl)

-- ---- one page given back
less : KindWord → KindWord
less k = if is_counted_on k then record k { number = k.number - 1 } else dead_kind Desc (keeps_mark k) 0

one_back : ℕ → Plain → Plain
one_back f p = record { shares = acted fewer f p.shares; kinds = acted less f p.kinds; cells = p.cells }

module _ (f : ℕ) (p : Plain) where
  closing_by : (u b : Bool) (h : ℕ) → (h == f) ≡ b → (if b then dead_kind Desc u 0 else (if b then emptying (p.kinds f) else p.kinds h)) ≡ (if b then dead_kind Desc u 0 else p.kinds h)
  closing_by u true h is = refl
  closing_by u false h is = refl

  back_by : (b : Bool) → is_counted_on (p.kinds f) ≡ b → given f Desc p ≡ one_back f p
  unfolding less one_back
  back_by true many = given_more f Desc p many ∙ ap (λ (k : KindWord). record { shares = acted fewer f p.shares; kinds = at f k p.kinds; cells = p.cells }) (sym (ap (λ b. if b then record (p.kinds f) { number = (p.kinds f).number - 1 } else dead_kind Desc (keeps_mark (p.kinds f)) 0) many))
  back_by false last =
      given_last f Desc p last
      ∙ ap (λ (ks : ℕ → KindWord). record { shares = acted fewer f p.shares; kinds = ks; cells = p.cells }) (fun_ext (λ h. closing_by (keeps_mark (p.kinds f)) (h == f) h refl))
      ∙ ap (λ (k : KindWord). record { shares = acted fewer f p.shares; kinds = at f k p.kinds; cells = p.cells }) (sym (ap (λ b. if b then record (p.kinds f) { number = (p.kinds f).number - 1 } else dead_kind Desc (keeps_mark (p.kinds f)) 0) last))

  back_is : give_page f p ≡ one_back f p
  back_is = back_by (is_counted_on (p.kinds f)) refl

backs_apart : (f g : ℕ) (p : Plain) → f ≢ g → one_back f (one_back g p) ≡ one_back g (one_back f p)
unfolding less one_back
backs_apart f g p off =
    ap (λ (ss : ℕ → Option Share). record { shares = ss; kinds = acted less f (acted less g p.kinds); cells = p.cells }) (swapped fewer f g p.shares off)
    ∙ ap (λ (ks : ℕ → KindWord). record { shares = acted fewer g (acted fewer f p.shares); kinds = ks; cells = p.cells }) (swapped less f g p.kinds off)

backs_swap : (f g : ℕ) (p : Plain) → one_back f (one_back g p) ≡ one_back g (one_back f p)
backs_swap f g p = by (f == g) refl
  where
    by : (b : Bool) → (f == g) ≡ b → one_back f (one_back g p) ≡ one_back g (one_back f p)
    by true is = let e = equal_by f g is in subst (λ h. one_back f (one_back h p) ≡ one_back h (one_back f p)) e refl
    by false is = backs_apart f g p (let off : f ≢ g = grind (arith, nat_tests) in off)

give_swap : (f g : ℕ) (p : Plain) → give_page f (give_page g p) ≡ give_page g (give_page f p)
give_swap f g p =
    back_is f (give_page g p) ∙ ap (one_back f) (back_is g p) ∙ backs_swap f g p ∙ sym (back_is g (give_page f p) ∙ ap (one_back g) (back_is f p))

named_swap : (a b : ℕ) (p : Plain) → back_named give_page a (back_named give_page b p) ≡ back_named give_page b (back_named give_page a p)
named_swap zero b p = refl
named_swap (suc f) zero p = refl
named_swap (suc f) (suc g) p = give_swap f g p

-- ---- one word renamed
module _ (i j x y : ℕ) (s : Solo) (off : i ≢ j) where
  own_by : (b c : Bool) (h : ℕ) → (h == i) ≡ b → (h == j) ≡ c → put_at i x (put_at j y s.own) h ≡ put_at j y (put_at i x s.own) h
  own_by true true h one two = absurd (off (sym (equal_by h i one) ∙ equal_by h j two))
  own_by true false h one two = rw (one, two) refl
  own_by false true h one two = rw (one, two) refl
  own_by false false h one two = rw (one, two) refl

  here : put_at j y s.own i ≡ s.own i
  here = ap (λ b. if b then y else s.own i) (eq_false i j off)

  there : put_at i x s.own j ≡ s.own j
  there = ap (λ b. if b then x else s.own j) (eq_false j i (λ e. off (sym e)))

  pub renames_swap : rename give_page i x (rename give_page j y s) ≡ rename give_page j y (rename give_page i x s)
  renames_swap =
      let frames =
      ap (λ o. back_named give_page o (back_named give_page (s.own j) s.frames)) here ∙ named_swap (s.own i) (s.own j) s.frames
      ∙ sym (ap (λ o. back_named give_page o (back_named give_page (s.own i) s.frames)) there) in
      ap (λ (p : Plain). record s { frames = p; own = put_at i x (put_at j y s.own) }) frames
      ∙ ap (λ (o : ℕ → ℕ). record s { frames = back_named give_page (put_at i x s.own j) (back_named give_page (s.own i) s.frames); own = o }) (fun_ext (λ h. own_by (h == i) (h == j) h refl refl))

-- ---- from the last one down is as from the first one up
abbrev pub Swaps : (ℕ → Solo → Solo) → Type 0
Swaps one = (i j : ℕ) (s : Solo) → i ≢ j → one i (one j s) ≡ one j (one i s)

pub through : (one : ℕ → Solo → Solo) (m k : ℕ) (s : Solo) → Swaps one → m ≤ k → each_below m one (one k s) ≡ one k (each_below m one s)
unfolding each_below
through one zero k s swaps low = refl
through one (suc m) k s swaps low = ap (one m) (through one m k s swaps (omega (arith, low))) ∙ swaps m k (each_below m one s) (λ e. omega (arith, e, low))

-- the next one down
pub one_down : (one : ℕ → Solo → Solo) (k : ℕ) (s : Solo) → Swaps one → each_below k one (one k s) ≡ each_below (k + 1) one s
unfolding each_below
one_down one k s swaps = through one k k s swaps (omega arith) ∙ (let e : suc k ≡ k + 1 = omega arith in ap (λ m. each_below m one s) e)

-- ---- no frame comes by the mark that keeps it
less_kept : (k : KindWord) → k.kept ≡ false → (less k).kept ≡ false
unfolding less
less_kept k e = by (is_counted_on k)
  where
    by : (b : Bool) → (if b then record k { number = k.number - 1 } else dead_kind Desc (keeps_mark k) 0).kept ≡ false
    by true = e
    by false = refl

pub kept_given : (f g : ℕ) (p : Plain) → (p.kinds g).kept ≡ false → ((give_page f p).kinds g).kept ≡ false
unfolding one_back
kept_given f g p e = subst (λ (q : Plain). (q.kinds g).kept ≡ false) (sym (back_is f p)) (by (g == f) refl)
  where
    by : (b : Bool) → (g == f) ≡ b → (if b then less (p.kinds f) else p.kinds g).kept ≡ false
    by true is = less_kept (p.kinds f) (subst (λ h. (p.kinds h).kept ≡ false) (equal_by g f is) e)
    by false is = e
