-- Two plain values that differ in kind words alone, of frames that are being released and hold no type count any more: a release leaves the same of them.
use Rattle.std.proofs.Common.{◌≡◌, ◌⊎◌, ℕ, zero, suc, ◌-◌, ◌==◌, ◌&&◌, not, nat_lt, if◌then◌else◌, Bool, true, false, List, [], ◌∷◌, refl, sym, ap, ◌∙◌, subst, inl, inr, arith}
use Rattle.std.proofs.lemmas.Bool.Decides.{nat_tests}
use Rattle.std.proofs.Math.Path.{fun_ext}
use Rattle.xp_words.specs.Entries.{demand_at}
use Rattle.xp_words.specs.declared.entry.Demand.{Demand}
use Rattle.xp_words.specs.declared.entry.Demand.TheVariants.{Nothing, Bad, Read, Typed}
use Rattle.xp_words.specs.declared.kind.KindWord.{KindWord}
use Rattle.xp_words.specs.declared.kind.PageType.{PageType}
use Rattle.xp_words.specs.declared.kind.PageType.TheVariants as kinds
use Rattle.xp_board.specs.KindSteps.{resumed_kind}
use Rattle.xp_board.specs.Readings.{is_partial}
use Rattle.kind_words.specs.Kinds.{dead_kind}
use Rattle.partial_state.specs.Levels.{level_type}
use Rattle.table_law.specs.Levels.{closed, closed_as, entry_of}
use Rattle.table_law.specs.Plain.{Plain, at, fewer, reference_back, with_kind}
use Rattle.table_law.specs.Release.{drop_demand, drop_first, drop_kind, emptying, entries_held, is_counted_on, let_go, keeps_mark}

-- ---- a frame that is being released: no type count is left, and all 512 entries would be given back
pub record IsSpent (k : KindWord) : Type 0 where
  pub none : (k.validated && nat_lt 0 k.number) ≡ false
  pub whole : is_partial k ≡ false

uncounted_by : (v : Bool) (number : ℕ) → (v && nat_lt 0 number) ≡ false → (v && nat_lt 1 number) ≡ false
uncounted_by true number none = grind (arith, nat_tests)
uncounted_by false number none = refl

pub spent_uncounted : (k : KindWord) → IsSpent k → is_counted_on k ≡ false
spent_uncounted k s = uncounted_by k.validated k.number s.none

pub dead_spent : (t : PageType) (u : Bool) (stamp : ℕ) → IsSpent (dead_kind t u stamp)
dead_spent t u stamp = record { none = refl; whole = refl }

none_counted : (b : Bool) → (b && false) ≡ false
none_counted true = refl
none_counted false = refl

emptying_by : (b : Bool) (k : KindWord) → is_partial k ≡ b → IsSpent (if b then resumed_kind k else record k { number = 0 })
emptying_by true k is = record { none = off k.validated k.partial is; whole = none_counted (not k.validated) }
  where
    off : (v p : Bool) → (not v && p) ≡ true → (v && nat_lt 0 k.number) ≡ false
    off true p is = absurd (cc)
    off false p is = refl
emptying_by false k is = record { none = none_counted k.validated; whole = is }

pub emptying_spent : (k : KindWord) → IsSpent (emptying k)
emptying_spent k = emptying_by (is_partial k) k refl

spent_bare : (k : KindWord) → IsSpent k → keeps_mark k ≡ false
spent_bare k s = ap (λ b. b && k.unflushed) s.whole

pub spent_held : (k : KindWord) → IsSpent k → entries_held k ≡ 512
spent_held k s = ap (λ b. if b then k.progress else 512) s.whole

-- ---- alike, but for such frames of a list
abbrev pub IsOf : List ℕ → ℕ → Type 0
IsOf [] g = ⊥
IsOf (f ∷ fs) g = (g ≡ f) ⊎ IsOf fs g

abbrev pub IsEither : List ℕ → ℕ → KindWord → KindWord → Type 0
IsEither fs g k l = (k ≡ l) ⊎ (IsOf fs g × IsSpent k × IsSpent l)

pub record IsLike (fs : List ℕ) (p q : Plain) : Type 0 where
  pub shares : (g : ℕ) → p.shares g ≡ q.shares g
  pub kinds : (g : ℕ) → IsEither fs g (p.kinds g) (q.kinds g)
  pub cells : (g i : ℕ) → p.cells g i ≡ q.cells g i

pub like_itself : (fs : List ℕ) (p : Plain) → IsLike fs p p
like_itself fs p = record { shares = λ g. refl; kinds = λ g. inl refl; cells = λ g i. refl }

-- no list: the same value
pub like_same : (p q : Plain) → IsLike [] p q → p ≡ q
like_same p q like =
    let shares : p.shares ≡ q.shares = fun_ext like.shares in
    let kinds : p.kinds ≡ q.kinds = fun_ext (λ g. by g (like.kinds g)) in
    let cells : p.cells ≡ q.cells = fun_ext (λ g. fun_ext (like.cells g)) in
    ap (λ x. record { shares = x; kinds = p.kinds; cells = p.cells }) shares ∙ (ap (λ x. record { shares = q.shares; kinds = x; cells = p.cells }) kinds ∙ ap (λ x. record { shares = q.shares; kinds = q.kinds; cells = x }) cells)
  where
    by : (g : ℕ) → IsEither [] g (p.kinds g) (q.kinds g) → p.kinds g ≡ q.kinds g
    by g (inl same) = same
    by g (inr off) = absurd off.0

-- ---- what is done with both
module _ (fs : List ℕ) (p q : Plain) (like : IsLike fs p q) where
  shares_at : (f g : ℕ) → at f (fewer (p.shares f)) p.shares g ≡ at f (fewer (q.shares f)) q.shares g
  shares_at f g = ap (λ x. if g == f then fewer x else p.shares g) (like.shares f) ∙ ap (λ x. if g == f then fewer (q.shares f) else x) (like.shares g)

  pub like_back : (g : ℕ) → IsLike fs (reference_back g p) (reference_back g q)
  like_back g = record { shares = shares_at g; kinds = like.kinds; cells = like.cells }

  kind_by : (b : Bool) (f g : ℕ) (k l : KindWord) → (g == f) ≡ b → IsEither fs f k l → IsEither fs g (if b then k else p.kinds g) (if b then l else q.kinds g)
  kind_by true f g k l same either = let e : f ≡ g = grind (arith, nat_tests) in subst (λ i. IsEither fs i k l) e either
  kind_by false f g k l same either = like.kinds g

  pub like_kind : (f : ℕ) (k l : KindWord) → IsEither fs f k l → IsLike fs (with_kind f k p) (with_kind f l q)
  like_kind f k l either = record { shares = like.shares; kinds = λ g. kind_by (g == f) f g k l refl either; cells = like.cells }

like_closed : (fs : List ℕ) (p q : Plain) (u : Bool) (f : ℕ) (t : PageType) → IsLike fs p q → IsLike fs (closed_as u f t p) (closed_as u f t q)
like_closed fs p q u f t like = like_back fs (with_kind f (dead_kind t u 0) p) (with_kind f (dead_kind t u 0) q) (like_kind fs p q like f (dead_kind t u 0) (dead_kind t u 0) (inl refl)) f

-- the first frame of the list is dead behind it, on both
module _ (f : ℕ) (fs : List ℕ) (p q : Plain) (t : PageType) (like : IsLike (f ∷ fs) p q) where
  left_by : (b : Bool) (g : ℕ) → (g == f) ≡ b → IsEither (f ∷ fs) g (p.kinds g) (q.kinds g) → IsEither fs g (if b then dead_kind t false 0 else p.kinds g) (if b then dead_kind t false 0 else q.kinds g)
  left_by true g same either = inl refl
  left_by false g same (inl equal) = inl equal
  left_by false g same (inr (inl is, spent, spent_too)) = absurd (let e : (g == f) ≡ true = grind (arith, nat_tests) in cc)
  left_by false g same (inr (inr one, spent, spent_too)) = inr (one, spent, spent_too)

  dead_like : IsLike fs (with_kind f (dead_kind t false 0) p) (with_kind f (dead_kind t false 0) q)
  dead_like = record { shares = like.shares; kinds = λ g. left_by (g == f) g refl (like.kinds g); cells = like.cells }

  pub first_closed : IsLike fs (closed f t p) (closed f t q)
  first_closed = like_back fs (with_kind f (dead_kind t false 0) p) (with_kind f (dead_kind t false 0) q) dead_like f

-- ---- a release of both
abbrev pub Keeps : List ℕ → (Plain → Plain) → Type 0
Keeps fs f = (p q : Plain) → IsLike fs p q → IsLike fs (f p) (f q)

module _ (fs : List ℕ) (empty : ℕ → Plain → Plain) (g : ℕ) (t : PageType) (keeps : (k : ℕ) → Keeps fs (empty k)) where
  dropped_same : (b : Bool) (p q : Plain) (k : KindWord) → is_counted_on k ≡ b → IsLike fs p q → IsLike fs (drop_kind empty g t p k) (drop_kind empty g t q k)
  dropped_same true p q k on like =
      let less = record k { number = k.number - 1 } in
      rw on (like_back fs (with_kind g less p) (with_kind g less q) (like_kind fs p q like g less less (inl refl)) g)
  dropped_same false p q k off like = rw off (like_closed fs _ _ (keeps_mark k) g t (keeps (entries_held k) _ _ (like_kind fs p q like g (emptying k) (emptying k) (inl refl))))

  dropped_spent : (p q : Plain) (k l : KindWord) → IsOf fs g → IsSpent k → IsSpent l → IsLike fs p q → IsLike fs (drop_kind empty g t p k) (drop_kind empty g t q l)
  dropped_spent p q k l one spent spent_too like =
      let off = spent_uncounted k spent in
      let off_too = spent_uncounted l spent_too in
      let held : entries_held k ≡ entries_held l = spent_held k spent ∙ sym (spent_held l spent_too) in
      let bare : keeps_mark k ≡ keeps_mark l = spent_bare k spent ∙ sym (spent_bare l spent_too) in
      let emptied = like_closed fs _ _ (keeps_mark k) g t (keeps (entries_held k) _ _ (like_kind fs p q like g (emptying k) (emptying l) (inr (one, emptying_spent k, emptying_spent l)))) in
      rw off (rw off_too (subst (λ u. IsLike fs (closed_as (keeps_mark k) g t (empty (entries_held k) (with_kind g (emptying k) p))) (closed_as u g t (empty (entries_held l) (with_kind g (emptying l) q)))) bare
      (subst (λ j. IsLike fs (closed_as (keeps_mark k) g t (empty (entries_held k) (with_kind g (emptying k) p))) (closed_as (keeps_mark k) g t (empty j (with_kind g (emptying l) q)))) held emptied)))

  pub dropped_kind : (p q : Plain) (k l : KindWord) → IsEither fs g k l → IsLike fs p q → IsLike fs (drop_kind empty g t p k) (drop_kind empty g t q l)
  dropped_kind p q k l (inl same) like = subst (λ j. IsLike fs (drop_kind empty g t p k) (drop_kind empty g t q j)) same (dropped_same (is_counted_on k) p q k refl like)
  dropped_kind p q k l (inr spent) like = dropped_spent p q k l spent.0 spent.1 spent.2 like

module _ (fs : List ℕ) (below : ℕ → Plain → Plain) (keeps : (g : ℕ) → Keeps fs (below g)) where
  demand_kept : (p q : Plain) (d : Demand) → IsLike fs p q → IsLike fs (drop_demand below p d) (drop_demand below q d)
  demand_kept p q Nothing like = like
  demand_kept p q Bad like = like
  demand_kept p q (Read g) like = like_back fs p q like g
  demand_kept p q (Typed g t) like = keeps g p q like

  pub first_kept : (t : PageType) (f k : ℕ) → Keeps fs (drop_first below t f k)
  unfolding drop_first
  first_kept t f zero p q like = like
  first_kept t f (suc k) p q like =
      let entry : entry_of p t f k ≡ entry_of q t f k = ap (demand_at t k) (like.cells f k) in
      first_kept t f k (drop_demand below p (entry_of p t f k)) (drop_demand below q (entry_of q t f k)) (subst (λ d. IsLike fs (drop_demand below p (entry_of p t f k)) (drop_demand below q d)) entry (demand_kept p q (entry_of p t f k) like))

pub let_go_kept : (fs : List ℕ) (l g : ℕ) → Keeps fs (let_go l g)
unfolding let_go
let_go_kept fs zero g p q like = dropped_kind fs (λ k q. q) g kinds.Writable (λ k p q like. like) p q (p.kinds g) (q.kinds g) (like.kinds g) like
let_go_kept fs (suc l) g p q like =
    dropped_kind fs (drop_first (let_go l) (level_type (suc l)) g) g (level_type (suc l)) (first_kept fs (let_go l) (let_go_kept fs l) (level_type (suc l)) g) p q (p.kinds g) (q.kinds g) (like.kinds g) like

-- ---- what a release leaves alone: the cells, and that a frame is being released
pub record IsKept (p q : Plain) : Type 0 where
  pub cells : (g i : ℕ) → q.cells g i ≡ p.cells g i
  pub spent : (g : ℕ) → IsSpent (p.kinds g) → IsSpent (q.kinds g)

pub kept_itself : (p : Plain) → IsKept p p
kept_itself p = record { cells = λ g i. refl; spent = λ g s. s }

pub kept_then : (p q r : Plain) → IsKept p q → IsKept q r → IsKept p r
kept_then p q r a b = record { cells = λ g i. b.cells g i ∙ a.cells g i; spent = λ g s. b.spent g (a.spent g s) }

kept_by : (b : Bool) (f g : ℕ) (k : KindWord) (p : Plain) → (g == f) ≡ b → (IsSpent (p.kinds f) → IsSpent k) → IsSpent (p.kinds g) → IsSpent (if b then k else p.kinds g)
kept_by true f g k p same so s = so (let e : g ≡ f = grind (arith, nat_tests) in subst (λ i. IsSpent (p.kinds i)) e s)
kept_by false f g k p same so s = s

pub kept_kind : (f : ℕ) (k : KindWord) (p : Plain) → (IsSpent (p.kinds f) → IsSpent k) → IsKept p (with_kind f k p)
kept_kind f k p so = record { cells = λ g i. refl; spent = λ g s. kept_by (g == f) f g k p refl so s }

pub kept_back : (f : ℕ) (p : Plain) → IsKept p (reference_back f p)
kept_back f p = record { cells = λ g i. refl; spent = λ g s. s }

kept_closed_as : (u : Bool) (f : ℕ) (t : PageType) (p : Plain) → IsKept p (closed_as u f t p)
kept_closed_as u f t p = kept_then p _ _ (kept_kind f (dead_kind t u 0) p (λ s. dead_spent t u 0)) (kept_back f (with_kind f (dead_kind t u 0) p))

pub kept_closed : (f : ℕ) (t : PageType) (p : Plain) → IsKept p (closed f t p)
kept_closed f t p = kept_closed_as false f t p

kept_drop : (empty : ℕ → Plain → Plain) (g : ℕ) (t : PageType) (p : Plain) (b : Bool) → is_counted_on (p.kinds g) ≡ b → ((k : ℕ) (q : Plain) → IsKept q (empty k q)) → IsKept p (drop_kind empty g t p (p.kinds g))
kept_drop empty g t p true on keeps =
    let less = record (p.kinds g) { number = (p.kinds g).number - 1 } in
    rw on (kept_then p (with_kind g less p) _ (kept_kind g less p (λ s. absurd (let off = spent_uncounted (p.kinds g) s in cc))) (kept_back g (with_kind g less p)))
kept_drop empty g t p false off keeps =
    let at_work = with_kind g (emptying (p.kinds g)) p in
    rw off (kept_then p at_work _ (kept_kind g (emptying (p.kinds g)) p (λ s. emptying_spent (p.kinds g))) (kept_then at_work (empty (entries_held (p.kinds g)) at_work) _ (keeps (entries_held (p.kinds g)) at_work) (kept_closed_as (keeps_mark (p.kinds g)) g t (empty (entries_held (p.kinds g)) at_work))))

module _ (below : ℕ → Plain → Plain) (keeps : (g : ℕ) (p : Plain) → IsKept p (below g p)) where
  pub kept_demand : (p : Plain) (d : Demand) → IsKept p (drop_demand below p d)
  kept_demand p Nothing = kept_itself p
  kept_demand p Bad = kept_itself p
  kept_demand p (Read g) = kept_back g p
  kept_demand p (Typed g t) = keeps g p

  kept_first : (t : PageType) (f k : ℕ) (p : Plain) → IsKept p (drop_first below t f k p)
  unfolding drop_first
  kept_first t f zero p = kept_itself p
  kept_first t f (suc k) p = kept_then p (drop_demand below p (entry_of p t f k)) _ (kept_demand p (entry_of p t f k)) (kept_first t f k (drop_demand below p (entry_of p t f k)))

pub kept_release : (l g : ℕ) (p : Plain) → IsKept p (let_go l g p)
unfolding let_go
kept_release zero g p = kept_drop (λ k q. q) g kinds.Writable p (is_counted_on (p.kinds g)) refl (λ k q. kept_itself q)
kept_release (suc l) g p = kept_drop (drop_first (let_go l) (level_type (suc l)) g) g (level_type (suc l)) p (is_counted_on (p.kinds g)) refl (λ k q. kept_first (let_go l) (kept_release l) (level_type (suc l)) g k q)
