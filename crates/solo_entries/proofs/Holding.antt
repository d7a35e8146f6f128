-- A table that is locked has two type counts or more. A release that leaves it so has only lowered them, so it leaves the same whether the lock is on or off.
use Rattle.solo_entries.specs.Exchanges.{HasTwoTypeCounts}
use Rattle.std.proofs.Common.{◌≡◌, ◌≢◌, ◌≤◌, ℕ, zero, suc, ◌-◌, ◌==◌, if◌then◌else◌, Bool, true, false, Option, refl, sym, ap, ◌∙◌, subst, arith, inl, inr, ◌⊎◌}
use Rattle.std.proofs.Math.Path.{fun_ext}
use Rattle.std.proofs.lemmas.Bool.{cases_eq}
use Rattle.std.proofs.lemmas.Bool.Decides.{nat_tests}
use Rattle.xp_words.specs.declared.entry.Demand.{Demand}
use Rattle.xp_words.specs.declared.entry.Demand.TheVariants.{Nothing, Bad, Read, Typed}
use Rattle.xp_words.specs.declared.kind.KindWord.{KindWord}
use Rattle.xp_words.specs.declared.kind.PageType.{PageType}
use Rattle.xp_words.specs.declared.kind.PageType.TheVariants as kinds
use Rattle.kind_words.specs.Kinds.{dead_kind}
use Rattle.partial_state.specs.Levels.{level_type}
use Rattle.table_law.specs.Levels.{closed_as, entry_of}
use Rattle.table_law.specs.Plain.{Plain, Share, at, fewer, reference_back, with_kind}
use Rattle.table_law.specs.Release.{count_back, drop_demand, drop_first, drop_kind, emptying, entries_held, is_counted_on, let_go, keeps_mark}
use Rattle.table_law.proofs.Counting.{at_here, at_there}

-- ---- two functions on frames, one behind the other
at_apart : {A : Type 0} (f g : ℕ) (a b : A) (s : ℕ → A) → g ≢ f → at g a (at f b s) ≡ at f b (at g a s)
at_apart f g a b s off = fun_ext (λ h. by h (cases_eq h g) (cases_eq h f))
  where
    by : (h : ℕ) → (h ≡ g) ⊎ (h ≢ g) → (h ≡ f) ⊎ (h ≢ f) → at g a (at f b s) h ≡ at f b (at g a s) h
    by h (inl e) (inl d) = absurd (off (sym e ∙ d))
    by h (inl e) (inr d) = ap (at g a (at f b s)) e ∙ at_here g a (at f b s) ∙ sym (at_there f h b (at g a s) d ∙ (ap (at g a s) e ∙ at_here g a s))
    by h (inr e) (inl d) = at_there g h a (at f b s) e ∙ (ap (at f b s) d ∙ at_here f b s) ∙ sym (ap (at f b (at g a s)) d ∙ at_here f b (at g a s))
    by h (inr e) (inr d) = at_there g h a (at f b s) e ∙ at_there f h b s d ∙ sym (at_there f h b (at g a s) d ∙ at_there g h a s e)

abbrev back_at : ℕ → (ℕ → Option Share) → ℕ → Option Share
back_at g s = at g (fewer (s g)) s

both_back : (f g : ℕ) (s : ℕ → Option Share) → back_at g (back_at f s) ≡ back_at f (back_at g s)
both_back f g s = elim (cases_eq g f) [
  | inl e ↦ subst (λ h. back_at h (back_at f s) ≡ back_at f (back_at h s)) (sym e) refl
  | inr off ↦
      ap (λ o. at g (fewer o) (back_at f s)) (at_there f g (fewer (s f)) s off) ∙ at_apart f g (fewer (s g)) (fewer (s f)) s off
      ∙ ap (λ o. at f (fewer o) (back_at g s)) (sym (at_there g f (fewer (s g)) s (λ e. off (sym e))))
]

-- ---- the lock of frame f
module _ (f : ℕ) where
  abbrev pub less : KindWord → KindWord
  less k = record k { number = k.number - 1; locked = false }

  -- the lock goes off, with a type count and a reference
  abbrev pub off : Plain → Plain
  off p = reference_back f (with_kind f (less (p.kinds f)) p)

  held_by : (p q : Plain) → q.kinds f ≡ p.kinds f → HasTwoTypeCounts f q → HasTwoTypeCounts f p
  held_by p q same held = record { live = ap (λ (k : KindWord). k.validated) (sym same) ∙ held.live; several = subst (λ (k : KindWord). 2 ≤ k.number) same held.several }

  -- ---- what it leaves so was so
  abbrev Back : (Plain → Plain) → Type 0
  Back F = (p : Plain) → HasTwoTypeCounts f (F p) → HasTwoTypeCounts f p

  back_kind : (g : ℕ) (k : KindWord) (p : Plain) → f ≢ g → HasTwoTypeCounts f (with_kind g k p) → HasTwoTypeCounts f p
  back_kind g k p apart held = held_by p (with_kind g k p) (at_there g f k p.kinds apart) held

  back_count : (g : ℕ) (p : Plain) → HasTwoTypeCounts f (count_back g (p.kinds g) p) → HasTwoTypeCounts f p
  back_count g p held = elim (cases_eq f g) [
    | inl e ↦
        let k = p.kinds g in
        let here : (count_back g k p).kinds f ≡ record k { number = k.number - 1 } = ap (at g (record k { number = k.number - 1 }) p.kinds) e ∙ at_here g (record k { number = k.number - 1 }) p.kinds in
        let same : p.kinds f ≡ k = ap p.kinds e in
        record {
          live = ap (λ (j : KindWord). j.validated) same ∙ sym (ap (λ (j : KindWord). j.validated) here) ∙ held.live;
          several = (let s = held.several in let c = ap (λ (j : KindWord). j.number) here in let d = ap (λ (j : KindWord). j.number) same in omega (arith, s, c, d));
        }
    | inr apart ↦ held_by p (count_back g (p.kinds g) p) (at_there g f (record (p.kinds g) { number = (p.kinds g).number - 1 }) p.kinds apart) held
  ]

  -- a frame that is closed is another one
  closed_apart : (u : Bool) (g : ℕ) (t : PageType) (p : Plain) → HasTwoTypeCounts f (closed_as u g t p) → f ≢ g
  closed_apart u g t p held e =
      let here : (closed_as u g t p).kinds f ≡ dead_kind t u 0 = ap (at g (dead_kind t u 0) p.kinds) e ∙ at_here g (dead_kind t u 0) p.kinds in
      let live = sym (ap (λ (j : KindWord). j.validated) here) ∙ held.live in
      cc

  module _ (empty : ℕ → Plain → Plain) (g : ℕ) (t : PageType) (backs : (k : ℕ) → Back (empty k)) where
    back_drop_by : (b : Bool) (p : Plain) → HasTwoTypeCounts f (if b then count_back g (p.kinds g) p else closed_as (keeps_mark (p.kinds g)) g t (empty (entries_held (p.kinds g)) (with_kind g (emptying (p.kinds g)) p))) → HasTwoTypeCounts f p
    back_drop_by true p held = back_count g p held
    back_drop_by false p held =
        let inner = with_kind g (emptying (p.kinds g)) p in
        let u = keeps_mark (p.kinds g) in
        let apart = closed_apart u g t (empty (entries_held (p.kinds g)) inner) held in
        back_kind g (emptying (p.kinds g)) p apart (backs (entries_held (p.kinds g)) inner (back_kind g (dead_kind t u 0) (empty (entries_held (p.kinds g)) inner) apart (record { live = held.live; several = held.several })))

    back_drop : (p : Plain) → HasTwoTypeCounts f (drop_kind empty g t p (p.kinds g)) → HasTwoTypeCounts f p
    back_drop p held = back_drop_by (is_counted_on (p.kinds g)) p held

  back_demand : (below : ℕ → Plain → Plain) → ((g : ℕ) → Back (below g)) → (p : Plain) (d : Demand) → HasTwoTypeCounts f (drop_demand below p d) → HasTwoTypeCounts f p
  back_demand below backs p Nothing held = held
  back_demand below backs p Bad held = held
  back_demand below backs p (Read g) held = record { live = held.live; several = held.several }
  back_demand below backs p (Typed g t) held = backs g p held

  back_first : (below : ℕ → Plain → Plain) → ((g : ℕ) → Back (below g)) → (t : PageType) (h k : ℕ) (p : Plain) → HasTwoTypeCounts f (drop_first below t h k p) → HasTwoTypeCounts f p
  unfolding drop_first
  back_first below backs t h zero p held = held
  back_first below backs t h (suc k) p held = back_demand below backs p (entry_of p t h k) (back_first below backs t h k (drop_demand below p (entry_of p t h k)) held)

  pub back_go : (l g : ℕ) → Back (let_go l g)
  unfolding let_go
  back_go zero g p held = back_drop (λ k q. q) g kinds.Writable (λ k q h. h) p held
  back_go (suc l) g p held = back_drop (drop_first (let_go l) (level_type (suc l)) g) g (level_type (suc l)) (λ k q h. back_first (let_go l) (λ i. back_go l i) (level_type (suc l)) g k q h) p held

  -- ---- the same with the lock off
  abbrev Passes : (Plain → Plain) → Type 0
  Passes F = (p : Plain) → HasTwoTypeCounts f (F p) → F (off p) ≡ off (F p)

  abbrev plain : (ℕ → Option Share) → (ℕ → KindWord) → (ℕ → ℕ → ℕ) → Plain
  plain s k c = record { shares = s; kinds = k; cells = c }

  plain_is : (a b : ℕ → Option Share) (k l : ℕ → KindWord) (c : ℕ → ℕ → ℕ) → a ≡ b → k ≡ l → plain a k c ≡ plain b l c
  plain_is a b k l c e d = ap (λ s. plain s k c) e ∙ ap (λ s. plain b s c) d

  pub off_reference : (g : ℕ) (p : Plain) → reference_back g (off p) ≡ off (reference_back g p)
  off_reference g p = plain_is (back_at g (back_at f p.shares)) (back_at f (back_at g p.shares)) (at f (less (p.kinds f)) p.kinds) (at f (less (p.kinds f)) p.kinds) p.cells (both_back f g p.shares) refl

  off_kind : (g : ℕ) (k : KindWord) (p : Plain) → f ≢ g → with_kind g k (off p) ≡ off (with_kind g k p)
  off_kind g k p apart =
      plain_is (back_at f p.shares) (back_at f p.shares) (at g k (at f (less (p.kinds f)) p.kinds)) (at f (less (at g k p.kinds f)) (at g k p.kinds)) p.cells refl
      (at_apart f g k (less (p.kinds f)) p.kinds (λ e. apart (sym e)) ∙ ap (λ j. at f (less j) (at g k p.kinds)) (sym (at_there g f k p.kinds apart)))

  off_count_apart : (g : ℕ) (k : KindWord) (p : Plain) → f ≢ g → count_back g k (off p) ≡ off (count_back g k p)
  off_count_apart g k p apart =
      let less_k = record k { number = k.number - 1 } in
      ap (reference_back g) (off_kind g less_k p apart) ∙ off_reference g (with_kind g less_k p)

  kinds_over : (k j : KindWord) (s : ℕ → KindWord) → at f k (at f j s) ≡ at f k s
  kinds_over k j s = fun_ext (λ h. over (h == f) (s h))
    where
      over : (b : Bool) (x : KindWord) → (if b then k else (if b then j else x)) ≡ (if b then k else x)
      over true x = refl
      over false x = refl

  off_count_here : (p : Plain) → count_back f ((off p).kinds f) (off p) ≡ off (count_back f (p.kinds f) p)
  off_count_here p =
      let k = p.kinds f in
      let one = record k { number = k.number - 1 } in
      let last = less one in
      ap (λ (j : KindWord). count_back f j (off p)) (at_here f (less k) p.kinds)
      ∙ plain_is (back_at f (back_at f p.shares)) (back_at f (back_at f p.shares)) (at f last (at f (less k) p.kinds)) (at f (less (at f one p.kinds f)) (at f one p.kinds)) p.cells refl
      (kinds_over last (less k) p.kinds ∙ (sym (kinds_over last one p.kinds) ∙ ap (λ j. at f (less j) (at f one p.kinds)) (sym (at_here f one p.kinds))))

  off_closed : (u : Bool) (g : ℕ) (t : PageType) (p : Plain) → f ≢ g → closed_as u g t (off p) ≡ off (closed_as u g t p)
  off_closed u g t p apart = ap (reference_back g) (off_kind g (dead_kind t u 0) p apart) ∙ off_reference g (with_kind g (dead_kind t u 0) p)

  -- one with a type count more to go
  counted_on : (k : KindWord) → k.validated ≡ true → 3 ≤ k.number → is_counted_on (less k) ≡ true
  counted_on k live many = grind (arith, nat_tests)

  drop_itself : (empty : ℕ → Plain → Plain) (t : PageType) (p : Plain) → HasTwoTypeCounts f (count_back f (p.kinds f) p) → drop_kind empty f t (off p) ((off p).kinds f) ≡ off (count_back f (p.kinds f) p)
  drop_itself empty t p held =
      let k = p.kinds f in
      let here : (count_back f k p).kinds f ≡ record k { number = k.number - 1 } = at_here f (record k { number = k.number - 1 }) p.kinds in
      let live : k.validated ≡ true = sym (ap (λ (j : KindWord). j.validated) here) ∙ held.live in
      let many : 3 ≤ k.number = (let s = held.several in let c = ap (λ (j : KindWord). j.number) here in omega (arith, s, c)) in
      let on : is_counted_on ((off p).kinds f) ≡ true = ap is_counted_on (at_here f (less k) p.kinds) ∙ counted_on k live many in
      let j = (off p).kinds f in
      ap (λ b. if b then count_back f j (off p) else closed_as (keeps_mark j) f t (empty (entries_held j) (with_kind f (emptying j) (off p)))) on ∙ off_count_here p

  module _ (empty : ℕ → Plain → Plain) (g : ℕ) (t : PageType) (passes : (k : ℕ) → Passes (empty k)) where
    abbrev dropped : Bool → Plain → KindWord → Plain
    dropped b p k = if b then count_back g k p else closed_as (keeps_mark k) g t (empty (entries_held k) (with_kind g (emptying k) p))

    -- another frame
    drop_apart : (b : Bool) (p : Plain) → f ≢ g → HasTwoTypeCounts f (dropped b p (p.kinds g)) → dropped b (off p) (p.kinds g) ≡ off (dropped b p (p.kinds g))
    drop_apart true p apart held = off_count_apart g (p.kinds g) p apart
    drop_apart false p apart held =
        let k = p.kinds g in
        let inner = with_kind g (emptying k) p in
        let emptied = empty (entries_held k) inner in
        let u = keeps_mark k in
        let still : HasTwoTypeCounts f emptied = back_kind g (dead_kind t u 0) emptied apart (record { live = held.live; several = held.several }) in
        ap (λ q. closed_as u g t (empty (entries_held k) q)) (off_kind g (emptying k) p apart) ∙ ap (closed_as u g t) (passes (entries_held k) inner still) ∙ off_closed u g t emptied apart

    -- the frame itself
    drop_here : (b : Bool) (p : Plain) → f ≡ g → is_counted_on (p.kinds g) ≡ b → HasTwoTypeCounts f (dropped b p (p.kinds g)) → drop_kind empty g t (off p) ((off p).kinds g) ≡ off (dropped b p (p.kinds g))
    drop_here true p same on held =
        subst (λ i. HasTwoTypeCounts f (count_back i (p.kinds i) p) → drop_kind empty i t (off p) ((off p).kinds i) ≡ off (count_back i (p.kinds i) p)) same (drop_itself empty t p) held
    drop_here false p same on held = absurd (closed_apart (keeps_mark (p.kinds g)) g t (empty (entries_held (p.kinds g)) (with_kind g (emptying (p.kinds g)) p)) held same)

    pub drop_passes : (p : Plain) → HasTwoTypeCounts f (drop_kind empty g t p (p.kinds g)) → drop_kind empty g t (off p) ((off p).kinds g) ≡ off (drop_kind empty g t p (p.kinds g))
    drop_passes p held = elim (cases_eq f g) [
      | inl e ↦ drop_here (is_counted_on (p.kinds g)) p e refl held
      | inr apart ↦ ap (λ k. drop_kind empty g t (off p) k) (at_there f g (less (p.kinds f)) p.kinds (λ e. apart (sym e))) ∙ drop_apart (is_counted_on (p.kinds g)) p apart held
    ]

  demand_passes : (below : ℕ → Plain → Plain) → ((g : ℕ) → Passes (below g)) → (p : Plain) (d : Demand) → HasTwoTypeCounts f (drop_demand below p d) → drop_demand below (off p) d ≡ off (drop_demand below p d)
  demand_passes below passes p Nothing held = refl
  demand_passes below passes p Bad held = refl
  demand_passes below passes p (Read g) held = off_reference g p
  demand_passes below passes p (Typed g t) held = passes g p held

  first_passes : (below : ℕ → Plain → Plain) → ((g : ℕ) → Back (below g)) → ((g : ℕ) → Passes (below g)) → (t : PageType) (h k : ℕ) (p : Plain) → HasTwoTypeCounts f (drop_first below t h k p) → drop_first below t h k (off p) ≡ off (drop_first below t h k p)
  unfolding drop_first
  first_passes below goes passes t h zero p held = refl
  first_passes below goes passes t h (suc k) p held =
      let next = drop_demand below p (entry_of p t h k) in
      ap (drop_first below t h k) (demand_passes below passes p (entry_of p t h k) (back_first below goes t h k next held)) ∙ first_passes below goes passes t h k next held

  pub go_passes : (l g : ℕ) → Passes (let_go l g)
  unfolding let_go
  go_passes zero g p held = drop_passes (λ k q. q) g kinds.Writable (λ k q h. refl) p held
  go_passes (suc l) g p held =
      drop_passes (drop_first (let_go l) (level_type (suc l)) g) g (level_type (suc l)) (λ k q h. first_passes (let_go l) (λ i. back_go l i) (λ i. go_passes l i) (level_type (suc l)) g k q h) p held
