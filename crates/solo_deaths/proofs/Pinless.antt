-- A release pins no frame.
use Rattle.std.proofs.Common.{◌≡◌, ℕ, zero, suc, ◌-◌, ◌==◌, Bool, true, false, if◌then◌else◌, refl, subst, inl, inr}
use Rattle.std.proofs.lemmas.Bool.{cases_Bool}
use Rattle.xp_board.proofs.PlaceTests.{equal_by as same_is}
use Rattle.xp_words.specs.declared.entry.Demand.{Demand}
use Rattle.xp_words.specs.declared.entry.Demand.TheVariants.{Nothing, Bad, Read, Typed}
use Rattle.xp_words.specs.declared.kind.KindWord.{KindWord}
use Rattle.xp_words.specs.declared.kind.PageType.{PageType}
use Rattle.xp_words.specs.declared.kind.PageType.TheVariants as kinds
use Rattle.xp_board.specs.Readings.{is_partial}
use Rattle.partial_state.specs.Levels.{level_type}
use Rattle.table_law.specs.Levels.{closed_as, entry_of}
use Rattle.table_law.specs.Plain.{Plain, with_kind}
use Rattle.table_law.specs.Release.{count_back, drop_demand, drop_first, drop_kind, emptying, entries_held, is_counted_on, let_go, keeps_mark}

module _ (g : ℕ) where
  abbrev pub Off : Plain → Type 0
  Off p = (p.kinds g).pinned ≡ false

  here_or : (b : Bool) (k l : KindWord) → (b ≡ true → k.pinned ≡ false) → l.pinned ≡ false → (if b then k else l).pinned ≡ false
  here_or true k l a e = a refl
  here_or false k l a e = e

  by_closed : (u : Bool) (f : ℕ) (t : PageType) (p : Plain) → Off p → Off (closed_as u f t p)
  by_closed u f t p e = here_or (g == f) _ (p.kinds g) (λ b. refl) e

  by_count : (f : ℕ) (k : KindWord) (p : Plain) → (g ≡ f → k.pinned ≡ false) → Off p → Off (count_back f k p)
  by_count f k p a e = here_or (g == f) (record k { number = k.number - 1 }) (p.kinds g) (λ b. a (same_is g f b)) e

  own_kind : (f : ℕ) (p : Plain) → Off p → g ≡ f → (p.kinds f).pinned ≡ false
  own_kind f p e is = subst (λ h. (p.kinds h).pinned ≡ false) is e

  emptied : (k : KindWord) → k.pinned ≡ false → (emptying k).pinned ≡ false
  emptied k e = elim (cases_Bool (is_partial k)) [
    | inl part ↦ rw part e
    | inr off ↦ rw off e
  ]

  abbrev Empties : (ℕ → Plain → Plain) → Type 0
  Empties empty = (k : ℕ) (p : Plain) → Off p → Off (empty k p)

  by_drop_at : (empty : ℕ → Plain → Plain) (f : ℕ) (t : PageType) (p : Plain) → Empties empty → Off p → Off (drop_kind empty f t p (p.kinds f))
  by_drop_at empty f t p goes e = elim (cases_Bool (is_counted_on (p.kinds f))) [
    | inl on ↦ rw on (by_count f (p.kinds f) p (own_kind f p e) e)
    | inr off ↦ rw off (by_closed (keeps_mark (p.kinds f)) f t (empty (entries_held (p.kinds f)) (with_kind f (emptying (p.kinds f)) p)) (goes (entries_held (p.kinds f)) (with_kind f (emptying (p.kinds f)) p)
        (here_or (g == f) (emptying (p.kinds f)) (p.kinds g) (λ b. emptied (p.kinds f) (own_kind f p e (same_is g f b))) e)))
  ]

  by_demand : (below : ℕ → Plain → Plain) (p : Plain) (d : Demand) → ((h : ℕ) (q : Plain) → Off q → Off (below h q)) → Off p → Off (drop_demand below p d)
  by_demand below p Nothing goes e = e
  by_demand below p Bad goes e = e
  by_demand below p (Read h) goes e = e
  by_demand below p (Typed h t) goes e = goes h p e

  by_first : (below : ℕ → Plain → Plain) (t : PageType) (f k : ℕ) (p : Plain) → ((h : ℕ) (q : Plain) → Off q → Off (below h q)) → Off p → Off (drop_first below t f k p)
  unfolding drop_first
  by_first below t f zero p goes e = e
  by_first below t f (suc k) p goes e = by_first below t f k (drop_demand below p (entry_of p t f k)) goes (by_demand below p (entry_of p t f k) goes e)

  pub by_let_go : (l f : ℕ) (p : Plain) → Off p → Off (let_go l f p)
  unfolding let_go
  by_let_go zero f p e = by_drop_at (λ k q. q) f kinds.Writable p (λ k q a. a) e
  by_let_go (suc l) f p e = by_drop_at (drop_first (let_go l) (level_type (suc l)) f) f (level_type (suc l)) p (λ k q a. by_first (let_go l) (level_type (suc l)) f k q (λ h r b. by_let_go l h r b) a) e
