-- What is left to give back, one entry at a time: each thing that a loop over the stack does leaves it as it was.
use Rattle.std.proofs.Common.{◌≡◌, ℕ, zero, suc, ◌-◌, ◌<◌, true, false, List, [], ◌∷◌, refl, ap, ◌∙◌, arith}
use Rattle.xp_words.specs.declared.kind.PageType.{PageType}
use Rattle.xp_words.specs.declared.entry.Demand.TheVariants.{Typed}
use Rattle.partial_state.specs.Levels.{level_type}
use Rattle.table_law.specs.Plain.{Plain, with_kind}
use Rattle.table_law.specs.Levels.{TableLeft, entry_of, closed, closed_as}
use Rattle.table_law.specs.Release.{is_counted_on, count_back, entries_held, emptying, drop_demand, drop_first, let_go, undo, undo_below, keeps_mark}
use Rattle.table_law.specs.Stack.{table_left}

-- the last recorded entry of the innermost table is given back
pub undo_entry : (f l a k : ℕ) (xs : List TableLeft) (p : Plain) →
    undo (table_left f l a ∷ xs) (suc k) p ≡ undo (table_left f l a ∷ xs) k (drop_demand (let_go l) p (entry_of p (level_type (suc l)) f k))
unfolding drop_first
undo_entry f l a k xs p = refl

-- one type count and reference of several
pub counted : (l g : ℕ) (p : Plain) → is_counted_on (p.kinds g) ≡ true → let_go l g p ≡ count_back g (p.kinds g) p
unfolding let_go
counted zero g p more = rw more refl
counted (suc l) g p more = rw more refl

pub undo_counted : (f l a k g : ℕ) (t : PageType) (xs : List TableLeft) (p : Plain) → entry_of p (level_type (suc l)) f k ≡ Typed g t →
    is_counted_on (p.kinds g) ≡ true →
    undo (table_left f l a ∷ xs) (suc k) p ≡ undo (table_left f l a ∷ xs) k (count_back g (p.kinds g) p)
undo_counted f l a k g t xs p asks more =
    undo_entry f l a k xs p ∙ ap (λ d. undo (table_left f l a ∷ xs) k (drop_demand (let_go l) p d)) asks ∙ ap (λ q. undo (table_left f l a ∷ xs) k q) (counted l g p more)

-- the last type count of a table
pub opened_as : (l g : ℕ) (p : Plain) → is_counted_on (p.kinds g) ≡ false →
    let_go (suc l) g p ≡ closed_as (keeps_mark (p.kinds g)) g (level_type (suc l)) (drop_first (let_go l) (level_type (suc l)) g (entries_held (p.kinds g)) (with_kind g (emptying (p.kinds g)) p))
unfolding let_go
opened_as l g p last = rw last refl

-- it is the innermost one now
pub opened : (l g : ℕ) (p : Plain) → is_counted_on (p.kinds g) ≡ false → keeps_mark (p.kinds g) ≡ false →
    let_go (suc l) g p ≡ closed g (level_type (suc l)) (drop_first (let_go l) (level_type (suc l)) g (entries_held (p.kinds g)) (with_kind g (emptying (p.kinds g)) p))
opened l g p last bare =
    opened_as l g p last ∙ ap (λ u. closed_as u g (level_type (suc l)) (drop_first (let_go l) (level_type (suc l)) g (entries_held (p.kinds g)) (with_kind g (emptying (p.kinds g)) p))) bare

pub undo_opened : (f l a k g : ℕ) (t : PageType) (xs : List TableLeft) (p : Plain) → k < 512 → entry_of p (level_type (suc (suc l))) f k ≡ Typed g t →
    is_counted_on (p.kinds g) ≡ false → keeps_mark (p.kinds g) ≡ false →
    undo (table_left f (suc l) a ∷ xs) (suc k) p ≡ undo (table_left g l 0 ∷ table_left f (suc l) (511 - k) ∷ xs) (entries_held (p.kinds g)) (with_kind g (emptying (p.kinds g)) p)
unfolding undo_below
undo_opened f l a k g t xs p inside asks last bare =
    let inner = closed g (level_type (suc l)) (drop_first (let_go l) (level_type (suc l)) g (entries_held (p.kinds g)) (with_kind g (emptying (p.kinds g)) p)) in
    let same : k ≡ 511 - (511 - k) = omega arith in
    undo_entry f (suc l) a k xs p
    ∙ ap (λ d. undo (table_left f (suc l) a ∷ xs) k (drop_demand (let_go (suc l)) p d)) asks
    ∙ ap (λ q. undo (table_left f (suc l) a ∷ xs) k q) (opened l g p last bare)
    ∙ ap (λ j. undo (table_left f (suc l) a ∷ xs) j inner) same

-- nothing is recorded any more: the frame is dead, and the next one goes on
pub undo_empty : (f l a g m b : ℕ) (xs : List TableLeft) (p : Plain) →
    undo (table_left f l a ∷ table_left g m b ∷ xs) 0 p ≡ undo (table_left g m b ∷ xs) (511 - b) (closed f (level_type (suc l)) p)
unfolding drop_first undo_below
undo_empty f l a g m b xs p = refl

pub undo_last : (f l a : ℕ) (p : Plain) → undo (table_left f l a ∷ []) 0 p ≡ closed f (level_type (suc l)) p
unfolding drop_first undo_below
undo_last f l a p = refl

-- the release of a table's last type count
pub release_opened : (l f : ℕ) (p : Plain) → is_counted_on (p.kinds f) ≡ false → keeps_mark (p.kinds f) ≡ false → let_go (suc l) f p ≡ undo (table_left f l 0 ∷ []) (entries_held (p.kinds f)) (with_kind f (emptying (p.kinds f)) p)
unfolding undo_below
release_opened l f p last bare = opened l f p last bare
