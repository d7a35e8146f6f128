-- Tables in work, and what is left to do for them.
use Rattle.std.proofs.Common.{◌≡◌, ℕ, suc, ◌+◌, ◌-◌, ◌<◌, ◌≤◌, true, false, List, [], ◌∷◌, None, Some, sym, ap, ◌∙◌, subst, arith}
use Rattle.xp_words.specs.Machine.{Machine}
use Rattle.xp_words.specs.declared.entry.Demand.TheVariants.{Typed}
use Rattle.xp_words.specs.declared.kind.PageType.{PageType}
use Rattle.xp_words.specs.declared.reply.Refusal.{Refusal}
use Rattle.xp_board.specs.Readings.{is_dead}
use Rattle.kind_words.specs.Kinds.{work_kind}
use Rattle.partial_state.specs.Levels.{level_type}
use Rattle.partial_state.specs.declared.stack.TableWork.{TableWork}
use Rattle.table_law.specs.Alone.{Cause, PlainOutcome, fine, meet, refused, take_at, take_reference}
use Rattle.table_law.specs.Levels.{TableLeft, entry_of}
use Rattle.table_law.specs.Plain.{Plain, with_kind}
use Rattle.table_law.specs.Release.{undo}
use Rattle.table_law.specs.Stack.{next_met, rest, table_left}
use Rattle.table_twins.specs.Answers.{IsCause}
use Rattle.table_law.proofs.Steps.{rest_met, rest_opened, rest_stopped}
use Rattle.course_laws.proofs.Frames.{IsAbove}

-- as the plain value has them
abbrev pub lefts : List TableWork → List TableLeft
lefts [] = []
lefts (t ∷ ts) = table_left t.frame (t.level - 1) (512 - t.done) ∷ lefts ts

-- what is given back where they are undone: the entries of the innermost one that are done with, and those of the others
abbrev pub undone : List TableLeft → Plain → Plain
undone [] p = p
undone (x ∷ xs) p = undo (x ∷ xs) (512 - x.ahead) p

-- it is refused, for the cause of y
pub record Refuses (y : Refusal) (a : PlainOutcome) : Type 0 where
  pub cause : Cause
  pub is : a.refusal ≡ Some cause
  pub same : IsCause y cause

-- ---- the list of them
pub lower_above : (k l : ℕ) (ts : List TableWork) → k ≤ l → IsAbove l ts → IsAbove k ts
lower_above k l [] low above = tt
lower_above k l (t ∷ ts) low above = ((let b = above.0 in omega arith), above.1, lower_above k l ts low above.2)

-- ---- what is left to do
pub as_fine : (o : PlainOutcome) → o.refusal ≡ None → o ≡ fine o.left
as_fine o none = ap (λ r. record { refusal = r; left = o.left }) none

-- of a table of level l + 1 with k entries done with, by what its next entry comes to
module _ (n : Machine) (owner f l i : ℕ) (xs : List TableLeft) (q : Plain) (a : PlainOutcome) (few : i < 512) (ahead : rest n owner (table_left f l (512 - i) ∷ xs) q ≡ a) where
  abbrev pub next : PlainOutcome
  next = meet n owner (take_at l n owner) f i q (entry_of q (level_type (suc l)) f i)

  same_next : next_met n owner f l (511 - i) q ≡ next
  same_next = let e : 512 - suc (511 - i) ≡ i = omega arith in ap (λ j. meet n owner (take_at l n owner) f j q (entry_of q (level_type (suc l)) f j)) e

  from_here : rest n owner (table_left f l (suc (511 - i)) ∷ xs) q ≡ a
  from_here = let e : suc (511 - i) ≡ 512 - i = omega arith in ap (λ k. rest n owner (table_left f l k ∷ xs) q) e ∙ ahead

  to_next : (p : Plain) → rest n owner (table_left f l (511 - i) ∷ xs) p ≡ a → rest n owner (table_left f l (512 - (i + 1)) ∷ xs) p ≡ a
  to_next p is = let e : 512 - (i + 1) ≡ 511 - i = omega arith in ap (λ k. rest n owner (table_left f l k ∷ xs) p) e ∙ is

  pub met_on : next.refusal ≡ None → rest n owner (table_left f l (512 - (i + 1)) ∷ xs) next.left ≡ a
  met_on none = to_next next.left (sym (rest_met n owner f l (511 - i) xs q next.left (same_next ∙ as_fine next none)) ∙ from_here)

  pub stopped_there : (c : Cause) (p : Plain) → next ≡ refused c p → a ≡ refused c (undone (table_left f l (512 - i) ∷ xs) p)
  stopped_there c p is =
      let e : suc (511 - i) ≡ 512 - i = omega arith in
      sym from_here ∙ (rest_stopped n owner f l (511 - i) xs q p c (same_next ∙ is) ∙ ap (λ k. refused c (undo (table_left f l k ∷ xs) (512 - k) p)) e)

-- a dead table is opened
module _ (n : Machine) (owner f h i g : ℕ) (t : PageType) (xs : List TableLeft) (q p : Plain) (a : PlainOutcome) (few : i < 512) (ahead : rest n owner (table_left f (suc h) (512 - i) ∷ xs) q ≡ a) where
  pub opened_on : entry_of q (level_type (suc (suc h))) f i ≡ Typed g t → take_reference n owner g q ≡ fine p → is_dead (p.kinds g) ≡ true →
      rest n owner (table_left g h 512 ∷ table_left f (suc h) (512 - (i + 1)) ∷ xs) (with_kind g (work_kind (level_type (suc h)) false 0) p) ≡ a
  opened_on asks took dead =
      let e : 512 - suc (511 - i) ≡ i = omega arith in
      let later : 512 - (i + 1) ≡ 511 - i = omega arith in
      let now : suc (511 - i) ≡ 512 - i = omega arith in
      ap (λ k. rest n owner (table_left g h 512 ∷ table_left f (suc h) k ∷ xs) (with_kind g (work_kind (level_type (suc h)) false 0) p)) later
      ∙ sym (rest_opened n owner f h (511 - i) g t xs q p (ap (λ j. entry_of q (level_type (suc (suc h))) f j) e ∙ asks) took dead)
      ∙ ap (λ k. rest n owner (table_left f (suc h) k ∷ xs) q) now ∙ ahead

-- the same, where the level is said to be one more than another
pub opened_from : (n : Machine) (owner f h l i g : ℕ) (t : PageType) (xs : List TableLeft) (q p : Plain) (a : PlainOutcome) → l ≡ suc h → i < 512 → rest n owner (table_left f l (512 - i) ∷ xs) q ≡ a → entry_of q (level_type (suc l)) f i ≡ Typed g t →
    take_reference n owner g q ≡ fine p → is_dead (p.kinds g) ≡ true → rest n owner (table_left g h 512 ∷ table_left f l (512 - (i + 1)) ∷ xs) (with_kind g (work_kind (level_type l) false 0) p) ≡ a
opened_from n owner f h l i g t xs q p a is few ahead asks took dead =
    subst (λ k. rest n owner (table_left g h 512 ∷ table_left f k (512 - (i + 1)) ∷ xs) (with_kind g (work_kind (level_type k) false 0) p) ≡ a) (sym is)
    (opened_on n owner f h i g t xs q p a few (subst (λ k. rest n owner (table_left f k (512 - i) ∷ xs) q ≡ a) is ahead) (subst (λ k. entry_of q (level_type (suc k)) f i ≡ Typed g t) is asks) took dead)
