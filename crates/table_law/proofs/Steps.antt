-- What is left to do, one entry at a time: each thing that a loop over the stack does leaves it as it was.
use Rattle.std.proofs.Common.{◌≡◌, ℕ, suc, ◌-◌, true, false, List, [], ◌∷◌, Option, Some, None, refl, ap, ◌∙◌, arith}
use Rattle.xp_words.specs.declared.kind.PageType.{PageType}
use Rattle.xp_words.specs.declared.entry.Demand.TheVariants.{Typed}
use Rattle.xp_words.specs.Machine.{Machine}
use Rattle.xp_board.specs.Readings.{is_dead}
use Rattle.kind_words.specs.Kinds.{live_kind, work_kind}
use Rattle.partial_state.specs.Levels.{level_type}
use Rattle.table_law.specs.Plain.{Plain, with_kind}
use Rattle.table_law.specs.Levels.{TableLeft, entry_of, closed}
use Rattle.table_law.specs.Release.{let_go, drop_first, undo, undo_below}
use Rattle.table_law.specs.Alone.{Cause, PlainOutcome, fine, refused, back_or, then_or, then_by, take_reference, meet, meet_last, take_at, alone}
use Rattle.table_law.specs.Stack.{rest, table_left, next_met}

assoc_on : (c : Option Cause) (p : Plain) (b d : Plain → Plain) (f g : Plain → PlainOutcome) → then_or (back_or c p b f) d g ≡ back_or c p (λ q. d (b q)) (λ q. then_or (f q) d g)
assoc_on None p b d f g = refl
assoc_on (Some c) p b d f g = refl

pub assoc : (o : PlainOutcome) (b d : Plain → Plain) (f g : Plain → PlainOutcome) → then_or (then_or o b f) d g ≡ then_or o (λ q. d (b q)) (λ q. then_or (f q) d g)
assoc o b d f g = assoc_on o.refusal o.left b d f g

module _ (n : Machine) (owner : ℕ) where
  pub rest_entry : (f l k : ℕ) (xs : List TableLeft) (p : Plain) →
      rest n owner (table_left f l (suc k) ∷ xs) p ≡ then_or (next_met n owner f l k p) (undo (table_left f l k ∷ xs) (512 - suc k)) (rest n owner (table_left f l k ∷ xs))
  unfolding rest meet_last
  rest_entry f l k xs p =
      assoc (next_met n owner f l k p) (drop_first (let_go l) (level_type (suc l)) f (512 - suc k)) (λ q. undo_below xs (closed f (level_type (suc l)) q))
      (meet_last n owner (take_at l n owner) (let_go l) (level_type (suc l)) f k) (λ q. rest n owner xs (with_kind f (live_kind (level_type (suc l)) 1) q))

  -- an entry is met, or it is the first one that is not: all that is recorded is given back
  pub rest_met : (f l k : ℕ) (xs : List TableLeft) (p q : Plain) → next_met n owner f l k p ≡ fine q → rest n owner (table_left f l (suc k) ∷ xs) p ≡ rest n owner (table_left f l k ∷ xs) q
  rest_met f l k xs p q e = rest_entry f l k xs p ∙ ap (λ o. then_or o (undo (table_left f l k ∷ xs) (512 - suc k)) (rest n owner (table_left f l k ∷ xs))) e

  pub rest_stopped : (f l k : ℕ) (xs : List TableLeft) (p q : Plain) (c : Cause) → next_met n owner f l k p ≡ refused c q →
      rest n owner (table_left f l (suc k) ∷ xs) p ≡ refused c (undo (table_left f l (suc k) ∷ xs) (512 - suc k) q)
  rest_stopped f l k xs p q c e = rest_entry f l k xs p ∙ ap (λ o. then_or o (undo (table_left f l k ∷ xs) (512 - suc k)) (rest n owner (table_left f l k ∷ xs))) e

  -- a table is complete
  pub rest_full : (f l : ℕ) (xs : List TableLeft) (p : Plain) → rest n owner (table_left f l 0 ∷ xs) p ≡ rest n owner xs (with_kind f (live_kind (level_type (suc l)) 1) p)
  unfolding rest meet_last
  rest_full f l xs p = refl

  -- a dead table is taken into work
  filled : ℕ → ℕ → Plain → PlainOutcome
  filled l g q = meet_last n owner (take_at l n owner) (let_go l) (level_type (suc l)) g 512 (with_kind g (work_kind (level_type (suc l)) false 0) q)

  live_from : ℕ → ℕ → Plain → PlainOutcome
  live_from l g r = fine (with_kind g (live_kind (level_type (suc l)) 1) r)

  opened : (l g : ℕ) (q : Plain) → is_dead (q.kinds g) ≡ true → take_at (suc l) n owner g q ≡ then_or (filled l g q) (closed g (level_type (suc l))) (live_from l g)
  unfolding take_at filled live_from
  opened l g q dead = rw dead refl

  pub rest_opened : (f l k g : ℕ) (t : PageType) (xs : List TableLeft) (p q : Plain) → entry_of p (level_type (suc (suc l))) f (512 - suc k) ≡ Typed g t → take_reference n owner g p ≡ fine q →
      is_dead (q.kinds g) ≡ true →
      rest n owner (table_left f (suc l) (suc k) ∷ xs) p ≡ rest n owner (table_left g l 512 ∷ table_left f (suc l) k ∷ xs) (with_kind g (work_kind (level_type (suc l)) false 0) q)
  unfolding rest filled live_from undo_below
  rest_opened f l k g t xs p q asks took dead =
      let back = undo (table_left f (suc l) k ∷ xs) (512 - suc k) in
      let on = rest n owner (table_left f (suc l) k ∷ xs) in
      let same : 512 - suc k ≡ 511 - k = omega arith in
      rest_entry f (suc l) k xs p
      ∙ ap (λ d. then_or (meet n owner (take_at (suc l) n owner) f (512 - suc k) p d) back on) asks
      ∙ ap (λ o. then_or (then_by o (take_at (suc l) n owner g)) back on) took
      ∙ ap (λ o. then_or o back on) (opened l g q dead)
      ∙ assoc (filled l g q) (closed g (level_type (suc l))) back (live_from l g) on
      ∙ ap (λ j. then_or (filled l g q) (λ r. undo (table_left f (suc l) k ∷ xs) j (closed g (level_type (suc l)) r)) (λ r. on (with_kind g (live_kind (level_type (suc l)) 1) r))) same

  -- the acquisition of a dead table
  pub alone_opened : (l f : ℕ) (p q : Plain) → take_reference n owner f p ≡ fine q → is_dead (q.kinds f) ≡ true →
      alone n owner (suc l) f p ≡ rest n owner (table_left f l 512 ∷ []) (with_kind f (work_kind (level_type (suc l)) false 0) q)
  unfolding rest filled live_from undo_below
  alone_opened l f p q took dead = ap (λ o. then_by o (take_at (suc l) n owner f)) took ∙ opened l f q dead
