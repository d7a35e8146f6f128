-- The tables in work, innermost first, and what is still to be done for them.
use Rattle.std.specs.Prelude.{◌≡◌, ℕ, zero, suc, ◌+◌, ◌-◌, ◌<◌, ◌≤◌, ◌==◌, ◌&&◌, if◌then◌else◌, Bool, false, List, [], ◌∷◌, Option, Some, None}
use Rattle.xp_words.specs.declared.kind.KindWord.{KindWord}
use Rattle.xp_words.specs.declared.kind.PageType.{PageType}
use Rattle.xp_words.specs.declared.entry.Demand.{Demand}
use Rattle.xp_words.specs.declared.entry.Demand.TheVariants.{Nothing, Typed}
use Rattle.xp_words.specs.Machine.{Machine}
use Rattle.xp_board.specs.Readings.{is_partial, is_type}
use Rattle.kind_words.specs.Kinds.{live_kind, work_kind, partial_kind}
use Rattle.partial_state.specs.Levels.{level_type}
use Rattle.table_law.specs.Plain.{Plain, with_kind}
use Rattle.table_law.specs.Levels.{TableLeft, entry_of, closed}
use Rattle.table_law.specs.Release.{let_go, undo_below}
use Rattle.table_law.specs.Alone.{PlainOutcome, fine, then_or, meet, meet_last, take_at}

-- a table of level l + 1 with that many entries ahead
abbrev pub table_left : ℕ → ℕ → ℕ → TableLeft
table_left f l k = record { frame = f; level = l; ahead = k }

-- the first of the last k + 1 entries of frame f, a table of level l + 1
abbrev pub next_met : Machine → ℕ → ℕ → ℕ → ℕ → Plain → PlainOutcome
next_met n owner f l k p = meet n owner (take_at l n owner) f (512 - suc k) p (entry_of p (level_type (suc l)) f (512 - suc k))

-- all that is left to do: the innermost table first
unfoldable pub rest : Machine → ℕ → List TableLeft → Plain → PlainOutcome
rest n owner [] p = fine p
rest n owner (x ∷ xs) p =
    then_or (meet_last n owner (take_at x.level n owner) (let_go x.level) (level_type (suc x.level)) x.frame x.ahead p)
    (λ q. undo_below xs (closed x.frame (level_type (suc x.level)) q))
    (λ q. rest n owner xs (with_kind x.frame (live_kind (level_type (suc x.level)) 1) q))

-- ---- the words of a pause
-- partial, with that many entries recorded; the outermost one's reference is in its own mark
abbrev pub parked_kind : TableLeft → Bool → KindWord
parked_kind x kept = partial_kind (level_type (suc x.level)) kept false (512 - x.ahead) 0

-- kinds of frames where the stack is parked in them
abbrev pub parked_kinds : List TableLeft → Bool → (ℕ → KindWord) → ℕ → KindWord
parked_kinds [] kept old g = old g
parked_kinds (x ∷ []) kept old g = if g == x.frame then parked_kind x kept else old g
parked_kinds (x ∷ y ∷ ys) kept old g = if g == x.frame then parked_kind x false else parked_kinds (y ∷ ys) kept old g

-- the frames as a pause leaves them
abbrev pub parked : List TableLeft → Bool → Plain → Plain
parked stack kept p = record { shares = p.shares; kinds = parked_kinds stack kept p.kinds; cells = p.cells }

-- each table is in work, one level below the next, so none stands twice
abbrev pub IsStackIn : List TableLeft → Plain → Type 0
IsStackIn [] p = Unit {0}
IsStackIn (x ∷ []) p = (p.kinds x.frame ≡ work_kind (level_type (suc x.level)) false 0) × (x.ahead ≤ 512)
IsStackIn (x ∷ y ∷ ys) p =
    (p.kinds x.frame ≡ work_kind (level_type (suc x.level)) false 0) × (x.ahead ≤ 512) × (y.level ≡ x.level + 1) × (y.ahead < 512) × IsStackIn (y ∷ ys) p

-- ---- what a resumption reads
-- the frames where each table of the stack is taken into work again
abbrev pub resumed_kinds : List TableLeft → (ℕ → KindWord) → ℕ → KindWord
resumed_kinds [] old g = old g
resumed_kinds (x ∷ xs) old g = if g == x.frame then work_kind (level_type (suc x.level)) false 0 else resumed_kinds xs old g

-- the last of the first k entries of a table of that type
abbrev pub last_entry : Plain → PageType → ℕ → ℕ → Demand
last_entry p t f zero = Nothing
last_entry p t f (suc i) = entry_of p t f i

-- the frame that it asks, where that is partial with the type asked
abbrev pub partial_in : Plain → Demand → Option ℕ
partial_in p (Typed g t) = if is_partial (p.kinds g) && is_type (p.kinds g).kind t then Some g else None
partial_in p _ = None

-- No table is below the innermost one, of level l + 1 with k entries recorded: the last of them asks no frame that is partial with
-- its type, as one that waits for a flush would be. What a table of level 1 asks is ordinary memory, and no table.
abbrev pub IsInnermost : Plain → ℕ → ℕ → ℕ → Type 0
IsInnermost p f zero k = Unit {0}
IsInnermost p f (suc l) k = partial_in p (last_entry p (level_type (suc (suc l))) f k) ≡ None

-- a partial table of level l + 1, as its word tells it
abbrev pub table_told : Plain → ℕ → ℕ → TableLeft
table_told p l f = table_left f l (512 - (p.kinds f).progress)

abbrev pub told_by : (ℕ → List TableLeft → List TableLeft) → List TableLeft → Option ℕ → List TableLeft
told_by below stack None = stack
told_by below stack (Some g) = below g stack

-- the stack from frame f down, a partial table of level l + 1 below those tables: the last recorded entry of each leads to the next
unfoldable pub stack_told : ℕ → ℕ → Plain → List TableLeft → List TableLeft
stack_told zero f p outer = table_told p 0 f ∷ outer
stack_told (suc l) f p outer =
    told_by (λ g stack. stack_told l g p stack) (table_told p (suc l) f ∷ outer) (partial_in p (last_entry p (level_type (suc (suc l))) f (p.kinds f).progress))

-- each table is what the last entry before those ahead of the next one asks
abbrev pub IsChain : List TableLeft → Plain → Type 0
IsChain [] p = Unit {0}
IsChain (x ∷ []) p = x.level ≤ 3
IsChain (x ∷ y ∷ ys) p = (entry_of p (level_type (suc y.level)) y.frame (511 - y.ahead) ≡ Typed x.frame (level_type y.level)) × IsChain (y ∷ ys) p

-- the frame and level of the outermost table; of no table, 0
abbrev pub outermost : List TableLeft → TableLeft
outermost [] = table_left 0 0 0
outermost (x ∷ []) = x
outermost (x ∷ y ∷ ys) = outermost (y ∷ ys)
