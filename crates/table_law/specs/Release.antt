-- The plain release: a type count and its reference are given back, and behind a last one the entries, from the highest down.
use Rattle.std.specs.Prelude.{ℕ, zero, suc, ◌-◌, ◌&&◌, nat_lt, if◌then◌else◌, Bool, List, [], ◌∷◌}
use Rattle.xp_words.specs.declared.kind.KindWord.{KindWord}
use Rattle.xp_words.specs.declared.kind.PageType.{PageType}
use Rattle.xp_words.specs.declared.kind.PageType.TheVariants as kinds
use Rattle.xp_words.specs.declared.entry.Demand.{Demand}
use Rattle.xp_words.specs.declared.entry.Demand.TheVariants.{Nothing, Bad, Read, Typed}
use Rattle.partial_state.specs.Levels.{level_type}
use Rattle.xp_board.specs.KindSteps.{resumed_kind}
use Rattle.xp_board.specs.Readings.{is_partial}
use Rattle.table_law.specs.Plain.{Plain, with_kind, reference_back}
use Rattle.table_law.specs.Levels.{entry_of, closed, closed_as, TableLeft}

-- ---- one type
-- live, with other type counts beside one
abbrev pub is_counted_on : KindWord → Bool
is_counted_on k = k.validated && nat_lt 1 k.number

-- one type count of frame g less, whose kind word is k, and one reference
abbrev pub count_back : ℕ → KindWord → Plain → Plain
count_back g k p = reference_back g (with_kind g (record k { number = k.number - 1 }) p)

-- how many entries a frame with that word holds: those recorded of an unfinished one, else all
abbrev pub entries_held : KindWord → ℕ
entries_held k = if is_partial k then k.progress else 512

-- what it is while they are given back: an unfinished one is in work again, else it has no type count
abbrev pub emptying : KindWord → KindWord
emptying k = if is_partial k then resumed_kind k else record k { number = 0 }

-- a frame that an acquisition left unfinished, with its flush awaited, keeps the mark
abbrev pub keeps_mark : KindWord → Bool
keeps_mark k = is_partial k && k.unflushed

-- Of several type counts one goes. Else it was the last, and what the frame holds is given back: `empty` does that with so many entries.
abbrev pub drop_kind : (ℕ → Plain → Plain) → ℕ → PageType → Plain → KindWord → Plain
drop_kind empty g t p k = if is_counted_on k then count_back g k p else closed_as (keeps_mark k) g t (empty (entries_held k) (with_kind g (emptying k) p))

-- ---- entries
abbrev pub drop_demand : (ℕ → Plain → Plain) → Plain → Demand → Plain
drop_demand below p Nothing = p
drop_demand below p Bad = p
drop_demand below p (Read g) = reference_back g p
drop_demand below p (Typed g t) = below g p

-- the first k entries of frame f, a table of that type, the highest first
unfoldable pub drop_first : (ℕ → Plain → Plain) → PageType → ℕ → ℕ → Plain → Plain
drop_first below t f zero p = p
drop_first below t f (suc k) p = drop_first below t f k (drop_demand below p (entry_of p t f k))

-- ---- a frame by level: its type count and its reference
unfoldable pub let_go : ℕ → ℕ → Plain → Plain
let_go zero g p = drop_kind (λ k q. q) g kinds.Writable p (p.kinds g)
let_go (suc l) g p = drop_kind (drop_first (let_go l) (level_type (suc l)) g) g (level_type (suc l)) p (p.kinds g)

-- ---- unfinished tables, the innermost first
-- behind the innermost one, which was an entry of the next
unfoldable pub undo_below : List TableLeft → Plain → Plain
undo_below [] p = p
undo_below (x ∷ xs) p =
    undo_below xs (closed x.frame (level_type (suc x.level)) (drop_first (let_go x.level) (level_type (suc x.level)) x.frame (511 - x.ahead) p))

-- `held` of the entries of the innermost one are recorded
abbrev pub undo : List TableLeft → ℕ → Plain → Plain
undo [] held p = p
undo (x ∷ xs) held p = undo_below xs (closed x.frame (level_type (suc x.level)) (drop_first (let_go x.level) (level_type (suc x.level)) x.frame held p))
