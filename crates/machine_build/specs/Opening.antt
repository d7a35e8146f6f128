-- The words with which a machine opens, by name.
use Rattle.std.specs.Prelude.{◌≡◌, ℕ, zero, suc, ◌+◌, ◌-◌, ◌*◌, ◌^◌, ◌==◌, ◌&&◌, nat_le, nat_lt, if◌then◌else◌, Bool, List, length, reverse, find, slice_index, is_none, IsTrue, true, false, Option, Some, None}
use Rattle.xp_words.specs.RefWords.{ref_write}
use Rattle.xp_words.specs.declared.refs.RefWord.{RefWord}
use Rattle.xp_words.specs.declared.refs.RefWord.TheVariants.{Free, Owned}
use Rattle.xp_words.specs.declared.place.Place.{Place}
use Rattle.xp_words.specs.declared.place.Place.TheVariants.{Clock, Pages, Life, Vcpu, Refs, Kind, M2p, Cell, Map, Priv}
use Rattle.xp_words.specs.Places.{sizes_of, size, is_place, memory}
use Rattle.xp_words.specs.declared.kind.KindWord.{KindWord}
use Rattle.xp_words.specs.declared.kind.PageType.TheVariants as kinds
use Rattle.trace_text.specs.declared.trace.Own.{Own}
use Rattle.trace_text.specs.declared.trace.CellRun.{CellRun}
use Rattle.trace_text.specs.declared.trace.Trace.{Trace}
use Rattle.trace_text.specs.Counted.{pages_of, has_frame}

-- whether the run has that cell of the frame
abbrev pub has_cell : ℕ → ℕ → CellRun → Bool
has_cell f i c = (c.frame == f) && (nat_le c.first i && nat_lt i (c.first + c.count))

-- how a frame of that run is referenced: its domain's, allocated, with one reference; free where there is no run
abbrev pub reference_in : Option Own → RefWord
reference_in None = Free 0
reference_in (Some o) = Owned o.domain true 1

abbrev pub refs_in : Option Own → ℕ
refs_in x = ref_write (reference_in x)

-- what a cell of that run holds; 0 where there is no run
abbrev pub value_in : Option CellRun → ℕ
value_in None = 0
value_in (Some c) = c.value

-- whether the machine has the frame and no domain owns it
abbrev pub is_unowned : Trace → ℕ → Bool
is_unowned t f = nat_lt f t.layout.frames && is_none (find (has_frame f) t.owned)

-- the number whose bit b, below n, is set where p b is true
unfoldable pub bits_below : ℕ → (ℕ → Bool) → ℕ
bits_below zero p = 0
bits_below (suc n) p = bits_below n p + (if p n then 2 ^ n else 0)

-- a dead frame of no type
abbrev pub untyped : KindWord
untyped =
    record {
      kind = kinds.None;
      pinned = false;
      validated = false;
      partial = false;
      locked = false;
      kept = false;
      unflushed = false;
      progress = 0;
      number = 0;
    }

-- over which domains it opens with privilege: now, and ever
abbrev pub both_halves : ℕ → ℕ
both_halves mask = mask + 2 ^ 16 * mask

-- what each word opens with
unfoldable pub opening_at : Trace → Place → ℕ
opening_at t Clock = t.clock
opening_at t (Pages d) = pages_of d t.owned
opening_at t (Life d) = 0
opening_at t (Vcpu v k) = if k == 5 then t.clock else 0
opening_at t (Refs f) = refs_in (find (has_frame f) t.owned)
opening_at t (Kind f) = 0
opening_at t (M2p f) = 2 ^ 64 - 1
opening_at t (Cell f i) = value_in (find (has_cell f i) (reverse t.cells))
opening_at t (Map k) = bits_below 64 (λ b. is_unowned t (64 * k + b))
opening_at t (Priv d) = both_halves (slice_index t.layout.privilege d)

-- the words of the machine, each as it opens
pub record IsOpening (t : Trace) (words : List ℕ) : Type 0 where
  pub count : length words ≡ size (sizes_of t.layout)
  pub places : (p : Place) → IsTrue (is_place (sizes_of t.layout) p) → memory (sizes_of t.layout) words p ≡ opening_at t p
