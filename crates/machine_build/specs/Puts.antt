-- The words after each part of the opening was put, from those before it.
use Rattle.std.specs.Prelude.{ℕ, ◌+◌, ◌-◌, ◌*◌, ◌^◌, ◌==◌, ◌&&◌, nat_lt, if◌then◌else◌, Bool, List, find, slice_index, Option, Some, None}
use Rattle.xp_words.specs.declared.place.Place.{Place}
use Rattle.xp_words.specs.declared.place.Place.TheVariants.{Clock, Pages, Vcpu, Refs, M2p, Cell, Map, Priv}
use Rattle.trace_text.specs.declared.trace.Own.{Own}
use Rattle.trace_text.specs.declared.trace.CellRun.{CellRun}
use Rattle.trace_text.specs.declared.trace.Trace.{Trace}
use Rattle.trace_text.specs.Counted.{pages_of, has_frame}
use Rattle.machine_build.specs.Opening.{has_cell, refs_in, bits_below, both_halves}

-- no word holds anything
abbrev pub all_zero : Place → ℕ
all_zero p = 0

-- the clock
unfoldable pub with_clock : ℕ → (Place → ℕ) → Place → ℕ
with_clock clock m Clock = clock
with_clock clock m p = m p

-- the pages and the privileges of the first n domains
unfoldable pub with_domains : ℕ → Trace → (Place → ℕ) → Place → ℕ
with_domains n t m (Pages d) = if nat_lt d n then pages_of d t.owned else m (Pages d)
with_domains n t m (Priv d) = if nat_lt d n then both_halves (slice_index t.layout.privilege d) else m (Priv d)
with_domains n t m p = m p

-- the flush word of the first n vCPUs
unfoldable pub with_vcpus : ℕ → ℕ → (Place → ℕ) → Place → ℕ
with_vcpus n clock m (Vcpu v k) = if nat_lt v n && (k == 5) then clock else m (Vcpu v k)
with_vcpus n clock m p = m p

-- the machine-to-physical words of the first n frames
unfoldable pub with_m2p : ℕ → (Place → ℕ) → Place → ℕ
with_m2p n m (M2p f) = if nat_lt f n then 2 ^ 64 - 1 else m (M2p f)
with_m2p n m p = m p

abbrev pub or_word : Option Own → ℕ → ℕ
or_word None w = w
or_word (Some o) w = refs_in (Some o)

-- the reference words of the frames of these runs
unfoldable pub with_owned : List Own → (Place → ℕ) → Place → ℕ
with_owned owned m (Refs f) = or_word (find (has_frame f) owned) (m (Refs f))
with_owned owned m p = m p

abbrev pub or_value : Option CellRun → ℕ → ℕ
or_value None w = w
or_value (Some c) w = c.value

-- the cells of these runs, the newest first
unfoldable pub with_cells : List CellRun → (Place → ℕ) → Place → ℕ
with_cells cells m (Cell f i) = or_value (find (has_cell f i) cells) (m (Cell f i))
with_cells cells m p = m p

-- whether the machine has the frame and its reference word is 0
abbrev pub is_zero : ℕ → (Place → ℕ) → ℕ → Bool
is_zero frames m f = nat_lt f frames && (m (Refs f) == 0)

-- the first n words of the map of free frames
unfoldable pub with_map : ℕ → ℕ → (Place → ℕ) → Place → ℕ
with_map n frames m (Map k) = if nat_lt k n then bits_below 64 (λ b. is_zero frames m (64 * k + b)) else m (Map k)
with_map n frames m p = m p
