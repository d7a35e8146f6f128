-- Elements about frames: machine-to-physical words, entries and other words, pins, bases.
use Rattle.std.specs.Prelude.{ℕ, zero, suc, ◌+◌, ◌==◌, ◌&&◌, if◌then◌else◌, Bool, Option, Some, None}
use Rattle.xp_words.specs.Entries.{is_slot}
use Rattle.xp_words.specs.PageTypes.{type_number}
use Rattle.xp_words.specs.Machine.{Machine}
use Rattle.xp_words.specs.declared.kind.KindWord.{KindWord}
use Rattle.xp_words.specs.declared.reply.Refusal.TheVariants.{Slot}
use Rattle.xp_board.specs.KindSteps.{locked_kind}
use Rattle.entry_locks.specs.Locks.{is_lockable}
use Rattle.entry_exchange.specs.Holding.{owner_at}
use Rattle.entry_exchange.specs.Words.{word_kept}
use Rattle.foreign_map.specs.declared.owners.Owners.{Owners}
use Rattle.table_words.specs.Pins.{pinned_kind, unpinned_kind}
use Rattle.table_law.specs.Alone.{alone, take_reference}
use Rattle.table_law.specs.Exchange.{exchanged, with_cell}
use Rattle.table_law.specs.Plain.{Plain, with_kind}
use Rattle.table_law.specs.Release.{let_go}
use Rattle.script_law.specs.Values.{Solo, IsPinned, IsUnpinned, Numbers, Outcome, behind, did, looked, put_at, stopped, with_frames, with_own}

-- ---- a machine-to-physical word
-- of a frame of that owner, whatever the frame is
abbrev pub set_map : Machine → ℕ → ℕ → ℕ → Solo → Outcome
set_map n owner f x s = looked n owner f s (λ s. did (record s { maps = put_at f x s.maps }))

-- ---- a word of a frame
-- An entry of a live table. The table stays live under its lock, by one type count more, while what the new word asks is taken, the word put there, and what the old
-- word asked given back. Of level 1 the new word may ask frames of `o.frames`, above it tables of the same owner. A refusal leaves the old word.
abbrev pub under_lock : ℕ → Plain → Plain
under_lock f p = with_kind f (locked_kind (p.kinds f)) p

abbrev pub exchange_at : Machine → Owners → ℕ → ℕ → ℕ → ℕ → Bool → Solo → Outcome
exchange_at n o level f i word keep s =
    behind s (exchanged n (owner_at level o.tables o.frames) (record { table = f; level = level; index = i }) (word_kept keep (s.frames.cells f i) word) (under_lock f s.frames)) did

abbrev pub write_entry : Machine → Owners → ℕ → ℕ → ℕ → Bool → Solo → Outcome
write_entry n o f i word keep s = behind s (take_reference n o.tables f s.frames) (λ s. exchange_at n o (type_number (s.frames.kinds f).kind) f i word keep s)

-- Any other frame is to be ordinary memory as long as the word is stored, so it is no live table or descriptor page.
abbrev pub write_memory : Machine → ℕ → ℕ → ℕ → ℕ → Solo → Outcome
write_memory n owner f i word s = behind s (alone n owner 0 f s.frames) (λ s. did (with_frames (let_go 0 f (with_cell f i word s.frames)) s))

-- which of the two it is, by the kind word; slots 256 to 271 of a top table are the hypervisor's
abbrev pub write_by : Machine → Owners → ℕ → ℕ → ℕ → Bool → Solo → KindWord → Outcome
write_by n o f i word keep s k =
    if is_lockable k then (if is_slot k.kind i then stopped (Numbers (Slot i)) s else write_entry n o f i word keep s)
    else write_memory n o.tables f i word s

abbrev pub write_word : Machine → Owners → ℕ → ℕ → ℕ → Bool → Solo → Outcome
write_word n o f i word keep s = looked n o.tables f s (λ s. write_by n o f i word keep s (s.frames.kinds f))

-- ---- pins
-- A pin acquires the frame's whole tree, tables depth first by entry, for that level: each frame of it that has no type count is made what the entries ask, and any
-- other counted once more. Then the mark holds the frame's own type count and reference. Refused, all that was taken is given back; what became dead again
-- keeps the type that it had been given. A frame that is pinned with that type is refused; what it has pinned stays.
abbrev pub is_pinned_as : ℕ → KindWord → Bool
is_pinned_as level k = k.pinned && (type_number k.kind == level)

abbrev pub pin_by : Machine → ℕ → ℕ → ℕ → Solo → KindWord → Outcome
pin_by n d f level s k =
    if is_pinned_as level k then stopped (IsPinned k) s
    else behind s (alone n d level f s.frames) (λ s. did (with_frames (with_kind f (pinned_kind (s.frames.kinds f)) s.frames) s))

abbrev pub pin : Machine → ℕ → ℕ → ℕ → Solo → Outcome
pin n d f level s = looked n d f s (λ s. pin_by n d f level s (s.frames.kinds f))

-- An unpin takes the mark off, and lets the tree go by that one type count and reference: behind a last type count the entries are given back, from the highest down, and the frame
-- is dead, with its type.
abbrev pub unpin_by : ℕ → Solo → KindWord → Outcome
unpin_by f s k =
    if k.pinned then did (with_frames (let_go (type_number k.kind) f (with_kind f (unpinned_kind k) s.frames)) s)
    else stopped (IsUnpinned k) s

abbrev pub unpin : Machine → ℕ → ℕ → Solo → Outcome
unpin n d f s = looked n d f s (λ s. unpin_by f s (s.frames.kinds f))

-- ---- words of the vCPU that name frames
-- the word gets another value; what it named before is given back by `back`
abbrev pub back_named : (ℕ → Plain → Plain) → ℕ → Plain → Plain
back_named back zero p = p
back_named back (suc f) p = back f p

abbrev pub rename : (ℕ → Plain → Plain) → ℕ → ℕ → Solo → Solo
rename back k word s = with_own k word (with_frames (back_named back (s.own k) s.frames) s)

-- Word 0 or 1 names the new top table, where there is one: that is acquired first, and then the one that it named before let go. A table that is named again stays as it was.
abbrev pub set_base : Machine → ℕ → ℕ → Option ℕ → Solo → Outcome
set_base n d k (Some f) s = behind s (alone n d 4 f s.frames) (λ s. did (rename (let_go 4) k (f + 1) s))
set_base n d k None s = did (rename (let_go 4) k 0 s)
