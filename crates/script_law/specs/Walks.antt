-- What goes by an address: reads and writes of the guest, pages of the LDT that it touches, and updates of the entry that maps the address.
use Rattle.std.specs.Prelude.{ℕ, zero, suc, ◌+◌, ◌^◌, ◌%◌, ◌==◌, ◌&&◌, ◌||◌, nat_le, nat_lt, if◌then◌else◌, Bool, true, false, [], Option, Some, None, Result, Ok, Err}
use Rattle.xp_words.specs.ContextWords.{ldt_read}
use Rattle.xp_words.specs.Entries.{is_bit, frame_of}
use Rattle.xp_words.specs.Machine.{Machine}
use Rattle.xp_words.specs.declared.context.LdtBase.{LdtBase}
use Rattle.xp_words.specs.declared.kind.KindWord.{KindWord}
use Rattle.xp_words.specs.declared.kind.PageType.TheVariants as kinds
use Rattle.xp_words.specs.declared.reply.Refusal.{Refusal}
use Rattle.xp_words.specs.declared.reply.Refusal.TheVariants.{BadRange, NotMapped, ReadOnly}
use Rattle.xp_board.specs.Readings.{is_type}
use Rattle.step_maker.specs.Licences.{is_unmapped}
use Rattle.entry_locks.specs.Locks.{is_lockable}
use Rattle.foreign_map.specs.Owning.{frames_of, or_then, refuse_owners, tables_of}
use Rattle.foreign_map.specs.declared.owners.Owners.{Owners}
use Rattle.tlb_walks.specs.Addresses.{access_refusal, cell_index, index_of, walk_refusal}
use Rattle.tlb_walks.specs.Walks.{barrier_with, top_word, with_needed}
use Rattle.ldt_pages.specs.Touching.{is_beyond, refusal_at, touch_address}
use Rattle.table_law.specs.Alone.{OtherType}
use Rattle.table_law.specs.Exchange.{with_cell}
use Rattle.table_law.specs.Plain.{Plain}
use Rattle.script_law.specs.Frames.{rename, write_entry}
use Rattle.script_law.specs.Pages.{get_page, give_page}
use Rattle.script_law.specs.Values.{Solo, Whose, Outcome, Frames, Numbers, allowed, did, looked, of_domains, stopped, then_do, with_frames}

-- ---- walks
-- Where a walk comes to: the frame that its last entry names, and the first entry, from the top, that bars a write; or why it is refused. And the frames as it leaves
-- them: it sets bits in each entry on its way. There is no cache, so each access walks.
pub data Way : Type 0 where
  Leads : (frame : ℕ) (barrier : Option ℕ) → Plain → Way
  Stops : Refusal → Plain → Way

-- a present entry with the bits that a walk sets in it: accessed; and dirty, for a write, in the last one where none bars it
abbrev pub touched : Bool → ℕ → Option ℕ → ℕ → ℕ
touched write level barrier w = if is_bit 0 w then with_needed write level barrier w else w

abbrev pub at_entry : Machine → ℕ → (ℕ → Option ℕ → Plain → Way) → ℕ → Option ℕ → Plain → Way
at_entry n w next level barrier p = if is_unmapped n w then Stops (NotMapped level w) p else next (frame_of w) barrier p

-- from that table down, at level l; level 0 is the frame at last
unfoldable pub path : Machine → ℕ → Bool → ℕ → ℕ → Option ℕ → Plain → Way
path n va write zero table barrier p = Leads table barrier p
path n va write (suc l) table barrier p =
    let i = index_of va (suc l) in
    let w = p.cells table i in
    let b = barrier_with barrier w in
    at_entry n w (path n va write l) (suc l) b (with_cell table i (touched write (suc l) b w) p)

-- from the word that names the top table
abbrev pub from_base : Machine → ℕ → Bool → ℕ → Plain → Way
from_base n va write zero p = Stops (NotMapped 5 0) p
from_base n va write (suc table) p = path n va write 4 table None p

-- ---- the guest's accesses, of 8 bytes
abbrev pub read_by : ℕ → Solo → Way → Outcome
read_by va s (Leads f barrier p) = record { refusal = None; value = p.cells f (cell_index va); lines = []; left = with_frames p s }
read_by va s (Stops x p) = stopped (Numbers x) (with_frames p s)

abbrev pub write_way : ℕ → ℕ → Solo → Way → Outcome
write_way va val s (Leads f None p) = did (with_frames (with_cell f (cell_index va) val p) s)
write_way va val s (Leads f (Some e) p) = stopped (Numbers (ReadOnly e)) (with_frames p s)
write_way va val s (Stops x p) = stopped (Numbers x) (with_frames p s)

abbrev pub read_at : Machine → Bool → ℕ → Solo → Outcome
read_at n user va s = allowed (access_refusal va) s (read_by va s (from_base n va false (s.own (top_word user)) s.frames))

abbrev pub write_at : Machine → Bool → ℕ → ℕ → Solo → Outcome
write_at n user va val s = allowed (access_refusal va) s (write_way va val s (from_base n va true (s.own (top_word user)) s.frames))

-- ---- a page of the LDT
-- One that is named already stays. Else the kernel's walk to its address leads to the frame that is taken as a descriptor page, and that the word names then.
abbrev pub take_touched : Machine → ℕ → ℕ → Solo → Way → Outcome
take_touched n d page s (Leads f barrier p) = then_do (get_page n d f (with_frames p s)) (λ s. did (rename give_page (22 + page) (f + 1) s))
take_touched n d page s (Stops x p) = stopped (Numbers x) (with_frames p s)

abbrev pub touch_unnamed : Machine → ℕ → ℕ → LdtBase → Solo → Outcome
touch_unnamed n d page b s = allowed (refusal_at page (Some b)) s (take_touched n d page s (from_base n (touch_address page b) false (s.own 0) s.frames))

abbrev pub touch_by : Machine → ℕ → ℕ → Solo → Option LdtBase → ℕ → Outcome
touch_by n d page s (Some b) zero = touch_unnamed n d page b s
touch_by n d page s (Some b) (suc f) = if is_beyond page b then stopped (Numbers BadRange) s else did s
touch_by n d page s None word = did s

abbrev pub touch_ldt : Machine → ℕ → ℕ → Solo → Outcome
touch_ldt n d page s = touch_by n d page s (ldt_read (s.own 7)) (s.own (22 + page))

-- ---- updates by address
-- The address leads to a table of level 1 by plain loads, which set no bits: from that table down, so many levels above it.
abbrev pub next_table : Machine → (ℕ → Result ℕ Refusal) → ℕ → ℕ → Result ℕ Refusal
next_table n next level w = if is_unmapped n w then Err (NotMapped level w) else next (frame_of w)

unfoldable pub last_table : Machine → ℕ → Plain → ℕ → ℕ → Result ℕ Refusal
last_table n va p zero table = Ok table
last_table n va p (suc l) table = next_table n (last_table n va p l) (l + 2) (p.cells table (index_of va (l + 2)))

abbrev pub table_at : Machine → ℕ → Solo → ℕ → Result ℕ Refusal
table_at n va s zero = Err (NotMapped 5 0)
table_at n va s (suc table) = last_table n va s.frames 3 table

-- its entry is exchanged, where it is a live table of that level
abbrev pub update_entry : Machine → Owners → ℕ → ℕ → Solo → Result ℕ Refusal → Outcome
update_entry n o va word s (Ok f) =
    looked n o.tables f s
    (λ s. if is_lockable (s.frames.kinds f) && is_type (s.frames.kinds f).kind kinds.L1 then write_entry n o f (index_of va 1) word false s
    else stopped (Frames (OtherType f kinds.L1 (s.frames.kinds f))) s)
update_entry n o va word s (Err x) = stopped (Numbers x) s

abbrev pub range_of : Bool → Option Refusal
range_of true = Some BadRange
range_of false = None

-- The number names whose frame is mapped: one of more than 16 bits is none. Flags above 7, and 3 in their low two bits, say nothing. What the flags ask is about
-- translations, of which nothing is kept here.
abbrev pub map_refusal : Whose → ℕ → ℕ → ℕ → Solo → Option Refusal
map_refusal w foreign va flags s =
    or_then (range_of (nat_le (2 ^ 16) foreign)) (or_then (refuse_owners w.machine (of_domains s) w.domain foreign) (or_then (range_of (nat_lt 7 flags || (flags % 4 == 3))) (walk_refusal va)))

abbrev pub map_word : Whose → ℕ → ℕ → ℕ → ℕ → Solo → Outcome
map_word w foreign va word flags s =
    allowed (map_refusal w foreign va flags s) s
    (update_entry w.machine (record { tables = tables_of w.domain foreign; frames = frames_of w.domain foreign }) va word s (table_at w.machine va s (s.own 0)))
