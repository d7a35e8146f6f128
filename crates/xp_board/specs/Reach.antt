-- What a vCPU's page tables and its translations lead to.
use Rattle.std.specs.Prelude.{◌≡◌, ℕ, ◌+◌, ◌-◌, ◌<◌, ◌==◌, ◌&&◌, ◌||◌, not, nat_lt, if◌then◌else◌, Bool, List, [], Option, Some, None, IsTrue}
use Rattle.xp_words.specs.declared.kind.KindWord.{KindWord}
use Rattle.xp_words.specs.PageTypes.{is_table, type_number}
use Rattle.xp_words.specs.Entries.{is_bit, frame_of}
use Rattle.xp_words.specs.declared.place.Place.{Place}
use Rattle.xp_words.specs.declared.place.Place.TheVariants.{Vcpu, Cell}
use Rattle.xp_words.specs.Places.{Sizes}
use Rattle.xp_board.specs.declared.step.Item.{Item}
use Rattle.xp_board.specs.declared.holdings.Reached.{Reached}
use Rattle.xp_board.specs.declared.holdings.Walk.{Walk}
use Rattle.xp_board.specs.declared.holdings.Holdings.{Holdings}
use Rattle.xp_board.specs.Lists.{Member}
use Rattle.xp_board.specs.Readings.{is_live, is_work, is_partial}
use Rattle.xp_board.specs.FillSteps.{is_walked}

-- ---- paths over the whole memory
-- a present entry i of frame f, as a table of that level, that leads to a frame of the machine
pub record LeadsTo (z : Sizes) (m : Place → ℕ) (level f i g : ℕ) : Type 0 where
  pub walked : IsTrue (is_walked level i)
  pub present : IsTrue (is_bit 0 (m (Cell f i)))
  pub target : frame_of (m (Cell f i)) ≡ g
  pub inside : g < z.frames

abbrev pub is_writable_entry : (Place → ℕ) → ℕ → ℕ → Bool
is_writable_entry m f i = is_bit 1 (m (Cell f i))

-- four present entries from the table that `base` or `user` names, at levels 4 to 1; types and counts play no part
pub record Path (z : Sizes) (m : Place → ℕ) (v : ℕ) (writable : Bool) (g : ℕ) : Type 0 where
  pub word : ℕ
  pub base : IsTrue (nat_lt word 2)
  pub top : ℕ
  pub names : m (Vcpu v word) ≡ top + 1
  pub table3 : ℕ
  pub table2 : ℕ
  pub table1 : ℕ
  pub index4 : ℕ
  pub index3 : ℕ
  pub index2 : ℕ
  pub index1 : ℕ
  pub entry4 : LeadsTo z m 4 top index4 table3
  pub entry3 : LeadsTo z m 3 table3 index3 table2
  pub entry2 : LeadsTo z m 2 table2 index2 table1
  pub entry1 : LeadsTo z m 1 table1 index1 g
  pub all_writable : writable ≡ (is_writable_entry m top index4 && (is_writable_entry m table3 index3 && (is_writable_entry m table2 index2 && is_writable_entry m table1 index1)))

-- ---- translations: what is cached, and the tables that a walk in flight has reached
-- how a translation uses a frame: as a table of that level, or to write or read it
pub data Use : Type 0 where
  Table : (level : ℕ) → Use
  Writes : Use
  Reads : Use

abbrev pub use_of : Item → Use
use_of x = if x.writable then Writes else Reads

-- the use that an entry of a table of that level makes of its target
abbrev pub use_below : ℕ → ℕ → Use
use_below level w = if level == 1 then (if is_bit 1 w then Writes else Reads) else Table (level - 1)

abbrev pub reached_by : Option Walk → List Reached
reached_by (Some walk) = walk.reached
reached_by None = []

-- the frames that a vCPU with these holdings can come to, with the use it makes of them
pub data Reach (z : Sizes) (m : Place → ℕ) (h : Holdings) : ℕ → Use → Type 0 where
  cached : (x : Item) → Member x h.cache → Reach z m h x.frame (use_of x)
  walked : (x : Reached) → Member x (reached_by h.walk) → Reach z m h x.table (Table x.level)
  entry : (f level i : ℕ) → Reach z m h f (Table level) → IsTrue (is_walked level i) → IsTrue (is_bit 0 (m (Cell f i))) →
      frame_of (m (Cell f i)) < z.frames → Reach z m h (frame_of (m (Cell f i))) (use_below level (m (Cell f i)))

-- ---- in use
abbrev pub is_protected : KindWord → Bool
is_protected k = is_table k.kind || (type_number k.kind == 5)

-- a page table or descriptor page that is live, or that is in work or partial and flushed
abbrev pub is_in_use : KindWord → Bool
is_in_use k = is_protected k && (is_live k || ((is_work k || is_partial k) && not k.unflushed))
