-- When a whole tree of page tables may be validated, as a plain property of the words.
use Rattle.std.specs.Prelude.{◌≡◌, ◌≢◌, ℕ, ◌+◌, ◌<◌, ◌≤◌, ◌⊎◌, Option, Some, None, IsTrue}
use Rattle.xp_words.specs.declared.kind.KindWord.{KindWord}
use Rattle.xp_words.specs.declared.kind.PageType.{PageType}
use Rattle.xp_words.specs.declared.entry.Demand.TheVariants.{Bad, Read, Typed}
use Rattle.xp_words.specs.Entries.{demand_at}
use Rattle.xp_words.specs.PageTypes.{is_table}
use Rattle.xp_words.specs.Machine.{Machine}
use Rattle.xp_words.specs.declared.place.Place.{Place}
use Rattle.xp_words.specs.declared.place.Place.TheVariants.{Refs, Cell}
use Rattle.xp_board.specs.Sums.{sum_below}
use Rattle.xp_board.specs.Lists.{one_at}
use Rattle.xp_board.specs.Readings.{kind_at, is_live, is_dead, owner_of, ref_count}
use Rattle.xp_board.specs.Recorded.{names}

-- that type is asked of the frame: at the top f, or by an entry of a dead table of which its type is asked
pub data Tree (m : Place → ℕ) (f : ℕ) (t : PageType) : ℕ → PageType → Type 0 where
  root : Tree m f t f t
  below : (g i h : ℕ) (u w : PageType) → Tree m f t g u → IsTrue (is_dead (kind_at m g)) → IsTrue (is_table u) → i < 512 →
      demand_at u i (m (Cell g i)) ≡ Typed h w → Tree m f t h w

-- a table of the tree whose entries are still to be validated
pub record IsNode (m : Place → ℕ) (f : ℕ) (t : PageType) (g : ℕ) (u : PageType) : Type 0 where
  pub tree : Tree m f t g u
  pub dead : IsTrue (is_dead (kind_at m g))
  pub table : IsTrue (is_table u)

-- how often the entries of frame x name frame g, where x is a node of that type
abbrev pub asked_by : (Place → ℕ) → ℕ → Option PageType → ℕ → ℕ
asked_by m g None x = 0
asked_by m g (Some u) x = sum_below 512 (λ i. names g (demand_at u i (m (Cell x i))))

-- in range, and that domain's
pub record IsOwned (n : Machine) (owner : ℕ) (m : Place → ℕ) (g : ℕ) : Type 0 where
  pub inside : g < n.frames
  pub owned : owner_of (m (Refs g)) ≡ Some owner
  pub counted : 0 < ref_count (m (Refs g))

-- live with that type, and with a type count: neither partial, nor in work, nor closing
pub record IsCountedAs (k : KindWord) (u : PageType) : Type 0 where
  pub live : IsTrue (is_live k)
  pub kind : k.kind ≡ u
  pub counted : 0 < k.number

-- frame f and all that it leads to may be validated for that domain, f as a table of type t
pub record Lawful (n : Machine) (owner : ℕ) (m : Place → ℕ) (f : ℕ) (t : PageType) : Type 0 where
  pub allowed : (g i : ℕ) (u : PageType) → IsNode m f t g u → i < 512 → demand_at u i (m (Cell g i)) ≢ Bad
  pub plain : (g i h : ℕ) (u : PageType) → IsNode m f t g u → i < 512 → demand_at u i (m (Cell g i)) ≡ Read h → IsOwned n owner m h
  pub typed : (g : ℕ) (u : PageType) → Tree m f t g u → IsOwned n owner m g
  pub one_type : (g : ℕ) (u w : PageType) → Tree m f t g u → Tree m f t g w → u ≡ w
  pub right_type : (g : ℕ) (u : PageType) → Tree m f t g u → IsTrue (is_dead (kind_at m g)) ⊎ IsCountedAs (kind_at m g) u
  -- the nodes with their types
  pub nodes : ℕ → Option PageType
  pub each : (g : ℕ) (u : PageType) → nodes g ≡ Some u → IsNode m f t g u
  pub all : (g : ℕ) (u : PageType) → IsNode m f t g u → nodes g ≡ Some u
  -- the references of each owned frame, with those that validation takes
  pub within : (g o : ℕ) → g < n.frames → owner_of (m (Refs g)) ≡ Some o →
      ref_count (m (Refs g)) + (one_at f g + sum_below n.frames (λ x. asked_by m g (nodes x) x)) ≤ n.limit
