-- When a whole tree of page tables may be validated, as a property of a plain value of the frames. It is the one that
-- xp_board has of words, read from such a value.
use Rattle.std.specs.Prelude.{◌≡◌, ◌≢◌, ℕ, ◌+◌, ◌<◌, ◌≤◌, ◌⊎◌, true, false, Option, Some, None, IsTrue}
use Rattle.xp_words.specs.declared.kind.PageType.{PageType}
use Rattle.xp_words.specs.declared.entry.Demand.TheVariants.{Bad, Read, Typed}
use Rattle.xp_words.specs.PageTypes.{is_table}
use Rattle.xp_words.specs.Machine.{Machine}
use Rattle.xp_board.specs.Lawful.{IsCountedAs}
use Rattle.xp_board.specs.Lists.{one_at}
use Rattle.xp_board.specs.Readings.{is_dead, kind_at, ref_count}
use Rattle.xp_board.specs.Recorded.{names}
use Rattle.xp_board.specs.Sums.{sum_below}
use Rattle.step_maker.specs.Plain.{Words}
use Rattle.xp_words.specs.declared.place.Place.TheVariants.{Refs}
use Rattle.table_law.specs.Plain.{Plain, Share}
use Rattle.table_law.specs.Levels.{entry_of}

-- that type is asked of the frame: at the top, or by an entry of a dead table of which its type is asked
pub data PlainTree (p : Plain) (f : ℕ) (t : PageType) : ℕ → PageType → Type 0 where
  root : PlainTree p f t f t
  below : (g i h : ℕ) (u w : PageType) → PlainTree p f t g u → IsTrue (is_dead (p.kinds g)) → IsTrue (is_table u) → i < 512 →
      entry_of p u g i ≡ Typed h w → PlainTree p f t h w

-- a table of the tree whose entries are still to be validated
pub record IsPlainNode (p : Plain) (f : ℕ) (t : PageType) (g : ℕ) (u : PageType) : Type 0 where
  pub tree : PlainTree p f t g u
  pub dead : IsTrue (is_dead (p.kinds g))
  pub table : IsTrue (is_table u)

-- how often the entries of frame x name frame g, where it is a node
abbrev pub plain_asked_by : Plain → ℕ → Option PageType → ℕ → ℕ
plain_asked_by p g None x = 0
plain_asked_by p g (Some u) x = sum_below 512 (λ i. names g (entry_of p u x i))

abbrev pub share_count : Option Share → ℕ
share_count (Some s) = s.count
share_count None = 0

abbrev pub IsShareOf : ℕ → Option Share → Type 0
IsShareOf owner (Some s) = s.owner ≡ owner
IsShareOf owner None = ⊥

pub record IsPlainOwned (n : Machine) (owner : ℕ) (p : Plain) (g : ℕ) : Type 0 where
  pub inside : g < n.frames
  pub share : IsShareOf owner (p.shares g)

pub record PlainLawful (n : Machine) (owner : ℕ) (p : Plain) (f : ℕ) (t : PageType) : Type 0 where
  pub allowed : (g i : ℕ) (u : PageType) → IsPlainNode p f t g u → i < 512 → entry_of p u g i ≢ Bad
  pub plain : (g i h : ℕ) (u : PageType) → IsPlainNode p f t g u → i < 512 → entry_of p u g i ≡ Read h → IsPlainOwned n owner p h
  pub typed : (g : ℕ) (u : PageType) → PlainTree p f t g u → IsPlainOwned n owner p g
  pub one_type : (g : ℕ) (u w : PageType) → PlainTree p f t g u → PlainTree p f t g w → u ≡ w
  pub right_type : (g : ℕ) (u : PageType) → PlainTree p f t g u → IsTrue (is_dead (p.kinds g)) ⊎ IsCountedAs (p.kinds g) u
  -- the nodes with their types, and what their entries come to
  pub nodes : ℕ → Option PageType
  pub each : (g : ℕ) (u : PageType) → nodes g ≡ Some u → IsPlainNode p f t g u
  pub all : (g : ℕ) (u : PageType) → IsPlainNode p f t g u → nodes g ≡ Some u
  pub within : (g : ℕ) (s : Share) → g < n.frames → p.shares g ≡ Some s → s.count + (one_at f g + sum_below n.frames (λ x. plain_asked_by p g (nodes x) x)) ≤ n.limit

-- Nothing is unfinished: each frame is dead, or validated with type counts (without one it would be closing); and no count is
-- above the limit.
pub record IsRested (n : Machine) (p : Plain) : Type 0 where
  pub formed : (g : ℕ) → g < n.frames → is_dead (p.kinds g) ≡ false → (p.kinds g).validated ≡ true
  pub counted : (g : ℕ) → g < n.frames → (p.kinds g).validated ≡ true → 0 < (p.kinds g).number
  pub room : (g : ℕ) → g < n.frames → share_count (p.shares g) ≤ n.limit

-- the same of words; the word of a free or dying frame counts nothing
pub record IsAtRest (n : Machine) (m : Words) : Type 0 where
  pub formed : (g : ℕ) → g < n.frames → is_dead (kind_at m g) ≡ false → (kind_at m g).validated ≡ true
  pub counted : (g : ℕ) → g < n.frames → (kind_at m g).validated ≡ true → 0 < (kind_at m g).number
  pub room : (g : ℕ) → g < n.frames → ref_count (m (Refs g)) ≤ n.limit
