-- What an acquisition has done so far, beside the frames as they stand: which dead frames it took, with their levels, and how many of
-- the entries of each it has met.
use Rattle.std.proofs.Common.{◌≡◌, ℕ, zero, suc, ◌+◌, ◌<◌, ◌≤◌, ◌⊎◌, true, false, Option, Some, None, IsTrue}
use Rattle.xp_words.specs.declared.kind.KindWord.{KindWord}
use Rattle.xp_words.specs.declared.kind.PageType.{PageType}
use Rattle.xp_words.specs.declared.entry.Demand.{Demand}
use Rattle.xp_words.specs.declared.entry.Demand.TheVariants.{Nothing, Bad, Read, Typed}
use Rattle.xp_words.specs.Machine.{Machine}
use Rattle.xp_board.specs.Lists.{one_at}
use Rattle.xp_board.specs.Readings.{is_dead}
use Rattle.xp_board.specs.Recorded.{names}
use Rattle.xp_board.specs.Sums.{sum_below}
use Rattle.partial_state.specs.Levels.{level_type}
use Rattle.table_law.specs.Plain.{Plain, Share}
use Rattle.table_law.specs.Alone.{Cause, PlainOutcome, fine, refused}
use Rattle.table_law.specs.Levels.{entry_of}
use Rattle.table_law.specs.Lawful.{PlainTree, IsPlainOwned, PlainLawful, IsRested, share_count}

-- frame `top` is acquired for that owner with type `kind`, and the frames are `before`
pub record Case : Type 0 where
  pub machine : Machine
  pub owner : ℕ
  pub top : ℕ
  pub kind : PageType
  pub before : Plain

-- nothing is unfinished before
abbrev pub IsCalm : Case → Type 0
IsCalm c = IsRested c.machine c.before

abbrev pub IsLawful : Case → Type 0
IsLawful c = PlainLawful c.machine c.owner c.before c.top c.kind

pub record Doing : Type 0 where
  pub taken : ℕ → Option ℕ
  pub met : ℕ → ℕ

-- how often the first k entries of frame x name frame g, where it was taken as a table
abbrev pub asked : Case → ℕ → Option ℕ → ℕ → ℕ → ℕ
asked c g None k x = 0
asked c g (Some zero) k x = 0
asked c g (Some (suc l)) k x = sum_below k (λ i. names g (entry_of c.before (level_type (suc l)) x i))

-- how often the acquisition has named frame g
abbrev pub total : Case → Doing → ℕ → ℕ
total c d g = one_at c.top g + sum_below c.machine.frames (λ x. asked c g (d.taken x) (d.met x) x)

abbrev pub more : ℕ → Option Share → Option Share
more k None = None
more k (Some s) = Some (record { owner = s.owner; allocated = s.allocated; count = s.count + k })

-- a frame that was not taken has its type and form, and no fewer type counts
pub record IsSame (a b : KindWord) : Type 0 where
  pub kind : b.kind ≡ a.kind
  pub live : b.validated ≡ a.validated
  pub dead : is_dead b ≡ is_dead a
  pub more : a.number ≤ b.number

pub record IsTaken (c : Case) (p : Plain) (x l : ℕ) : Type 0 where
  pub dead : IsTrue (is_dead (c.before.kinds x))
  pub tree : PlainTree c.before c.top c.kind x (level_type l)
  pub low : l ≤ 4
  pub inside : x < c.machine.frames
  pub kind : (p.kinds x).kind ≡ level_type l
  pub now : is_dead (p.kinds x) ≡ false
  pub counted : (p.kinds x).validated ≡ true → 0 < (p.kinds x).number

pub record Doings (c : Case) (p : Plain) (d : Doing) : Type 0 where
  pub cells : (g i : ℕ) → p.cells g i ≡ c.before.cells g i
  pub shares : (g : ℕ) → p.shares g ≡ more (total c d g) (c.before.shares g)
  pub room : (g : ℕ) → g < c.machine.frames → share_count (p.shares g) ≤ c.machine.limit
  pub same : (x : ℕ) → d.taken x ≡ None → IsSame (c.before.kinds x) (p.kinds x)
  pub took : (x l : ℕ) → d.taken x ≡ Some l → IsTaken c p x l
  pub most : (x : ℕ) → d.met x ≤ 512

-- what is still in work is of a level above
abbrev pub Above : Plain → Doing → ℕ → Type 0
Above p d l = (x k : ℕ) → d.taken x ≡ Some k → (p.kinds x).validated ≡ false → l < k

-- ---- demands that were met
abbrev pub HasType : Case → Doing → ℕ → PageType → Type 0
HasType c d g w = ((l : ℕ) × (d.taken g ≡ Some l) × (level_type l ≡ w)) ⊎ ((is_dead (c.before.kinds g) ≡ false) × ((c.before.kinds g).kind ≡ w))

abbrev pub IsMet : Case → Doing → Demand → Type 0
IsMet c d Nothing = Unit {0}
IsMet c d Bad = ⊥
IsMet c d (Read g) = IsPlainOwned c.machine c.owner c.before g
IsMet c d (Typed g w) = IsPlainOwned c.machine c.owner c.before g × HasType c d g w

abbrev pub AllMet : Case → Doing → ℕ → ℕ → Type 0
AllMet c d l x = (i : ℕ) → i < 512 → IsMet c d (entry_of c.before (level_type (suc l)) x i)

-- from (p, d) to (q, e): what was taken stays so, and what came is complete; of frame `but` entries may have been met
pub record Grows (c : Case) (p : Plain) (d : Doing) (q : Plain) (e : Doing) (IsBut : ℕ → Type 0) : Type 0 where
  pub keeps : (x l : ℕ) → d.taken x ≡ Some l → e.taken x ≡ Some l
  pub still : (x l : ℕ) → d.taken x ≡ Some l → (IsBut x → ⊥) → e.met x ≡ d.met x
  pub settled : (x l : ℕ) → e.taken x ≡ Some l → (q.kinds x).validated ≡ false → (d.taken x ≡ Some l) × ((p.kinds x).validated ≡ false)
  pub closed : (x l : ℕ) → d.taken x ≡ None → e.taken x ≡ Some (suc l) → (e.met x ≡ 512) × AllMet c e l x

-- ---- how it went on
pub record Done (c : Case) (o : PlainOutcome) (X : Plain → Doing → Type 0) : Type 0 where
  pub left : Plain
  pub doing : Doing
  pub is : o ≡ fine left
  pub holds : X left doing

pub record Failed (c : Case) (o : PlainOutcome) : Type 0 where
  pub cause : Cause
  pub left : Plain
  pub is : o ≡ refused cause left
  pub why : IsLawful c → ⊥

abbrev pub Goes : Case → PlainOutcome → (Plain → Doing → Type 0) → Type 0
Goes c o X = Done c o X ⊎ Failed c o
