-- What stands unfinished in words while nobody has anything in hand.
use Rattle.std.specs.Prelude.{◌≡◌, ◌⊎◌, ◌+◌, ◌<◌, ℕ, false, true, IsTrue}
use Rattle.xp_words.specs.Machine.{Machine}
use Rattle.xp_words.specs.Places.{old0_of, old1_of, sizes_of}
use Rattle.xp_words.specs.declared.entry.Demand.TheVariants.{Typed}
use Rattle.xp_board.specs.declared.holdings.Holdings.{Holdings}
use Rattle.xp_board.specs.Hands.{IsEmptyHand}
use Rattle.xp_board.specs.Readings.{is_dead, is_partial, kind_at}
use Rattle.xp_board.specs.Recorded.{entry_demand}
use Rattle.step_maker.specs.Plain.{Words}

abbrev pub AreEmpty : Machine → (ℕ → Holdings) → Type 0
AreEmpty n h = (s : ℕ) → s < (sizes_of n).vcpus → IsEmptyHand (h s)

-- dead, partial, or live with a type count and under no entry lock
abbrev pub IsIdle : Machine → Words → ℕ → Type 0
IsIdle n m g = IsTrue (is_dead (kind_at m g)) ⊎ (IsTrue (is_partial (kind_at m g)) ⊎ ((kind_at m g).validated ≡ true) × (0 < (kind_at m g).number) × ((kind_at m g).locked ≡ false))

-- an old word of some vCPU names the frame
pub record IsOld (n : Machine) (m : Words) (g : ℕ) : Type 0 where
  pub vcpu : ℕ
  pub real : vcpu < (sizes_of n).vcpus
  pub names : (m (old0_of vcpu) ≡ g + 1) ⊎ (m (old1_of vcpu) ≡ g + 1)

-- the last recorded entry of a table that is partial, too, asks the frame with its type
pub record IsBelow (n : Machine) (m : Words) (g : ℕ) : Type 0 where
  pub table : ℕ
  pub inside : table < n.frames
  pub partial : IsTrue (is_partial (kind_at m table))
  pub last : ℕ
  pub recorded : last + 1 ≡ (kind_at m table).progress
  pub asks : entry_demand m table last ≡ Typed g (kind_at m g).kind

-- what holds a partial frame, and so leads to it
pub data IsNamed (n : Machine) (m : Words) (g : ℕ) : Type 0 where
  kept : (kind_at m g).kept ≡ true → IsNamed n m g
  old : IsOld n m g → IsNamed n m g
  below : IsBelow n m g → IsNamed n m g

-- nobody has anything in hand, no old word names a frame, and no frame has the kept mark
pub record IsNothingLeft (n : Machine) (m : Words) (h : ℕ → Holdings) : Type 0 where
  pub hands : AreEmpty n h
  pub first : (v : ℕ) → v < (sizes_of n).vcpus → m (old0_of v) ≡ 0
  pub second : (v : ℕ) → v < (sizes_of n).vcpus → m (old1_of v) ≡ 0
  pub unkept : (g : ℕ) → g < n.frames → (kind_at m g).kept ≡ false
