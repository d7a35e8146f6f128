-- Turns that the gate pauses as they settle what was left unfinished, and how much they leave.
use Rattle.std.specs.Prelude.{◌≡◌, ℕ, suc, Bool, true, false, List, Option}
use Rattle.xp_words.specs.declared.ops.Op.{Op}
use Rattle.xp_preempt.specs.Gates.{ends_yes}
use Rattle.xp_board.specs.Told.{PortValue}
pub use Rattle.level_release.specs.Course.{LeavesLess}
use Rattle.level_release.specs.Course.{is_first_done}
use Rattle.vcpu_turn.specs.Cpus.{Processing}
use Rattle.vcpu_turn.specs.Turning.{DoesTurn, IsTurn}
use Rattle.vcpu_turn.specs.Turning as turning
use Rattle.vcpu_turn.specs.declared.cpu.TurnEnd.{TurnEnd}

-- settling was all that the turn did
abbrev pub is_settling : {c : Processing} {o : Option Op} {v : PortValue} {d : Processing} {w : PortValue} {answers : List Bool} {end : TurnEnd} → DoesTurn c o v d w answers end → Bool
is_settling (turning.DoesTurn.unsettled w answers p settles) = true
is_settling (turning.DoesTurn.dying life w d end dead dies) = false
is_settling (turning.DoesTurn.settled u w d early answers end settles does) = false

-- and what the first old word named came to its end in it
abbrev pub ends_first : {c : Processing} {o : Option Op} {v : PortValue} {d : Processing} {w : PortValue} {answers : List Bool} {end : TurnEnd} → DoesTurn c o v d w answers end → Bool
ends_first (turning.DoesTurn.unsettled w answers p settles) = is_first_done settles.course
ends_first (turning.DoesTurn.dying life w d end dead dies) = false
ends_first (turning.DoesTurn.settled u w d early answers end settles does) = false

-- The gate paused the turn as it settled what the first old word named.
pub record PausesFirst (c d : Processing) : Type 0 where
  pub end : TurnEnd
  pub before : PortValue
  pub behind : PortValue
  pub answers : List Bool
  pub turn : IsTurn c d end before behind answers
  pub settling : is_settling turn.does ≡ true
  pub unended : ends_first turn.does ≡ false
  pub said : ends_yes answers ≡ true

-- so often in a row, whatever other vCPUs did between
pub data PausedInARow : ℕ → Processing → Processing → Type 0 where
  none : (c : Processing) → PausedInARow 0 c c
  again : (n : ℕ) (c d e : Processing) → PausesFirst c d → PausedInARow n d e → PausedInARow (suc n) c e
