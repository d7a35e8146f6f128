-- Turns of one vCPU, one behind the other, each by whatever answers of its gate; and the log that they leave.
use Rattle.std.specs.Prelude.{◌≡◌, ◌+◌, ℕ, Bool, false, List, [], ◌∷◌, ◌++◌, length}
use Rattle.xp_words.specs.declared.reply.LogLine.{LogLine}
use Rattle.xp_board.specs.Told.{PortValue}
use Rattle.vcpu_turn.specs.Cpus.{Processing}
use Rattle.vcpu_turn.specs.Turning.{IsTurn}
use Rattle.vcpu_turn.specs.declared.cpu.TurnEnd.{TurnEnd}

pub data Turned (c : Processing) (v : PortValue) : Processing → PortValue → Type 0 where
  none : Turned c v c v
  more : (d e : Processing) (u w : PortValue) (end : TurnEnd) (answers : List Bool) → Turned c v d u → d.retired ≡ false → IsTurn d e end u w answers → Turned c v e w

-- The log is of these answers, in order: `Logs n lines a` says that the operation of that number logged these lines, the last one with its reply, and that they are that answer.
pub data IsLog {Answer : Type 0} (Logs : ℕ → List LogLine → Answer → Type 0) : List LogLine → List Answer → Type 0 where
  none : IsLog Logs [] []
  more : (log made : List LogLine) (before : List Answer) (a : Answer) → IsLog Logs log before → Logs (length before + 1) made a → IsLog Logs (log ++ made) (before ++ a ∷ [])
