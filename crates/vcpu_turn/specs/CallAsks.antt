-- Where the asks for a call of a multicall stand among those of its turn, and how far it goes once the gate says yes.
use Rattle.std.specs.Prelude.{◌≡◌, ◌⊎◌, ℕ, ◌+◌, ◌-◌, ◌<◌, ◌≤◌, Bool, true, List, [], ◌∷◌, length, Option}
use Rattle.xp_words.specs.declared.ops.Op.{Op}
use Rattle.xp_board.specs.Told.{PortValue}
use Rattle.vcpu_turn.specs.Asking.{CallGone, asks_of, asks_within, elements_of}
use Rattle.vcpu_turn.specs.Cpus.{Processing, begins_at, task_in}
use Rattle.vcpu_turn.specs.Lists.{is_due_answer}
use Rattle.vcpu_turn.specs.Turning.{DoesTurn, IsTurn}
use Rattle.vcpu_turn.specs.Turning as turning
use Rattle.vcpu_turn.specs.declared.cpu.TurnEnd.{TurnEnd}

-- what the gate answered as that was settled which an earlier turn left
abbrev pub first_going : {c : Processing} {o : Option Op} {v : PortValue} {c' : Processing} {w : PortValue} {answers : List Bool} {end : TurnEnd} → DoesTurn c o v c' w answers end → List Bool
first_going (turning.DoesTurn.unsettled w answers p settles) = answers
first_going (turning.DoesTurn.dying life w c' end dead dies) = []
first_going (turning.DoesTurn.settled u w c' early answers end settles does) = early

-- how often it was asked for that
abbrev pub asks_first : {c c' : Processing} {end : TurnEnd} {v w : PortValue} {answers : List Bool} → IsTurn c c' end v w answers → ℕ
asks_first turn = length (first_going turn.does)

-- How often the gate was asked in a turn before the call itself: `first` times at the turn's beginning, for the calls that were answered before it, and as what was in front of it was
-- settled.
abbrev pub asks_before : {d : ℕ} → ℕ → List (CallGone d) → CallGone d → ℕ
asks_before first earlier g = first + asks_of earlier + length g.early

-- The gate says yes at ask number `ask` within the call: the call asks no more behind that, and is paused for it; and it does no more elements than asks up to there, those within
-- elements taken off.
pub record CallStops {d : ℕ} (g : CallGone d) (ask : ℕ) : Type 0 where
  pub asks : (length g.asked < ask) ⊎ ((length g.asked ≡ ask) × (is_due_answer g.answer ≡ true))
  pub within : g.to.done ≤ begins_at (task_in g.call) g.from.done + (ask - asks_within (elements_of g))

-- At ask number `ask` of a turn with these calls the gate says yes. That is none of the asks in front of the last call, if there is one, and this call goes no further.
abbrev pub LastCallStops : {d : ℕ} → ℕ → List (CallGone d) → ℕ → Type 0
LastCallStops first [] ask = Unit {0}
LastCallStops first (g ∷ earlier) ask = (asks_before first earlier g < ask) × CallStops g (ask - asks_before first earlier g)
