-- Rounds of turns.
use Rattle.std.specs.Prelude.{◌≡◌, ℕ, ◌+◌, ◌*◌, ◌<◌, All, Any, true, List}
use Rattle.std.specs.List.{flat_map}
use Rattle.xp_words.specs.Machine.{Machine}
use Rattle.xp_words.specs.Places.{sizes_of}
use Rattle.xp_words.specs.declared.reply.Pause.TheVariants.{Flush}
use Rattle.vcpu_turn.specs.Cpus.{Processing}
use Rattle.vcpu_turn.specs.declared.cpu.TurnEnd.{TurnEnd}
use Rattle.vcpu_turn.specs.declared.cpu.TurnEnd.TheVariants as ends
use Rattle.xp_machine.specs.Turns.{Stage}
use Rattle.round_laws.specs.Stages.{ticks_to_go, to_go}

-- the turn was paused for the flush of another vCPU
abbrev pub AwaitsFlush : TurnEnd → Type 0
AwaitsFlush (ends.Paused (Flush vcpu stamp found)) = Unit {0}
AwaitsFlush _ = ⊥

-- each vCPU of the machine has a turn in it
abbrev pub IsRound : Machine → List ℕ → Type 0
IsRound n vs = (t : ℕ) → t < (sizes_of n).vcpus → Any (λ v. v ≡ t) vs

-- the turns of these rounds, in order
abbrev pub turns_in_rounds : List (List ℕ) → List ℕ
turns_in_rounds rounds = flat_map (λ vs. vs) rounds

-- no vCPU makes a turn any more
abbrev pub AreAllRetired : Stage → Type 0
AreAllRetired s = All (λ (c : Processing). c.retired ≡ true) s.cpus

-- so many rounds are enough
abbrev pub rounds_to_go : Machine → Stage → ℕ
rounds_to_go n s = 2 * (to_go n s + ticks_to_go n s) + 2
