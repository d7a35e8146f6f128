-- What an acquisition comes to, and what is asked of the words before it and of its steps.
use Rattle.std.specs.Prelude.{◌≡◌, ◌≢◌, ℕ, ◌<◌, ◌≤◌, true, Result, Ok, Err, IsTrue}
use Rattle.xp_words.specs.KindWords.{is_kind}
use Rattle.xp_words.specs.Machine.{Machine}
use Rattle.xp_words.specs.declared.place.Place.TheVariants.{Clock, Life, Refs}
use Rattle.xp_words.specs.declared.reply.Pause.TheVariants.{Flush}
use Rattle.xp_words.specs.declared.reply.Refusal.TheVariants as refusals
use Rattle.xp_words.specs.declared.reply.Stop.{Stop}
use Rattle.xp_words.specs.declared.reply.Stop.TheVariants.{Refused, Paused}
use Rattle.xp_board.specs.Readings.{kind_at, last_clock, ref_count}
use Rattle.xp_board.specs.Told.{PortValue}
use Rattle.step_maker.specs.Moves.{Met, Moment}
use Rattle.step_maker.specs.Plain.{Words}

-- the frame was had
abbrev pub IsHad : Result ℕ Stop → Type 0
IsHad (Ok f) = Unit {0}
IsHad (Err e) = ⊥

-- it was refused, and not because the clock stands at its last value
abbrev pub IsFinal : Stop → Type 0
IsFinal (Refused (refusals.Clock found)) = ⊥
IsFinal (Refused x) = Unit {0}
IsFinal (Paused x) = ⊥

-- had, or refused for what the words of frames say
abbrev pub IsDecided : Result ℕ Stop → Type 0
IsDecided (Ok f) = Unit {0}
IsDecided (Err e) = IsFinal e

-- each kind word is a spelling, and no live frame has more type counts than references
pub record IsOrderly (n : Machine) (m : Words) : Type 0 where
  pub spelled : (g : ℕ) → g < n.frames → IsTrue (is_kind (kind_at m g))
  pub counted : (g : ℕ) → g < n.frames → (kind_at m g).validated ≡ true → (kind_at m g).number ≤ ref_count (m (Refs g))

-- no step from v to w found the clock at its last value
abbrev pub ClockGoesOn : PortValue → PortValue → Type 0
ClockGoesOn v w = (m : Moment) → Met v w m → m.place ≡ Clock → m.found ≢ last_clock

-- no step from v to w found that domain dying
abbrev pub FindsAlive : PortValue → PortValue → ℕ → Type 0
FindsAlive v w d = (m : Moment) → Met v w m → m.place ≡ Life d → m.found ≡ 0

-- it goes on when another vCPU has flushed
abbrev pub IsAwaiting : Result ℕ Stop → Type 0
IsAwaiting (Err (Paused (Flush vcpu stamp found))) = Unit {0}
IsAwaiting _ = ⊥
