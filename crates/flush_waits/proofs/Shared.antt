-- Lemmas that several crates above cite.
use Rattle.std.proofs.Common.{◌≡◌, [], refl, ℕ, List, Err}
use Rattle.flush_waits.specs.Waiting.{IsWait}
use Rattle.flush_words.specs.Flushing.{FlushedBy}
use Rattle.flush_words.specs.Flushing as flushing
use Rattle.step_maker.specs.Answers.{missed}
use Rattle.step_maker.specs.Visits.{Visit}
use Rattle.xp_board.specs.Readings.{last_clock}
use Rattle.xp_words.specs.Machine.{Machine}
use Rattle.xp_words.specs.declared.place.Place.TheVariants.{Clock}
use Rattle.xp_words.specs.declared.reply.Pause.TheVariants as pauses
use Rattle.xp_words.specs.declared.reply.Refusal.{Refusal}
use Rattle.xp_words.specs.declared.reply.Refusal.TheVariants as refusals
use Rattle.xp_words.specs.declared.reply.Refusal.TheVariants as refusals
use Rattle.xp_words.specs.declared.reply.Stop.{Stop}
use Rattle.xp_words.specs.declared.reply.Stop.TheVariants.{Refused, Paused}

pub wait_missed : (n : Machine) (e : Stop) → IsWait e → missed n e ≡ []
wait_missed n (Refused (refusals.Clock found)) is = refl
wait_missed n (Refused _) is = refl
wait_missed n (Paused (pauses.Flush u s x)) is = refl
wait_missed n (Paused _) is = absurd is

pub clock_by : (s : ℕ) (r : Refusal) (vs : List Visit) → FlushedBy s (Err r) vs → r ≡ refusals.Clock last_clock
clock_by s _ _ flushing.FlushedBy.none = refl
