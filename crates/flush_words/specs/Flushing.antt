-- The clock and flushes: when the own translations may be flushed, and by which steps they are.
use Rattle.std.specs.Prelude.{◌≡◌, ◌≢◌, ℕ, ◌+◌, ◌==◌, nat_lt, true, List, [], ◌∷◌, None, Result, Ok, Err, IsTrue}
use Rattle.xp_words.specs.Machine.{Machine}
use Rattle.xp_words.specs.Places.{sizes_of, flushed_of}
use Rattle.xp_words.specs.declared.place.Place.TheVariants.{Clock}
use Rattle.xp_words.specs.declared.reply.Refusal.{Refusal}
use Rattle.xp_words.specs.declared.reply.Refusal.TheVariants as refusals
use Rattle.xp_board.specs.declared.holdings.Holdings.{Holdings}
use Rattle.xp_board.specs.declared.step.Act.TheVariants.{Load, Cas, Store}
use Rattle.xp_board.specs.declared.step.StepKind.TheVariants as kinds
use Rattle.xp_board.specs.Acts.{left_by}
use Rattle.xp_board.specs.Readings.{last_clock}
use Rattle.xp_board.specs.Steps.{some_since}
use Rattle.xp_board.specs.Told.{PortValue}
use Rattle.step_maker.specs.Moves.{Moves}
use Rattle.step_maker.specs.Visits.{Visit, visit}

-- the own flush may go to that clock value: it was found or left since the last flush
pub record MayFlushTo (n : Machine) (clock : ℕ) (h : Holdings) : Type 0 where
  pub was_found : IsTrue (some_since (sizes_of n) h.acked Clock (λ w. w == clock) h.steps)
  pub warmed : h.cold ≡ true → IsTrue (some_since (sizes_of n) h.ran Clock (λ w. nat_lt w clock) h.steps)
  pub landed : h.walk ≡ None

-- By exactly these steps the own translations are flushed, or not: the clock is loaded; it is at its last value, and all
-- is as before; or it is moved on by one, and flushed to that; or it had moved on, and is flushed to what it was then.
pub data FlushesOwn (v w : PortValue) : Result (Unit {0}) Refusal → Type 0 where
  spent : Moves v w Clock Load kinds.Look None last_clock → FlushesOwn v w (Err (refusals.Clock last_clock))
  ticked : (a b : PortValue) (clock before : ℕ) → clock ≢ last_clock → Moves v a Clock Load kinds.Look None clock → Moves a b Clock (Cas clock (clock + 1)) kinds.Tick None clock →
      Moves b w (flushed_of v.post.vcpu) (Store (clock + 1)) kinds.Ack None before → FlushesOwn v w (Ok tt)
  overtaken : (a b : PortValue) (clock found before : ℕ) → clock ≢ last_clock → found ≢ clock → Moves v a Clock Load kinds.Look None clock →
      Moves a b Clock (Cas clock (clock + 1)) kinds.Tick None found → Moves b w (flushed_of v.post.vcpu) (Store found) kinds.Ack None before → FlushesOwn v w (Ok tt)

-- the same as a list, for vCPU s
pub data FlushedBy (s : ℕ) : Result (Unit {0}) Refusal → List Visit → Type 0 where
  none : FlushedBy s (Err (refusals.Clock last_clock)) (visit Clock Load last_clock ∷ [])
  once : (clock found to before : ℕ) → clock ≢ last_clock → left_by (Cas clock (clock + 1)) found ≡ to → FlushedBy s (Ok tt) (visit (flushed_of s) (Store to) before ∷ (visit Clock (Cas clock (clock + 1)) found ∷ (visit Clock Load clock ∷ [])))
