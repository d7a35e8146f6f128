-- The course of a new base: the calls that it makes, from port to port, and the answers of the gate.
use Rattle.std.specs.Prelude.{◌≡◌, ◌≢◌, ℕ, zero, suc, Bool, List, [], ◌++◌, Option, Some, None, Result, Ok, Err, IfErr, false}
use Rattle.xp_words.specs.Places.{flushed_of}
use Rattle.xp_words.specs.declared.kind.PageType.TheVariants.{L4}
use Rattle.xp_words.specs.declared.place.Place.TheVariants.{Clock}
use Rattle.xp_words.specs.declared.reply.Pause.TheVariants.{Due}
use Rattle.xp_words.specs.declared.reply.Refusal.TheVariants as refusals
use Rattle.xp_words.specs.declared.reply.Stop.{Stop}
use Rattle.xp_words.specs.declared.reply.Stop.TheVariants.{Refused, Paused}
use Rattle.xp_board.specs.declared.step.Act.TheVariants.{Load, Store}
use Rattle.xp_board.specs.declared.step.StepKind.TheVariants as kinds
use Rattle.xp_board.specs.Readings.{last_clock}
use Rattle.xp_board.specs.Told.{PortValue}
use Rattle.step_maker.specs.Moves.{Came, Moves}
use Rattle.flush_words.specs.Flushing.{FlushesOwn}
use Rattle.table_entries.specs.Acquiring.{Acquired}
use Rattle.level_validate.specs.Unwinding.{own_domain}
use Rattle.level_release.specs.Course.{WasReleased}
use Rattle.table_bases.specs.declared.words.Base.{Base}
use Rattle.table_bases.specs.Asking.{ServesBase, StopsBase}
use Rattle.table_bases.specs.Holding.{base_place, naming}
use Rattle.xp_preempt.specs.Gates.{Gate, GatedPast}
use Rattle.table_entries.specs.Ending.{is_due_answer}

-- ---- the flush behind the store: where the clock is at its last value, the own cache is emptied and that value stored
pub data FlushesBehind (v w : PortValue) : Type 0 where
  flushed : FlushesOwn v w (Ok tt) → FlushesBehind v w
  spent : (u : PortValue) (before : ℕ) → Moves v u Clock Load kinds.Look None last_clock → Moves u w (flushed_of v.post.vcpu) (Store last_clock) kinds.Ack None before → FlushesBehind v w

-- ---- what the word named before is released, or its release is paused for the gate
abbrev pub ReleasesOld : PortValue → PortValue → ℕ → List Bool → Type 0
ReleasesOld v w zero answers = (w ≡ v) × (answers ≡ [])
ReleasesOld v w (suc g) answers = (answer : Result (Unit {0}) Stop) × WasReleased v g L4 w answers answer × IfErr answer (λ e. e ≡ Paused Due)

-- ---- the word is set, the own cache flushed, and then the old table released
pub record Installed (v w : PortValue) (base : Base) (new : Option ℕ) (answers : List Bool) : Type 0 where
  pub stored : PortValue
  pub flushed : PortValue
  pub old : ℕ
  pub stores : Moves v stored (base_place v.post.vcpu base) (Store (naming new)) kinds.Context None old
  pub flushes : FlushesBehind stored flushed
  pub releases : ReleasesOld flushed w old answers

-- ---- the table that is to be named is acquired, where there is one
abbrev pub AcquiresTop : PortValue → PortValue → Option ℕ → List Bool → Type 0
AcquiresTop v w None answers = (w ≡ v) × (answers ≡ [])
AcquiresTop v w (Some f) answers = Acquired v f (own_domain v) 4 w answers (Ok f)

-- ---- the whole
-- the clock is looked at first
abbrev pub SawClock : PortValue → PortValue → ℕ → Type 0
SawClock v w clock = Moves v w Clock Load kinds.Look None clock

pub data SetsBase (v w : PortValue) (base : Base) : Option ℕ → List Bool → Result (Unit {0}) Stop → Type 0 where
  spent : (new : Option ℕ) → SawClock v w last_clock → SetsBase v w base new [] (Err (Refused (refusals.Clock last_clock)))
  unacquired : (a : PortValue) (f clock : ℕ) (answers : List Bool) (stop : Stop) → SawClock v a clock → clock ≢ last_clock → Acquired a f (own_domain v) 4 w answers (Err stop) →
      SetsBase v w base (Some f) answers (Err stop)
  installed : (a b : PortValue) (clock : ℕ) (new : Option ℕ) (answers more : List Bool) → SawClock v a clock → clock ≢ last_clock → AcquiresTop a b new answers → Installed b w base new more →
      SetsBase v w base new (more ++ answers) (Ok tt)

-- ---- with a gate
abbrev pub InstallsBy : PortValue → PortValue → Base → Option ℕ → Gate → Gate → Type 0
InstallsBy v w base new g h = GatedPast g h false (λ answers. Installed v w base new answers)

abbrev pub SetsBaseBy : PortValue → PortValue → Base → Option ℕ → Gate → Gate → Result (Unit {0}) Stop → Type 0
SetsBaseBy v w base new g h answer = GatedPast g h (is_due_answer answer) (λ answers. SetsBase v w base new answers answer)

-- ---- the whole call
-- It came to where it ends, its steps serve what the base asks, show why it is not set, and are these calls, whose gate gave these answers.
pub record MeetsBase (v w : PortValue) (base : Base) (new : Option ℕ) (g h : Gate) (answer : Result (Unit {0}) Stop) : Type 0 where
  pub came : Came v w
  pub serves : ServesBase v w base new answer
  pub stops : StopsBase v w new answer
  pub course : SetsBaseBy v w base new g h answer
