-- A lock by its steps, on any board: one look at the kind word, and one exchange of it; or the look alone.
use Rattle.std.specs.Prelude.{◌≡◌, ◌≢◌, ℕ, false, List, Result, Ok, Err, IsTrue}
use Rattle.xp_words.specs.KindWords.{kind_fields}
use Rattle.xp_words.specs.Machine.{Machine}
use Rattle.xp_words.specs.Places.{number, sizes_of}
use Rattle.xp_words.specs.declared.place.Place.TheVariants.{Kind}
use Rattle.xp_words.specs.declared.reply.Pause.TheVariants.{Busy, Lost}
use Rattle.xp_words.specs.declared.reply.Stop.{Stop}
use Rattle.xp_words.specs.declared.reply.Stop.TheVariants.{Paused}
use Rattle.xp_words.specs.KindWords.{kind_write}
use Rattle.xp_board.specs.declared.step.Act.TheVariants.{Cas, Load}
use Rattle.xp_board.specs.KindSteps.{locked_kind}
use Rattle.xp_board.specs.Told.{PortValue}
use Rattle.step_maker.specs.Visits.{Visit, visit, Does, Only, Then}
use Rattle.partial_state.specs.Levels.{level_type}
use Rattle.entry_locks.specs.Locks.{is_lockable, is_worked_on}
use Rattle.entry_locks.specs.declared.locking.Locked.{Locked}
use Rattle.entry_locks.specs.declared.locking.Locked.TheVariants.{Table, Other}

-- the word was looked at, and exchanged for the locked one where that finds it
abbrev pub Exchanges : ℕ → ℕ → ℕ → List Visit → Type 0
Exchanges f x found vs = Then (Only (visit (Kind f) Load x)) (Only (visit (Kind f) (Cas x (kind_write (locked_kind (kind_fields x)))) found)) vs

abbrev pub LocksBy : Machine → ℕ → Result Locked Stop → List Visit → Type 0
LocksBy n f (Ok (Table level x)) vs = IsTrue (is_lockable (kind_fields x)) × ((kind_fields x).kind ≡ level_type level) × Exchanges f x x vs
LocksBy n f (Ok (Other x)) vs = (is_lockable (kind_fields x) ≡ false) × (is_worked_on (kind_fields x) ≡ false) × Only (visit (Kind f) Load x) vs
LocksBy n f (Err (Paused (Lost place x found))) vs = (place ≡ number (sizes_of n) (Kind f)) × IsTrue (is_lockable (kind_fields x)) × (found ≢ x) × Exchanges f x found vs
LocksBy n f (Err (Paused (Busy g x))) vs = (g ≡ f) × IsTrue (is_worked_on (kind_fields x)) × Only (visit (Kind f) Load x) vs
LocksBy n f (Err e) vs = ⊥

abbrev pub LocksFound : PortValue → PortValue → ℕ → Result Locked Stop → Type 0
LocksFound v w f answer = Does v w (λ vs. LocksBy v.post.machine f answer vs)
