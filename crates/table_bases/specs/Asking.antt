-- What a new base asks for, what a guest sees of it, why it is not set, and what it leaves in hand.
use Rattle.std.specs.Prelude.{◌⊎◌, ◌==◌, if◌then◌else◌, ℕ, ◌+◌, Bool, true, false, List, [], ◌∷◌, Option, Some, None, Result, Ok, Err}
use Rattle.xp_words.specs.declared.kind.PageType.TheVariants.{L4}
use Rattle.xp_words.specs.declared.reply.Refusal.TheVariants as refusals
use Rattle.xp_words.specs.declared.reply.Stop.{Stop}
use Rattle.xp_words.specs.declared.reply.Stop.TheVariants.{Refused, Paused}
use Rattle.xp_board.specs.Told.{PortValue}
use Rattle.step_maker.specs.Holds.{FlushedHolds, FlushedSame}
use Rattle.step_maker.specs.Answers.{Deed, Serves, SetsWord, Stops, missed}
use Rattle.step_maker.specs.Asked.{Request, of_table}
use Rattle.level_validate.specs.Acquiring.{IsAcquireStop}
use Rattle.level_validate.specs.Unwinding.{own_domain}
pub use Rattle.table_entries.specs.Ending.{may_rise}
use Rattle.table_bases.specs.declared.words.Base.{Base}
use Rattle.table_bases.specs.Holding.{base_number, naming}

-- ---- what it asks for
-- the frame that the user's base is to name; 0 stands for none
abbrev pub user_frame : ℕ → Option ℕ
user_frame f = if f == 0 then None else Some f

-- The frame, as a table of level 4, and what the entries of tables ask; what the own base named before; and a flush of its own at the
-- end. `rose`: the gate said yes.
abbrev pub of_base : ℕ → Option ℕ → Bool → Request
of_base d (Some f) rose = record (of_table f d (Some L4) d rose) { contexts = true; flushes = true }
of_base d None rose = record (of_table 0 d (Some L4) d rose) { names = λ g. false; contexts = true; flushes = true }

abbrev pub base_request : PortValue → Option ℕ → Result (Unit {0}) Stop → Request
base_request v new answer = of_base (own_domain v) new (may_rise answer)

-- ---- what a guest sees: where it is done that the word is set, and else nothing but the exchange that was lost
abbrev pub base_deeds : PortValue → Base → Option ℕ → Result (Unit {0}) Stop → List Deed
base_deeds v base new (Ok done) = SetsWord v.post.vcpu (base_number base) (naming new) ∷ []
base_deeds v base new (Err e) = missed v.post.machine e

abbrev pub ServesBase : PortValue → PortValue → Base → Option ℕ → Result (Unit {0}) Stop → Type 0
ServesBase v w base new answer = Serves v w (base_request v new answer) (base_deeds v base new answer)

abbrev pub StopsBase : PortValue → PortValue → Option ℕ → Result (Unit {0}) Stop → Type 0
StopsBase v w new (Ok done) = Unit {0}
StopsBase v w new (Err e) = Stops v w (base_request v new (Err e)) e

-- ---- why it is not set: the table is not to be had, or the clock of flushes is at its last value
abbrev pub IsSpentStop : Stop → Type 0
IsSpentStop (Refused (refusals.Clock found)) = Unit {0}
IsSpentStop _ = ⊥

abbrev pub IsBaseStop : Option ℕ → Stop → Type 0
IsBaseStop (Some f) e = IsAcquireStop e
IsBaseStop None e = IsSpentStop e

-- ---- what it leaves in hand: nothing; and what is known of the first old word
abbrev pub NamesInFirst : PortValue → PortValue → ℕ → Type 0
NamesInFirst v w f = FlushedHolds v w (record v.holdings { old0 = Some (f + 1) })

-- Refused, the first old word may name the frame; done, it may name the one that the base named before. A pause leaves it as it was.
abbrev pub LeavesBase : PortValue → PortValue → Option ℕ → Result (Unit {0}) Stop → Type 0
LeavesBase v w new (Ok done) = FlushedSame v w ⊎ ((g : ℕ) × NamesInFirst v w g)
LeavesBase v w (Some f) (Err (Refused x)) = FlushedSame v w ⊎ NamesInFirst v w f
LeavesBase v w None (Err (Refused x)) = FlushedSame v w
LeavesBase v w new (Err (Paused x)) = FlushedSame v w
