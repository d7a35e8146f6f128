-- What the entries of a table in the own works ask, which cells are looked at for it, and what the steps show.
use Rattle.std.specs.Prelude.{◌≡◌, ℕ, true, false, List, None, Some}
use Rattle.xp_words.specs.Entries.{below}
use Rattle.xp_words.specs.declared.kind.PageType.{PageType}
use Rattle.xp_words.specs.declared.place.Place.TheVariants.{Cell}
use Rattle.xp_words.specs.declared.reply.Pause.TheVariants.{Busy, Flush, Lost}
use Rattle.xp_words.specs.declared.reply.Refusal.TheVariants as refusals
use Rattle.xp_words.specs.declared.reply.Stop.{Stop}
use Rattle.xp_words.specs.declared.reply.Stop.TheVariants.{Refused, Paused}
use Rattle.xp_board.specs.declared.step.Act.TheVariants.{Load}
use Rattle.xp_board.specs.Lists.{EachOf}
use Rattle.xp_board.specs.Told.{PortValue}
use Rattle.step_maker.specs.Moves.{Moment, Ran, Met}
use Rattle.step_maker.specs.Answers.{Stops}
use Rattle.step_maker.specs.Asked.{Asked, Request, of_frame}
use Rattle.step_maker.specs.Pauses.{Progress}
use Rattle.flush_waits.specs.Waiting.{IsWait}
use Rattle.table_entries.specs.declared.entries.Entered.{Entered}
use Rattle.table_entries.specs.declared.entries.Entered.TheVariants.{Recorded, Opened, Unsettled}
use Rattle.table_entries.specs.declared.resuming.Resumed.{Resumed}
use Rattle.table_entries.specs.declared.resuming.Resumed.TheVariants as again

-- The entries of the tables in the own works are asked of that owner, and nothing else is. (Pages are asked by entries of level 1
-- under an entry lock alone.)
abbrev pub of_entries : ℕ → ℕ → Request
of_entries owner pages = record (of_frame 0 owner None) { names = λ g. false; entries = true; pages_of = pages }

-- from v to w no cell was looked at but entry i of frame f
abbrev pub LooksAtEntry : ℕ → ℕ → Moment → Type 0
LooksAtEntry f i m = m.act ≡ Load → (g j : ℕ) → m.place ≡ Cell g j → (g ≡ f) × (j ≡ i)

unfoldable pub LooksOnly : PortValue → PortValue → ℕ → ℕ → Type 0
LooksOnly v w f i = (ms : List Moment) × Ran v ms w × EachOf (LooksAtEntry f i) ms

-- why an entry is not met
abbrev pub IsEntryStop : Stop → Type 0
IsEntryStop (Refused (refusals.NoFrame f)) = Unit {0}
IsEntryStop (Refused (refusals.WrongOwner f found)) = Unit {0}
IsEntryStop (Refused (refusals.CountFull f found)) = Unit {0}
IsEntryStop (Refused (refusals.OtherType f want found)) = Unit {0}
IsEntryStop (Refused (refusals.Reserved f i entry)) = Unit {0}
IsEntryStop (Refused (refusals.Clock found)) = Unit {0}
IsEntryStop (Paused (Lost place expected found)) = Unit {0}
IsEntryStop (Paused (Busy f found)) = Unit {0}
IsEntryStop (Paused (Flush vcpu stamp found)) = Unit {0}
IsEntryStop _ = ⊥

-- the entry, of a table of type t, asks that frame for the type below
abbrev pub AsksBelow : PortValue → PortValue → ℕ → ℕ → PageType → ℕ → Type 0
AsksBelow v w owner pages t f = Asked v.post.machine v.post.vcpu (of_entries owner pages) (Met v w) f owner (Some (below t))

-- what the steps show where the entry was met: it is recorded; or it asks the frame that came into the own works; and where its frame
-- waits for a flush, why that is not to be had
abbrev pub ShowsEntered : PortValue → PortValue → ℕ → ℕ → PageType → Entered → Type 0
ShowsEntered v w owner pages t Recorded = Progress (Met v w)
ShowsEntered v w owner pages t (Opened frame progress own) = AsksBelow v w owner pages t frame
ShowsEntered v w owner pages t (Unsettled stop) = Progress (Met v w) × IsWait stop × Stops v w (of_entries owner pages) stop

abbrev pub ShowsResumed : PortValue → PortValue → ℕ → ℕ → PageType → Resumed → Type 0
ShowsResumed v w owner pages t again.Settled = Unit {0}
ShowsResumed v w owner pages t (again.Taken frame) = AsksBelow v w owner pages t frame × Progress (Met v w)
ShowsResumed v w owner pages t (again.Opened frame progress) = AsksBelow v w owner pages t frame
ShowsResumed v w owner pages t (again.Waiting frame stamp stop) = AsksBelow v w owner pages t frame × IsWait stop × Stops v w (of_entries owner pages) stop
