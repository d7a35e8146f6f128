-- Whole frames, cleared and copied: what is asked, what a guest sees of it, and by which calls and steps.
use Rattle.std.specs.Prelude.{◌≡◌, ℕ, ◌+◌, ◌==◌, ◌||◌, true, false, zero, suc, List, [], ◌∷◌, length, Some, Result, Ok, Err, IfErr, IsTrue}
use Rattle.xp_words.specs.Machine.{Machine}
use Rattle.xp_words.specs.declared.kind.PageType.TheVariants.{Writable}
use Rattle.xp_words.specs.declared.place.Place.TheVariants.{Cell}
use Rattle.xp_words.specs.declared.reply.Pause.TheVariants as pauses
use Rattle.xp_words.specs.declared.reply.Refusal.TheVariants as refusals
use Rattle.xp_words.specs.declared.reply.Stop.{Stop}
use Rattle.xp_words.specs.declared.reply.Stop.TheVariants.{Refused, Paused}
use Rattle.xp_board.specs.declared.holdings.OwnerFound.{OwnerFound}
use Rattle.xp_board.specs.declared.holdings.TypedReference.{TypedReference}
use Rattle.xp_board.specs.declared.step.Act.TheVariants.{Load, Store}
use Rattle.xp_board.specs.KindSteps.{live_typed}
use Rattle.xp_board.specs.Told.{PortValue}
use Rattle.step_maker.specs.Holds.{FlushedSame, Rests, Same}
use Rattle.step_maker.specs.Answers.{Deed, Serves, Stops, Writes, missed}
use Rattle.step_maker.specs.Asked.{Request, of_frame, of_table}
use Rattle.step_maker.specs.Visits.{Does, Visit, visit}
use Rattle.frame_words.specs.Cells.{IsApart}
use Rattle.table_entries.specs.Acquiring.{GaveRef, GaveType, GotRef}
use Rattle.writable_pages.specs.Pages.{GotPage}

-- ---- what is asked
-- the frame of domain d, as ordinary memory
abbrev pub of_clear : ℕ → ℕ → Request
of_clear d f = of_frame f d (Some Writable)

-- the target so, and the source as a frame whose cells are read; both may be one
abbrev pub of_copy : ℕ → ℕ → ℕ → Request
of_copy d to from = record (of_table to d (Some Writable) d false) { names = λ g. (g == to) || (g == from) }

-- why it is not done
abbrev pub IsWholeStop : Stop → Type 0
IsWholeStop (Refused (refusals.NoFrame f)) = Unit {0}
IsWholeStop (Refused (refusals.WrongOwner f found)) = Unit {0}
IsWholeStop (Refused (refusals.CountFull f found)) = Unit {0}
IsWholeStop (Refused (refusals.OtherType f want found)) = Unit {0}
IsWholeStop (Refused (refusals.Clock found)) = Unit {0}
IsWholeStop (Paused (pauses.Lost place expected found)) = Unit {0}
IsWholeStop (Paused (pauses.Busy f found)) = Unit {0}
IsWholeStop (Paused (pauses.Flush vcpu stamp found)) = Unit {0}
IsWholeStop _ = ⊥

-- ---- what a guest sees: each of the first cells, so many, is stored, from the first on; the newest deed in front
unfoldable pub clears : ℕ → ℕ → List Deed
clears f zero = []
clears f (suc k) = Writes f k 0 ∷ clears f k

-- with these words, the newest in front
abbrev pub copies : ℕ → List ℕ → List Deed
copies f [] = []
copies f (x ∷ xs) = Writes f (length xs) x ∷ copies f xs

abbrev pub clear_deeds : Machine → ℕ → Result (Unit {0}) Stop → List Deed
clear_deeds n f (Ok done) = clears f 512
clear_deeds n f (Err e) = missed n e

abbrev pub copy_deeds : Machine → ℕ → List ℕ → Result (Unit {0}) Stop → List Deed
copy_deeds n f words (Ok done) = copies f words
copy_deeds n f words (Err e) = missed n e

-- ---- by its steps, the newest first
-- at each index one store of 0
pub data ClearedBy (f : ℕ) : ℕ → List Visit → Type 0 where
  none : ClearedBy f 0 []
  more : (i old : ℕ) (vs : List Visit) → ClearedBy f i vs → ClearedBy f (i + 1) (visit (Cell f i) (Store 0) old ∷ vs)

-- at each index one load of the source, and behind it one store of the word that it found into the target
pub data CopiedBy (to from : ℕ) : List ℕ → List Visit → Type 0 where
  none : CopiedBy to from [] []
  more : (x old : ℕ) (xs : List ℕ) (vs : List Visit) → CopiedBy to from xs vs →
      CopiedBy to from (x ∷ xs) (visit (Cell to (length xs)) (Store x) old ∷ visit (Cell from (length xs)) Load x ∷ vs)

-- ---- by its calls
pub data ClearsPage (v : PortValue) (d f : ℕ) : PortValue → Result (Unit {0}) Stop → Type 0 where
  unhad : (w : PortValue) (e : Stop) → GotPage v f d w (Err e) → ClearsPage v d f w (Err e)
  cleared : (a b w : PortValue) → GotPage v f d a (Ok f) → Does a b (λ vs. ClearedBy f 512 vs) → GaveType b w f Writable → ClearsPage v d f w (Ok tt)

-- these words were found, the newest first
pub data CopiesPage (v : PortValue) (d to from : ℕ) (words : List ℕ) : PortValue → Result (Unit {0}) Stop → Type 0 where
  unhad : (w : PortValue) (e : Stop) → GotPage v to d w (Err e) → CopiesPage v d to from words w (Err e)
  unreferred : (a b w : PortValue) (e : Stop) → GotPage v to d a (Ok to) → GotRef a b from d (Err e) → GaveType b w to Writable → CopiesPage v d to from words w (Err e)
  copied : (a b c e w : PortValue) → length words ≡ 512 → GotPage v to d a (Ok to) → GotRef a b from d (Ok from) → Does b c (λ vs. CopiedBy to from words vs) → GaveRef c e from →
      GaveType e w to Writable → CopiesPage v d to from words w (Ok tt)

-- ---- all that an answer says
-- From v to w frame f of domain d was cleared, or why not.
pub record PageCleared (v w : PortValue) (d f : ℕ) (answer : Result (Unit {0}) Stop) : Type 0 where
  pub serves : Serves v w (of_clear d f) (clear_deeds v.post.machine f answer)
  pub stops : IfErr answer (λ e. Stops v w (of_clear d f) e)
  pub kinds : IfErr answer IsWholeStop
  pub hand : FlushedSame v w
  pub rests : Rests w
  pub course : ClearsPage v d f w answer

-- From v to w frame `from` was copied into frame `to`, both of domain d, or why not. Where it was, these are the words, the newest first.
pub record PageCopied (v w : PortValue) (d to from : ℕ) (answer : Result (Unit {0}) Stop) : Type 0 where
  pub words : List ℕ
  pub serves : Serves v w (of_copy d to from) (copy_deeds v.post.machine to words answer)
  pub stops : IfErr answer (λ e. Stops v w (of_copy d to from) e)
  pub kinds : IfErr answer IsWholeStop
  pub hand : FlushedSame v w
  pub rests : Rests w
  pub course : CopiesPage v d to from words w answer

-- ---- between the calls
-- the newest typed reference in hand keeps the frame live as ordinary memory, and the vCPU does not work on it: any word may be stored there
pub record MayFill (v : PortValue) (f : ℕ) : Type 0 where
  pub owner : OwnerFound
  pub others : List TypedReference
  pub typed : v.holdings.typed ≡ live_typed f Writable owner ∷ others
  pub apart : IsApart f v.holdings

-- The first cells, so many, are 0: for each call that names the frame.
pub record Clears (v w : PortValue) (f count : ℕ) : Type 0 where
  pub serves : (r : Request) → IsTrue (r.names f) → Serves v w r (clears f count)
  pub hand : Same v w
  pub steps : Does v w (λ vs. ClearedBy f count vs)

-- They are copied: for each call that names the target and reads cells.
pub record Copies (v w : PortValue) (to from count : ℕ) : Type 0 where
  pub words : List ℕ
  pub whole : length words ≡ count
  pub serves : (r : Request) → IsTrue (r.names to) → r.entries ≡ true → Serves v w r (copies to words)
  pub hand : Same v w
  pub steps : Does v w (λ vs. CopiedBy to from words vs)
