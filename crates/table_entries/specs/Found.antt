-- One entry by its steps, on any board: which answer and which further steps there are, by the words that were found.
use Rattle.std.specs.Prelude.{◌≡◌, ℕ, ◌+◌, ◌<◌, ◌≤◌, Bool, true, false, List, Result, Ok, Err}
use Rattle.xp_words.specs.Entries.{demand_at}
use Rattle.xp_words.specs.Machine.{Machine}
use Rattle.xp_words.specs.declared.entry.Demand.{Demand}
use Rattle.xp_words.specs.declared.entry.Demand.TheVariants as demands
use Rattle.xp_words.specs.declared.kind.PageType.{PageType}
use Rattle.xp_words.specs.declared.place.Place.TheVariants.{Cell}
use Rattle.xp_words.specs.declared.reply.Pause.TheVariants.{Flush}
use Rattle.xp_words.specs.declared.reply.Refusal.TheVariants as refusals
use Rattle.xp_words.specs.declared.reply.Stop.{Stop}
use Rattle.xp_words.specs.declared.reply.Stop.TheVariants.{Refused, Paused}
use Rattle.xp_board.specs.declared.step.Act.TheVariants.{Load}
use Rattle.xp_board.specs.Readings.{is_live_word}
use Rattle.xp_board.specs.Told.{Post, PortValue}
use Rattle.step_maker.specs.Visits.{Visit, visit, Does, Nothing, Only, Then}
use Rattle.frame_words.specs.Freeing.{PutBy}
use Rattle.frame_words.specs.Refs.{GetsBy, TakesFirst}
use Rattle.kind_words.specs.Kinds.{partial_kind}
use Rattle.frame_types.specs.Found.{DeadBy, SharedBy, StoresKind, TakesOf, TypeBy, saw_kind}
use Rattle.frame_types.specs.Plain.{is_read_first, is_refused}
use Rattle.frame_types.specs.declared.taking.Taken.TheVariants as types
use Rattle.table_words.specs.Entries.{Records}
use Rattle.table_entries.specs.declared.entries.Entered.{Entered}
use Rattle.table_entries.specs.declared.entries.Entered.TheVariants.{Recorded, Opened, Unsettled}
use Rattle.table_entries.specs.declared.resuming.Resumed.{Resumed}
use Rattle.table_entries.specs.declared.resuming.Resumed.TheVariants as again

abbrev pub saw_cell : ℕ → ℕ → ℕ → Visit
saw_cell f i x = visit (Cell f i) Load x

-- ---- an entry that asks a type: behind the reference
-- It waits, and the entry is not recorded: another holder's frame is as that one left it; one without entries is dead, where the
-- clock is at its last value.
abbrev pub LeftBy : ℕ → PageType → Bool → ℕ → Stop → List Visit → Type 0
LeftBy g t true stamp (Refused r) vs = (is_read_first t ≡ false) × DeadBy g t vs
LeftBy g t true stamp (Paused r) vs = ⊥
LeftBy g t false stamp stop vs = SharedBy g t stamp vs

pub record LeftAfter (q : Post) (g owner : ℕ) (t : PageType) (stop : Stop) (vs : List Visit) : Type 0 where
  pub own : Bool
  pub stamp : ℕ
  pub steps : Then (λ ts. TakesOf q g owner t (types.Waiting own stamp stop) ts) (λ ls. LeftBy g t own stamp stop ls) vs

-- It waits, and is recorded: partial by the entry's own type count.
pub record UnsettledBy (q : Post) (g owner : ℕ) (t : PageType) (f i : ℕ) (stop : Stop) (vs : List Visit) : Type 0 where
  pub stamp : ℕ
  pub first : is_refused stop ≡ true → is_read_first t ≡ true
  pub steps : Then (λ ts. TakesOf q g owner t (types.Waiting true stamp stop) ts) (Then (StoresKind g (partial_kind t false true 0 stamp)) (Records f (i + 1))) vs

-- the type is not to be had, and the reference is given back
abbrev pub RefusesBy : Post → ℕ → ℕ → PageType → Stop → List Visit → Type 0
RefusesBy q g owner t e vs = Then (λ ts. TypeBy q g owner t (Err e) ts) (PutBy g) vs

abbrev pub TypedBy : Post → ℕ → ℕ → PageType → ℕ → ℕ → Result Entered Stop → List Visit → Type 0
TypedBy q g owner t f i (Ok Recorded) vs = Then (λ ts. TakesOf q g owner t types.Counted ts) (Records f (i + 1)) vs
TypedBy q g owner t f i (Ok (Opened h progress own)) vs = (h ≡ g) × TakesOf q g owner t (types.InWork progress own) vs
TypedBy q g owner t f i (Ok (Unsettled stop)) vs = UnsettledBy q g owner t f i stop vs
TypedBy q g owner t f i (Err (Refused (refusals.Clock x))) vs = LeftAfter q g owner t (Refused (refusals.Clock x)) vs
TypedBy q g owner t f i (Err (Paused (Flush u stamp x))) vs = LeftAfter q g owner t (Paused (Flush u stamp x)) vs
TypedBy q g owner t f i (Err e) vs = RefusesBy q g owner t e vs

-- ---- the next entry
abbrev pub ReadBy : Machine → ℕ → ℕ → ℕ → ℕ → Result Entered Stop → List Visit → Type 0
ReadBy n g owner f i (Ok Recorded) vs = Then (λ gs. GetsBy {A = ℕ} n g owner (Ok g) gs) (Records f (i + 1)) vs
ReadBy n g owner f i (Ok _) vs = ⊥
ReadBy n g owner f i (Err e) vs = GetsBy {A = ℕ} n g owner (Err e) vs

-- behind the look, by what the entry asks
abbrev pub EntersBy : Post → ℕ → ℕ → ℕ → Result Entered Stop → ℕ → Demand → List Visit → Type 0
EntersBy q f i owner answer word demands.Nothing vs = (answer ≡ Ok Recorded) × Records f (i + 1) vs
EntersBy q f i owner answer word demands.Bad vs = (answer ≡ Err (Refused (refusals.Reserved f i word))) × Nothing vs
EntersBy q f i owner answer word (demands.Read g) vs = ReadBy q.machine g owner f i answer vs
EntersBy q f i owner answer word (demands.Typed g t) vs = TakesFirst q.machine g owner (λ ts. TypedBy q g owner t f i answer ts) answer vs

abbrev pub EnteredBy : Post → ℕ → ℕ → PageType → ℕ → Result Entered Stop → List Visit → Type 0
EnteredBy q f i t owner answer vs = (word : ℕ) × Then (Only (saw_cell f i word)) (λ es. EntersBy q f i owner answer word (demand_at t i word) es) vs

abbrev pub EntersFound : PortValue → PortValue → ℕ → ℕ → PageType → ℕ → Result Entered Stop → Type 0
EntersFound v w f i t owner answer = Does v w (λ vs. EnteredBy v.post f i t owner answer vs)

-- ---- the last recorded entry again
abbrev pub TypedAgain : Post → ℕ → ℕ → PageType → Result Resumed Stop → List Visit → Type 0
TypedAgain q g owner t (Ok again.Settled) vs = ⊥
TypedAgain q g owner t (Ok (again.Taken f)) vs = (f ≡ g) × TakesOf q g owner t types.Counted vs
TypedAgain q g owner t (Ok (again.Opened f progress)) vs = (f ≡ g) × TakesOf q g owner t (types.InWork progress false) vs
TypedAgain q g owner t (Ok (again.Waiting f stamp stop)) vs = (f ≡ g) × TakesOf q g owner t (types.Waiting false stamp stop) vs
TypedAgain q g owner t (Err e) vs = RefusesBy q g owner t e vs

-- the frame was found live; or the machine has no such frame, or it was found otherwise, and its type is taken again
pub data LastBy (q : Post) (g : ℕ) (t : PageType) (owner : ℕ) (answer : Result Resumed Stop) (vs : List Visit) : Type 0 where
  settled : (x : ℕ) → g < q.machine.frames → is_live_word x ≡ true → answer ≡ Ok again.Settled → Only (saw_kind g x) vs → LastBy q g t owner answer vs
  outside : q.machine.frames ≤ g → TakesFirst q.machine g owner (λ ts. TypedAgain q g owner t answer ts) answer vs → LastBy q g t owner answer vs
  other : (x : ℕ) → g < q.machine.frames → is_live_word x ≡ false → Then (Only (saw_kind g x)) (λ gs. TakesFirst q.machine g owner (λ ts. TypedAgain q g owner t answer ts) answer gs) vs →
      LastBy q g t owner answer vs

abbrev pub ResumesBy : Post → ℕ → Result Resumed Stop → Demand → List Visit → Type 0
ResumesBy q owner answer (demands.Typed g t) vs = LastBy q g t owner answer vs
ResumesBy q owner answer _ vs = (answer ≡ Ok again.Settled) × Nothing vs

abbrev pub ResumedBy : Post → ℕ → ℕ → PageType → ℕ → Result Resumed Stop → List Visit → Type 0
ResumedBy q f i t owner answer vs = (word : ℕ) × Then (Only (saw_cell f i word)) (λ rs. ResumesBy q owner answer (demand_at t i word) rs) vs

abbrev pub ResumesFound : PortValue → PortValue → ℕ → ℕ → PageType → ℕ → Result Resumed Stop → Type 0
ResumesFound v w f i t owner answer = Does v w (λ vs. ResumedBy v.post f i t owner answer vs)
