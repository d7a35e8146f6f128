-- Reads and writes of a guest, 8 bytes each: which translation serves them, by which steps they are made, and what they leave.
use Rattle.std.specs.Prelude.{◌≡◌, ℕ, ◌&&◌, ◌||◌, not, if◌then◌else◌, Bool, true, false, [], ◌∷◌, Option, Some, None, Result, Ok, Err}
use Rattle.xp_words.specs.Entries.{frame_of}
use Rattle.xp_words.specs.declared.place.Place.TheVariants.{Cell}
use Rattle.xp_words.specs.declared.reply.Refusal.{Refusal}
use Rattle.xp_words.specs.declared.reply.Refusal.TheVariants.{ReadOnly}
use Rattle.xp_words.specs.declared.reply.Stop.{Stop}
use Rattle.xp_words.specs.declared.reply.Stop.TheVariants.{Refused}
use Rattle.xp_board.specs.declared.step.Act.TheVariants.{Load, Store}
use Rattle.xp_board.specs.declared.step.Item.{Item}
use Rattle.xp_board.specs.declared.step.StepKind.TheVariants as kinds
use Rattle.xp_board.specs.Told.{PortValue, cached_item}
use Rattle.step_maker.specs.Holds.{Same}
use Rattle.step_maker.specs.Moves.{Moves}
use Rattle.step_maker.specs.Answers.{Serves, Writes, missed}
use Rattle.step_maker.specs.Visits.{Does, Nothing, Only, Then, visit_as}
use Rattle.tlb_walks.specs.Addresses.{access_refusal, page_of, cell_index}
use Rattle.tlb_walks.specs.Asking.{of_write}
use Rattle.tlb_walks.specs.Translating.{WalkedTo}
use Rattle.tlb_walks.specs.Walks.{WalkBy}
use Rattle.tlb_walks.specs.declared.walks.Walked.{Walked}

-- ---- which translation serves
-- each one serves a read; a write one alone that is writable and dirty
abbrev pub may_serve : Bool → Item → Bool
may_serve write x = not write || (x.writable && x.dirty)

abbrev pub serving : Bool → Option Item → Option Item
serving write (Some x) = if may_serve write x then Some x else None
serving write None = None

-- the newest one of the page, if it serves the access
abbrev pub server : PortValue → Bool → ℕ → Bool → Option Item
server v user va write = serving write (cached_item user (page_of va) v.holdings.cache)

-- ---- one step
-- a load of that cell, and its word is the answer
pub record OneRead (v w : PortValue) (f i : ℕ) (answer : Result ℕ Stop) : Type 0 where
  pub word : ℕ
  pub answer_is : answer ≡ Ok word
  pub moves : Moves v w (Cell f i) Load kinds.Guest None word

-- a store of that cell
pub record OneWrite (v w : PortValue) (f i val : ℕ) (answer : Result (Unit {0}) Stop) : Type 0 where
  pub found : ℕ
  pub answer_is : answer ≡ Ok tt
  pub moves : Moves v w (Cell f i) (Store val) kinds.Guest None found

-- ---- by their steps, and with what they leave in hand
-- The address alone refuses it; or a translation serves it, by one load; or a walk stops it; or a walk brings a translation, and the load goes through that.
pub data GuestReads (v w : PortValue) (user : Bool) (va : ℕ) : Result ℕ Stop → Type 0 where
  barred : (x : Refusal) → access_refusal va ≡ Some x → Does v w Nothing → Same v w → GuestReads v w user va (Err (Refused x))
  cached : (x : Item) (word : ℕ) → access_refusal va ≡ None → server v user va false ≡ Some x → Does v w (Only (visit_as kinds.Guest (Cell x.frame (cell_index va)) Load word)) → Same v w →
      GuestReads v w user va (Ok word)
  stopped : (e : Stop) → access_refusal va ≡ None → server v user va false ≡ None → Does v w (WalkBy v.post.machine v.post.vcpu user va false (Err e)) → Same v w →
      GuestReads v w user va (Err e)
  walked : (r : Walked) (word : ℕ) → access_refusal va ≡ None → server v user va false ≡ None →
      Does v w (Then (WalkBy v.post.machine v.post.vcpu user va false (Ok r)) (Only (visit_as kinds.Guest (Cell (frame_of r.entry) (cell_index va)) Load word))) → WalkedTo v w user va false r →
      GuestReads v w user va (Ok word)

-- The same of a store; after a walk it is refused where one of the four entries cannot be written, with the first of them.
pub data GuestWrites (v w : PortValue) (user : Bool) (va val : ℕ) : Result (Unit {0}) Stop → Type 0 where
  barred : (x : Refusal) → access_refusal va ≡ Some x → Does v w Nothing → Same v w → GuestWrites v w user va val (Err (Refused x))
  cached : (x : Item) (found : ℕ) → access_refusal va ≡ None → server v user va true ≡ Some x → Does v w (Only (visit_as kinds.Guest (Cell x.frame (cell_index va)) (Store val) found)) → Same v w →
      GuestWrites v w user va val (Ok tt)
  stopped : (e : Stop) → access_refusal va ≡ None → server v user va true ≡ None → Does v w (WalkBy v.post.machine v.post.vcpu user va true (Err e)) → Same v w →
      GuestWrites v w user va val (Err e)
  read_only : (r : Walked) (e : ℕ) → access_refusal va ≡ None → server v user va true ≡ None → r.barrier ≡ Some e → Does v w (WalkBy v.post.machine v.post.vcpu user va true (Ok r)) →
      WalkedTo v w user va true r → GuestWrites v w user va val (Err (Refused (ReadOnly e)))
  walked : (r : Walked) (found : ℕ) → access_refusal va ≡ None → server v user va true ≡ None → r.barrier ≡ None →
      Does v w (Then (WalkBy v.post.machine v.post.vcpu user va true (Ok r)) (Only (visit_as kinds.Guest (Cell (frame_of r.entry) (cell_index va)) (Store val) found))) → WalkedTo v w user va true r →
      GuestWrites v w user va val (Ok tt)

-- ---- what a guest sees of a write
-- the store, in the frame to which the newest translation of the page then leads
abbrev pub ServesWrite : PortValue → PortValue → Bool → ℕ → ℕ → Result (Unit {0}) Stop → Type 0
ServesWrite v w user va val (Ok tt) =
    (x : Item) × (cached_item user (page_of va) w.holdings.cache ≡ Some x) × Serves v w (of_write v user va) (Writes x.frame (cell_index va) val ∷ [])
ServesWrite v w user va val (Err e) = Serves v w (of_write v user va) (missed v.post.machine e)
