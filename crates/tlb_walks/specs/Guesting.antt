-- Accesses from port to port, for the functions of this crate.
use Rattle.std.specs.Prelude.{◌≡◌, ℕ, Bool, true, false, Some, None, Result, Ok, Err}
use Rattle.xp_words.specs.Entries.{frame_of}
use Rattle.xp_words.specs.declared.place.Place.TheVariants.{Cell}
use Rattle.xp_words.specs.declared.reply.Refusal.{Refusal}
use Rattle.xp_words.specs.declared.reply.Refusal.TheVariants.{ReadOnly}
use Rattle.xp_words.specs.declared.reply.Stop.{Stop}
use Rattle.xp_words.specs.declared.reply.Stop.TheVariants.{Refused}
use Rattle.xp_board.specs.declared.step.Act.TheVariants.{Load, Store}
use Rattle.xp_board.specs.declared.step.Item.{Item}
use Rattle.xp_board.specs.declared.step.StepKind.TheVariants as kinds
use Rattle.xp_board.specs.Told.{PortValue}
use Rattle.step_maker.specs.Holds.{Same}
use Rattle.step_maker.specs.Moves.{Moves}
use Rattle.tlb_walks.specs.Accesses.{server}
use Rattle.tlb_walks.specs.Addresses.{access_refusal, cell_index}
use Rattle.tlb_walks.specs.Flying.{EndedIn, WalkMoves}
use Rattle.tlb_walks.specs.declared.walks.Walked.{Walked}

pub data ReadMoves (v w : PortValue) (user : Bool) (va : ℕ) : Result ℕ Stop → Type 0 where
  barred : (x : Refusal) → access_refusal va ≡ Some x → w ≡ v → ReadMoves v w user va (Err (Refused x))
  cached : (x : Item) (word : ℕ) → access_refusal va ≡ None → server v user va false ≡ Some x → Moves v w (Cell x.frame (cell_index va)) Load kinds.Guest None word → Same v w →
      ReadMoves v w user va (Ok word)
  stopped : (e : Stop) → access_refusal va ≡ None → server v user va false ≡ None → WalkMoves v w user va false (Err e) → EndedIn v w user va false (Err e) → ReadMoves v w user va (Err e)
  walked : (u : PortValue) (r : Walked) (word : ℕ) → access_refusal va ≡ None → server v user va false ≡ None → WalkMoves v u user va false (Ok r) → EndedIn v u user va false (Ok r) →
      Moves u w (Cell (frame_of r.entry) (cell_index va)) Load kinds.Guest None word → Same u w → ReadMoves v w user va (Ok word)

pub data StoreMoves (v w : PortValue) (user : Bool) (va val : ℕ) : Result (Unit {0}) Stop → Type 0 where
  barred : (x : Refusal) → access_refusal va ≡ Some x → w ≡ v → StoreMoves v w user va val (Err (Refused x))
  cached : (x : Item) (found : ℕ) → access_refusal va ≡ None → server v user va true ≡ Some x → Moves v w (Cell x.frame (cell_index va)) (Store val) kinds.Guest None found → Same v w →
      StoreMoves v w user va val (Ok tt)
  stopped : (e : Stop) → access_refusal va ≡ None → server v user va true ≡ None → WalkMoves v w user va true (Err e) → EndedIn v w user va true (Err e) → StoreMoves v w user va val (Err e)
  read_only : (r : Walked) (e : ℕ) → access_refusal va ≡ None → server v user va true ≡ None → r.barrier ≡ Some e → WalkMoves v w user va true (Ok r) → EndedIn v w user va true (Ok r) →
      StoreMoves v w user va val (Err (Refused (ReadOnly e)))
  walked : (u : PortValue) (r : Walked) (found : ℕ) → access_refusal va ≡ None → server v user va true ≡ None → r.barrier ≡ None → WalkMoves v u user va true (Ok r) →
      EndedIn v u user va true (Ok r) → Moves u w (Cell (frame_of r.entry) (cell_index va)) (Store val) kinds.Guest None found → Same u w → StoreMoves v w user va val (Ok tt)

-- the same behind the tests of the address and of the translations
abbrev pub ReadWalks : PortValue → PortValue → Bool → ℕ → Result ℕ Stop → Type 0
ReadWalks v w user va answer = access_refusal va ≡ None → server v user va false ≡ None → ReadMoves v w user va answer

abbrev pub StoreWalks : PortValue → PortValue → Bool → ℕ → ℕ → Result (Unit {0}) Stop → Type 0
StoreWalks v w user va val answer = access_refusal va ≡ None → server v user va true ≡ None → StoreMoves v w user va val answer
