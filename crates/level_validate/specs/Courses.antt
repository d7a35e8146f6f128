-- The parts of an acquisition's course that the inner calls say.
use Rattle.std.specs.Prelude.{ℕ, if◌then◌else◌, Bool, List, [], ◌∷◌, ◌++◌, Result, Ok, Err}
use Rattle.xp_words.specs.declared.reply.Stop.{Stop}
use Rattle.xp_board.specs.Told.{PortValue}
use Rattle.partial_state.specs.declared.stack.TableWork.{TableWork}
use Rattle.step_maker.specs.Moves.{Came}
use Rattle.table_entries.specs.Acquiring.{Filled, MadeLive, Unwound, Worked, keeps_it, outermost_frame}
use Rattle.level_validate.specs.Serving.{ServesLeft}
use Rattle.level_validate.specs.Unwinding.{Unwinds}

-- ---- with the gate's answers
-- it is asked once, or not
abbrev pub asked_once : Bool → Bool → List Bool
asked_once asked rose = if asked then rose ∷ [] else []

-- one more step behind those that filled the tables so far
unfoldable pub GoesOnFilling : ℕ → PortValue → List TableWork → PortValue → List TableWork → List Bool → Result (Unit {0}) Stop → Type 0
GoesOnFilling owner v ts w us answers answer =
    (u : PortValue) (xs : List TableWork) (before earlier : List Bool) → Filled owner u xs before v ts earlier (Ok tt) → Filled owner u xs before w us (answers ++ earlier) answer

-- ---- tables that are left
-- whatever way leaves the tables us from w on, there is one that leaves the tables ts from v on
unfoldable pub UnwindsOn : PortValue → PortValue → ℕ → Bool → List TableWork → List TableWork → Type 0
UnwindsOn v w owner kept ts us = (x : PortValue) → Unwound w owner us kept x → Unwound v owner ts kept x

-- all are left: by these steps, which serve any call that asked these tables; and what is in hand then
pub record LeavesAll (v w : PortValue) (owner : ℕ) (kept : Bool) (ts : List TableWork) : Type 0 where
  pub came : Came v w
  pub hand : Unwinds v w owner kept ts
  pub serves : ServesLeft v w owner kept (outermost_frame ts) ts []
  pub course : Unwound v owner ts kept w

-- ---- the only table
-- it is worked on until it is full, and then live; or all tables in work are left
abbrev pub ValidatesBy : ℕ → PortValue → TableWork → PortValue → List Bool → Result (Unit {0}) Stop → Type 0
ValidatesBy owner v t w answers (Ok done) = (y : PortValue) × Worked owner v t y (record t { done = 512 } ∷ []) answers (Ok tt) × MadeLive y w (record t { done = 512 })
ValidatesBy owner v t w answers (Err e) = (y : PortValue) × (us : List TableWork) × Worked owner v t y us answers (Err e) × LeavesAll y w owner (keeps_it e) us
