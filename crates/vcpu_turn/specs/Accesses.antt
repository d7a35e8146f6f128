-- Reads and writes of the guest: one element each.
use Rattle.std.specs.Prelude.{◌≡◌, ℕ, Bool, true, false, List, [], Some, None, Result, Ok, Err, IfErr}
use Rattle.xp_words.specs.declared.reply.Stop.{Stop}
use Rattle.xp_board.specs.Told.{PortValue}
use Rattle.xp_board.specs.declared.step.Item.{Item}
use Rattle.step_maker.specs.Holds.{Rests}
use Rattle.step_maker.specs.Answers.{Serves, Stops, misses}
use Rattle.tlb_walks.specs.Accesses.{GuestReads, GuestWrites, OneRead, OneWrite, ServesWrite, server}
use Rattle.tlb_walks.specs.Addresses.{access_refusal, cell_index}
use Rattle.tlb_walks.specs.Asking.{IsGuestReadStop, IsGuestWriteStop, of_read, of_write}

-- which is done, or not
abbrev pub done_by : {A : Type 0} → Result A Stop → ℕ
done_by (Ok a) = 1
done_by (Err e) = 0

-- From v to w the guest's load by the user's or the kernel's top table was made, or why not; its word is the answer's value. No gate is asked.
pub record MakesRead (user : Bool) (va : ℕ) (v : PortValue) (to : ℕ) (w : PortValue) (answers : List Bool) (answer : Result ℕ Stop) : Type 0 where
  pub done : to ≡ done_by answer
  pub no_ask : answers ≡ []
  pub serves : Serves v w (of_read va) (misses v.post.machine answer)
  pub stops : IfErr answer (λ e. Stops v w (of_read va) e)
  pub kinds : IfErr answer IsGuestReadStop
  pub course : GuestReads v w user va answer
  pub served : (x : Item) → access_refusal va ≡ None → server v user va false ≡ Some x → OneRead v w x.frame (cell_index va) answer
  pub rests : Rests w

-- the same of a store
pub record MakesWrite (user : Bool) (va val : ℕ) (v : PortValue) (to : ℕ) (w : PortValue) (answers : List Bool) (answer : Result (Unit {0}) Stop) : Type 0 where
  pub done : to ≡ done_by answer
  pub no_ask : answers ≡ []
  pub serves : ServesWrite v w user va val answer
  pub stops : IfErr answer (λ e. Stops v w (of_write v user va) e)
  pub kinds : IfErr answer IsGuestWriteStop
  pub course : GuestWrites v w user va val answer
  pub served : (x : Item) → access_refusal va ≡ None → server v user va true ≡ Some x → OneWrite v w x.frame (cell_index va) val answer
  pub rests : Rests w
