-- All that an answer to an update by address says, in one record, as turns cite it; and what its calls know between them.
use Rattle.std.specs.Prelude.{◌≡◌, ℕ, ◌+◌, ◌*◌, ◌≤◌, Bool, List, length, Some, Result, Err, IfErr}
use Rattle.xp_words.specs.declared.reply.Refusal.{Refusal}
use Rattle.xp_words.specs.declared.reply.Stop.{Stop}
use Rattle.xp_words.specs.declared.reply.Stop.TheVariants.{Refused}
use Rattle.xp_board.specs.Told.{PortValue}
use Rattle.step_maker.specs.Holds.{Rests}
use Rattle.step_maker.specs.Answers.{Stops}
use Rattle.foreign_map.specs.declared.owners.Owners.{Owners}
use Rattle.tlb_walks.specs.Addresses.{index_of, walk_refusal}
use Rattle.mmu_update.specs.Addresses.{EnteredAt, IsAtStop, ServesAt, UpdatedAt, of_at}
use Rattle.mmu_update.specs.Elements.{LeavesUpdate}
use Rattle.xp_preempt.specs.Gates.{Gate, GatedPast}
use Rattle.table_entries.specs.Ending.{is_due_answer}

-- From v to w the entry of level 1 that maps the address was set for those owners, or why not: its steps serve that, show the cause of a refusal or
-- pause, and leave nothing in hand. `table`: where its loads led.
pub record UpdatesAt (o : Owners) (va word : ℕ) (v w : PortValue) (answers : List Bool) (answer : Result (Unit {0}) Stop) : Type 0 where
  pub table : ℕ
  pub serves : ServesAt v w o va table word answer
  pub stops : IfErr answer (λ x. Stops v w (of_at o va table word answer) x)
  pub kinds : IfErr answer IsAtStop
  -- what its numbers alone refuse is refused
  pub numbers : (x : Refusal) → walk_refusal va ≡ Some x → answer ≡ Err (Refused x)
  pub hand : LeavesUpdate v w
  pub rests : Rests w
  pub course : UpdatedAt v o va word table w answers answer
  -- No table above level 1 is touched: the steps are few, and how many depends on the number of vCPUs alone.
  pub short : length w.holdings.steps ≤ length v.holdings.steps + (72 + 3 * length v.post.machine.vcpu_domain)

abbrev pub UpdatesAtBy : PortValue → PortValue → Owners → ℕ → ℕ → Gate → Gate → Result (Unit {0}) Stop → Type 0
UpdatesAtBy v w o va word g h answer = GatedPast g h (is_due_answer answer) (λ answers. UpdatesAt o va word v w answers answer)

-- ---- behind the loads
-- from a port at rest the entry of that table was exchanged, or why not
pub record EntersAt (o : Owners) (va table word : ℕ) (v w : PortValue) (answers : List Bool) (answer : Result (Unit {0}) Stop) : Type 0 where
  pub serves : ServesAt v w o va table word answer
  pub stops : IfErr answer (λ x. Stops v w (of_at o va table word answer) x)
  pub kinds : IfErr answer IsAtStop
  pub hand : LeavesUpdate v w
  pub rests : Rests w
  pub course : EnteredAt v o table (index_of va 1) word w answers answer

abbrev pub EntersAtBy : PortValue → PortValue → Owners → ℕ → ℕ → ℕ → Gate → Gate → Result (Unit {0}) Stop → Type 0
EntersAtBy v w o va table word g h answer = GatedPast g h (is_due_answer answer) (λ answers. EntersAt o va table word v w answers answer)
