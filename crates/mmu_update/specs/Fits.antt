-- All that an answer to one element says, in one record, as lists of elements cite it.
use Rattle.std.specs.Prelude.{◌≡◌, Bool, List, Some, Result, Err, IfErr}
use Rattle.xp_words.specs.declared.reply.Refusal.{Refusal}
use Rattle.xp_words.specs.declared.reply.Stop.{Stop}
use Rattle.xp_words.specs.declared.reply.Stop.TheVariants.{Refused}
use Rattle.xp_board.specs.Told.{PortValue}
use Rattle.step_maker.specs.Holds.{Rests}
use Rattle.step_maker.specs.Answers.{Stops}
use Rattle.foreign_map.specs.declared.owners.Owners.{Owners}
use Rattle.mmu_update.specs.Course.{Updated}
use Rattle.mmu_update.specs.Elements.{IsUpdateStop, LeavesUpdate, ServesUpdate, update_request}
use Rattle.mmu_update.specs.declared.element.Element.{Element}

-- From v to w an element was done for those owners, or why not: its steps serve it, show the cause of a refusal or pause, and leave nothing in
-- hand.
pub record Updates (o : Owners) (e : Element) (v w : PortValue) (answers : List Bool) (answer : Result (Unit {0}) Stop) : Type 0 where
  pub serves : ServesUpdate v w o e answer
  pub stops : IfErr answer (λ x. Stops v w (update_request o e answer) x)
  pub kinds : IfErr answer (IsUpdateStop e)
  pub numbers : (x : Refusal) → (update_request o e answer).by_numbers ≡ Some x → answer ≡ Err (Refused x)
  pub hand : LeavesUpdate v w
  pub rests : Rests w
  pub course : Updated v o e w answers answer
