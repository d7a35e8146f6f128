-- What holds of each element that an operation tries holds of those of a turn.
use Rattle.std.proofs.Common.{◌≡◌, ◌+◌, Bool, List, Option, Some, None, subst, ◌⊎◌, ap, ◌∙◌, All}
use Rattle.std.proofs.lemmas.List.Elements.{All-nil}
use Rattle.xp_words.specs.declared.ops.Op.{Op}
use Rattle.xp_board.specs.Told.{PortValue}
use Rattle.vcpu_turn.specs.declared.cpu.TurnEnd.{TurnEnd}
use Rattle.vcpu_turn.specs.Cpus.{Job, OfOne, Processing, Task, job_next, job_of, next_of, task_of}
use Rattle.vcpu_turn.specs.Working.{ElementFits, PassesYes}
use Rattle.vcpu_turn.specs.Turning.{DoesTurn, IsTurn}
use Rattle.vcpu_turn.specs.Turning as turning
use Rattle.vcpu_turn.specs.Asking.{HearsNo, OfJob, elements_tried, tried_going}
use Rattle.vcpu_turn.specs.Lists.{Tried}
use Rattle.vcpu_turn.proofs.CallsBringing.{by_one, by_passes, one_of}

-- what stands next, and is built
pub next_job : (c : Processing) (op : Op) (task : Task) → next_of c ≡ Some op → task_of op ≡ Some task → job_next (next_of c) ≡ OfOne (Some task)
next_job c op task next built = ap job_next next ∙ one_of op task built

module _ (c : Processing) where
  going_passes : (o : Option Op) (v : PortValue) (d : Processing) (w : PortValue) (answers : List Bool) (end : TurnEnd) → (does : DoesTurn c o v d w answers end) → All (λ (t : Tried). HearsNo t ⊎ OfJob PassesYes (job_next o) t) (tried_going does)
  going_passes o v _ _ _ _ (turning.DoesTurn.unsettled w answers p settles) = All-nil (λ (t : Tried). HearsNo t ⊎ OfJob PassesYes (job_next o) t)
  going_passes o v _ _ _ _ (turning.DoesTurn.dying life w d end dead dies) = All-nil (λ (t : Tried). HearsNo t ⊎ OfJob PassesYes (job_next o) t)
  going_passes None v _ _ _ _ (turning.DoesTurn.settled u w d early answers end settles retires) = All-nil (λ (t : Tried). HearsNo t ⊎ OfJob PassesYes (OfOne None) t)
  going_passes (Some op) v _ _ _ _ (turning.DoesTurn.settled u w d early answers end settles on) = by_passes c.domain (c.answered + 1) u c.at on.to w c.log on.log answers on.answer (job_of op) on.went

  -- with one list
  module _ (task : Task) where
    going_fits : (o : Option Op) → job_next o ≡ OfOne (Some task) → (v : PortValue) (d : Processing) (w : PortValue) (answers : List Bool) (end : TurnEnd) → (does : DoesTurn c o v d w answers end) → All (ElementFits c.domain task c.at.done c.at.awaited) (tried_going does)
    going_fits o is v _ _ _ _ (turning.DoesTurn.unsettled w answers p settles) = All-nil (ElementFits c.domain task c.at.done c.at.awaited)
    going_fits o is v _ _ _ _ (turning.DoesTurn.dying life w d end dead dies) = All-nil (ElementFits c.domain task c.at.done c.at.awaited)
    going_fits None is v _ _ _ _ (turning.DoesTurn.settled u w d early answers end settles retires) = All-nil (ElementFits c.domain task c.at.done c.at.awaited)
    going_fits (Some op) is v _ _ _ _ (turning.DoesTurn.settled u w d early answers end settles on) = (by_one c.domain (c.answered + 1) u c.at on.to w c.log on.log answers on.answer (job_of op) (Some task) is on.went).fits

module _ (c d : Processing) (end : TurnEnd) (v w : PortValue) (answers : List Bool) (turn : IsTurn c d end v w answers) where
  pub turn_passes : All (λ (t : Tried). HearsNo t ⊎ OfJob PassesYes (job_next (next_of c)) t) (elements_tried turn)
  turn_passes = going_passes c (next_of c) turn.begun d turn.worked answers end turn.does

  module _ (op : Op) (task : Task) (next : next_of c ≡ Some op) (built : task_of op ≡ Some task) where
    pub task_fits : All (ElementFits c.domain task c.at.done c.at.awaited) (elements_tried turn)
    task_fits = going_fits c task (next_of c) (next_job c op task next built) turn.begun d turn.worked answers end turn.does

    pub task_passes : All (λ (t : Tried). HearsNo t ⊎ PassesYes task t) (elements_tried turn)
    task_passes = subst (λ (job : Job). All (λ (t : Tried). HearsNo t ⊎ OfJob PassesYes job t) (elements_tried turn)) (next_job c op task next built) turn_passes
