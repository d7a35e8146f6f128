-- Turns in which no element is done past a yes: the gate says no until the turn is paused for it. Operations that release nothing make such turns.
use Rattle.std.proofs.Common.{◌≡◌, ℕ, Bool, List, [], length, Some, refl, sym, ap, ◌∙◌, subst, inl, inr, arith, ◌+◌, true, false, ◌∷◌, All}
use Rattle.xp_words.specs.declared.ops.Op.{Op}
use Rattle.xp_words.proofs.Shared.{same_truth as same_end}
use Rattle.xp_board.specs.Told.{PortValue}
use Rattle.xp_preempt.specs.Gates.{GivesAnswers, Heard, asks_on, ends_yes, yeses}
use Rattle.xp_preempt.proofs.Hearing.{heard_ask, heard_none, heard_then}
use Rattle.vcpu_turn.specs.declared.cpu.TurnEnd.{TurnEnd}
use Rattle.vcpu_turn.specs.Cpus.{Job, OfOne, Processing, Task, job_next, job_of, next_of, task_of}
use Rattle.vcpu_turn.specs.Lists.{Tried}
use Rattle.vcpu_turn.specs.Turning.{IsTurn, is_due}
use Rattle.vcpu_turn.specs.Asking.{HearsNoWithin, NoUntilDue, OfJob, ReleasesNothingBy, elements_tried}
use Rattle.vcpu_turn.specs.Working.{PassesYes}
use Rattle.vcpu_turn.proofs.CallsBringing.{job_releases_none, one_of}
use Rattle.vcpu_turn.proofs.Asking.{turn_hears}
use Rattle.vcpu_turn.proofs.TurnItems.{turn_passes}

module _ (c d : Processing) (end : TurnEnd) (v w : PortValue) (answers : List Bool) (turn : IsTurn c d end v w answers) where
  -- no element of it is done past a yes
  unpassed_hears : All (λ (t : Tried). OfJob PassesYes (job_next (next_of c)) t → ⊥) (elements_tried turn) → HearsNoWithin (elements_tried turn)
  unpassed_hears off k t less =
      elim (turn_passes c d end v w answers turn k t less) [
        | inl hears ↦ hears
        | inr passes ↦ absurd (off k t less passes)
      ]

  pub job_hears : (op : Op) (job : Job) → next_of c ≡ Some op → job_of op ≡ job → All (λ (t : Tried). OfJob PassesYes job t → ⊥) (elements_tried turn) → HearsNoWithin (elements_tried turn)
  job_hears op job next built off = unpassed_hears (subst (λ (x : Job). All (λ (t : Tried). OfJob PassesYes x t → ⊥) (elements_tried turn)) (sym (ap job_next next ∙ built)) off)

  pub task_hears : (op : Op) (task : Task) → next_of c ≡ Some op → task_of op ≡ Some task → All (λ (t : Tried). PassesYes task t → ⊥) (elements_tried turn) → HearsNoWithin (elements_tried turn)
  task_hears op task next built off = job_hears op (OfOne (Some task)) next (one_of op task built) off

  pub releasing_nothing_hears : ReleasesNothingBy (job_next (next_of c)) → HearsNoWithin (elements_tried turn)
  releasing_nothing_hears off = unpassed_hears (λ k t less. job_releases_none (job_next (next_of c)) off _)

-- ---- by the numbers of the asks
heard_all : (says : ℕ → Bool) (before : ℕ) (answers : List Bool) → GivesAnswers says before answers → yeses answers ≡ 0 → Heard says before (asks_on (length answers) before) false
unfolding GivesAnswers asks_on yeses
heard_all says before [] gives is = heard_none says before
heard_all says before (true ∷ rest) gives is = absurd (let more : yeses rest + 1 ≡ 0 = is in omega (arith, more))
heard_all says before (false ∷ rest) gives is = heard_then says before _ _ false (heard_all says before rest gives.1 is) (heard_ask says _ _ false gives.0 refl)

heard_at : (says : ℕ → Bool) (before : ℕ) (answers : List Bool) (due : Bool) → GivesAnswers says before answers → NoUntilDue answers due → (due ≡ true → ends_yes answers ≡ true) → Heard says before (asks_on (length answers) before) due
unfolding GivesAnswers asks_on
heard_at says before [] due gives noes is = subst (λ (b : Bool). Heard says before before b) (same_end false due (λ off. absurd (cc)) is) (heard_none says before)
heard_at says before (a ∷ rest) due gives noes is =
    subst (λ (b : Bool). Heard says before (asks_on (length (a ∷ rest)) before) b) (same_end a due noes.last is)
    (heard_then says before _ _ a (heard_all says before rest gives.1 noes.early) (heard_ask says _ _ a gives.0 refl))

pub turn_heard : (c c2 : Processing) (end : TurnEnd) (v w : PortValue) (before : ℕ) (answers : List Bool) (says : ℕ → Bool) → (turn : IsTurn c c2 end v w answers) → HearsNoWithin (elements_tried turn) →
    GivesAnswers says before answers → (is_due end ≡ true → ends_yes answers ≡ true) → Heard says before (asks_on (length answers) before) (is_due end)
turn_heard c c2 end v w before answers says turn hears gives is = heard_at says before answers (is_due end) gives (turn_hears c c2 end v w answers turn hears) is
