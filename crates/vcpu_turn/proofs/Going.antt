-- A list that goes on by one item, with a gate.
use Rattle.std.proofs.Common.{◌≡◌, ℕ, ◌+◌, ◌<◌, true, false, [], ◌∷◌, Result, Ok, Err}
use Rattle.std.specs.Result.{IsErrAnd}
use Rattle.xp_words.specs.declared.reply.Stop.{Stop}
use Rattle.xp_words.specs.declared.reply.Stop.TheVariants.{Paused}
use Rattle.xp_words.specs.declared.reply.Pause.TheVariants.{Due}
use Rattle.xp_board.specs.Told.{PortValue}
use Rattle.xp_preempt.specs.Gates.{Consulted, Gate, GatedPast}
use Rattle.xp_preempt.proofs.Consulting.{past_ask, past_then}
use Rattle.level_release.specs.Asking.{is_due_stop}
use Rattle.vcpu_turn.specs.Lists as lists
use Rattle.vcpu_turn.specs.Lists.{DidItems, Fitting, WorksOn, is_due_answer}
use Rattle.vcpu_turn.proofs.PassedOn.{is_err}

-- so far items were done, and then the next one went so
module _ {fits : Fitting} {count from : ℕ} {v : PortValue} {g h j : Gate} {k : ℕ} {u w : PortValue} (did : GatedPast g h false (λ answers. DidItems fits count from v k u answers)) where
  -- it was refused or paused
  pub gate_stop : (e : Stop) (answer : Result (Unit {0}) Stop) → IsErrAnd answer (λ x. x ≡ e) → k < count → GatedPast h j (is_due_stop e) (λ asked. fits k u w asked (Err e)) → GatedPast g j (is_due_answer answer) (λ answers. WorksOn fits count from v k w answers answer)
  gate_stop e answer is less next = rw (is_err answer e is) (past_then (λ early asked did fit. lists.WorksOn.stopped k u w early asked e did fit less) did next)

  module _ (next : GatedPast h j false (λ asked. fits k u w asked (Ok tt))) where
    -- it was the last one
    pub gate_done : k + 1 ≡ count → GatedPast g j false (λ answers. WorksOn fits count from v (k + 1) w answers (Ok tt))
    gate_done at = past_then (λ early asked did fit. lists.WorksOn.last_done k u w early asked did fit at) did next

    -- more follow, and the gate was asked
    module _ (less : k + 1 < count) {last : Gate} where
      pub gate_due : Consulted j last (true ∷ []) → GatedPast g last true (λ answers. WorksOn fits count from v (k + 1) w answers (Err (Paused Due)))
      gate_due said =
          past_ask (λ answers on. on) (past_then {R = λ answers. WorksOn fits count from v (k + 1) w (true ∷ answers) (Err (Paused Due))} (λ early asked did fit. lists.WorksOn.due k u w early asked did fit less) did next) said

      pub gate_more : Consulted j last (false ∷ []) → GatedPast g last false (λ answers. DidItems fits count from v (k + 1) w answers)
      gate_more said =
          past_ask (λ answers on. on) (past_then {R = λ answers. DidItems fits count from v (k + 1) w (false ∷ answers)} (λ early asked did fit. lists.DidItems.more k u w early asked did fit less) did next) said
