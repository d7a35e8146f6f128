-- What is settled and then done: elements of lists as items.
use Rattle.std.proofs.Common.{◌≡◌, ℕ, ◌<◌, Bool, false, List, length, get_or, slice_get, Option, Some, None, Result, Ok, Err, IfErr, IfOk}
use Rattle.std.specs.Result.{IsErrAnd}
use Rattle.std.proofs.lemmas.Option.{slice_get-get_or}
use Rattle.xp_words.specs.declared.reply.Stop.{Stop}
use Rattle.xp_board.specs.Told.{PortValue}
use Rattle.step_maker.specs.Holds.{Rests}
use Rattle.step_maker.specs.Answers.{Serves, Stops, misses}
use Rattle.xp_preempt.specs.Gates.{Gate, GatedPast}
use Rattle.xp_preempt.proofs.Consulting.{gated_past, past_as, past_then}
use Rattle.level_release.specs.Asking.{IsReleaseEnd, is_due_stop, of_settle}
use Rattle.level_release.specs.Course.{SettlesBy}
use Rattle.table_words.specs.OldWords.{known_old}
use Rattle.table_words.specs.declared.old_words.OldWord.TheVariants.{First, Second}
use Rattle.vcpu_turn.specs.Lists.{is_due_answer}
use Rattle.vcpu_turn.specs.Settling as settling
use Rattle.vcpu_turn.specs.Settling.{SettlesFirst, SettlesTo}
use Rattle.vcpu_turn.proofs.PassedOn.{is_err}

pub settle_answers : {v w : PortValue} {g h : Gate} {answer : Result (Unit {0}) Stop} {below left : Option ℕ} → ((owner pages : ℕ) → Serves v w (of_settle owner pages answer) (misses v.post.machine answer)) →
    ((owner pages : ℕ) → IfErr answer (λ e. Stops v w (of_settle owner pages answer) e)) → IfErr answer IsReleaseEnd → Rests w →
    IfOk answer (λ done. known_old First w.holdings ≡ Some 0) → IfOk answer (λ done. known_old Second w.holdings ≡ Some 0) →
    SettlesBy below left v w g h answer → GatedPast g h (is_due_answer answer) (λ answers. SettlesTo below left v w answers answer)
settle_answers serves stops kinds rests clear clear_too by =
    past_as (λ due. due) (λ answers course. (record { serves = serves; stops = stops; kinds = kinds; rests = rests; clear = clear; clear_too = clear_too; course = course.0 }, course.1)) (gated_past by)

-- ---- one element: P says what is done behind the settling
module _ {P : PortValue → PortValue → List Bool → Result (Unit {0}) Stop → Type 0} {g h : Gate} {left : Option ℕ} {v u : PortValue} where
  pub behind_unsettled : (stop : Stop) (answer : Result (Unit {0}) Stop) → IsErrAnd answer (λ x. x ≡ stop) → GatedPast g h (is_due_stop stop) (λ answers. SettlesTo None left v u answers (Err stop)) →
      GatedPast g h (is_due_answer answer) (λ answers. SettlesFirst P v u answers answer)
  behind_unsettled stop answer is settles = rw (is_err answer stop is) (past_as (λ due. due) (λ answers s. settling.SettlesFirst.unsettled u answers stop s.0) settles)

  pub behind_performed : {k : Gate} {w : PortValue} {answer : Result (Unit {0}) Stop} → GatedPast g h false (λ answers. SettlesTo None left v u answers (Ok tt)) → GatedPast h k (is_due_answer answer) (λ answers. P u w answers answer) →
      GatedPast g k (is_due_answer answer) (λ answers. SettlesFirst P v w answers answer)
  behind_performed {w = w} {answer} settles performs = past_then (λ early answers s p. settling.SettlesFirst.performed u w early answers answer s.0 p) settles performs

-- the element of that number
pub of_number : {A : Type 0} (Fits : Option A → PortValue → PortValue → List Bool → Result (Unit {0}) Stop → Type 0) (list : List A) (k : ℕ) (otherwise : A) → k < length list → {g h : Gate} {v w : PortValue} {answer : Result (Unit {0}) Stop} →
    GatedPast g h (is_due_answer answer) (λ answers. Fits (Some (get_or list k otherwise)) v w answers answer) → GatedPast g h (is_due_answer answer) (λ answers. Fits (slice_get list k) v w answers answer)
of_number Fits list k otherwise less done = rw (slice_get-get_or list k otherwise less) done
