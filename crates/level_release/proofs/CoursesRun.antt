-- The tables are emptied until none is left: the course with the gate's answers.
use Rattle.std.proofs.Common.{◌≡◌, ℕ, ◌&&◌, Option, Bool, true, false, List, [], ◌∷◌, Result, Ok, Err, refl, sym, ap, ◌∙◌, subst}
use Rattle.xp_words.specs.declared.reply.Pause.TheVariants.{Due}
use Rattle.xp_words.specs.declared.reply.Stop.{Stop}
use Rattle.xp_words.specs.declared.reply.Stop.TheVariants.{Paused}
use Rattle.xp_board.specs.Told.{PortValue}
use Rattle.xp_preempt.specs.Gates.{Consulted, Gate}
use Rattle.xp_preempt.proofs.Consulting.{gated_as, gated_ask, gated_none}
use Rattle.partial_state.specs.declared.stack.TableWork.{TableWork}
use Rattle.level_release.specs.Asking.{is_due_answer}
use Rattle.level_release.specs.Course.{EmptiesBy, Lowered, RanDown, RunsDownBy, UnwoundDown, asked, begun, due, finished, is_asked_within, left_by, paused, stopped, unasked}

pub runs_nothing : {below : Option ℕ} {u : PortValue} {ts : List TableWork} {g : Gate} → RunsDownBy below u ts u ts g g (Ok tt)
runs_nothing = gated_none refl begun

module _ {below : Option ℕ} {u v : PortValue} {ts us : List TableWork} {g h : Gate} (by : RunsDownBy below u ts v us g h (Ok tt)) (w : PortValue) (xs : List TableWork) where
  -- one entry, or one table, behind which the gate is not asked
  pub runs_unasked : {done : Bool} → Lowered v us w xs (Ok done) → (done && is_asked_within below xs) ≡ false → RunsDownBy below u ts w xs g h (Ok tt)
  runs_unasked {done} lowered not_asked = gated_as refl (λ answers ran. unasked v w us xs done answers ran lowered not_asked) by

  -- or it stops
  pub runs_stopped : {answer : Result Bool Stop} {e : Stop} {r : Result (Unit {0}) Stop} → answer ≡ Err e → r ≡ Err e → Lowered v us w xs answer → is_due_answer answer ≡ false → RunsDownBy below u ts w xs g h r
  runs_stopped {e} is so lowered undue =
      subst (λ y. RunsDownBy below u ts w xs g h y) (sym so)
      (gated_as (sym (ap (λ (y : Result Bool Stop). is_due_answer y) is) ∙ undue) (λ answers ran. stopped v w us xs answers e ran (subst (λ y. Lowered v us w xs y) is lowered)) by)

  -- the gate is asked behind it
  module _ (lowered : Lowered v us w xs (Ok true)) (asks : is_asked_within below xs ≡ true) {k : Gate} where
    pub runs_on : Consulted h k (false ∷ []) → RunsDownBy below u ts w xs g k (Ok tt)
    runs_on said = gated_ask (λ answers ran. asked v w us xs answers ran lowered asks) by said

    pub runs_due : Consulted h k (true ∷ []) → RunsDownBy below u ts w xs g k (Err (Paused Due))
    runs_due said = gated_ask (λ answers ran. due v w us xs answers ran lowered asks) by said

-- ---- one table and all in it
module _ (below : Option ℕ) (u v : PortValue) {t : TableWork} {ts : List TableWork} (us : List TableWork) (one : ts ≡ t ∷ []) {g h : Gate} where
  pub empties_finished : us ≡ [] → RunsDownBy below u ts v us g h (Ok tt) → EmptiesBy below below u v t g h (Ok tt)
  empties_finished none =
      gated_as refl (λ answers ran. (finished v answers (subst (λ xs. RanDown below u (t ∷ []) v xs answers (Ok tt)) none (subst (λ xs. RanDown below u xs v us answers (Ok tt)) one ran)), refl))

  pub empties_paused : {w : PortValue} {e : Stop} {kept : Option ℕ} → kept ≡ left_by below e us → UnwoundDown v us w → RunsDownBy below u ts v us g h (Err e) → EmptiesBy below kept u w t g h (Err e)
  empties_paused {w} {e} is left = gated_as refl (λ answers ran. (paused v w us answers e (subst (λ xs. RanDown below u xs v us answers (Err e)) one ran) left, is))
