use Rattle.std.proofs.Common.{◌∙◌, [], Err, IfErr, Result, ap, refl, subst, sym}
use Rattle.std.proofs.lemmas.Result.{err_from_is_err_and}
use Rattle.xp_words.specs.declared.reply.Stop.{Stop}
use Rattle.domain_destroy.specs.Asking.{ServesDestroy, StopsDestroyer}
use Rattle.domain_destroy.specs.Course.{GoesOn}
use Rattle.domain_destroy.specs.declared.place.DestroyAt.TheVariants.{Stops}
use Rattle.domain_destroy.proofs.Parts.{destroy_came, nothing_serves, serves_destroy_then, stops_destroy_later}
use Rattle.domain_destroy.proofs.stopping.find_stopped.Goals as goal

pub loop-at-init : goal.loop-at-init
loop-at-init g c =
    record { hand = refl; come = c.requires.come; serves = nothing_serves (g.P.Port.value c.args.port.now) c.args.domain _ refl; course = GoesOn.begins }

pub loop-at-preserved : goal.loop-at-preserved
loop-at-preserved g c =
    let u = g.P.Port.value c.loop-at.port in
    let w = g.P.Port.value c.find_one.new.port in
    record {
      hand = c.find_one.ensures.hand ∙ c.loop-at.invariant.hand;
      come = c.in_ok-find_one.ensures.come;
      serves = serves_destroy_then (g.P.Port.value c.args.port.now) u w c.args.domain _ _ c.loop-at.invariant.serves c.in_ok-find_one.ensures.serves;
      course = GoesOn.advances u w _ _ [] [] [] [] _ c.loop-at.invariant.course c.in_ok-find_one.ensures.course;
    }

-- ---- one of them was found running
pub returns-in_err-find_one-clause-serves : goal.returns-in_err-find_one-clause-serves
returns-in_err-find_one-clause-serves g c =
    let v = g.P.Port.value c.args.port.now in
    let w = g.P.Port.value c.find_one.new.port in
    let answer = err_from_is_err_and c.from_residual.result c.from_residual.ensures.1 in
    subst (λ (r : Result (Unit {0}) Stop). ServesDestroy v w c.args.domain r) (sym (answer.1 ∙ ap Err answer.2))
    (serves_destroy_then v (g.P.Port.value c.loop-at.port) w c.args.domain _ _ c.loop-at.invariant.serves c.in_err-find_one.ensures.serves)

pub returns-in_err-find_one-clause-stops : goal.returns-in_err-find_one-clause-stops
returns-in_err-find_one-clause-stops g c =
    let v = g.P.Port.value c.args.port.now in
    let u = g.P.Port.value c.loop-at.port in
    let w = g.P.Port.value c.find_one.new.port in
    let answer = err_from_is_err_and c.from_residual.result c.from_residual.ensures.1 in
    subst (λ (r : Result (Unit {0}) Stop). IfErr r (λ e. StopsDestroyer v w c.args.domain e)) (sym (answer.1 ∙ ap Err answer.2))
    (stops_destroy_later v u w c.args.domain c.in_err-find_one.field-0.0 c.in_err-find_one.ensures.kinds (destroy_came v u c.args.domain _ c.loop-at.invariant.serves) c.in_err-find_one.ensures.stops)

pub returns-in_err-find_one-clause-course : goal.returns-in_err-find_one-clause-course
returns-in_err-find_one-clause-course g c =
    let u = g.P.Port.value c.loop-at.port in
    let w = g.P.Port.value c.find_one.new.port in
    let answer = err_from_is_err_and c.from_residual.result c.from_residual.ensures.1 in
    subst (λ (r : Result (Unit {0}) Stop). GoesOn c.args.domain (g.P.Port.value c.args.port.now) (Stops c.args.at.now) w (Stops c.loop-at.at) [] [] r) (sym (answer.1 ∙ ap Err answer.2))
    (GoesOn.advances u w _ _ [] [] [] [] _ c.loop-at.invariant.course c.in_err-find_one.ensures.course)
