use Rattle.std.proofs.Common.{◌∙◌, ◌≡◌, ◌<◌, [], Err, IfErr, MatchResult, Result, ap, arith, refl, rules, subst, sym}
use Rattle.std.proofs.lemmas.Result.{err_from_is_err_and}
use Rattle.xp_words.specs.Machine.{Machine}
use Rattle.xp_words.specs.declared.reply.Stop.{Stop}
use Rattle.step_maker.specs.Visits.{Does}
use Rattle.frame_claims.specs.Found.{Upwards}
use Rattle.frame_claims.proofs.Listing.{up_more, up_none}
use Rattle.domain_destroy.specs.Asking.{ServesDestroy, StopsDestroyer}
use Rattle.domain_destroy.specs.Course.{Advances, FoundNoUse}
use Rattle.domain_destroy.specs.declared.place.DestroyAt.TheVariants.{Checks, Lists}
use Rattle.domain_destroy.proofs.NoUse.{AllUnused, all_unused_more, in_use_advances, none_in_use}
use Rattle.domain_destroy.proofs.Parts.{destroy_came, nothing_serves, serves_destroy_then, stops_destroy_later}
use Rattle.domain_destroy.proofs.unused.find_unused.Goals as goal

pub loop-frame-init : goal.loop-frame-init
loop-frame-init g c =
    record {
      hand = refl;
      serves = nothing_serves (g.P.Port.value c.args.port.now) c.args.domain _ refl;
      unused = λ since late f low. absurd (omega arith);
      visits = up_none (FoundNoUse c.args.domain) 0 (g.P.Port.value c.args.port.now);
    }

pub loop-frame-preserved : goal.loop-frame-preserved
loop-frame-preserved g c =
    let v = g.P.Port.value c.args.port.now in
    let u = g.P.Port.value c.loop-frame.port in
    let w = g.P.Port.value c.check_one.new.port in
    let i = c.loop-frame.invariant in
    let before = destroy_came v u c.args.domain _ i.serves in
    let now = destroy_came u w c.args.domain _ c.in_ok-check_one.ensures.serves in
    record {
      hand = c.check_one.ensures.hand ∙ i.hand;
      serves = serves_destroy_then v u w c.args.domain _ _ i.serves c.in_ok-check_one.ensures.serves;
      unused = all_unused_more v u w c.args.domain c.loop-frame.frame before now i.unused c.in_ok-check_one.ensures.unused;
      visits = up_more (FoundNoUse c.args.domain) 0 v u w c.loop-frame.frame i.visits c.in_ok-check_one.ensures.by;
    }

-- ---- one of them was
pub returns-in_err-check_one-clause-serves : goal.returns-in_err-check_one-clause-serves
returns-in_err-check_one-clause-serves g c =
    let v = g.P.Port.value c.args.port.now in
    let w = g.P.Port.value c.check_one.new.port in
    let answer = err_from_is_err_and c.from_residual.result c.from_residual.ensures.1 in
    subst (λ (r : Result (Unit {0}) Stop). ServesDestroy v w c.args.domain r) (sym (answer.1 ∙ ap Err answer.2))
    (serves_destroy_then v (g.P.Port.value c.loop-frame.port) w c.args.domain _ _ c.loop-frame.invariant.serves c.in_err-check_one.ensures.serves)

pub returns-in_err-check_one-clause-stops : goal.returns-in_err-check_one-clause-stops
returns-in_err-check_one-clause-stops g c =
    let v = g.P.Port.value c.args.port.now in
    let u = g.P.Port.value c.loop-frame.port in
    let w = g.P.Port.value c.check_one.new.port in
    let answer = err_from_is_err_and c.from_residual.result c.from_residual.ensures.1 in
    subst (λ (r : Result (Unit {0}) Stop). IfErr r (λ e. StopsDestroyer v w c.args.domain e)) (sym (answer.1 ∙ ap Err answer.2))
    (stops_destroy_later v u w c.args.domain c.in_err-check_one.field-0.0 c.in_err-check_one.ensures.kinds (destroy_came v u c.args.domain _ c.loop-frame.invariant.serves) c.in_err-check_one.ensures.stops)

pub returns-in_err-check_one-clause-course : goal.returns-in_err-check_one-clause-course
returns-in_err-check_one-clause-course g c =
    let v = g.P.Port.value c.args.port.now in
    let u = g.P.Port.value c.loop-frame.port in
    let w = g.P.Port.value c.check_one.new.port in
    let real : c.loop-frame.frame < v.post.machine.frames = search rules in
    let answer = err_from_is_err_and c.from_residual.result c.from_residual.ensures.1 in
    subst (λ (r : Result (Unit {0}) Stop). MatchResult r (λ x. Advances c.args.domain v Checks w (Lists 0 0) [] [] r) (λ x. Advances c.args.domain v Checks w Checks [] [] r)) (sym (answer.1 ∙ ap Err answer.2))
    (in_use_advances v u w c.args.domain c.loop-frame.frame (destroy_came v u c.args.domain _ c.loop-frame.invariant.serves) (destroy_came u w c.args.domain _ c.in_err-check_one.ensures.serves) real
    c.loop-frame.invariant.visits c.in_err-check_one.field-0.0 c.in_err-check_one.ensures.by)

-- ---- none was
pub returns-clause-come : goal.returns-clause-come
returns-clause-come g c =
    let v = g.P.Port.value c.args.port.now in
    let u = g.P.Port.value c.loop-frame.port in
    let frames = ap (λ (n : Machine). n.frames) (c.behind-port.view_is ∙ c.layout.ensures.layout) in
    let end = c.loop-frame-test.false in
    let low = c.loop-frame.auto.frame-end in
    λ since known.
    none_in_use v u c.args.domain since (destroy_came v u c.args.domain _ c.loop-frame.invariant.serves)
    (subst (λ k. AllUnused v u c.args.domain k) (let same : c.loop-frame.frame ≡ v.post.machine.frames = omega (arith, end, low, frames) in same) c.loop-frame.invariant.unused) known

pub returns-clause-course : goal.returns-clause-course
returns-clause-course g c =
    let v = g.P.Port.value c.args.port.now in
    let u = g.P.Port.value c.loop-frame.port in
    let frames = ap (λ (n : Machine). n.frames) (c.behind-port.view_is ∙ c.layout.ensures.layout) in
    let end = c.loop-frame-test.false in
    let low = c.loop-frame.auto.frame-end in
    Advances.checked u
    (subst (λ k. Does v u (λ vs. Upwards (FoundNoUse c.args.domain) 0 k vs)) (let same : c.loop-frame.frame ≡ v.post.machine.frames = omega (arith, end, low, frames) in same) c.loop-frame.invariant.visits)
