use Rattle.std.proofs.Common.{Ok, Err, refl}
use Rattle.std.proofs.lemmas.Result.{err_from_is_err_and}
use Rattle.xp_preempt.proofs.Consulting.{gated_as, gated_none}
use Rattle.step_maker.specs.Pauses.{vcpu}
use Rattle.domain_destroy.proofs.OneVcpu.{empty_more, empty_stays, emptied_went, other_went, stopped_went}
use Rattle.domain_destroy.proofs.StoppedVcpus.{of_by, other_by}
use Rattle.domain_destroy.proofs.Parts.{destroy_came}
use Rattle.domain_destroy.proofs.emptying.empty_one.Goals as goal

pub returns-then-not-is_of-clause-went : goal.returns-then-not-is_of-clause-went
returns-then-not-is_of-clause-went g c =
    gated_none refl (other_went (g.P.Port.value c.args.port.now) c.args.domain c.args.vcpu c.requires.rests c.requires.clear (other_by _ _ _ c.if-not-is_of.true c.is_of.ensures))

pub returns-in_err-empty_words-clause-stays : goal.returns-in_err-empty_words-clause-stays
returns-in_err-empty_words-clause-stays g c =
    let v = g.P.Port.value c.args.port.now in
    let w = g.P.Port.value c.empty_words.new.port in
    empty_stays v w c.args.domain c.args.vcpu (destroy_came {A = Unit {0}} v w c.args.domain (Err c.in_err-empty_words.field-0.0) c.in_err-empty_words.ensures.went.course.serves) c.requires.come

pub returns-in_err-empty_words-clause-went : goal.returns-in_err-empty_words-clause-went
returns-in_err-empty_words-clause-went g c =
    let answer = err_from_is_err_and c.from_residual.result c.from_residual.ensures.1 in
    rw (answer.1, answer.2)
    (gated_as refl
    (λ answers p. stopped_went (g.P.Port.value c.args.port.now) c.args.domain c.args.vcpu (g.P.Port.value c.empty_words.new.port) (of_by _ _ _ c.if-not-is_of.false c.is_of.ensures) answers c.in_err-empty_words.field-0.0 p)
    c.in_err-empty_words.ensures.went)

pub returns-clause-stays : goal.returns-clause-stays
returns-clause-stays g c =
    let v = g.P.Port.value c.args.port.now in
    let w = g.P.Port.value c.empty_words.new.port in
    empty_stays v w c.args.domain c.args.vcpu (destroy_came {A = Unit {0}} v w c.args.domain (Ok tt) c.in_ok-empty_words.ensures.went.course.serves) c.requires.come

pub returns-clause-come : goal.returns-clause-come
returns-clause-come g c =
    let v = g.P.Port.value c.args.port.now in
    let w = g.P.Port.value c.empty_words.new.port in
    empty_more v w c.args.domain c.args.vcpu (destroy_came {A = Unit {0}} v w c.args.domain (Ok tt) c.in_ok-empty_words.ensures.went.course.serves) c.requires.come c.in_ok-empty_words.ensures.empty

pub returns-clause-went : goal.returns-clause-went
returns-clause-went g c =
    gated_as refl
    (λ answers p. emptied_went (g.P.Port.value c.args.port.now) c.args.domain c.args.vcpu (g.P.Port.value c.empty_words.new.port) (of_by _ _ _ c.if-not-is_of.false c.is_of.ensures) answers p)
    c.in_ok-empty_words.ensures.went

pub returns-clause-passed : goal.returns-clause-passed
returns-clause-passed g c = λ on. vcpu c.args.domain c.args.vcpu refl c.requires.vcpu (of_by _ _ _ c.if-not-is_of.false c.is_of.ensures) c.in_ok-empty_words.ensures.empty
