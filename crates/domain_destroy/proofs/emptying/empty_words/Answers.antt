use Rattle.std.proofs.Common.{refl, arith}
use Rattle.std.proofs.lemmas.Result.{err_from_is_err_and}
use Rattle.xp_preempt.proofs.Consulting.{gated_none, gated_then}
use Rattle.domain_destroy.proofs.AllWords.{all_empty, none_yet, so_far_came, word_empty, word_more, word_stopped}
use Rattle.domain_destroy.proofs.OneWord.{may_empty, may_empty_still}
use Rattle.domain_destroy.proofs.emptying.empty_words.Goals as goal

pub loop-i-init : goal.loop-i-init
loop-i-init g c =
    record {
      empty = λ j low. absurd (omega arith);
      went = gated_none refl (none_yet (g.P.Port.value c.args.port.now) c.args.domain c.args.vcpu c.requires.rests c.requires.clear);
    }

pub empty-requires-clause-empties : goal.empty-requires-clause-empties
empty-requires-clause-empties g c =
    let v = g.P.Port.value c.args.port.now in
    let u = g.P.Port.value c.loop-i.port in
    let so = c.loop-i.invariant.went in
    may_empty_still v u c.args.vcpu (so_far_came v u c.args.domain c.args.vcpu c.loop-i.i so.answers so.course)
    (may_empty v c.args.domain c.args.vcpu c.args.vcpu c.requires.come c.requires.vcpu c.requires.of)

pub returns-in_err-empty-clause-went : goal.returns-in_err-empty-clause-went
returns-in_err-empty-clause-went g c =
    let answer = err_from_is_err_and c.from_residual.result c.from_residual.ensures.1 in
    let v = g.P.Port.value c.args.port.now in
    let u = g.P.Port.value c.loop-i.port in
    let w = g.P.Port.value c.empty.new.port in
    rw (answer.1, answer.2)
    (gated_then refl
    (λ answers more one two. word_stopped v u w c.args.domain c.args.vcpu c.loop-i.i c.word_at.result c.word_at.ensures answers one c.in_err-empty.field-0.0 more c.loop-i-test.true two)
    c.loop-i.invariant.went c.in_err-empty.ensures.went)

pub loop-i-preserved : goal.loop-i-preserved
loop-i-preserved g c =
    let v = g.P.Port.value c.args.port.now in
    let u = g.P.Port.value c.loop-i.port in
    let w = g.P.Port.value c.empty.new.port in
    let so = c.loop-i.invariant in
    let one = c.in_ok-empty.ensures in
    record {
      empty = word_empty v u w c.args.domain c.args.vcpu c.loop-i.i c.word_at.result c.word_at.ensures so.went.answers so.went.course one.went.answers so.empty one.went.course one.empty;
      went = gated_then refl (λ answers more first two. word_more v u w c.args.domain c.args.vcpu c.loop-i.i c.word_at.result c.word_at.ensures answers first more two) so.went one.went;
    }

pub returns-clause-empty : goal.returns-clause-empty
returns-clause-empty g c =
    all_empty (g.P.Port.value c.args.port.now) (g.P.Port.value c.loop-i.port) c.args.vcpu c.loop-i.i (let past = c.loop-i-test.false in omega (arith, past)) c.loop-i.invariant.empty
