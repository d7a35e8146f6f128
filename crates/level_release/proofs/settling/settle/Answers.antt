use Rattle.std.proofs.Common.{Err, refl, ap, ◌∙◌}
use Rattle.std.proofs.lemmas.Result.{err_from_is_err_and}
use Rattle.table_words.specs.declared.old_words.OldWord.TheVariants.{Second}
use Rattle.level_release.specs.Course.{both}
use Rattle.xp_preempt.proofs.Consulting.{gated_then}
use Rattle.level_release.proofs.Falling.{none_left}
use Rattle.level_release.proofs.Settled.{both_serve, both_stop, first_by}
use Rattle.level_release.proofs.settling.settle.Goals as goal

pub returns-in_err-settle_word-clause-course : goal.returns-in_err-settle_word-clause-course
returns-in_err-settle_word-clause-course g c =
    let answer = err_from_is_err_and c.from_residual.result c.from_residual.ensures.1 in
    first_by c.args.left.now c.settle_word.new.left (g.P.Port.value c.args.port.now) (g.P.Port.value c.settle_word.new.port) (answer.1 ∙ ap Err answer.2) c.in_err-settle_word.ensures.course

pub returns-clause-serves : goal.returns-clause-serves
returns-clause-serves g c owner pages =
    both_serve (g.P.Port.value c.args.port.now) (g.P.Port.value c.settle_word.new.port) (g.P.Port.value c.settle_word-2.new.port) owner pages (c.in_ok-settle_word.ensures.serves owner pages) c.settle_word-2.result
    (c.settle_word-2.ensures.serves owner pages)

pub returns-clause-stops : goal.returns-clause-stops
returns-clause-stops g c owner pages =
    both_stop (g.P.Port.value c.args.port.now) (g.P.Port.value c.settle_word.new.port) (g.P.Port.value c.settle_word-2.new.port) owner pages (c.in_ok-settle_word.ensures.serves owner pages) c.settle_word-2.result
    c.settle_word-2.ensures.kinds (c.settle_word-2.ensures.stops owner pages)

pub returns-clause-course : goal.returns-clause-course
returns-clause-course g c =
    let u = g.P.Port.value c.settle_word.new.port in
    gated_then refl (λ answers more one two. (both u (g.P.Port.value c.settle_word-2.new.port) answers more c.settle_word-2.result one.0 two.0, two.1))
    c.in_ok-settle_word.ensures.course c.settle_word-2.ensures.course

pub returns-clause-none : goal.returns-clause-none
returns-clause-none g c =
    let u = g.P.Port.value c.settle_word.new.port in
    let w = g.P.Port.value c.settle_word-2.new.port in
    none_left c.settle_word-2.new.left u Second w _ c.settle_word-2.result c.settle_word-2.ensures.course.course
