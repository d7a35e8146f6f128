use Rattle.std.proofs.Common.{Err, ap, ◌∙◌}
use Rattle.std.proofs.lemmas.Result.{err_from_is_err_and}
use Rattle.desc_pages.proofs.AllWords.{fixes_more, fixes_none, page_there, still_inside, still_works, unfixes_answer}
use Rattle.desc_pages.proofs.fixing.fix_words.Goals as goal

pub loop-index-init : goal.loop-index-init
loop-index-init g c e rest p = fixes_none (g.P.Port.value c.args.port.now) c.args.frame e rest p

pub fix_word-requires-clause-may : goal.fix_word-requires-clause-may
fix_word-requires-clause-may g c =
    let p = c.requires.page in
    still_works (g.P.Port.value c.args.port.now) (g.P.Port.value c.loop-index.port) c.args.frame c.loop-index.index p.0 p.1 p.2 (c.loop-index.invariant p.0 p.1 p.2) c.requires.may

pub fix_word-requires-clause-page : goal.fix_word-requires-clause-page
fix_word-requires-clause-page g c =
    let p = c.requires.page in
    let so = c.loop-index.invariant p.0 p.1 p.2 in
    (so.work, p.1, page_there (g.P.Port.value c.args.port.now) (g.P.Port.value c.loop-index.port) c.args.frame c.loop-index.index p.0 p.1 p.2 so)

pub loop-index-preserved : goal.loop-index-preserved
loop-index-preserved g c e rest p =
    let so = c.loop-index.invariant e rest p in
    let v = g.P.Port.value c.args.port.now in
    let u = g.P.Port.value c.loop-index.port in
    fixes_more v u c.args.frame c.loop-index.index e rest p so (g.P.Port.value c.fix_word.new.port) (c.in_ok-fix_word.ensures so.work rest (page_there v u c.args.frame c.loop-index.index e rest p so))

pub fix_word-requires-clause-frame : goal.fix_word-requires-clause-frame
fix_word-requires-clause-frame g c =
    let p = c.requires.page in
    still_inside (g.P.Port.value c.args.port.now) (g.P.Port.value c.loop-index.port) c.args.frame c.loop-index.index p.0 p.1 p.2 (c.loop-index.invariant p.0 p.1 p.2) c.requires.frame

pub returns-in_err-fix_word : goal.returns-in_err-fix_word
returns-in_err-fix_word g c e rest p =
    let answer = err_from_is_err_and c.from_residual.result c.from_residual.ensures.1 in
    let so = c.loop-index.invariant e rest p in
    let v = g.P.Port.value c.args.port.now in
    let u = g.P.Port.value c.loop-index.port in
    unfixes_answer v u c.args.frame c.loop-index.index e rest p so (g.P.Port.value c.fix_word.new.port) c.in_err-fix_word.field-0.0 c.from_residual.result (answer.1 ∙ ap Err answer.2) c.loop-index-test.true
    (c.in_err-fix_word.ensures so.work rest (page_there v u c.args.frame c.loop-index.index e rest p so))
