use Rattle.std.proofs.Common.{◌∙◌, sym, arith, subst}
use Rattle.std.proofs.lemmas.Result.{err_from_is_err_and}
use Rattle.trace_lines.specs.Steps.{Fails}
use Rattle.trace_lines.specs.Grammar.{numbers_of}
use Rattle.trace_lines.proofs.ListLoop.{shorter, goes_on, fails, fails_behind, nothing_behind, one_number, no_number}
use Rattle.trace_lines.proofs.call.read_numbers.Goals as goal

pub returns-in_err-number : goal.returns-in_err-number
returns-in_err-number c =
    let p = err_from_is_err_and c.from_residual.result c.from_residual.ensures.1 in
    let some = sym c.is_done.ensures ∙ c.words-test.true in
    rw (p.1, p.2) (subst (Fails c.in_err-number.field-0.0) c.words.invariant (fails_behind c.words.items.items _ c.in_err-number.field-0.0 (fails numbers_of c.words.words _ (one_number c.words.words some) c.in_err-number.field-0.0 c.in_err-number.ensures)))

pub words-smaller : goal.words-smaller
words-smaller c = omega (arith, shorter _ _ _ c.in_ok-number.ensures)

pub words-preserved : goal.words-preserved
words-preserved c =
    let some = sym c.is_done.ensures ∙ c.words-test.true in
    rw c.in_ok-push.ensures.items (goes_on numbers_of c.words.words _ (one_number c.words.words some) c.words.items.items _ _ c.in_ok-number.ensures ∙ c.words.invariant)

pub returns : goal.returns
returns c = sym c.words.invariant ∙ nothing_behind c.words.items.items _ (no_number c.words.words (sym c.is_done.ensures ∙ c.words-test.false))
