use Rattle.std.proofs.Common.{◌∙◌, sym, arith, subst}
use Rattle.std.proofs.lemmas.Result.{err_from_is_err_and}
use Rattle.trace_lines.specs.Steps.{Fails}
use Rattle.trace_lines.specs.Grammar.{spelled_pairs}
use Rattle.trace_lines.proofs.ListLoop.{shorter_pair, goes_on, fails, fails_behind, nothing_behind, one_pair, no_pair}
use Rattle.trace_lines.proofs.call.pairs_behind.Goals as goal

pub returns-in_err-pair : goal.returns-in_err-pair
returns-in_err-pair c =
    let p = err_from_is_err_and c.from_residual-in_err-pair.result c.from_residual-in_err-pair.ensures.1 in
    let some = sym c.is_done.ensures ∙ c.words-test.true in
    rw (p.1, p.2) (subst (Fails c.in_err-pair.field-0.0) c.words.invariant (fails_behind c.words.items.items _ c.in_err-pair.field-0.0 (fails spelled_pairs c.words.words _ (one_pair c.words.words some) c.in_err-pair.field-0.0 c.in_err-pair.ensures)))

pub words-smaller : goal.words-smaller
words-smaller c = omega (arith, shorter_pair _ _ _ c.in_ok-pair.ensures)

pub words-preserved : goal.words-preserved
words-preserved c =
    let some = sym c.is_done.ensures ∙ c.words-test.true in
    rw c.in_ok-push.ensures.items (goes_on spelled_pairs c.words.words _ (one_pair c.words.words some) c.words.items.items _ _ c.in_ok-pair.ensures ∙ c.words.invariant)

pub returns : goal.returns
returns c = sym c.words.invariant ∙ rw c.new.ensures (nothing_behind c.words.items.items _ (no_pair c.words.words (sym c.is_done.ensures ∙ c.words-test.false)))
