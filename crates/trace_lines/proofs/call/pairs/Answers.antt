use Rattle.std.proofs.Common.{◌∷◌, [], sym, ◌∙◌, subst}
use Rattle.std.proofs.lemmas.Result.{err_from_is_err_and}
use Rattle.trace_lines.specs.Steps.{Gives}
use Rattle.trace_lines.specs.Grammar.{spelled_pairs}
use Rattle.trace_lines.proofs.ListLoop.{taken, fails, nothing_behind, one_pair, no_pair}
use Rattle.trace_lines.proofs.call.pairs.Goals as goal

pub returns-then-is_done : goal.returns-then-is_done
returns-then-is_done c = rw (c.new-then-is_done.ensures, c.new.ensures.items) (no_pair c.args.words.now (sym c.is_done.ensures ∙ c.if-is_done.true))

pub returns-in_err-first : goal.returns-in_err-first
returns-in_err-first c =
    let some = sym c.is_done.ensures ∙ c.if-is_done.false in
    let p = err_from_is_err_and c.from_residual.result c.from_residual.ensures.1 in
    rw (p.1, p.2) (fails spelled_pairs c.args.words.now _ (one_pair c.args.words.now some) c.in_err-first.field-0.0 c.in_err-first.ensures)

pub returns-then-is_done-2 : goal.returns-then-is_done-2
returns-then-is_done-2 c =
    let some = sym c.is_done.ensures ∙ c.if-is_done.false in
    taken spelled_pairs c.args.words.now _ (one_pair c.args.words.now some) _ _ c.in_ok-first.ensures ∙ rw c.one.ensures (nothing_behind (c.in_ok-first.first ∷ []) _ (no_pair _ (sym c.is_done-2.ensures ∙ c.if-is_done-2.true)))

pub returns : goal.returns
returns c =
    let some = sym c.is_done.ensures ∙ c.if-is_done.false in
    subst (Gives (λ p. p) c.pairs_behind.result) (sym (taken spelled_pairs c.args.words.now _ (one_pair c.args.words.now some) _ _ c.in_ok-first.ensures)) c.pairs_behind.ensures
