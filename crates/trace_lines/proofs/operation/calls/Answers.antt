use Rattle.std.proofs.Common.{◌∙◌, sym, ap, subst, Ok, []}
use Rattle.std.proofs.lemmas.Result.{err_from_is_err_and}
use Rattle.trace_lines.specs.Steps.{Fails}
use Rattle.trace_lines.proofs.CallLoop.{goes_on, fails, is_last}
use Rattle.trace_lines.proofs.operation.calls.Goals as goal

pub returns-in_err-read_call-in-None : goal.returns-in_err-read_call-in-None
returns-in_err-read_call-in-None c =
    let p = err_from_is_err_and c.from_residual.result c.from_residual.ensures.1 in
    let e = c.in_err-read_call-in-None.field-0.0 in
    rw (p.1, p.2) (subst (Fails e) c.calls.invariant (fails e c.calls.list.items c.calls.words _ [] c.in-None.ensures.parts c.in_err-read_call-in-None.ensures))

pub returns-in-None : goal.returns-in-None
returns-in-None c = sym c.calls.invariant ∙ is_last c.calls.list.items c.calls.words _ c.in-None.ensures.parts c.in_ok-read_call-in-None.ensures ∙ ap Ok (sym (c.new.ensures ∙ c.in_ok-push-in-None.ensures.items))

pub returns-in_err-read_call-in-Some : goal.returns-in_err-read_call-in-Some
returns-in_err-read_call-in-Some c =
    let p = err_from_is_err_and c.from_residual-in_err-read_call-in-Some.result c.from_residual-in_err-read_call-in-Some.ensures.1 in
    let e = c.in_err-read_call-in-Some.field-0.0 in
    rw (p.1, p.2) (subst (Fails e) c.calls.invariant (fails e c.calls.list.items c.calls.words _ _ c.in-Some.ensures.parts c.in_err-read_call-in-Some.ensures))

pub calls-preserved : goal.calls-preserved
calls-preserved c = rw c.in_ok-push-in-Some.ensures.items (goes_on c.calls.list.items c.calls.words _ c.in-Some.behind _ c.in-Some.ensures.parts c.in_ok-read_call-in-Some.ensures ∙ c.calls.invariant)
