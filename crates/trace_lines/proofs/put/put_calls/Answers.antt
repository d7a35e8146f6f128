use Rattle.std.proofs.Common.{◌≡◌, ℕ, List, ◌++◌, sym, ap, ◌∙◌, append_assoc, string_bytes}
use Rattle.xp_words.specs.declared.ops.Call.{Call}
use Rattle.xp_words.proofs.Joining.{joined}
use Rattle.trace_lines.specs.Spelling.{spaced, calls_words}
use Rattle.trace_lines.proofs.CallTexts.{spaced_calls}
use Rattle.trace_lines.proofs.put.put_calls.Goals as goal

pub returns-in_ok-put_more_calls-in-Some : goal.returns-in_ok-put_more_calls-in-Some
returns-in_ok-put_more_calls-in-Some c =
    joined _ _ _ _ _ c.in_ok-put_call-in-Some.ensures c.in_ok-put_more_calls-in-Some.ensures
    ∙ sym (ap (λ (l : List Call). string_bytes c.args.out.now ++ spaced (calls_words l)) c.in-Some.ensures.cases.0
    ∙ ap (λ (t : List ℕ). string_bytes c.args.out.now ++ t) (spaced_calls c.in-Some.first.now c.in-Some.others.now))
