use Rattle.std.proofs.Common.{◌+◌, drop, get_or, sym, ◌∙◌, ap, arith, rules}
use Rattle.trace_lines.specs.Numbers.{numeral_after, word_of, word_len}
use Rattle.trace_lines.proofs.Splits.{opened}
use Rattle.trace_lines.proofs.FirstWords.{stopped, passed}
use Rattle.trace_lines.proofs.numbers.scanned.Goals as goal

pub returns-else-c-eq32-clause-number : goal.returns-else-c-eq32-clause-number
returns-else-c-eq32-clause-number g c =
    let text = c.args.text.now in
    let i = c.digits.len in
    let none = stopped g.row.BASE c.digits.value (get_or text i 0) (drop (i + 1) text) c.requires.low c.if-c-eq32.false (sym c.with_digit.ensures ∙ c.in-None.is) in
    sym c.digits.invariant.same ∙ ap (λ s. numeral_after g.row.BASE c.digits.value (word_of s)) (opened text i c.digits-test.true) ∙ none

pub digits-preserved : goal.digits-preserved
digits-preserved g c =
    let text = c.args.text.now in
    let i = c.digits.len in
    let more = passed g.row.BASE c.digits.value (get_or text i 0) c.in-Some.next (drop (i + 1) text) c.requires.high (sym c.with_digit.ensures ∙ c.in-Some.is) in
    let here = opened text i c.digits-test.true in
    record {
      small = search rules;
      within = omega (arith, c.digits-test.true);
      same = more.0 ∙ ap (λ s. numeral_after g.row.BASE c.digits.value (word_of s)) (sym here) ∙ c.digits.invariant.same;
      place = omega (arith, more.1, ap word_len here, c.digits.invariant.place);
    }
