use Rattle.std.proofs.Common.{◌∙◌, sym, ap, arith}
use Rattle.trace_lines.specs.Numbers.{number_of, word_of}
use Rattle.trace_lines.proofs.FirstWords.{no_number_at, no_number_spelled, number_spelled, tail_is}
use Rattle.trace_lines.proofs.words.Words.spelled.Goals as goal

pub returns-in-empty : goal.returns-in-empty
returns-in-empty c = rw (← c.self.view_is) (no_number_at c.self.inside.rest.now c.in-empty.len_below)

pub returns-in-None : goal.returns-in-None
returns-in-None c =
    let rest = c.self.inside.rest.now in
    rw (← c.self.view_is) (no_number_spelled rest (omega (arith, c.in-len1-up.len_at_least)) (ap (λ s. number_of (word_of s)) (sym (tail_is rest)) ∙ c.in-None.ensures.number))

pub returns-in-Some : goal.returns-in-Some
returns-in-Some c =
    let rest = c.self.inside.rest.now in
    rw (← c.self.view_is, c.split_at.ensures.back, c.in-Some.ensures.number.1, tail_is rest) (number_spelled rest c.in-Some.n (omega (arith, c.in-len1-up.len_at_least)) (ap (λ s. number_of (word_of s)) (sym (tail_is rest)) ∙ c.in-Some.ensures.number.0))
