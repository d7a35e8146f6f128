use Rattle.std.proofs.Common.{◌≡◌, sym, ◌∙◌, refl}
use Rattle.trace_lines.specs.Words.{is_separator}
use Rattle.trace_lines.proofs.Separators.{passed_more, separated, separator_within, is_separator_means, word_of, line_behind}
use Rattle.trace_lines.proofs.words.separator_place.Goals as goal

pub returns-then-eq-clause-within : goal.returns-then-eq-clause-within
returns-then-eq-clause-within c =
    let same : c.eq.result ≡ is_separator (word_of (line_behind c.args.spaced.now c.words.place)) = c.eq.ensures ∙ rw (c.as_slice.ensures, c.len_before-len.ensures.place, c.split_at.ensures.back) refl in
    separator_within c.args.spaced.now c.words.place c.words-test.true (is_separator_means _ (sym same ∙ c.if-eq.true))

pub returns-then-eq-clause-parts : goal.returns-then-eq-clause-parts
returns-then-eq-clause-parts c =
    let same : c.eq.result ≡ is_separator (word_of (line_behind c.args.spaced.now c.words.place)) = c.eq.ensures ∙ rw (c.as_slice.ensures, c.len_before-len.ensures.place, c.split_at.ensures.back) refl in
    separated c.args.spaced.now c.words.place c.words.invariant c.words-test.true (is_separator_means _ (sym same ∙ c.if-eq.true))

pub words-preserved : goal.words-preserved
words-preserved c =
    let same : c.eq.result ≡ is_separator (word_of (line_behind c.args.spaced.now c.words.place)) = c.eq.ensures ∙ rw (c.as_slice.ensures, c.len_before-len.ensures.place, c.split_at.ensures.back) refl in
    rw (c.len_before-len.ensures.place, c.split_at.ensures.back) (passed_more c.args.spaced.now c.words.place c.words.invariant c.words-test.true (sym same ∙ c.if-eq.false))
