use Rattle.trace_lines.proofs.Splits.{word_first}
use Rattle.trace_lines.proofs.words.Words.first.Goals as goal

pub returns : goal.returns
returns c = rw (c.split_at.ensures.front, c.split_at.ensures.back, c.len_before.ensures.place) (word_first c.args.line.now)
