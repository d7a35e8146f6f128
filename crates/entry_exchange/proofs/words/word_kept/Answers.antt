use Rattle.std.proofs.Common.{sym, ap, ◌∙◌}
use Rattle.entry_exchange.specs.Words.{word_kept}
use Rattle.entry_exchange.proofs.KeptBits.{both_kept}
use Rattle.entry_exchange.proofs.words.word_kept.Goals as goal

pub returns-then-keep : goal.returns-then-keep
returns-then-keep c = both_kept c.args.old c.args.new ∙ sym (ap (λ b. word_kept b c.args.old c.args.new) c.if-keep.true)
