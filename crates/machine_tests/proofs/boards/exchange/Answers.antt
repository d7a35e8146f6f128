use Rattle.std.proofs.Common.{rules, sym}
use Rattle.xp_words.proofs.RefLaws.{ref_write-read}
use Rattle.machine_tests.proofs.boards.exchange.Goals as goal

pub raise_refs-requires-clause-spelled : goal.raise_refs-requires-clause-spelled
raise_refs-requires-clause-spelled g c = sym (ref_write-read c.args.expected _ (search rules) (search rules)).1
