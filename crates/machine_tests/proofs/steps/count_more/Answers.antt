use Rattle.std.proofs.Common.{rules, sym}
use Rattle.xp_words.proofs.KindLaws.{kind_write-read}
use Rattle.machine_tests.proofs.steps.count_more.Goals as goal

pub count_type-requires-clause-is : goal.count_type-requires-clause-is
count_type-requires-clause-is g c = (kind_write-read c.look_kind-word.result c.in-Some.kind (search rules)).0

pub count_type-requires-clause-spelled : goal.count_type-requires-clause-spelled
count_type-requires-clause-spelled g c = sym (kind_write-read c.look_kind-word.result c.in-Some.kind (search rules)).1
