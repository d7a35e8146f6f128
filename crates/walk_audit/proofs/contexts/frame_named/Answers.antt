use Rattle.std.proofs.Common.{arith}
use Rattle.std.proofs.lemmas.Bool.{and_parts}
use Rattle.xp_words.specs.Places.{sizes_of, memory}
use Rattle.walk_audit.proofs.Reading.{context_few}
use Rattle.walk_audit.proofs.contexts.frame_named.Goals as goal

pub overflow_cast-result : goal.overflow_cast-result
overflow_cast-result c =
    let few = context_few c.args.layout.now (memory (sizes_of c.args.layout.now) c.args.words.now) c.args.vcpu c.args.word c.requires.readable c.requires.vcpu c.requires.word (and_parts _ _ c.requires.context).0 in
    omega arith

pub returns-else-name-eq0 : goal.returns-else-name-eq0
returns-else-name-eq0 c =
    let few = context_few c.args.layout.now (memory (sizes_of c.args.layout.now) c.args.words.now) c.args.vcpu c.args.word c.requires.readable c.requires.vcpu c.requires.word (and_parts _ _ c.requires.context).0 in
    (omega arith, omega arith)
