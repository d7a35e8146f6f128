use Rattle.frame_words.specs.Refs.{took}
use Rattle.machine_tests.proofs.Testing.{no_type, no_work}
use Rattle.machine_tests.proofs.steps.count_twice.Goals as goal

pub take_page-requires-clause-apart : goal.take_page-requires-clause-apart
take_page-requires-clause-apart g c = no_work _ (g.P.Port.value c.args.port.now) (g.P.Port.value c.get_ref.new.port) (took c.in-Ok.frame c.args.domain (g.P.Port.value c.args.port.now).holdings) c.in-Ok.ensures.hand c.requires.rests.empty.works

pub take_page-requires-clause-untyped : goal.take_page-requires-clause-untyped
take_page-requires-clause-untyped g c = no_type _ (g.P.Port.value c.args.port.now) (g.P.Port.value c.get_ref.new.port) (took c.in-Ok.frame c.args.domain (g.P.Port.value c.args.port.now).holdings) c.in-Ok.ensures.hand c.requires.rests.empty.typed
