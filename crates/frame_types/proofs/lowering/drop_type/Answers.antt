use Rattle.frame_types.proofs.Lowered.{drops_type, lowered_words, lowers}
use Rattle.frame_types.proofs.lowering.drop_type.Goals as goal

pub returns-clause-serves : goal.returns-clause-serves
returns-clause-serves g c = lowers (g.P.Port.value c.args.port.now) (g.P.Port.value c.lower_type.new.port) c.args.frame c.lower_type.result c.lower_type.ensures.moves

pub returns-clause-drops : goal.returns-clause-drops
returns-clause-drops g c =
    drops_type (g.P.Port.value c.args.port.now) (g.P.Port.value c.lower_type.new.port) c.args.frame c.lower_type.result c.lower_type.ensures.moves c.counts_one.result c.counts_one.ensures c.requires.drops

pub returns-clause-plain : goal.returns-clause-plain
returns-clause-plain g c = lowered_words (g.P.Port.value c.args.port.now) (g.P.Port.value c.lower_type.new.port) c.args.frame c.lower_type.result c.lower_type.ensures.moves
