use Rattle.life_words.proofs.RowSteps.{life_hand, may_bury}
use Rattle.life_words.proofs.lives.bury.Goals as goal

pub make-requires : goal.make-requires
make-requires g c = may_bury (g.P.Port.value c.args.port.now) c.args.domain c.requires.domain c.requires.may c.requires.buries

pub returns-clause-hand : goal.returns-clause-hand
returns-clause-hand g c = life_hand (g.P.Port.value c.args.port.now) (g.P.Port.value c.make.new.port) c.args.domain c.make.result _ c.requires.looked c.make.ensures
