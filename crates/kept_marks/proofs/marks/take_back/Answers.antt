use Rattle.kept_marks.proofs.Taking.{may_take_back, take_back_hand}
use Rattle.kept_marks.proofs.marks.take_back.Goals as goal

pub exchange-requires : goal.exchange-requires
exchange-requires g c =
    may_take_back (g.P.Port.value c.args.port.now) _ c.args.kind c.requires.is c.requires.partial c.requires.kept c.requires.page _ _ c.requires.frame c.requires.may c.write-expected.ensures c.unkept-new.ensures

pub returns-clause-hand : goal.returns-clause-hand
returns-clause-hand g c =
    take_back_hand (g.P.Port.value c.args.port.now) _ c.args.kind c.requires.is c.requires.partial c.requires.kept c.requires.page (g.P.Port.value c.exchange.new.port) _ _ c.exchange.result c.write-expected.ensures c.unkept-new.ensures c.exchange.ensures.moves c.exchange.ensures.lost
