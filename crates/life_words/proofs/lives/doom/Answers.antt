use Rattle.std.proofs.Common.{◌+◌, ap}
use Rattle.life_words.proofs.RowSteps.{doomed_moves, life_hand, may_doom}
use Rattle.life_words.proofs.lives.doom.Goals as goal

pub exchange-requires : goal.exchange-requires
exchange-requires g c = may_doom (g.P.Port.value c.args.port.now) _ c.args.domain _ c.vcpu.ensures.vcpu c.vcpu.ensures.real (ap (λ y. y + 1) c.from-new.ensures) c.requires.domain c.requires.may

pub returns-clause-moves : goal.returns-clause-moves
returns-clause-moves g c = doomed_moves (g.P.Port.value c.args.port.now) (g.P.Port.value c.exchange.new.port) _ c.args.domain _ _ c.vcpu.ensures.vcpu (ap (λ y. y + 1) c.from-new.ensures) c.exchange.ensures.moves

pub returns-clause-hand : goal.returns-clause-hand
returns-clause-hand g c = life_hand (g.P.Port.value c.args.port.now) (g.P.Port.value c.exchange.new.port) c.args.domain _ _ c.requires.looked c.exchange.ensures.moves
