use Rattle.std.proofs.Common.{◌+◌, ap}
use Rattle.table_words.proofs.OldHands.{put_moves, put_old_hand}
use Rattle.table_words.proofs.RowSteps.{may_put_old}
use Rattle.table_words.proofs.old_words.put_old.Goals as goal

pub make-requires : goal.make-requires
make-requires g c =
    may_put_old (g.P.Port.value c.args.port.now) _ _ c.args.which c.vcpu-vcpu.ensures.vcpu c.vcpu-vcpu.ensures.real c.number-word.ensures c.requires.may c.args.frame _
    (ap (λ y. y + 1) c.from-new.ensures) c.requires.frame c.requires.held

pub returns-clause-moves : goal.returns-clause-moves
returns-clause-moves g c =
    put_moves (g.P.Port.value c.args.port.now) (g.P.Port.value c.make.new.port) _ _ c.args.which c.args.frame _ _ c.vcpu-vcpu.ensures.vcpu c.number-word.ensures
    (ap (λ y. y + 1) c.from-new.ensures) c.requires.may.running c.requires.empty c.make.ensures

pub returns-clause-hand : goal.returns-clause-hand
returns-clause-hand g c =
    put_old_hand (g.P.Port.value c.args.port.now) (g.P.Port.value c.make.new.port) c.args.which c.args.frame
    (put_moves (g.P.Port.value c.args.port.now) (g.P.Port.value c.make.new.port) _ _ c.args.which c.args.frame _ _ c.vcpu-vcpu.ensures.vcpu c.number-word.ensures
    (ap (λ y. y + 1) c.from-new.ensures) c.requires.may.running c.requires.empty c.make.ensures)
