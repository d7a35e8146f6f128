use Rattle.table_words.proofs.OldHands.{old_is_known, old_moves, take_old_hand}
use Rattle.table_words.proofs.RowSteps.{may_take_old}
use Rattle.table_words.proofs.old_words.take_old.Goals as goal

pub make-requires : goal.make-requires
make-requires g c = may_take_old (g.P.Port.value c.args.port.now) _ _ c.args.which c.vcpu-vcpu.ensures.vcpu c.vcpu-vcpu.ensures.real c.number-word.ensures c.requires

pub returns-clause-moves : goal.returns-clause-moves
returns-clause-moves g c = old_moves (g.P.Port.value c.args.port.now) _ _ _ c.args.which _ _ _ c.vcpu-vcpu.ensures.vcpu c.number-word.ensures c.make.ensures

pub returns-clause-own : goal.returns-clause-own
returns-clause-own g c = λ word known.
    let v = g.P.Port.value c.args.port.now in
    let moved = old_moves v _ _ _ c.args.which _ _ _ c.vcpu-vcpu.ensures.vcpu c.number-word.ensures c.make.ensures in
    old_is_known v.post.machine v.post.vcpu v.holdings c.args.which word c.make.result moved.finds c.requires.running known

pub returns-clause-hand : goal.returns-clause-hand
returns-clause-hand g c =
    take_old_hand (g.P.Port.value c.args.port.now) _ c.args.which _ (old_moves (g.P.Port.value c.args.port.now) _ _ _ c.args.which _ _ _ c.vcpu-vcpu.ensures.vcpu c.number-word.ensures c.make.ensures)
