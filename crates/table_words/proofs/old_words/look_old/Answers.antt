use Rattle.xp_words.specs.Places.{sizes_of}
use Rattle.table_words.proofs.OldHands.{look_old_hand, old_moves}
use Rattle.table_words.proofs.RowSteps.{old_there}
use Rattle.table_words.proofs.old_words.look_old.Goals as goal

pub look-requires : goal.look-requires
look-requires g c = old_there (sizes_of (g.P.Port.value c.args.port.now).post.machine) _ _ c.args.which c.vcpu-vcpu.ensures.real c.number-word.ensures

pub returns-clause-moves : goal.returns-clause-moves
returns-clause-moves g c = old_moves (g.P.Port.value c.args.port.now) _ _ _ c.args.which _ _ _ c.vcpu-vcpu.ensures.vcpu c.number-word.ensures c.look.ensures

pub returns-clause-hand : goal.returns-clause-hand
returns-clause-hand g c =
    look_old_hand (g.P.Port.value c.args.port.now) _ c.args.which _ (old_moves (g.P.Port.value c.args.port.now) _ _ _ c.args.which _ _ _ c.vcpu-vcpu.ensures.vcpu c.number-word.ensures c.look.ensures)
