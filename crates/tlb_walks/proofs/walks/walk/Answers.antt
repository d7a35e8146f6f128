use Rattle.std.proofs.Common.{Ok, Err, refl}
use Rattle.tlb_walks.specs.Asking.{of_walk}
use Rattle.tlb_walks.proofs.Turning.{ready_of, rests_of, turned_landed, turned_ready}
use Rattle.tlb_walks.proofs.Walking.{stopped_same, walk_came, walk_does, walk_kind, walk_serves, walk_stops, walked_to}
use Rattle.tlb_walks.proofs.walks.walk.Goals as goal

pub returns-in-Ok-clause-came : goal.returns-in-Ok-clause-came
returns-in-Ok-clause-came g c = walk_came c.args.user c.args.va c.args.write _ _ (Ok c.in-Ok.walked) c.in-Ok.ensures.moves

pub returns-in-Ok-clause-serves : goal.returns-in-Ok-clause-serves
returns-in-Ok-clause-serves g c = walk_serves c.args.user c.args.va c.args.write (of_walk c.args.va) refl refl _ _ (Ok c.in-Ok.walked) c.in-Ok.ensures.moves

pub returns-in-Ok-clause-course : goal.returns-in-Ok-clause-course
returns-in-Ok-clause-course g c = (
  c.in-Ok.walked.barrier,
  walk_does c.args.user c.args.va c.args.write _ _ (Ok c.in-Ok.walked) c.in-Ok.ensures.moves,
  walked_to _ _ c.args.user c.args.va c.args.write c.in-Ok.walked c.requires.rests.may.no_walk c.in-Ok.ensures.hand,
)

pub returns-in-Err-clause-came : goal.returns-in-Err-clause-came
returns-in-Err-clause-came g c = walk_came c.args.user c.args.va c.args.write _ _ (Err c.in-Err.stop) c.in-Err.ensures.moves

pub returns-in-Err-clause-serves : goal.returns-in-Err-clause-serves
returns-in-Err-clause-serves g c = walk_serves c.args.user c.args.va c.args.write (of_walk c.args.va) refl refl _ _ (Err c.in-Err.stop) c.in-Err.ensures.moves

pub returns-in-Err-clause-stops : goal.returns-in-Err-clause-stops
returns-in-Err-clause-stops g c = walk_stops c.args.user c.args.va c.args.write (of_walk c.args.va) refl refl _ _ c.in-Err.stop (λ x e. e) c.in-Err.ensures.moves

pub returns-in-Err-clause-kinds : goal.returns-in-Err-clause-kinds
returns-in-Err-clause-kinds g c = walk_kind c.args.user c.args.va c.args.write _ _ c.in-Err.stop c.in-Err.ensures.moves

pub returns-in-Err-clause-course : goal.returns-in-Err-clause-course
returns-in-Err-clause-course g c = (
  walk_does c.args.user c.args.va c.args.write _ _ (Err c.in-Err.stop) c.in-Err.ensures.moves,
  stopped_same _ _ c.args.user c.args.va c.args.write c.in-Err.stop c.requires.rests.may.no_walk c.in-Err.ensures.hand,
)

pub returns-in-Ok-clause-rests : goal.returns-in-Ok-clause-rests
returns-in-Ok-clause-rests g c =
    let turn = c.in-Ok.ensures.hand.1 in
    rests_of _ (turned_ready _ _ _ turn (ready_of _ c.requires.rests c.requires.warm)) (turned_landed _ _ _ turn refl)

pub returns-in-Ok-clause-warm : goal.returns-in-Ok-clause-warm
returns-in-Ok-clause-warm g c = (turned_ready _ _ _ c.in-Ok.ensures.hand.1 (ready_of _ c.requires.rests c.requires.warm)).warm

pub returns-in-Err-clause-rests : goal.returns-in-Err-clause-rests
returns-in-Err-clause-rests g c =
    let turn = c.in-Err.ensures.hand in
    rests_of _ (turned_ready _ _ _ turn (ready_of _ c.requires.rests c.requires.warm)) (turned_landed _ _ _ turn refl)

pub returns-in-Err-clause-warm : goal.returns-in-Err-clause-warm
returns-in-Err-clause-warm g c = (turned_ready _ _ _ c.in-Err.ensures.hand (ready_of _ c.requires.rests c.requires.warm)).warm
