use Rattle.std.proofs.Common.{false, [], refl}
use Rattle.step_maker.specs.Asked.{of_back}
use Rattle.step_maker.proofs.Piecing.{serves_came}
use Rattle.step_maker.proofs.Coming.{came_trans, moves_came}
use Rattle.frame_types.proofs.LeavingSteps.{shared_steps}
use Rattle.frame_types.proofs.Left.{alone, here, partial_may, shared_back, shared_gives, shared_gone}
use Rattle.frame_types.proofs.Serving.{back_serves, owned_before, put_behind, store_serves}
use Rattle.frame_types.proofs.Storing.{held_as, moved_as}
use Rattle.frame_types.proofs.leaving.leave_shared.Goals as goal

pub leave-requires-clause-leaves : goal.leave-requires-clause-leaves
leave-requires-clause-leaves g c =
    let w = c.requires.waits in
    rw c.waiting_kind-as_found.ensures (partial_may w.0 (g.P.Port.value c.args.port.now) c.args.frame w.1 c.args.want false c.args.stamp w.2 w.2.waits.whose)

pub put_ref-requires-clause-gives : goal.put_ref-requires-clause-gives
put_ref-requires-clause-gives g c =
    let w = c.requires.waits in
    let v = g.P.Port.value c.args.port.now in
    let d = g.P.Port.value c.leave.new.port in
    let may = partial_may w.0 v c.args.frame w.1 c.args.want false c.args.stamp w.2 w.2.waits.whose in
    shared_gives w.0 v c.args.frame w.1 c.args.want c.args.stamp w.2 d
    (shared_back w.0 v c.args.frame w.1 c.args.want c.args.stamp w.2 d c.args.stamp may.is (held_as v d c.args.frame _ _ c.waiting_kind-as_found.ensures c.leave.ensures.hand))
    (alone w.0 v c.args.frame w.1 c.args.want false c.args.stamp w.2 v _ _ refl c.leave.ensures.moves.finds)

pub returns-clause-came : goal.returns-clause-came
returns-clause-came g c =
    let v = g.P.Port.value c.args.port.now in
    let d = g.P.Port.value c.leave.new.port in
    let x = g.P.Port.value c.put_ref.new.port in
    came_trans v d x (moves_came v d _ _ _ _ c.leave.result c.leave.ensures.moves) (serves_came d x (of_back c.args.frame) [] c.put_ref.ensures.serves)

pub returns-clause-serves : goal.returns-clause-serves
returns-clause-serves g c u owner ds before =
    let w = c.requires.waits in
    let v = g.P.Port.value c.args.port.now in
    let d = g.P.Port.value c.leave.new.port in
    let may = partial_may w.0 v c.args.frame w.1 c.args.want false c.args.stamp w.2 w.2.waits.whose in
    back_serves u d (g.P.Port.value c.put_ref.new.port) c.args.frame owner c.args.want ds
    (store_serves u v d c.args.frame owner c.args.want ds before w.2.waits.work _ c.leave.result (here w.0 v c.args.frame w.1 c.args.want false c.args.stamp w.2) w.2.waits.works.in_work w.2.waits.works.kind may.is refl
    (moved_as v d c.args.frame c.leave.result _ _ c.waiting_kind-as_found.ensures c.leave.ensures.moves)) c.put_ref.ensures.serves

pub returns-clause-hand : goal.returns-clause-hand
returns-clause-hand g c b owner stamp waits =
    let w = c.requires.waits in
    let v = g.P.Port.value c.args.port.now in
    let d = g.P.Port.value c.leave.new.port in
    let may = partial_may w.0 v c.args.frame w.1 c.args.want false c.args.stamp w.2 w.2.waits.whose in
    shared_gone b v c.args.frame owner c.args.want stamp waits d (g.P.Port.value c.put_ref.new.port)
    (shared_back b v c.args.frame owner c.args.want stamp waits d c.args.stamp may.is (held_as v d c.args.frame _ _ c.waiting_kind-as_found.ensures c.leave.ensures.hand)) c.put_ref.ensures.hand

pub returns-clause-plain : goal.returns-clause-plain
returns-clause-plain g c telling =
    let v = g.P.Port.value c.args.port.now in
    let d = g.P.Port.value c.leave.new.port in
    put_behind v d c.args.frame c.leave.result _ (moved_as v d c.args.frame c.leave.result _ _ c.waiting_kind-as_found.ensures c.leave.ensures.moves) telling (g.P.Port.value c.put_ref.new.port) c.put_ref.ensures.plain

pub returns-clause-owned : goal.returns-clause-owned
returns-clause-owned g c telling = owned_before (g.P.Port.value c.args.port.now) (g.P.Port.value c.leave.new.port) c.args.frame c.leave.result _ c.leave.ensures.moves telling c.put_ref.ensures.owned

pub returns-clause-visits : goal.returns-clause-visits
returns-clause-visits g c =
    let v = g.P.Port.value c.args.port.now in
    let d = g.P.Port.value c.leave.new.port in
    shared_steps v d (g.P.Port.value c.put_ref.new.port) c.args.frame c.leave.result c.args.stamp c.args.want (moved_as v d c.args.frame c.leave.result _ _ c.waiting_kind-as_found.ensures c.leave.ensures.moves) c.put_ref.ensures.puts
