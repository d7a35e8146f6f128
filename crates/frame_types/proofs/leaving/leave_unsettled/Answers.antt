use Rattle.std.proofs.Common.{true, refl, ap}
use Rattle.std.proofs.lemmas.Bool.{or_left}
use Rattle.step_maker.specs.Plain.{Words}
use Rattle.step_maker.proofs.Coming.{moves_came}
use Rattle.frame_types.proofs.LeavingSteps.{stores}
use Rattle.frame_types.proofs.Left.{here, partial_may, stays_known, unsettled_hand}
use Rattle.frame_types.proofs.Serving.{store_serves, stored_words}
use Rattle.frame_types.proofs.Storing.{held_as, moved_as}
use Rattle.frame_types.proofs.leaving.leave_unsettled.Goals as goal

pub leave-requires-clause-leaves : goal.leave-requires-clause-leaves
leave-requires-clause-leaves g c =
    let w = c.requires.waits in
    rw c.waiting_kind.ensures (partial_may w.0 (g.P.Port.value c.args.port.now) c.args.frame w.1 c.args.want true c.args.stamp w.2 (or_left _ _ c.requires.entries))

pub returns-clause-came : goal.returns-clause-came
returns-clause-came g c = moves_came (g.P.Port.value c.args.port.now) (g.P.Port.value c.leave.new.port) _ _ _ _ c.leave.result c.leave.ensures.moves

pub returns-clause-serves : goal.returns-clause-serves
returns-clause-serves g c u owner ds before =
    let w = c.requires.waits in
    let v = g.P.Port.value c.args.port.now in
    let d = g.P.Port.value c.leave.new.port in
    let may = partial_may w.0 v c.args.frame w.1 c.args.want true c.args.stamp w.2 (or_left _ _ c.requires.entries) in
    store_serves u v d c.args.frame owner c.args.want ds before w.2.waits.work _ c.leave.result (here w.0 v c.args.frame w.1 c.args.want true c.args.stamp w.2) w.2.waits.works.in_work w.2.waits.works.kind may.is refl
    (moved_as v d c.args.frame c.leave.result _ _ c.waiting_kind.ensures c.leave.ensures.moves)

pub returns-clause-hand : goal.returns-clause-hand
returns-clause-hand g c b owner stamp waits =
    let w = c.requires.waits in
    let v = g.P.Port.value c.args.port.now in
    let d = g.P.Port.value c.leave.new.port in
    let may = partial_may w.0 v c.args.frame w.1 c.args.want true c.args.stamp w.2 (or_left _ _ c.requires.entries) in
    unsettled_hand b v c.args.frame owner c.args.want stamp waits d c.args.stamp may.is (held_as v d c.args.frame _ _ c.waiting_kind.ensures c.leave.ensures.hand)

pub returns-clause-partial : goal.returns-clause-partial
returns-clause-partial g c =
    let w = c.requires.waits in
    let v = g.P.Port.value c.args.port.now in
    let d = g.P.Port.value c.leave.new.port in
    let may = partial_may w.0 v c.args.frame w.1 c.args.want true c.args.stamp w.2 (or_left _ _ c.requires.entries) in
    stays_known w.0 v c.args.frame w.1 c.args.want c.args.stamp w.2 d c.args.stamp may.is (held_as v d c.args.frame _ _ c.waiting_kind.ensures c.leave.ensures.hand) c.leave.result
    (moved_as v d c.args.frame c.leave.result _ _ c.waiting_kind.ensures c.leave.ensures.moves)

pub returns-clause-plain : goal.returns-clause-plain
returns-clause-plain g c telling q =
    let v = g.P.Port.value c.args.port.now in
    let d = g.P.Port.value c.leave.new.port in
    ap (λ (m : Words). m q) (stored_words v d c.args.frame c.leave.result _ (moved_as v d c.args.frame c.leave.result _ _ c.waiting_kind.ensures c.leave.ensures.moves) telling)

pub returns-clause-visits : goal.returns-clause-visits
returns-clause-visits g c =
    let v = g.P.Port.value c.args.port.now in
    let d = g.P.Port.value c.leave.new.port in
    stores v d c.args.frame c.leave.result _ (moved_as v d c.args.frame c.leave.result _ _ c.waiting_kind.ensures c.leave.ensures.moves)
