use Rattle.std.proofs.Common.{true, [], refl}
use Rattle.step_maker.specs.Asked.{of_back}
use Rattle.step_maker.proofs.Piecing.{serves_came}
use Rattle.step_maker.proofs.Coming.{came_trans, moves_came}
use Rattle.frame_types.proofs.LeavingSteps.{dead_steps}
use Rattle.frame_types.proofs.Left.{alone, at_a, dead_back, dead_gives, dead_gone, dead_may}
use Rattle.frame_types.proofs.Serving.{back_serves, dead_words, look_serves, owned_behind, store_serves}
use Rattle.frame_types.proofs.Storing.{held_as, moved_as}
use Rattle.frame_types.proofs.leaving.leave_dead.Goals as goal

pub leave-requires-clause-leaves : goal.leave-requires-clause-leaves
leave-requires-clause-leaves g c =
    let s = c.requires.waits in
    let w = s.1 in
    rw c.dead_kind.ensures
    (dead_may w.0 (g.P.Port.value c.args.port.now) c.args.frame w.1 c.args.want s.0 w.2 (g.P.Port.value c.look_clock-clock.new.port) c.look_clock-clock.result c.look_clock-clock.ensures.moves c.look_clock-clock.ensures.hand)

pub put_ref-requires-clause-gives : goal.put_ref-requires-clause-gives
put_ref-requires-clause-gives g c =
    let s = c.requires.waits in
    let w = s.1 in
    let v = g.P.Port.value c.args.port.now in
    let a = g.P.Port.value c.look_clock-clock.new.port in
    let d = g.P.Port.value c.leave.new.port in
    let look = c.look_clock-clock.ensures in
    dead_gives w.0 v c.args.frame w.1 c.args.want s.0 w.2 a c.look_clock-clock.result look.moves look.hand d
    (dead_back w.0 v c.args.frame w.1 c.args.want s.0 w.2 a c.look_clock-clock.result look.moves look.hand d (held_as a d c.args.frame _ _ c.dead_kind.ensures c.leave.ensures.hand))
    (alone w.0 v c.args.frame w.1 c.args.want true s.0 w.2 v _ _ refl look.moves.finds)

pub returns-clause-came : goal.returns-clause-came
returns-clause-came g c =
    let v = g.P.Port.value c.args.port.now in
    let a = g.P.Port.value c.look_clock-clock.new.port in
    let d = g.P.Port.value c.leave.new.port in
    let x = g.P.Port.value c.put_ref.new.port in
    came_trans v a x (moves_came v a _ _ _ _ c.look_clock-clock.result c.look_clock-clock.ensures.moves)
    (came_trans a d x (moves_came a d _ _ _ _ c.leave.result c.leave.ensures.moves) (serves_came d x (of_back c.args.frame) [] c.put_ref.ensures.serves))

pub returns-clause-serves : goal.returns-clause-serves
returns-clause-serves g c u owner ds before =
    let s = c.requires.waits in
    let w = s.1 in
    let v = g.P.Port.value c.args.port.now in
    let a = g.P.Port.value c.look_clock-clock.new.port in
    let d = g.P.Port.value c.leave.new.port in
    let look = c.look_clock-clock.ensures in
    let may = dead_may w.0 v c.args.frame w.1 c.args.want s.0 w.2 a c.look_clock-clock.result look.moves look.hand in
    back_serves u d (g.P.Port.value c.put_ref.new.port) c.args.frame owner c.args.want ds
    (store_serves u a d c.args.frame owner c.args.want ds (look_serves u v a c.args.frame owner c.args.want ds before c.look_clock-clock.result look.moves) w.2.waits.work _ c.leave.result
    (at_a w.0 v c.args.frame w.1 c.args.want s.0 w.2 a c.look_clock-clock.result look.moves look.hand) w.2.waits.works.in_work w.2.waits.works.kind may.is refl
    (moved_as a d c.args.frame c.leave.result _ _ c.dead_kind.ensures c.leave.ensures.moves)) c.put_ref.ensures.serves

pub returns-clause-hand : goal.returns-clause-hand
returns-clause-hand g c b owner stamp waits =
    let v = g.P.Port.value c.args.port.now in
    let a = g.P.Port.value c.look_clock-clock.new.port in
    let d = g.P.Port.value c.leave.new.port in
    let look = c.look_clock-clock.ensures in
    dead_gone b v c.args.frame owner c.args.want stamp waits a c.look_clock-clock.result look.moves look.hand d (g.P.Port.value c.put_ref.new.port)
    (dead_back b v c.args.frame owner c.args.want stamp waits a c.look_clock-clock.result look.moves look.hand d (held_as a d c.args.frame _ _ c.dead_kind.ensures c.leave.ensures.hand)) c.put_ref.ensures.hand

pub returns-clause-plain : goal.returns-clause-plain
returns-clause-plain g c telling =
    let v = g.P.Port.value c.args.port.now in
    let a = g.P.Port.value c.look_clock-clock.new.port in
    let d = g.P.Port.value c.leave.new.port in
    dead_words v a d c.args.frame c.leave.result c.look_clock-clock.result c.look_clock-clock.ensures.moves telling (g.P.Port.value c.put_ref.new.port) c.args.want
    (moved_as a d c.args.frame c.leave.result _ _ c.dead_kind.ensures c.leave.ensures.moves) c.put_ref.ensures.plain

pub returns-clause-owned : goal.returns-clause-owned
returns-clause-owned g c telling =
    owned_behind (g.P.Port.value c.args.port.now) (g.P.Port.value c.look_clock-clock.new.port) (g.P.Port.value c.leave.new.port) c.args.frame c.leave.result c.look_clock-clock.result c.look_clock-clock.ensures.moves telling _
    c.leave.ensures.moves c.put_ref.ensures.owned

pub returns-clause-visits : goal.returns-clause-visits
returns-clause-visits g c =
    let v = g.P.Port.value c.args.port.now in
    let a = g.P.Port.value c.look_clock-clock.new.port in
    let d = g.P.Port.value c.leave.new.port in
    dead_steps v a d (g.P.Port.value c.put_ref.new.port) c.args.frame c.leave.result c.look_clock-clock.result c.args.want c.look_clock-clock.ensures.moves
    (moved_as a d c.args.frame c.leave.result _ _ c.dead_kind.ensures c.leave.ensures.moves) c.put_ref.ensures.puts
