use Rattle.std.proofs.Common.{subst}
use Rattle.frame_types.specs.Taking.{Enters, stamp_by, progress_of}
use Rattle.frame_types.proofs.Entering.{entered_marked, entered_after}
use Rattle.frame_types.proofs.GoingOn.{serves_after, stops_after, done_waits, still_waits, plain_after}
use Rattle.frame_types.proofs.Living.{lives_behind}
use Rattle.frame_types.proofs.TakingSteps.{goes_at_once, goes_behind, goes_nowhere}
use Rattle.frame_types.proofs.taking.go_on.Goals as goal

pub clear_stale-requires-clause-marked : goal.clear_stale-requires-clause-marked
clear_stale-requires-clause-marked g c =
    let e = c.requires.enters in
    let v = g.P.Port.value c.args.port.now in
    entered_marked e.0 v c.args.frame c.args.owner c.args.want c.args.kind.number (progress_of c.args.kind) c.args.own
    (subst (λ m. Enters e.0 v c.args.frame c.args.owner c.args.want m (stamp_by m c.args.kind) (progress_of c.args.kind) c.args.own) c.if-marked.true e.1)

pub finish-requires-clause-enters : goal.finish-requires-clause-enters
finish-requires-clause-enters g c =
    let e = c.requires.enters in (
      e.0,
      entered_after e.0 (g.P.Port.value c.args.port.now) (g.P.Port.value c.clear_stale.new.port) c.args.frame c.args.owner c.args.want c.args.marked (stamp_by c.args.marked c.args.kind) (progress_of c.args.kind) c.args.own e.1
          c.in-Ok.ensures.came c.in-Ok.ensures.hand,
    )

pub returns-in-Ok-clause-serves : goal.returns-in-Ok-clause-serves
returns-in-Ok-clause-serves g c u ds before awaits =
    c.finish.ensures.serves u ds
    (serves_after (g.P.Port.value c.args.port.now) (g.P.Port.value c.clear_stale.new.port) c.args.frame c.args.owner c.args.want c.args.kind.number c.in-Ok.ensures.serves u ds before (awaits c.if-marked.true))

pub returns-in-Ok-clause-waits : goal.returns-in-Ok-clause-waits
returns-in-Ok-clause-waits g c u came awaits = done_waits u (g.P.Port.value c.finish.new.port) c.args.frame c.args.owner c.args.want c.finish.result c.finish.ensures.done

pub returns-in-Ok-clause-hand : goal.returns-in-Ok-clause-hand
returns-in-Ok-clause-hand g c b e =
    c.finish.ensures.hand b
    (entered_after b (g.P.Port.value c.args.port.now) (g.P.Port.value c.clear_stale.new.port) c.args.frame c.args.owner c.args.want c.args.marked (stamp_by c.args.marked c.args.kind) (progress_of c.args.kind) c.args.own e
    c.in-Ok.ensures.came c.in-Ok.ensures.hand)

pub returns-in-Ok-clause-live : goal.returns-in-Ok-clause-live
returns-in-Ok-clause-live g c =
    lives_behind (g.P.Port.value c.args.port.now) (g.P.Port.value c.clear_stale.new.port) (g.P.Port.value c.finish.new.port) c.args.frame c.finish.result c.in-Ok.ensures.came c.finish.ensures.live

pub returns-in-Ok-clause-plain : goal.returns-in-Ok-clause-plain
returns-in-Ok-clause-plain g c telling same =
    plain_after (g.P.Port.value c.args.port.now) (g.P.Port.value c.clear_stale.new.port) (g.P.Port.value c.finish.new.port) c.args.frame c.args.want c.args.marked c.args.own (progress_of c.args.kind) c.finish.result c.in-Ok.ensures.came
    (c.in-Ok.ensures.plain telling) telling c.if-marked.true c.finish.ensures.plain

pub returns-in-Err-clause-serves : goal.returns-in-Err-clause-serves
returns-in-Err-clause-serves g c u ds before awaits =
    serves_after (g.P.Port.value c.args.port.now) (g.P.Port.value c.clear_stale.new.port) c.args.frame c.args.owner c.args.want c.args.kind.number c.in-Err.ensures.serves u ds before (awaits c.if-marked.true)

pub returns-in-Err-clause-waits : goal.returns-in-Err-clause-waits
returns-in-Err-clause-waits g c u came awaits = (
  c.in-Err.ensures.waits,
  stops_after (g.P.Port.value c.args.port.now) (g.P.Port.value c.clear_stale.new.port) c.args.frame c.args.owner c.args.want c.args.kind.number c.in-Err.stop c.in-Err.ensures.stops u came (awaits c.if-marked.true),
)

pub returns-in-Err-clause-hand : goal.returns-in-Err-clause-hand
returns-in-Err-clause-hand g c b e =
    let v = g.P.Port.value c.args.port.now in
    still_waits b v (g.P.Port.value c.clear_stale.new.port) c.args.frame c.args.owner c.args.want c.args.kind.number (progress_of c.args.kind) c.args.own
    (subst (λ m. Enters b v c.args.frame c.args.owner c.args.want m (stamp_by m c.args.kind) (progress_of c.args.kind) c.args.own) c.if-marked.true e) c.in-Err.ensures.came c.in-Err.ensures.hand

pub returns-in-Ok-clause-visits : goal.returns-in-Ok-clause-visits
returns-in-Ok-clause-visits g c =
    goes_behind (g.P.Port.value c.args.port.now) (g.P.Port.value c.clear_stale.new.port) (g.P.Port.value c.finish.new.port) c.args.frame c.args.owner c.args.want c.args.marked c.args.own c.args.kind.number (progress_of c.args.kind) c.finish.result c.finish.ensures.done
    c.if-marked.true c.in-Ok.ensures.visits c.finish.ensures.visits

pub returns-in-Err-clause-visits : goal.returns-in-Err-clause-visits
returns-in-Err-clause-visits g c =
    goes_nowhere (g.P.Port.value c.args.port.now) (g.P.Port.value c.clear_stale.new.port) c.args.frame c.args.owner c.args.want c.args.marked c.args.own c.args.kind.number (progress_of c.args.kind) c.in-Err.stop c.if-marked.true c.in-Err.ensures.visits

pub returns-else-marked-clause-visits : goal.returns-else-marked-clause-visits
returns-else-marked-clause-visits g c =
    goes_at_once (g.P.Port.value c.args.port.now) (g.P.Port.value c.finish-else-marked.new.port) c.args.frame c.args.owner c.args.want c.args.marked c.args.own c.args.kind.number (progress_of c.args.kind) c.finish-else-marked.result c.if-marked.false
    c.finish-else-marked.ensures.visits
