use Rattle.step_maker.proofs.Coming.{came_trans, moves_came}
use Rattle.vcpu_turn.proofs.Living.{begun_warm, own_counted, runs_alive, woken_idles, woken_rests}
use Rattle.vcpu_turn.proofs.beginning.begin.Goals as goal

pub look_life-requires : goal.look_life-requires
look_life-requires g c =
    let r = c.look_run.ensures in
    own_counted _ _ _ _ c.ack.ensures.came (moves_came _ _ _ _ _ _ _ r.moves) c.requires.idles.machine c.requires.own r.moves.finds.real

pub returns-clause-runs : goal.returns-clause-runs
returns-clause-runs g c =
    runs_alive _ _ _ _ _ c.requires.runs (came_trans _ _ _ c.ack.ensures.came (moves_came _ _ _ _ _ _ _ c.look_run.ensures.moves)) c.look_life.ensures.moves

pub returns-clause-idles : goal.returns-clause-idles
returns-clause-idles g c =
    let r = c.look_run.ensures in
    let l = c.look_life.ensures in
    woken_idles (g.P.Port.value c.args.port.now) (g.P.Port.value c.ack.new.port) (g.P.Port.value c.look_run.new.port) (g.P.Port.value c.look_life.new.port) _ _ _ c.ack.ensures.hand r.hand l.hand c.requires.idles (begun_warm _ _ _ _ _ _ _ _ c.ack.ensures.came c.ack.ensures.hand r.moves r.hand l.moves l.hand c.requires.idles.warm)

pub returns-clause-rests : goal.returns-clause-rests
returns-clause-rests g c =
    let r = c.look_run.ensures in
    let l = c.look_life.ensures in
    λ zero. woken_rests (g.P.Port.value c.args.port.now) (g.P.Port.value c.ack.new.port) (g.P.Port.value c.look_run.new.port) (g.P.Port.value c.look_life.new.port) _ _ _ c.ack.ensures.hand r.hand l.hand c.requires.idles r.own (runs_alive _ _ _ _ _ c.requires.runs (came_trans _ _ _ c.ack.ensures.came (moves_came _ _ _ _ _ _ _ r.moves)) l.moves zero)

pub returns-clause-warm : goal.returns-clause-warm
returns-clause-warm g c =
    let r = c.look_run.ensures in
    let l = c.look_life.ensures in
    begun_warm _ _ _ _ _ _ _ _ c.ack.ensures.came c.ack.ensures.hand r.moves r.hand l.moves l.hand c.requires.idles.warm
