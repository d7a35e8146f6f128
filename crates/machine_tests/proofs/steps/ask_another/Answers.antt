use Rattle.std.proofs.Common.{rules}
use Rattle.step_maker.proofs.Coming.{came_trans, moves_came}
use Rattle.machine_tests.proofs.Testing.{may_ask}
use Rattle.machine_tests.proofs.steps.ask_another.Goals as goal

pub ask-requires-clause-asks : goal.ask-requires-clause-asks
ask-requires-clause-asks g c =
    may_ask (g.P.Port.value c.look_run-own.new.port) (g.P.Port.value c.look_clock-clock.new.port) (g.P.Port.value c.look_run_of-run.new.port) (g.P.Port.value c.look_flushed-flushed.new.port) c.args.vcpu
    c.look_clock-clock.result c.look_run_of-run.result c.look_flushed-flushed.result c.look_clock-clock.ensures.moves c.look_run_of-run.ensures.moves c.look_flushed-flushed.ensures.moves (search rules) (search rules)

pub returns-clause-came : goal.returns-clause-came
returns-clause-came g c =
    came_trans (g.P.Port.value c.args.port.now) (g.P.Port.value c.look_run-own.new.port) (g.P.Port.value c.ask.new.port) (moves_came _ _ _ _ _ _ _ c.look_run-own.ensures.moves)
    (came_trans (g.P.Port.value c.look_run-own.new.port) (g.P.Port.value c.look_clock-clock.new.port) (g.P.Port.value c.ask.new.port) (moves_came _ _ _ _ _ _ _ c.look_clock-clock.ensures.moves)
    (came_trans (g.P.Port.value c.look_clock-clock.new.port) (g.P.Port.value c.look_run_of-run.new.port) (g.P.Port.value c.ask.new.port) (moves_came _ _ _ _ _ _ _ c.look_run_of-run.ensures.moves)
    (came_trans (g.P.Port.value c.look_run_of-run.new.port) (g.P.Port.value c.look_flushed-flushed.new.port) (g.P.Port.value c.ask.new.port) (moves_came _ _ _ _ _ _ _ c.look_flushed-flushed.ensures.moves)
    (moves_came _ _ _ _ _ _ _ c.ask.ensures.moves))))
