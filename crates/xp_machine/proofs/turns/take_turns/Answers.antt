use Rattle.std.proofs.Common.{refl, ◌∙◌}
use Rattle.xp_machine.proofs.Turning.{more_runs, no_runs}
use Rattle.xp_machine.proofs.turns.take_turns.Goals as goal

pub runs-init : goal.runs-init
runs-init g c = record { machine = refl; opening = refl; turns = no_runs _ _; ready = c.requires.ready }

pub runs-preserved : goal.runs-preserved
runs-preserved g c =
    record {
      machine = c.turns_of-board.ensures.machine ∙ c.runs.invariant.machine;
      opening = c.turns_of-board.ensures.opening ∙ c.runs.invariant.opening;
      turns = more_runs (g.B.WholeBoard.board c.args.board).machine _ c.args.runs.now c.runs.run-index _ _ _ _ c.runs.invariant.machine c.runs-test.true c.runs.invariant.turns c.turns_of-board.ensures.turns;
      ready = c.turns_of-board.ensures.ready;
    }
