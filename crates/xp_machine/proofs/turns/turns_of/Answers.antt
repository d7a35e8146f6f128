use Rattle.std.proofs.Common.{refl, ◌∙◌}
use Rattle.xp_machine.specs.Turns.{none}
use Rattle.xp_machine.proofs.Turning.{one_more_turn}
use Rattle.xp_machine.proofs.turns.turns_of.Goals as goal

pub turns-init : goal.turns-init
turns-init g c = record { machine = refl; opening = refl; turns = none _; ready = c.requires.ready }

pub turns-preserved : goal.turns-preserved
turns-preserved g c =
    record {
      machine = c.turn_on-board.ensures.machine ∙ c.turns.invariant.machine;
      opening = c.turn_on-board.ensures.opening ∙ c.turns.invariant.opening;
      turns = one_more_turn _ _ _ _ _ _ _ c.turns.invariant.machine c.turns.invariant.turns c.turn_on-board.ensures.turn;
      ready = c.turn_on-board.ensures.ready;
    }
