use Rattle.std.proofs.Common.{refl, ◌∙◌}
use Rattle.xp_machine.specs.Turns.{none}
use Rattle.xp_machine.proofs.Turning.{one_more_stop}
use Rattle.xp_machine.proofs.stops.stop_all.Goals as goal

pub stops-init : goal.stops-init
stops-init g c = record { machine = refl; opening = refl; stops = none _; ready = c.requires.ready }

pub stops-preserved : goal.stops-preserved
stops-preserved g c =
    record {
      machine = c.stop_on-board.ensures.machine ∙ c.stops.invariant.machine;
      opening = c.stop_on-board.ensures.opening ∙ c.stops.invariant.opening;
      stops = one_more_stop _ _ _ _ _ _ c.stops.invariant.machine c.stops.invariant.stops c.stop_on-board.ensures.stop;
      ready = c.stop_on-board.ensures.ready;
    }
