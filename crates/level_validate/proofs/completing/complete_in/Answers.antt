use Rattle.std.proofs.Common.{◌<◌, true, false, refl, sym, subst}
use Rattle.xp_board.specs.Told.{Post}
use Rattle.step_maker.proofs.Coming.{came_post, moves_came}
use Rattle.level_validate.proofs.Completed.{live_hand, live_leaves, completed_so, live_gives, live_records, live_may}
use Rattle.level_validate.proofs.Standing.{top_inside}
use Rattle.level_validate.proofs.completing.complete_in.Goals as goal

pub make_live-requires : goal.make_live-requires
make_live-requires g c =
    record {
      frame = top_inside c.requires.stands.2.1;
      may = c.requires.may;
      leaves = live_leaves c.requires.stands.2.1 c.requires.full c.requires.ready _ refl c.requires.may;
    }

pub give_back-requires-clause-frame : goal.give_back-requires-clause-frame
give_back-requires-clause-frame g c =
    subst (λ (p : Post). c.args.table.frame < p.machine.frames) (sym (came_post _ _ (moves_came _ _ _ _ _ _ _ c.make_live.ensures.moves))) (top_inside c.requires.stands.2.1)

pub give_back-requires-clause-may : goal.give_back-requires-clause-may
give_back-requires-clause-may g c = live_may c.requires.stands.2.1 (live_hand c.requires.stands.2.1 _ refl _ c.make_live.ensures.hand) c.requires.may

pub give_back-requires-clause-gives : goal.give_back-requires-clause-gives
give_back-requires-clause-gives g c = live_gives c.make_live.ensures.moves (live_hand c.requires.stands.2.1 _ refl _ c.make_live.ensures.hand) c.if-table.true

pub record_entry-requires : goal.record_entry-requires
record_entry-requires g c =
    live_records c.make_live.ensures.moves (live_hand c.requires.stands.2.1 _ refl _ c.make_live.ensures.hand) c.if-table.false

pub returns-then-table : goal.returns-then-table
returns-then-table g c owner us = completed_so _ _ _ _ _ true c.if-table.true c.requires.full (c.make_live.result, c.make_live.ensures.moves) c.give_back.ensures _ _

pub returns-else-table : goal.returns-else-table
returns-else-table g c owner us = completed_so _ _ _ _ _ false c.if-table.false c.requires.full (c.make_live.result, c.make_live.ensures.moves) (c.record_entry.result, c.record_entry.ensures.moves) _ _
