use Rattle.std.proofs.Common.{refl}
use Rattle.xp_board.proofs.Returned.{raised_more, freed_page, claimed_dirty}
use Rattle.xp_board.proofs.sanity.what_steps_move_in_hand.Goals as goal

pub returns-clause-raised : goal.returns-clause-raised
returns-clause-raised c = raised_more

pub returns-clause-freed : goal.returns-clause-freed
returns-clause-freed c = freed_page

pub returns-clause-claimed : goal.returns-clause-claimed
returns-clause-claimed c = claimed_dirty

pub returns-clause-flushed : goal.returns-clause-flushed
returns-clause-flushed c h = refl
