use Rattle.std.proofs.Common.{false, sym, subst}
use Rattle.xp_board.specs.declared.step.Act.TheVariants.{Load}
use Rattle.xp_board.specs.GuestSteps.{MayRead}
use Rattle.tlb_walks.specs.Guesting.{stopped, walked}
use Rattle.tlb_walks.proofs.Guests.{cell_at, may_read_new}
use Rattle.tlb_walks.proofs.accesses.read_uncached.Goals as goal

pub load_guest-requires-clause-cached : goal.load_guest-requires-clause-cached
load_guest-requires-clause-cached g c =
    subst (λ f. MayRead f (g.P.Port.value c.walk_to.new.port).holdings) (sym c.frame_at.ensures) (may_read_new _ _ c.args.user c.args.va false c.in-Ok.walked c.in-Ok.ensures.hand c.requires.ready)

pub returns-in-Ok : goal.returns-in-Ok
returns-in-Ok g c = λ may none.
    walked _ c.in-Ok.walked _ may none c.in-Ok.ensures.moves c.in-Ok.ensures.hand (cell_at _ _ Load _ _ _ _ c.load_guest.result c.frame_at.ensures c.word_at.ensures.word c.load_guest.ensures.moves) c.load_guest.ensures.hand

pub returns-in-Err : goal.returns-in-Err
returns-in-Err g c = λ may none. stopped c.in-Err.stop may none c.in-Err.ensures.moves c.in-Err.ensures.hand
