use Rattle.std.proofs.Common.{◌≢◌, Some, rules, refl}
use Rattle.xp_words.specs.declared.kind.PageType.TheVariants.{Desc}
use Rattle.xp_preempt.proofs.Consulting.{gated_as, gated_none}
use Rattle.xp_board.specs.Hands.{brought_typed}
use Rattle.kind_words.proofs.KindFacts.{read_is}
use Rattle.level_release.proofs.SettlingSteps.{lost_undue}
use Rattle.domain_destroy.proofs.Marked.{kept_partial, lost_code, saw_inside, takes_kept}
use Rattle.domain_destroy.proofs.Unmarking.{kept_came, kept_took, one_held}
use Rattle.domain_destroy.proofs.marks.unkeep.Goals as goal

-- ---- a descriptor page
pub returns-then-eq : goal.returns-then-eq
returns-then-eq g c = gated_none c.end_page.ensures.undue c.end_page.ensures.went

-- ---- another frame
pub take_back-requires-clause-is : goal.take_back-requires-clause-is
take_back-requires-clause-is g c = (read_is c.args.found c.args.kind c.requires.read).0

pub take_back-requires-clause-partial : goal.take_back-requires-clause-partial
take_back-requires-clause-partial g c = kept_partial c.args.found c.args.kind c.requires.read c.requires.kept

pub let_go-requires-clause-holds : goal.let_go-requires-clause-holds
let_go-requires-clause-holds g c =
    let v = g.P.Port.value c.args.port.now in
    let a = g.P.Port.value c.take_back.new.port in
    one_held v a c.args.frame (brought_typed c.args.frame (Some c.args.kind.kind) v.holdings) c.requires.rests (kept_came v a c.args.frame c.args.kind c.requires.rests c.in-Ok.ensures.hand) (saw_inside c.requires.saw.2) refl

pub returns-in-Ok : goal.returns-in-Ok
returns-in-Ok g c =
    let v = g.P.Port.value c.args.port.now in
    let a = g.P.Port.value c.take_back.new.port in
    let w = g.P.Port.value c.let_go.new.port in
    let r = c.requires in
    let e = c.let_go.ensures in
    let other : c.args.kind.kind ≢ Desc = search rules in
    gated_as refl (kept_took v a w c.args.frame c.args.found c.args.kind c.let_go.result r.read r.rests e.serves e.stops e.kinds e.rests e.hand e.clear r.unpinned r.kept other c.in-Ok.ensures.moves c.in-Ok.ensures.hand) e.course

pub returns-in-Err : goal.returns-in-Err
returns-in-Err g c =
    let r = c.requires in
    let e = c.in-Err.ensures in
    let other : c.args.kind.kind ≢ Desc = search rules in
    gated_none (lost_undue _ _ _ c.lost.ensures) (lost_code (takes_kept c.args.found r.read r.unpinned r.kept other) r.rests e.moves e.lost e.hand c.lost.ensures)
