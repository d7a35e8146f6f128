use Rattle.std.proofs.Common.{None, refl, subst}
use Rattle.xp_words.specs.KindWords.{kind_write}
use Rattle.xp_words.specs.declared.place.Place.TheVariants.{Kind}
use Rattle.xp_board.specs.declared.step.Act.TheVariants.{Store}
use Rattle.xp_board.specs.declared.step.StepKind.TheVariants as kinds
use Rattle.step_maker.specs.Holds.{Holds}
use Rattle.step_maker.specs.Moves.{Moves}
use Rattle.kind_words.specs.Kinds.{left}
use Rattle.kind_words.proofs.KindFacts.{read_is}
use Rattle.level_release.proofs.SettlingSteps.{lost_undue}
use Rattle.domain_destroy.proofs.Marked.{kept_partial, lost_code, takes_page}
use Rattle.domain_destroy.proofs.Paging.{page_gives, page_leaves, page_took}
use Rattle.domain_destroy.proofs.marks.end_page.Goals as goal

pub resume_work-requires-clause-is : goal.resume_work-requires-clause-is
resume_work-requires-clause-is g c = (read_is c.args.found c.args.kind c.requires.read).0

pub resume_work-requires-clause-partial : goal.resume_work-requires-clause-partial
resume_work-requires-clause-partial g c = kept_partial c.args.found c.args.kind c.requires.read c.requires.kept

-- ---- the exchange was lost
pub returns-in-Err : goal.returns-in-Err
returns-in-Err g c =
    let r = c.requires in
    let e = c.in-Err.ensures in
    record { went = lost_code (takes_page c.args.found r.read r.unpinned r.kept r.page) r.rests e.moves e.lost e.hand c.lost.ensures; undue = lost_undue _ _ _ c.lost.ensures }

-- ---- the page is dead
pub leave-requires-clause-leaves : goal.leave-requires-clause-leaves
leave-requires-clause-leaves g c =
    let r = c.requires in
    rw c.dead_kind.ensures (page_leaves c.args.found r.read r.unpinned r.kept r.page r.rests c.in-Ok.ensures.moves c.in-Ok.ensures.hand c.look_clock-clock.ensures.moves c.look_clock-clock.ensures.hand)

pub put_ref-requires-clause-gives : goal.put_ref-requires-clause-gives
put_ref-requires-clause-gives g c =
    let r = c.requires in
    let b = g.P.Port.value c.look_clock-clock.new.port in
    let e = g.P.Port.value c.leave.new.port in
    page_gives c.args.found r.read r.unpinned r.kept r.page r.rests c.in-Ok.ensures.moves c.in-Ok.ensures.hand c.look_clock-clock.ensures.moves c.look_clock-clock.ensures.hand e
    (subst (λ k. Holds b e (left b c.args.frame k)) c.dead_kind.ensures c.leave.ensures.hand)

pub returns-in-Ok : goal.returns-in-Ok
returns-in-Ok g c =
    let r = c.requires in
    let b = g.P.Port.value c.look_clock-clock.new.port in
    let e = g.P.Port.value c.leave.new.port in
    let back = c.put_ref.ensures in
    record {
      went = page_took c.args.found r.read r.unpinned r.kept r.page r.rests c.in-Ok.ensures.moves c.in-Ok.ensures.hand c.look_clock-clock.ensures.moves c.look_clock-clock.ensures.hand e
          (subst (λ k. Holds b e (left b c.args.frame k)) c.dead_kind.ensures c.leave.ensures.hand) (g.P.Port.value c.put_ref.new.port)
          (subst (λ k. Moves b e (Kind c.args.frame) (Store (kind_write k)) kinds.Kind None c.leave.result) c.dead_kind.ensures c.leave.ensures.moves) back.hand back.serves back.puts r.clear;
      undue = refl;
    }
