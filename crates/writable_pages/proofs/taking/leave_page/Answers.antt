use Rattle.std.proofs.Common.{[], Err, sym, subst, rules}
use Rattle.xp_words.specs.declared.kind.PageType.TheVariants.{Writable}
use Rattle.frame_types.specs.Leaving.{WaitsFrom}
use Rattle.kind_words.specs.Kinds.{MayLeave}
use Rattle.kept_marks.specs.Marks.{KeptFor, LeavesKept}
use Rattle.writable_pages.specs.Pages.{LeavesPage}
use Rattle.writable_pages.proofs.Asking.{kept_serves, plain_serves}
use Rattle.writable_pages.proofs.Left.{kept_leaves, leaves_back, page_known, page_may}
use Rattle.writable_pages.proofs.LeftWords.{dead_left, kept_left, shared_left}
use Rattle.writable_pages.proofs.taking.leave_page.Goals as goal

-- ---- the type count is another holder's

pub returns-then-not-own-clause-serves : goal.returns-then-not-own-clause-serves
returns-then-not-own-clause-serves g c u before =
    plain_serves u (g.P.Port.value c.leave_shared.new.port) c.args.frame c.args.owner c.args.stop c.requires.wait (c.leave_shared.ensures.serves u c.args.owner [] before)

pub returns-then-not-own-clause-hand : goal.returns-then-not-own-clause-hand
returns-then-not-own-clause-hand g c b waits =
    leaves_back b (g.P.Port.value c.leave_shared.new.port) c.args.frame c.args.owner c.args.stop
    (c.leave_shared.ensures.hand b c.args.owner c.args.stamp (subst (λ y. WaitsFrom b (g.P.Port.value c.args.port.now) c.args.frame c.args.owner Writable y c.args.stamp) c.if-not-own.true waits))

-- ---- refused

pub returns-in-Refused-clause-serves : goal.returns-in-Refused-clause-serves
returns-in-Refused-clause-serves g c u before =
    plain_serves u (g.P.Port.value c.leave_dead.new.port) c.args.frame c.args.owner c.args.stop c.requires.wait (c.leave_dead.ensures.serves u c.args.owner [] before)

pub returns-in-Refused-clause-hand : goal.returns-in-Refused-clause-hand
returns-in-Refused-clause-hand g c b waits =
    leaves_back b (g.P.Port.value c.leave_dead.new.port) c.args.frame c.args.owner c.args.stop
    (c.leave_dead.ensures.hand b c.args.owner c.args.stamp (subst (λ y. WaitsFrom b (g.P.Port.value c.args.port.now) c.args.frame c.args.owner Writable y c.args.stamp) c.if-not-own.false waits))

-- ---- paused

pub leave_kept-requires : goal.leave_kept-requires
leave_kept-requires g c =
    let v = g.P.Port.value c.args.port.now in
    let w = c.requires.waits in
    let waits = subst (λ y. WaitsFrom w.0 v c.args.frame c.args.owner Writable y c.args.stamp) c.if-not-own.false w.1 in
    let leaves : MayLeave v c.args.frame c.waiting_kind-kind.result = rw c.waiting_kind-kind.ensures (page_may w.0 v c.args.frame c.args.owner c.args.stamp waits) in
    let known = page_known w.0 v c.args.frame c.args.owner c.args.stamp waits in
    search (rules, leaves, known)

pub returns-in-Paused-clause-serves : goal.returns-in-Paused-clause-serves
returns-in-Paused-clause-serves g c u before =
    kept_serves u (g.P.Port.value c.args.port.now) (g.P.Port.value c.leave_kept.new.port) c.args.frame c.args.owner c.args.stop c.in-Paused.field-0 c.in-Paused.is c.requires.wait c.leave_kept.ensures.serves before

pub returns-in-Paused-clause-hand : goal.returns-in-Paused-clause-hand
returns-in-Paused-clause-hand g c b waits =
    let v = g.P.Port.value c.args.port.now in
    let d = g.P.Port.value c.leave_kept.new.port in
    subst (λ e. LeavesPage b d c.args.frame c.args.owner (Err e)) (sym c.in-Paused.is)
    (kept_leaves b v c.args.frame c.args.owner c.args.stamp (subst (λ y. WaitsFrom b v c.args.frame c.args.owner Writable y c.args.stamp) c.if-not-own.false waits) c.requires.looked d c.in-Paused.field-0
    (subst (λ k. LeavesKept v d c.args.frame k c.args.owner) c.waiting_kind-kind.ensures c.leave_kept.ensures.hand))

pub returns-in-Paused-clause-course : goal.returns-in-Paused-clause-course
returns-in-Paused-clause-course g c =
    let v = g.P.Port.value c.args.port.now in
    let d = g.P.Port.value c.leave_kept.new.port in
    kept_left v d c.args.frame c.args.owner c.args.stamp c.args.own c.args.stop c.in-Paused.field-0 c.if-not-own.false c.in-Paused.is
    (subst (λ k. KeptFor v d c.args.frame k c.args.owner) c.waiting_kind-kind.ensures c.leave_kept.ensures.course)

-- ---- by which steps, and in plain words

pub returns-then-not-own-clause-course : goal.returns-then-not-own-clause-course
returns-then-not-own-clause-course g c =
    shared_left (g.P.Port.value c.args.port.now) (g.P.Port.value c.leave_shared.new.port) c.args.frame c.args.owner c.args.stamp c.args.own c.args.stop c.if-not-own.true c.leave_shared.ensures.visits c.leave_shared.ensures.plain c.leave_shared.ensures.owned

pub returns-in-Refused-clause-course : goal.returns-in-Refused-clause-course
returns-in-Refused-clause-course g c =
    dead_left (g.P.Port.value c.args.port.now) (g.P.Port.value c.leave_dead.new.port) c.args.frame c.args.owner c.args.stamp c.args.own c.args.stop c.in-Refused.field-0 c.if-not-own.false c.in-Refused.is c.leave_dead.ensures.visits c.leave_dead.ensures.plain c.leave_dead.ensures.owned
