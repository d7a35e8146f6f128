use Rattle.std.proofs.Common.{arith, ◌∙◌, sym}
use Rattle.vcpu_turn.proofs.ThroughExtents.{goes_listed, goes_none, goes_refused}
use Rattle.vcpu_turn.proofs.extents.go_through_extents.Goals as goal

pub returns-in-Some-clause-works : goal.returns-in-Some-clause-works
returns-in-Some-clause-works g c = goes_refused c.in-Some.refusal (sym c.in-Some.ensures)

pub returns-then-count-eq0-clause-works : goal.returns-then-count-eq0-clause-works
returns-then-count-eq0-clause-works g c = goes_none (sym c.in_default.ensures) (sym c.count.ensures ∙ c.if-count-eq0.true)

pub returns-clause-works : goal.returns-clause-works
returns-clause-works g c =
    let count = c.count.ensures in
    let some = c.if-count-eq0.false in
    goes_listed (sym c.in_default.ensures) (omega (arith, count, some)) c.go_on.result c.max-at.ensures c.go_on.ensures.works
