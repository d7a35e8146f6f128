use Rattle.std.proofs.Common.{arith}
use Rattle.vcpu_turn.proofs.Operations.{no_more, not_long, too_long}
use Rattle.vcpu_turn.proofs.working.go_through.Goals as goal

pub returns-then-len-gt-LONGEST-clause-works : goal.returns-then-len-gt-LONGEST-clause-works
returns-then-len-gt-LONGEST-clause-works g c =
    let above = c.if-len-gt-LONGEST.true in
    let len = c.len.ensures in
    too_long (omega (arith, above, len))

pub overflow_cast-done : goal.overflow_cast-done
overflow_cast-done g c =
    let most = c.if-len-gt-LONGEST.false in
    let len = c.len.ensures in
    let within = no_more c.go_on-answer.ensures.works c.requires.within in
    omega (arith, most, len, within)

pub returns-clause-works : goal.returns-clause-works
returns-clause-works g c =
    let most = c.if-len-gt-LONGEST.false in
    let len = c.len.ensures in
    not_long c.go_on-answer.ensures.works (omega (arith, most, len))

pub returns-clause-within : goal.returns-clause-within
returns-clause-within g c = no_more c.go_on-answer.ensures.works c.requires.within
