use Rattle.std.proofs.Common.{arith, sym, ◌∙◌}
use Rattle.xp_board.proofs.PlaceTests.{equal_by}
use Rattle.vcpu_turn.proofs.Operations.{no_more, owned_long, owned_none, owned_on, owned_refused}
use Rattle.vcpu_turn.proofs.working.go_through_pairs.Goals as goal
use Rattle.xp_words.proofs.Shared.{above_zero as above_none}

pub returns-then-pairs-gt-LONGEST-clause-works : goal.returns-then-pairs-gt-LONGEST-clause-works
returns-then-pairs-gt-LONGEST-clause-works g c = owned_long c.if-pairs-gt-LONGEST.true

pub returns-then-is_empty-clause-works : goal.returns-then-is_empty-clause-works
returns-then-is_empty-clause-works g c = owned_none (equal_by _ 0 (sym c.is_empty.ensures ∙ c.if-is_empty.true))

pub returns-in-Err-clause-works : goal.returns-in-Err-clause-works
returns-in-Err-clause-works g c =
    let e = c.in-Err.ensures in
    owned_refused (above_none _ (sym c.is_empty.ensures ∙ c.if-is_empty.false)) c.if-pairs-gt-LONGEST.false _ _ (record { serves = e.serves; stops = e.stops; found = e.found; plain = e.plain; hand = e.hand })

pub overflow_cast-done : goal.overflow_cast-done
overflow_cast-done g c =
    let most = c.if-pairs-gt-LONGEST.false in
    let within = no_more c.go_on-answer.ensures.works c.requires.within in
    omega (arith, most, within)

pub returns-clause-works : goal.returns-clause-works
returns-clause-works g c =
    let o = c.in-Ok.ensures in
    owned_on (above_none _ (sym c.is_empty.ensures ∙ c.if-is_empty.false)) c.if-pairs-gt-LONGEST.false _ c.in-Ok.owners (record { serves = o.serves; stops = o.stops; found = o.found; plain = o.plain; hand = o.hand }) c.go_on-answer.result c.go_on-answer.ensures.works

pub returns-clause-within : goal.returns-clause-within
returns-clause-within g c = no_more c.go_on-answer.ensures.works c.requires.within
