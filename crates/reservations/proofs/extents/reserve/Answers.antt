use Rattle.std.proofs.Common.{Err, ap, ◌∙◌, ◌^◌}
use Rattle.std.proofs.lemmas.Result.{err_from_is_err_and}
use Rattle.reservations.proofs.Reserving.{high_number, increase_stops, increased, low_number, populate_stops, populated, too_high_stops}
use Rattle.reservations.proofs.extents.reserve.Goals as goal

pub returns-in_ok-claim-in-Increase : goal.returns-in_ok-claim-in-Increase
returns-in_ok-claim-in-Increase g c =
    let had = c.in_ok-claim-in-Increase.ensures in
    rw c.in-Increase.is (increased c.requires.rests had.block.1 had.serves had.hand had.plain _ had.found)

pub returns-in_err-claim-in-Increase : goal.returns-in_err-claim-in-Increase
returns-in_err-claim-in-Increase g c =
    let had = c.in_err-claim-in-Increase.ensures in
    let answer = err_from_is_err_and c.from_residual.result c.from_residual.ensures.1 in
    rw (c.in-Increase.is, answer.1 ∙ ap Err answer.2) (increase_stops c.requires.rests had.serves had.stops had.kinds had.hand had.plain _ had.found)

pub returns-then-gpfn-ne0 : goal.returns-then-gpfn-ne0
returns-then-gpfn-ne0 g c = rw c.in-Populate.is (too_high_stops (g.P.Port.value c.args.port.now) c.args.owner (2 ^ c.args.order) _ c.in-Populate.gpfn c.requires.rests (high_number c.in-Populate.gpfn c.if-gpfn-ne0.true))

pub returns-in_ok-claim-in-Populate : goal.returns-in_ok-claim-in-Populate
returns-in_ok-claim-in-Populate g c =
    let had = c.in_ok-claim-in-Populate.ensures in
    rw c.in-Populate.is (populated c.requires.rests had.block.1 had.serves had.hand had.plain _ c.in-Populate.gpfn (low_number c.in-Populate.gpfn c.if-gpfn-ne0.false) had.found)

pub returns-in_err-claim-in-Populate : goal.returns-in_err-claim-in-Populate
returns-in_err-claim-in-Populate g c =
    let had = c.in_err-claim-in-Populate.ensures in
    let answer = err_from_is_err_and c.from_residual-in_err-claim-in-Populate.result c.from_residual-in_err-claim-in-Populate.ensures.1 in
    rw (c.in-Populate.is, answer.1 ∙ ap Err answer.2) (populate_stops c.requires.rests had.serves had.stops had.kinds had.hand had.plain _ c.in-Populate.gpfn (low_number c.in-Populate.gpfn c.if-gpfn-ne0.false) had.found)
