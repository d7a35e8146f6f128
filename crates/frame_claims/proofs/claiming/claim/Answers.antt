use Rattle.std.proofs.Common.{◌≡◌, ℕ, ◌+◌, ◌%◌, ◌^◌, ◌≤◌, [], length, Err, Ok, ap, sym, ◌∙◌, subst}
use Rattle.std.proofs.lemmas.Result.{err_from_is_err_and}
use Rattle.xp_board.specs.Readings.{domain_of}
use Rattle.xp_board.specs.Told.{Post, PortValue}
use Rattle.step_maker.proofs.Coming.{moves_came}
use Rattle.step_maker.specs.Answers.{missed}
use Rattle.frame_claims.specs.Claiming.{ServesWhole, StopsClaim}
use Rattle.frame_claims.specs.Blocks.{given_deeds}
use Rattle.frame_claims.proofs.Closing.{back_for, charged_row, credit_for, gave_all, gave_back, given_all, pages_first, pages_last, post_there, same_missed}
use Rattle.frame_claims.proofs.Composing.{pages_back}
use Rattle.frame_claims.proofs.Losing.{pages_came}
use Rattle.frame_claims.proofs.Stopping.{claim_stops, no_credit, pages_stop, when_err}
use Rattle.step_maker.specs.Visits.{Does}
use Rattle.frame_claims.specs.Found.{ClaimsBy}
use Rattle.frame_claims.proofs.Chaining.{answers, claim_had, claim_stopped, claim_uncounted}
use Rattle.frame_claims.proofs.Lone.{lone_answer, lone_bound, lone_had, lone_stops}
use Rattle.frame_claims.proofs.Sizes.{block_size}
use Rattle.frame_claims.proofs.claiming.claim.Goals as goal

pub take-requires-clause-row : goal.take-requires-clause-row
take-requires-clause-row g c = charged_row (g.P.Port.value c.args.port.now) (g.P.Port.value c.charge.new.port) c.args.owner c.size_of-size.result c.requires.rests.empty c.in_ok-charge.ensures.hand

pub refund_pages-requires-clause-credit : goal.refund_pages-requires-clause-credit
refund_pages-requires-clause-credit g c = credit_for (g.P.Port.value c.charge.new.port) (g.P.Port.value c.take.new.port) c.args.owner c.size_of-size.result c.from.result c.from.ensures c.in-Err.ensures.took

pub returns-in-Ok-clause-block : goal.returns-in-Ok-clause-block
returns-in-Ok-clause-block g c =
    let v = g.P.Port.value c.args.port.now in
    let f = c.in-Ok.first in
    subst (λ k. (f % k ≡ 0) × (f + k ≤ v.post.machine.frames)) c.size_of-size.ensures.power
    (c.in-Ok.ensures.serves.aligned, subst (λ (q : Post). f + c.size_of-size.result ≤ q.machine.frames) (ap (λ (y : PortValue). y.post) c.in_ok-charge.ensures.hand) c.in-Ok.ensures.took.inside)

pub returns-in-Ok-clause-serves : goal.returns-in-Ok-clause-serves
returns-in-Ok-clause-serves g c =
    let v = g.P.Port.value c.args.port.now in
    let x = g.P.Port.value c.charge.new.port in
    let u = g.P.Port.value c.take.new.port in
    let w = g.P.Port.value c.give_block.new.port in
    let long = ap (λ l. length l) c.as_slice.ensures.value ∙ c.in-Ok.ensures.took.whole in
    subst (λ k. ServesWhole v w c.in-Ok.first k (given_deeds c.in-Ok.first k)) c.size_of-size.ensures.power
    (given_all v u w c.in-Ok.first c.size_of-size.result _ long (pages_first v x u c.in-Ok.first c.size_of-size.result [] c.in_ok-charge.ensures.serves c.in-Ok.ensures.serves) c.give_block.ensures.serves)

pub returns-in-Ok-clause-hand : goal.returns-in-Ok-clause-hand
returns-in-Ok-clause-hand g c =
    gave_all (g.P.Port.value c.args.port.now) (g.P.Port.value c.charge.new.port) (g.P.Port.value c.take.new.port) (g.P.Port.value c.give_block.new.port) c.args.owner c.size_of-size.result c.in-Ok.first _ _
    c.requires.rests.empty c.in_ok-charge.ensures.hand c.in-Ok.ensures.took c.give_block.ensures.row

pub returns-in-Err-clause-serves : goal.returns-in-Err-clause-serves
returns-in-Err-clause-serves g c =
    let v = g.P.Port.value c.args.port.now in
    let x = g.P.Port.value c.charge.new.port in
    let u = g.P.Port.value c.take.new.port in
    let w = g.P.Port.value c.refund_pages.new.port in
    let b = c.in-Err.ensures.serves.0 in
    let took = c.in-Err.ensures.took in
    let n = ap (λ (y : PortValue). y.post.machine) c.in_ok-charge.ensures.hand in
    let own = c.requires.own ∙ sym (ap (λ (q : Post). domain_of q.machine q.vcpu) (post_there v x u c.args.owner c.size_of-size.result c.in_ok-charge.ensures.hand took)) in
    subst (λ k. (j : ℕ) × ServesWhole v w j k (missed v.post.machine c.in-Err.stop)) c.size_of-size.ensures.power (
      b,
      pages_last v u w b c.size_of-size.result _ (pages_first v x u b c.size_of-size.result _ c.in_ok-charge.ensures.serves (same_missed x.post.machine v.post.machine x u b c.size_of-size.result c.in-Err.stop n c.in-Err.ensures.serves.1))
          (pages_back u w c.args.owner _ _ own c.refund_pages.ensures.moves),
    )

pub returns-in-Err-clause-hand : goal.returns-in-Err-clause-hand
returns-in-Err-clause-hand g c =
    let u = g.P.Port.value c.take.new.port in
    gave_back (g.P.Port.value c.args.port.now) (g.P.Port.value c.charge.new.port) u (g.P.Port.value c.refund_pages.new.port) c.args.owner c.size_of-size.result c.requires.rests.empty c.in_ok-charge.ensures.hand c.in-Err.ensures.took
    (back_for u (g.P.Port.value c.refund_pages.new.port) c.args.owner c.size_of-size.result c.from.result c.from.ensures c.refund_pages.ensures.hand)

pub charge-requires-clause-none : goal.charge-requires-clause-none
charge-requires-clause-none g c = no_credit (g.P.Port.value c.args.port.now) c.args.owner c.requires.rests.empty.credits

pub returns-in_err-charge-clause-stops : goal.returns-in_err-charge-clause-stops
returns-in_err-charge-clause-stops g c =
    let v = g.P.Port.value c.args.port.now in
    let x = g.P.Port.value c.charge.new.port in
    let answer = err_from_is_err_and c.from_residual.result c.from_residual.ensures.1 in
    when_err _ _ (λ e. StopsClaim v x (2 ^ c.args.order) e) (answer.1 ∙ ap Err answer.2)
    (subst (λ k. StopsClaim v x k c.in_err-charge.field-0.0) c.size_of-size.ensures.power (pages_stop v x c.size_of-size.result _ c.in_err-charge.ensures.stops))

pub returns-in-Err-clause-stops : goal.returns-in-Err-clause-stops
returns-in-Err-clause-stops g c =
    let v = g.P.Port.value c.args.port.now in
    let x = g.P.Port.value c.charge.new.port in
    let u = g.P.Port.value c.take.new.port in
    let w = g.P.Port.value c.refund_pages.new.port in
    subst (λ k. StopsClaim v w k c.in-Err.stop) c.size_of-size.ensures.power
    (claim_stops v x u w c.size_of-size.result c.in-Err.stop c.in-Err.ensures.kinds (pages_came v x [] c.in_ok-charge.ensures.serves) c.in-Err.ensures.stops (moves_came u w _ _ _ _ _ c.refund_pages.ensures.moves))

pub returns-in_err-charge-clause-found : goal.returns-in_err-charge-clause-found
returns-in_err-charge-clause-found g c =
    let v = g.P.Port.value c.args.port.now in
    let x = g.P.Port.value c.charge.new.port in
    let answer = err_from_is_err_and c.from_residual.result c.from_residual.ensures.1 in
    answers v x (ClaimsBy v.post c.args.owner (2 ^ c.args.order) c.args.gpfn) _ _ (answer.1 ∙ ap Err answer.2)
    (claim_uncounted v x c.args.owner (2 ^ c.args.order) c.size_of-size.result c.args.gpfn _ c.size_of-size.ensures.power c.in_err-charge.ensures.visits)

pub returns-in-Ok-clause-found : goal.returns-in-Ok-clause-found
returns-in-Ok-clause-found g c =
    let v = g.P.Port.value c.args.port.now in
    let x = g.P.Port.value c.charge.new.port in
    let u = g.P.Port.value c.take.new.port in
    let w = g.P.Port.value c.give_block.new.port in
    let long = ap (λ l. length l) c.as_slice.ensures.value ∙ c.in-Ok.ensures.took.whole in
    subst (λ k. Does v w (λ vs. ClaimsBy v.post c.args.owner k c.args.gpfn (Ok c.in-Ok.first) vs)) c.size_of-size.ensures.power
    (claim_had v x u w c.args.owner c.size_of-size.result c.args.gpfn c.in_ok-charge.ensures.visits c.in-Ok.first (length c.as_slice.result.now) long c.in-Ok.ensures.visits c.give_block.ensures.visits)

pub returns-in-Err-clause-found : goal.returns-in-Err-clause-found
returns-in-Err-clause-found g c =
    let v = g.P.Port.value c.args.port.now in
    let x = g.P.Port.value c.charge.new.port in
    let u = g.P.Port.value c.take.new.port in
    let w = g.P.Port.value c.refund_pages.new.port in
    subst (λ k. Does v w (λ vs. ClaimsBy v.post c.args.owner k c.args.gpfn (Err c.in-Err.stop) vs)) c.size_of-size.ensures.power
    (claim_stopped v x u w c.args.owner c.size_of-size.result c.args.gpfn c.in_ok-charge.ensures.visits c.in-Err.stop c.in-Err.ensures.visits c.refund_pages.result c.from.result c.from.ensures c.refund_pages.ensures.moves)

pub returns-in_err-charge-clause-plain : goal.returns-in_err-charge-clause-plain
returns-in_err-charge-clause-plain g c alone =
    let v = g.P.Port.value c.args.port.now in
    let x = g.P.Port.value c.charge.new.port in
    let answer = err_from_is_err_and c.from_residual.result c.from_residual.ensures.1 in
    lone_answer v alone c.requires.rests.empty x c.args.owner (2 ^ c.args.order) (block_size c.args.order c.requires.order) c.args.gpfn c.from_residual.result c.in_err-charge.field-0.0 (answer.1 ∙ ap Err answer.2)
    (subst (λ k. StopsClaim v x k c.in_err-charge.field-0.0) c.size_of-size.ensures.power (pages_stop v x c.size_of-size.result _ c.in_err-charge.ensures.stops)) (returns-in_err-charge-clause-found g c)

pub returns-in-Err-clause-plain : goal.returns-in-Err-clause-plain
returns-in-Err-clause-plain g c alone =
    lone_stops (g.P.Port.value c.args.port.now) alone c.requires.rests.empty (g.P.Port.value c.refund_pages.new.port) c.args.owner (2 ^ c.args.order) (block_size c.args.order c.requires.order) c.args.gpfn c.in-Err.stop
    (returns-in-Err-clause-stops g c) (returns-in-Err-clause-found g c)

pub returns-in-Ok-clause-plain : goal.returns-in-Ok-clause-plain
returns-in-Ok-clause-plain g c alone =
    lone_had (g.P.Port.value c.args.port.now) alone c.requires.rests.empty (g.P.Port.value c.give_block.new.port) c.args.owner (2 ^ c.args.order) (block_size c.args.order c.requires.order) c.args.gpfn c.in-Ok.first
    (returns-in-Ok-clause-found g c)

pub returns-in-Ok-clause-bound : goal.returns-in-Ok-clause-bound
returns-in-Ok-clause-bound g c alone =
    lone_bound (g.P.Port.value c.args.port.now) alone c.requires.rests.empty (g.P.Port.value c.give_block.new.port) c.args.owner (2 ^ c.args.order) (block_size c.args.order c.requires.order) c.args.gpfn c.in-Ok.first
    (returns-in-Ok-clause-found g c)

pub returns-in_err-charge-clause-bound : goal.returns-in_err-charge-clause-bound
returns-in_err-charge-clause-bound g c alone =
    let answer = err_from_is_err_and c.from_residual.result c.from_residual.ensures.1 in
    rw (answer.1 ∙ ap Err answer.2) tt
