use Rattle.std.proofs.Common.{◌+◌, [], length, Err, ap, sym, ◌∙◌, subst}
use Rattle.std.proofs.lemmas.Result.{err_from_is_err_and}
use Rattle.xp_board.specs.Told.{PortValue}
use Rattle.step_maker.specs.Answers.{missed}
use Rattle.frame_claims.specs.Blocks.{HasRow, ServesBlock}
use Rattle.frame_claims.proofs.Composing.{block_past, flushed_behind, none_taken, row_flushed, taken_stopped, then_block, wait_stopped, waited_block}
use Rattle.frame_claims.specs.Claiming.{StopsClaim}
use Rattle.frame_claims.proofs.Stopping.{none_free, taking_stops, wait_stops, when_err}
use Rattle.frame_claims.specs.Found.{FreeBlock, TookBy}
use Rattle.frame_claims.proofs.Chaining.{answers, took_all, took_lost, took_none, took_waiting}
use Rattle.frame_claims.proofs.claiming.take.Goals as goal

pub returns-in_err-clear_free-in-Some-clause-serves : goal.returns-in_err-clear_free-in-Some-clause-serves
returns-in_err-clear_free-in-Some-clause-serves g c =
    let v = g.P.Port.value c.args.port.now in
    let a = g.P.Port.value c.choose.new.port in
    let x = g.P.Port.value c.clear_free.new.port in
    let f = c.in-Some.ensures.found in
    let answer = err_from_is_err_and c.from_residual.result c.from_residual.ensures.1 in
    wait_stopped v x c.in-Some.chosen.first c.args.size _ _ (answer.1 ∙ ap Err answer.2) c.in_err-clear_free-in-Some.ensures.waits
    (waited_block v a x c.args.size c.choose.new.stamps.items c.in-Some.chosen c.requires.some c.choose.ensures.looks f c.clear_free.ensures.serves)

pub returns-in_err-clear_free-in-Some-clause-took : goal.returns-in_err-clear_free-in-Some-clause-took
returns-in_err-clear_free-in-Some-clause-took g c =
    let v = g.P.Port.value c.args.port.now in
    let a = g.P.Port.value c.choose.new.port in
    let x = g.P.Port.value c.clear_free.new.port in
    let answer = err_from_is_err_and c.from_residual.result c.from_residual.ensures.1 in
    let same = flushed_behind v a x c.choose.ensures.looks c.clear_free.ensures.hand in
    none_taken v x x c.args.owner c.args.size 0 c.choose.new.stamps.items _ _ (answer.1 ∙ ap Err answer.2) same (row_flushed v x 0 0 c.args.owner c.args.size same c.requires.row)

pub take_block-requires-clause-past : goal.take_block-requires-clause-past
take_block-requires-clause-past g c =
    block_past (g.P.Port.value c.args.port.now) (g.P.Port.value c.choose.new.port) (g.P.Port.value c.clear_free.new.port) c.args.size c.choose.new.stamps.items c.as_slice.result.now c.in-Some.chosen c.as_slice.ensures.value c.in-Some.ensures.found c.clear_free.ensures.came c.in_ok-clear_free-in-Some.ensures.past

pub take_block-requires-clause-row : goal.take_block-requires-clause-row
take_block-requires-clause-row g c =
    let v = g.P.Port.value c.args.port.now in
    let a = g.P.Port.value c.choose.new.port in
    let x = g.P.Port.value c.clear_free.new.port in
    let size = ap (λ l. length l) c.as_slice.ensures.value ∙ c.in-Some.ensures.found.whole in
    subst (λ k. HasRow x x (c.in-Some.chosen.first + k) [] c.args.owner k) (sym size)
    (row_flushed v x 0 (c.in-Some.chosen.first + c.args.size) c.args.owner c.args.size (flushed_behind v a x c.choose.ensures.looks c.clear_free.ensures.hand) c.requires.row)

pub returns-in_err-take_block-in-Some-clause-serves : goal.returns-in_err-take_block-in-Some-clause-serves
returns-in_err-take_block-in-Some-clause-serves g c =
    let v = g.P.Port.value c.args.port.now in
    let a = g.P.Port.value c.choose.new.port in
    let x = g.P.Port.value c.clear_free.new.port in
    let w = g.P.Port.value c.take_block.new.port in
    let first = c.in-Some.chosen.first in
    let answer = err_from_is_err_and c.from_residual-in_err-take_block-in-Some.result c.from_residual-in_err-take_block-in-Some.ensures.1 in
    let size = ap (λ l. length l) c.as_slice.ensures.value ∙ c.in-Some.ensures.found.whole in
    let whole = waited_block v a x c.args.size c.choose.new.stamps.items c.in-Some.chosen c.requires.some c.choose.ensures.looks c.in-Some.ensures.found c.clear_free.ensures.serves in
    let same = flushed_behind v a x c.choose.ensures.looks c.clear_free.ensures.hand in
    taken_stopped v w first c.args.size _ _ (answer.1 ∙ ap Err answer.2)
    (then_block v x w first c.args.size _ whole
    (subst (λ k. ServesBlock x w first k (missed v.post.machine c.in_err-take_block-in-Some.field-0.0)) size
    (subst (λ n. ServesBlock x w first (length c.as_slice.result.now) (missed n c.in_err-take_block-in-Some.field-0.0)) (ap (λ (y : PortValue). y.post.machine) same) c.in_err-take_block-in-Some.ensures.serves)))

pub returns-in_ok-take_block-in-Some-clause-serves : goal.returns-in_ok-take_block-in-Some-clause-serves
returns-in_ok-take_block-in-Some-clause-serves g c =
    let v = g.P.Port.value c.args.port.now in
    let a = g.P.Port.value c.choose.new.port in
    let x = g.P.Port.value c.clear_free.new.port in
    let w = g.P.Port.value c.take_block.new.port in
    let first = c.in-Some.chosen.first in
    let size = ap (λ l. length l) c.as_slice.ensures.value ∙ c.in-Some.ensures.found.whole in
    let whole = waited_block v a x c.args.size c.choose.new.stamps.items c.in-Some.chosen c.requires.some c.choose.ensures.looks c.in-Some.ensures.found c.clear_free.ensures.serves in
    then_block v x w first c.args.size [] whole (subst (λ k. ServesBlock x w first k []) size c.in_ok-take_block-in-Some.ensures.serves)

pub returns-in-None-clause-stops : goal.returns-in-None-clause-stops
returns-in-None-clause-stops g c = none_free (g.P.Port.value c.args.port.now) (g.P.Port.value c.choose.new.port) c.args.owner c.args.size 0 c.requires.row c.in-None.ensures.none

pub returns-in_err-clear_free-in-Some-clause-stops : goal.returns-in_err-clear_free-in-Some-clause-stops
returns-in_err-clear_free-in-Some-clause-stops g c =
    let v = g.P.Port.value c.args.port.now in
    let a = g.P.Port.value c.choose.new.port in
    let x = g.P.Port.value c.clear_free.new.port in
    let answer = err_from_is_err_and c.from_residual.result c.from_residual.ensures.1 in
    when_err _ _ (λ e. StopsClaim v x c.args.size e) (answer.1 ∙ ap Err answer.2)
    (wait_stops v a x c.args.size c.choose.new.stamps.items c.in-Some.chosen c.requires.some c.choose.ensures.looks c.in-Some.ensures.found _ c.in_err-clear_free-in-Some.ensures.stops)

pub returns-in_err-take_block-in-Some-clause-stops : goal.returns-in_err-take_block-in-Some-clause-stops
returns-in_err-take_block-in-Some-clause-stops g c =
    let v = g.P.Port.value c.args.port.now in
    let a = g.P.Port.value c.choose.new.port in
    let x = g.P.Port.value c.clear_free.new.port in
    let w = g.P.Port.value c.take_block.new.port in
    let answer = err_from_is_err_and c.from_residual-in_err-take_block-in-Some.result c.from_residual-in_err-take_block-in-Some.ensures.1 in
    when_err _ _ (λ e. StopsClaim v w c.args.size e) (answer.1 ∙ ap Err answer.2)
    (taking_stops v a x c.args.size c.choose.new.stamps.items c.in-Some.chosen c.requires.some c.choose.ensures.looks c.in-Some.ensures.found c.clear_free.result c.clear_free.ensures.came c.clear_free.ensures.visits w c.as_slice.result.now _
    c.as_slice.ensures.value c.in_err-take_block-in-Some.ensures.stops)

pub returns-in-None-clause-visits : goal.returns-in-None-clause-visits
returns-in-None-clause-visits g c = took_none (g.P.Port.value c.args.port.now) (g.P.Port.value c.choose.new.port) c.args.owner c.args.size c.in-None.ensures.visits

pub returns-in_err-clear_free-in-Some-clause-visits : goal.returns-in_err-clear_free-in-Some-clause-visits
returns-in_err-clear_free-in-Some-clause-visits g c =
    let v = g.P.Port.value c.args.port.now in
    let a = g.P.Port.value c.choose.new.port in
    let x = g.P.Port.value c.clear_free.new.port in
    let answer = err_from_is_err_and c.from_residual.result c.from_residual.ensures.1 in
    let b : FreeBlock = record { first = c.in-Some.chosen.first; stamps = c.choose.new.stamps.items } in
    answers v x (TookBy v.post c.args.owner c.args.size) _ _ (answer.1 ∙ ap Err answer.2)
    (took_waiting v a x c.args.owner c.args.size b c.in-Some.chosen.stamp c.in-Some.ensures.found.stamp c.in-Some.ensures.visits _ c.in_err-clear_free-in-Some.ensures.visits)

pub returns-in_err-take_block-in-Some-clause-visits : goal.returns-in_err-take_block-in-Some-clause-visits
returns-in_err-take_block-in-Some-clause-visits g c =
    let v = g.P.Port.value c.args.port.now in
    let a = g.P.Port.value c.choose.new.port in
    let x = g.P.Port.value c.clear_free.new.port in
    let w = g.P.Port.value c.take_block.new.port in
    let answer = err_from_is_err_and c.from_residual-in_err-take_block-in-Some.result c.from_residual-in_err-take_block-in-Some.ensures.1 in
    let b : FreeBlock = record { first = c.in-Some.chosen.first; stamps = c.choose.new.stamps.items } in
    answers v w (TookBy v.post c.args.owner c.args.size) _ _ (answer.1 ∙ ap Err answer.2)
    (took_lost v a x c.args.owner c.args.size b c.in-Some.chosen.stamp c.in-Some.ensures.found.stamp c.in-Some.ensures.visits w c.in_ok-clear_free-in-Some.ensures.visits c.as_slice.result.now c.as_slice.ensures.value _
    c.in_err-take_block-in-Some.ensures.visits)

pub returns-in_ok-take_block-in-Some-clause-visits : goal.returns-in_ok-take_block-in-Some-clause-visits
returns-in_ok-take_block-in-Some-clause-visits g c =
    let v = g.P.Port.value c.args.port.now in
    let a = g.P.Port.value c.choose.new.port in
    let x = g.P.Port.value c.clear_free.new.port in
    let w = g.P.Port.value c.take_block.new.port in
    let b : FreeBlock = record { first = c.in-Some.chosen.first; stamps = c.choose.new.stamps.items } in
    took_all v a x c.args.owner c.args.size b c.in-Some.chosen.stamp c.in-Some.ensures.found.stamp c.in-Some.ensures.visits w c.in_ok-clear_free-in-Some.ensures.visits c.as_slice.result.now c.as_slice.ensures.value
    c.in_ok-take_block-in-Some.ensures.visits
