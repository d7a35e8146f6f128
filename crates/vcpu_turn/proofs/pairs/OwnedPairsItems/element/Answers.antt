use Rattle.xp_preempt.proofs.Consulting.{past_as}
use Rattle.vcpu_turn.specs.Pairs.{FitsPair}
use Rattle.vcpu_turn.proofs.Extending.{behind_performed, behind_unsettled, of_number, settle_answers}
use Rattle.vcpu_turn.proofs.Staying.{suits_pairs_settled, suits_pairs_updated}
use Rattle.vcpu_turn.proofs.pairs.OwnedPairsItems.element.Goals as goal

pub returns-in_err-settle-clause-suits : goal.returns-in_err-settle-clause-suits
returns-in_err-settle-clause-suits g c =
    let s = c.settle.ensures in
    suits_pairs_settled _ _ c.settle.result s.serves s.hand _ c.requires.suits

pub returns-in_err-settle-clause-fits : goal.returns-in_err-settle-clause-fits
returns-in_err-settle-clause-fits g c =
    let s = c.in_err-settle.ensures in
    of_number (FitsPair c.args.self.now.owners) c.args.self.now.pairs.now c.args.index (record { ptr = 0; val = 0 }) c.requires.index
    (behind_unsettled _ _ c.from_residual.ensures.1 (settle_answers s.serves s.stops s.kinds s.rests s.clear s.clear_too s.course))

pub update-requires-clause-maps : goal.update-requires-clause-maps
update-requires-clause-maps g c =
    let s = c.settle.ensures in
    (suits_pairs_settled _ _ c.settle.result s.serves s.hand _ c.requires.suits).may

pub returns-clause-suits : goal.returns-clause-suits
returns-clause-suits g c =
    let s = c.settle.ensures in
    let u = c.update.ensures in
    suits_pairs_updated _ _ _ u.came u.hand (suits_pairs_settled _ _ c.settle.result s.serves s.hand _ c.requires.suits)

pub returns-clause-fits : goal.returns-clause-fits
returns-clause-fits g c =
    let s = c.in_ok-settle.ensures in
    let u = c.update.ensures in
    of_number (FitsPair c.args.self.now.owners) c.args.self.now.pairs.now c.args.index (record { ptr = 0; val = 0 }) c.requires.index
    (behind_performed (settle_answers s.serves s.stops s.kinds s.rests s.clear s.clear_too s.course)
    (past_as (λ due. due) (λ answers course. record { serves = u.serves; stops = u.stops; kinds = u.kinds; numbers = u.numbers; hand = u.hand; rests = u.rests; course = course }) u.course))
