use Rattle.std.proofs.Common.{ap, refl, sym, ◌∙◌}
use Rattle.xp_board.specs.Told.{PortValue}
use Rattle.xp_preempt.proofs.Consulting.{past_as, past_none}
use Rattle.step_maker.proofs.Warming.{came_warm}
use Rattle.vcpu_turn.specs.Mappings as mapping
use Rattle.vcpu_turn.proofs.Extending.{behind_performed, behind_unsettled, settle_answers}
use Rattle.vcpu_turn.proofs.Staying.{settled_warm}
use Rattle.vcpu_turn.proofs.mappings.update_entry.Goals as goal

pub returns-in_err-settle-clause-updates : goal.returns-in_err-settle-clause-updates
returns-in_err-settle-clause-updates g c =
    let s = c.in_err-settle.ensures in
    behind_unsettled _ _ c.from_residual.ensures.1 (settle_answers s.serves s.stops s.kinds s.rests s.clear s.clear_too s.course)

pub returns-then-mapping-ge-DOMAINS-clause-updates : goal.returns-then-mapping-ge-DOMAINS-clause-updates
returns-then-mapping-ge-DOMAINS-clause-updates g c =
    let s = c.in_ok-settle.ensures in
    behind_performed (settle_answers s.serves s.stops s.kinds s.rests s.clear s.clear_too s.course) (past_none refl (mapping.UpdatesWord.far c.if-mapping-ge-DOMAINS.true))

pub returns-in-Err-clause-updates : goal.returns-in-Err-clause-updates
returns-in-Err-clause-updates g c =
    let s = c.in_ok-settle.ensures in
    let e = c.in-Err.ensures in
    behind_performed (settle_answers s.serves s.stops s.kinds s.rests s.clear s.clear_too s.course)
    (past_none refl (mapping.UpdatesWord.unowned _ _ c.if-mapping-ge-DOMAINS.false (record { serves = e.serves; stops = e.stops; found = e.found; plain = e.plain; hand = e.hand })))

pub returns-then-is_bad-clause-updates : goal.returns-then-is_bad-clause-updates
returns-then-is_bad-clause-updates g c =
    let s = c.in_ok-settle.ensures in
    let o = c.in-Ok.ensures in
    behind_performed (settle_answers s.serves s.stops s.kinds s.rests s.clear s.clear_too s.course)
    (past_none refl (mapping.UpdatesWord.flagged _ c.in-Ok.owners c.if-mapping-ge-DOMAINS.false (record { serves = o.serves; stops = o.stops; found = o.found; plain = o.plain; hand = o.hand }) (sym c.is_bad.ensures ∙ c.if-is_bad.true)))

pub returns-clause-updates : goal.returns-clause-updates
returns-clause-updates g c =
    let s = c.in_ok-settle.ensures in
    let o = c.in-Ok.ensures in
    behind_performed (settle_answers s.serves s.stops s.kinds s.rests s.clear s.clear_too s.course)
    (past_as (λ due. due)
    (λ answers updates. mapping.UpdatesWord.owned _ _ c.in-Ok.owners answers c.update_at.result c.if-mapping-ge-DOMAINS.false (record { serves = o.serves; stops = o.stops; found = o.found; plain = o.plain; hand = o.hand }) (sym c.is_bad.ensures ∙ c.if-is_bad.false) updates)
    c.update_at.ensures.updates)

pub returns-clause-warm : goal.returns-clause-warm
returns-clause-warm g c =
    let s = c.settle.ensures in
    let o = c.in-Ok.ensures in
    let u = c.update_at.ensures in
    came_warm _ _ u.came (ap (λ (y : PortValue). y.holdings.ran) u.updates.course.hand.2) (ap (λ (y : PortValue). y.holdings.cold) o.hand ∙ settled_warm _ _ c.settle.result s.serves s.hand c.requires.warm)
