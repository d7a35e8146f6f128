use Rattle.std.proofs.Common.{None, true, refl}
use Rattle.xp_preempt.proofs.Consulting.{past_none}
use Rattle.level_validate.specs.Unwinding.{own_domain}
use Rattle.table_bases.specs.Asking.{of_base}
use Rattle.table_bases.proofs.Clocked.{installed, looked, looked_warm, spent}
use Rattle.table_bases.proofs.setting.empty_base.Goals as goal

pub returns-then-clock-eq-LAST_CLOCK-clause-met : goal.returns-then-clock-eq-LAST_CLOCK-clause-met
returns-then-clock-eq-LAST_CLOCK-clause-met g c = spent c.look_clock-clock.ensures.moves c.if-clock-eq-LAST_CLOCK.true

pub install-requires-clause-warm : goal.install-requires-clause-warm
install-requires-clause-warm g c = looked_warm c.look_clock-clock.ensures.moves c.if-clock-eq-LAST_CLOCK.false

pub returns-clause-met : goal.returns-clause-met
returns-clause-met g c =
    let before = looked c.look_clock-clock.ensures.moves (of_base (own_domain (g.P.Port.value c.args.port.now)) None true) in
    installed c.look_clock-clock.ensures.moves (g.P.Port.value c.look_clock-clock.new.port) before c.if-clock-eq-LAST_CLOCK.false (past_none refl (refl, refl)) c.install.ensures.serves c.install.ensures.course
