use Rattle.std.proofs.Common.{Err, ap, ◌∙◌, refl, subst, sym}
use Rattle.flush_words.proofs.Shared.{may_held}
use Rattle.xp_words.specs.Machine.{IsMachine}
use Rattle.std.proofs.lemmas.Result.{err_from_is_err_and}
use Rattle.xp_board.specs.Told.{PortValue, Post}
use Rattle.step_maker.proofs.Piecing.{serves_came}
use Rattle.table_bases.proofs.Acquired.{named, refused}
use Rattle.table_bases.proofs.Behind.{stays_warm}
use Rattle.table_bases.proofs.Clocked.{looked_warm, spent}
use Rattle.table_bases.proofs.setting.name_base.Goals as goal

pub returns-then-clock-eq-LAST_CLOCK-clause-met : goal.returns-then-clock-eq-LAST_CLOCK-clause-met
returns-then-clock-eq-LAST_CLOCK-clause-met g c = spent c.look_clock-clock.ensures.moves c.if-clock-eq-LAST_CLOCK.true

pub returns-in_err-frame-clause-met : goal.returns-in_err-frame-clause-met
returns-in_err-frame-clause-met g c =
    let d = c.own_domain-domain in
    let a = c.in_err-frame.ensures in
    let answer = err_from_is_err_and c.from_residual.result c.from_residual.ensures.1 in
    refused c.look_clock-clock.ensures.moves d.ensures.own c.if-clock-eq-LAST_CLOCK.false (answer.1 ∙ ap Err answer.2) c.look_clock-clock.ensures.hand (a.serves d.result) (a.stops d.result) a.course

pub acquire-requires-clause-may : goal.acquire-requires-clause-may
acquire-requires-clause-may g c =
    let v = g.P.Port.value c.args.port.now in
    may_held v (g.P.Port.value c.look_clock-clock.new.port) v.holdings c.look_clock-clock.ensures.hand refl refl c.requires.rests.may

pub install-requires-clause-may : goal.install-requires-clause-may
install-requires-clause-may g c =
    let v = g.P.Port.value c.args.port.now in
    let may = may_held v (g.P.Port.value c.look_clock-clock.new.port) v.holdings c.look_clock-clock.ensures.hand refl refl c.requires.rests.may in
    let hand = c.in_ok-frame.ensures.hand in
    record {
      running = ap (λ (q : PortValue). q.holdings.run) hand ∙ may.running;
      no_walk = ap (λ (q : PortValue). q.holdings.walk) hand ∙ may.no_walk;
      machine = subst (λ (p : Post). IsMachine p.machine) (sym (ap (λ (q : PortValue). q.post) hand)) may.machine;
    }

pub install-requires-clause-room : goal.install-requires-clause-room
install-requires-clause-room g c = ap (λ (q : PortValue). q.holdings.old0) c.in_ok-frame.ensures.hand ∙ ap (λ (q : PortValue). q.holdings.old0) c.look_clock-clock.ensures.hand ∙ c.requires.room

pub install-requires-clause-warm : goal.install-requires-clause-warm
install-requires-clause-warm g c =
    let a = g.P.Port.value c.look_clock-clock.new.port in
    let e = g.P.Port.value c.acquire.new.port in
    let came = serves_came a e _ _ (c.in_ok-frame.ensures.serves c.own_domain-domain.result).serves in
    stays_warm a e came (ap (λ (q : PortValue). q.holdings.ran) c.in_ok-frame.ensures.hand) (looked_warm c.look_clock-clock.ensures.moves c.if-clock-eq-LAST_CLOCK.false)

pub returns-clause-met : goal.returns-clause-met
returns-clause-met g c =
    let a = c.in_ok-frame.ensures in
    named c.look_clock-clock.ensures.moves c.own_domain-domain.ensures.own c.if-clock-eq-LAST_CLOCK.false a.frame.0 (a.serves c.own_domain-domain.result) a.course c.install.ensures.serves c.install.ensures.course
