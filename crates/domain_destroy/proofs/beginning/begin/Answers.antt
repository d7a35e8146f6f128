use Rattle.std.proofs.Common.{◌∙◌, ◌<◌, ◌≤◌, Err, ap, length, refl, subst, sym}
use Rattle.xp_words.specs.Machine.{Machine}
use Rattle.xp_words.specs.declared.reply.Refusal.TheVariants.{NoPrivilege}
use Rattle.xp_words.specs.declared.reply.Stop.TheVariants.{Refused}
use Rattle.domain_destroy.specs.Asking.{ServesDestroy, StopsDestroyer}
use Rattle.domain_destroy.proofs.Dooming.{Begins, barred_by, barred_stops, begun_by, begun_come, begun_serves, dying_by, dying_serves, dying_stops, looked_serves, missing_by, missing_stops, own_by, own_stops}
use Rattle.domain_destroy.proofs.Parts.{nothing_serves}
use Rattle.domain_destroy.proofs.beginning.begin.Goals.{then-domain-caller-via-else-domain-caller+then-not-has_privilege, then-domain-caller-via-then-domain-caller}
use Rattle.domain_destroy.proofs.beginning.begin.Goals as goal

-- ---- there is no such domain
pub returns-then-domain-from-clause-serves : goal.returns-then-domain-from-clause-serves
returns-then-domain-from-clause-serves g c = nothing_serves (g.P.Port.value c.args.port.now) c.args.domain _ refl

pub returns-then-domain-from-clause-stops : goal.returns-then-domain-from-clause-stops
returns-then-domain-from-clause-stops g c =
    let domains = ap (λ (n : Machine). length n.page_limit) c.layout.ensures.layout in
    missing_stops (g.P.Port.value c.args.port.now) c.args.domain (subst (λ k. k ≤ c.args.domain) (c.from.ensures ∙ c.domains.ensures.domains ∙ domains) c.if-domain-from.true)

pub returns-then-domain-from-clause-by : goal.returns-then-domain-from-clause-by
returns-then-domain-from-clause-by g c =
    let domains = ap (λ (n : Machine). length n.page_limit) c.layout.ensures.layout in
    missing_by (g.P.Port.value c.args.port.now) c.args.domain (subst (λ k. k ≤ c.args.domain) (c.from.ensures ∙ c.domains.ensures.domains ∙ domains) c.if-domain-from.true)

-- ---- there is no privilege over it
pub returns-then-domain-caller-clause-serves : goal.returns-then-domain-caller-clause-serves
returns-then-domain-caller-clause-serves g c =
    let v = g.P.Port.value c.args.port.now in
    let caller = c.own_domain-caller.result in
    let mine = c.own_domain-caller.ensures.own in
    let real : c.args.domain < length v.post.machine.page_limit = subst (λ k. c.args.domain < k) (c.from.ensures ∙ c.domains.ensures.domains ∙ ap (λ (n : Machine). length n.page_limit) c.layout.ensures.layout) c.if-domain-from.false in
    elim c.then-domain-caller.branch [
      | then-domain-caller-via-then-domain-caller w ↦ subst (λ p. ServesDestroy {A = Unit {0}} v (g.P.Port.value p) c.args.domain (Err (Refused (NoPrivilege caller c.args.domain)))) (sym w.port-is) (nothing_serves v c.args.domain _ refl)
      | then-domain-caller-via-else-domain-caller+then-not-has_privilege w ↦ subst (λ p. ServesDestroy {A = Unit {0}} v (g.P.Port.value p) c.args.domain (Err (Refused (NoPrivilege caller c.args.domain)))) (sym w.port-is) (looked_serves v (g.P.Port.value w.look_privileges.new.port) c.args.domain w.look_privileges.result caller mine real w.if-domain-caller.false w.look_privileges.ensures.moves _ refl)
    ]

pub returns-then-domain-caller-clause-stops : goal.returns-then-domain-caller-clause-stops
returns-then-domain-caller-clause-stops g c =
    let v = g.P.Port.value c.args.port.now in
    let caller = c.own_domain-caller.result in
    let mine = c.own_domain-caller.ensures.own in
    let real : c.args.domain < length v.post.machine.page_limit = subst (λ k. c.args.domain < k) (c.from.ensures ∙ c.domains.ensures.domains ∙ ap (λ (n : Machine). length n.page_limit) c.layout.ensures.layout) c.if-domain-from.false in
    elim c.then-domain-caller.branch [
      | then-domain-caller-via-then-domain-caller w ↦ subst (λ p. StopsDestroyer v (g.P.Port.value p) c.args.domain (Refused (NoPrivilege caller c.args.domain))) (sym w.port-is) (own_stops v c.args.domain caller mine w.if-domain-caller.true)
      | then-domain-caller-via-else-domain-caller+then-not-has_privilege w ↦ subst (λ p. StopsDestroyer v (g.P.Port.value p) c.args.domain (Refused (NoPrivilege caller c.args.domain))) (sym w.port-is) (barred_stops v (g.P.Port.value w.look_privileges.new.port) c.args.domain w.look_privileges.result caller mine real w.if-domain-caller.false w.look_privileges.ensures.moves (sym w.has_privilege.ensures ∙ w.if-not-has_privilege.true))
    ]

pub returns-then-domain-caller-clause-by : goal.returns-then-domain-caller-clause-by
returns-then-domain-caller-clause-by g c =
    let v = g.P.Port.value c.args.port.now in
    let caller = c.own_domain-caller.result in
    let mine = c.own_domain-caller.ensures.own in
    let real : c.args.domain < length v.post.machine.page_limit = subst (λ k. c.args.domain < k) (c.from.ensures ∙ c.domains.ensures.domains ∙ ap (λ (n : Machine). length n.page_limit) c.layout.ensures.layout) c.if-domain-from.false in
    elim c.then-domain-caller.branch [
      | then-domain-caller-via-then-domain-caller w ↦ subst (λ p. Begins v (g.P.Port.value p) c.args.domain (Err (Refused (NoPrivilege caller c.args.domain)))) (sym w.port-is) (own_by v c.args.domain caller mine w.if-domain-caller.true)
      | then-domain-caller-via-else-domain-caller+then-not-has_privilege w ↦ subst (λ p. Begins v (g.P.Port.value p) c.args.domain (Err (Refused (NoPrivilege caller c.args.domain)))) (sym w.port-is) (barred_by v (g.P.Port.value w.look_privileges.new.port) c.args.domain w.look_privileges.result caller mine real w.if-domain-caller.false w.look_privileges.ensures.moves (sym w.has_privilege.ensures ∙ w.if-not-has_privilege.true))
    ]

-- ---- the own vCPU destroys it from now on
pub returns-in-Ok-clause-serves : goal.returns-in-Ok-clause-serves
returns-in-Ok-clause-serves g c =
    let v = g.P.Port.value c.args.port.now in
    let caller = c.own_domain-caller.result in
    let mine = c.own_domain-caller.ensures.own in
    let real : c.args.domain < length v.post.machine.page_limit = subst (λ k. c.args.domain < k) (c.from.ensures ∙ c.domains.ensures.domains ∙ ap (λ (n : Machine). length n.page_limit) c.layout.ensures.layout) c.if-domain-from.false in
    begun_serves v (g.P.Port.value c.look_privileges.new.port) c.args.domain c.look_privileges.result caller mine real c.if-domain-caller.false c.look_privileges.ensures.moves (g.P.Port.value c.doom.new.port) 0 c.in-Ok.ensures.moves (sym c.has_privilege.ensures ∙ c.if-not-has_privilege.false) refl

pub returns-in-Ok-clause-by : goal.returns-in-Ok-clause-by
returns-in-Ok-clause-by g c =
    let v = g.P.Port.value c.args.port.now in
    let caller = c.own_domain-caller.result in
    let mine = c.own_domain-caller.ensures.own in
    let real : c.args.domain < length v.post.machine.page_limit = subst (λ k. c.args.domain < k) (c.from.ensures ∙ c.domains.ensures.domains ∙ ap (λ (n : Machine). length n.page_limit) c.layout.ensures.layout) c.if-domain-from.false in
    begun_by v (g.P.Port.value c.look_privileges.new.port) c.args.domain c.look_privileges.result caller mine real c.if-domain-caller.false c.look_privileges.ensures.moves (g.P.Port.value c.doom.new.port) 0 c.in-Ok.ensures.moves (sym c.has_privilege.ensures ∙ c.if-not-has_privilege.false) refl

pub returns-in-Ok-clause-come : goal.returns-in-Ok-clause-come
returns-in-Ok-clause-come g c =
    let v = g.P.Port.value c.args.port.now in
    let caller = c.own_domain-caller.result in
    let mine = c.own_domain-caller.ensures.own in
    let real : c.args.domain < length v.post.machine.page_limit = subst (λ k. c.args.domain < k) (c.from.ensures ∙ c.domains.ensures.domains ∙ ap (λ (n : Machine). length n.page_limit) c.layout.ensures.layout) c.if-domain-from.false in
    begun_come v (g.P.Port.value c.look_privileges.new.port) c.args.domain c.look_privileges.result caller mine real c.if-domain-caller.false c.look_privileges.ensures.moves (g.P.Port.value c.doom.new.port) 0 c.in-Ok.ensures.moves (sym c.has_privilege.ensures ∙ c.if-not-has_privilege.false) refl

-- ---- it is dying already, or dead
pub returns-in-Err-clause-serves : goal.returns-in-Err-clause-serves
returns-in-Err-clause-serves g c =
    let v = g.P.Port.value c.args.port.now in
    let caller = c.own_domain-caller.result in
    let mine = c.own_domain-caller.ensures.own in
    let real : c.args.domain < length v.post.machine.page_limit = subst (λ k. c.args.domain < k) (c.from.ensures ∙ c.domains.ensures.domains ∙ ap (λ (n : Machine). length n.page_limit) c.layout.ensures.layout) c.if-domain-from.false in
    dying_serves v (g.P.Port.value c.look_privileges.new.port) c.args.domain c.look_privileges.result caller mine real c.if-domain-caller.false c.look_privileges.ensures.moves (g.P.Port.value c.doom.new.port) c.in-Err.found c.in-Err.ensures.moves (sym c.has_privilege.ensures ∙ c.if-not-has_privilege.false) c.in-Err.ensures.lost

pub returns-in-Err-clause-stops : goal.returns-in-Err-clause-stops
returns-in-Err-clause-stops g c =
    let v = g.P.Port.value c.args.port.now in
    let caller = c.own_domain-caller.result in
    let mine = c.own_domain-caller.ensures.own in
    let real : c.args.domain < length v.post.machine.page_limit = subst (λ k. c.args.domain < k) (c.from.ensures ∙ c.domains.ensures.domains ∙ ap (λ (n : Machine). length n.page_limit) c.layout.ensures.layout) c.if-domain-from.false in
    dying_stops v (g.P.Port.value c.look_privileges.new.port) c.args.domain c.look_privileges.result caller mine real c.if-domain-caller.false c.look_privileges.ensures.moves (g.P.Port.value c.doom.new.port) c.in-Err.found c.in-Err.ensures.moves (sym c.has_privilege.ensures ∙ c.if-not-has_privilege.false) c.in-Err.ensures.lost

pub returns-in-Err-clause-by : goal.returns-in-Err-clause-by
returns-in-Err-clause-by g c =
    let v = g.P.Port.value c.args.port.now in
    let caller = c.own_domain-caller.result in
    let mine = c.own_domain-caller.ensures.own in
    let real : c.args.domain < length v.post.machine.page_limit = subst (λ k. c.args.domain < k) (c.from.ensures ∙ c.domains.ensures.domains ∙ ap (λ (n : Machine). length n.page_limit) c.layout.ensures.layout) c.if-domain-from.false in
    dying_by v (g.P.Port.value c.look_privileges.new.port) c.args.domain c.look_privileges.result caller mine real c.if-domain-caller.false c.look_privileges.ensures.moves (g.P.Port.value c.doom.new.port) c.in-Err.found c.in-Err.ensures.moves (sym c.has_privilege.ensures ∙ c.if-not-has_privilege.false) c.in-Err.ensures.lost
