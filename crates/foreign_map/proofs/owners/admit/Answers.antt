use Rattle.std.proofs.Common.{◌≡◌, ◌≢◌, ℕ, ◌<◌, ◌≤◌, length, sym, ap, ◌∙◌, subst}
use Rattle.xp_words.specs.Machine.{Machine}
use Rattle.foreign_map.proofs.Admitting.{found_alive, found_barred, found_dying, found_missing, found_own, looked_same}
use Rattle.foreign_map.proofs.owners.admit.Goals as goal

pub returns-then-named-from-clause-steps : goal.returns-then-named-from-clause-steps
returns-then-named-from-clause-steps g c =
    found_own (g.P.Port.value c.args.port.now) c.args.caller c.args.named (c.if-named-from.true ∙ c.from.ensures ∙ c.own_domain.ensures.own ∙ sym c.requires.own)

-- another domain's number
differs : (d r o own caller : ℕ) → (d ≢ r) → r ≡ o → o ≡ own → caller ≡ own → d ≢ caller
differs d r o own caller off a b e is = off (is ∙ e ∙ sym b ∙ sym a)

domains : (n m : Machine) (k l : ℕ) → l ≡ k → k ≡ length m.page_limit → m ≡ n → l ≡ length n.page_limit
domains n m k l a b e = a ∙ b ∙ ap (λ (o : Machine). length o.page_limit) e

pub returns-then-named-from-2-clause-steps : goal.returns-then-named-from-2-clause-steps
returns-then-named-from-2-clause-steps g c =
    let v = g.P.Port.value c.args.port.now in
    let high = c.if-named-from-2.true in
    found_missing v c.args.caller c.args.named (differs _ _ _ _ _ c.if-named-from.false c.from.ensures c.own_domain.ensures.own c.requires.own)
    (subst (λ k. k ≤ c.args.named) (domains v.post.machine _ _ _ c.from-2.ensures c.domains.ensures.domains c.layout.ensures.layout) high)

pub returns-then-not-has_privilege-clause-steps : goal.returns-then-not-has_privilege-clause-steps
returns-then-not-has_privilege-clause-steps g c =
    let v = g.P.Port.value c.args.port.now in
    found_barred v c.args.caller c.args.named (g.P.Port.value c.look_privileges.new.port) c.look_privileges.result
    (differs _ _ _ _ _ c.if-named-from.false c.from.ensures c.own_domain.ensures.own c.requires.own)
    (subst (λ k. c.args.named < k) (domains v.post.machine _ _ _ c.from-2.ensures c.domains.ensures.domains c.layout.ensures.layout) c.if-named-from-2.false)
    c.look_privileges.ensures.moves (sym c.has_privilege.ensures ∙ c.if-not-has_privilege.true)

pub returns-clause-steps : goal.returns-clause-steps
returns-clause-steps g c =
    let v = g.P.Port.value c.args.port.now in
    found_alive v c.args.caller c.args.named (g.P.Port.value c.look_privileges.new.port) c.look_privileges.result
    (differs _ _ _ _ _ c.if-named-from.false c.from.ensures c.own_domain.ensures.own c.requires.own)
    (subst (λ k. c.args.named < k) (domains v.post.machine _ _ _ c.from-2.ensures c.domains.ensures.domains c.layout.ensures.layout) c.if-named-from-2.false)
    c.look_privileges.ensures.moves (g.P.Port.value c.look_life-found.new.port) c.look_life-found.result (sym c.has_privilege.ensures ∙ c.if-not-has_privilege.false) c.if-found-ne0.false c.look_life-found.ensures.moves

pub returns-clause-hand : goal.returns-clause-hand
returns-clause-hand g c =
    looked_same (g.P.Port.value c.args.port.now) (g.P.Port.value c.look_privileges.new.port) (g.P.Port.value c.look_life-found.new.port) c.args.named c.look_life-found.result c.requires.looked
    c.look_privileges.ensures.hand c.look_life-found.ensures.hand

pub returns-then-found-ne0-clause-steps : goal.returns-then-found-ne0-clause-steps
returns-then-found-ne0-clause-steps g c =
    let v = g.P.Port.value c.args.port.now in
    found_dying v c.args.caller c.args.named (g.P.Port.value c.look_privileges.new.port) c.look_privileges.result
    (differs _ _ _ _ _ c.if-named-from.false c.from.ensures c.own_domain.ensures.own c.requires.own)
    (subst (λ k. c.args.named < k) (domains v.post.machine _ _ _ c.from-2.ensures c.domains.ensures.domains c.layout.ensures.layout) c.if-named-from-2.false)
    c.look_privileges.ensures.moves (g.P.Port.value c.look_life-found.new.port) c.look_life-found.result (sym c.has_privilege.ensures ∙ c.if-not-has_privilege.false) c.if-found-ne0.true c.look_life-found.ensures.moves
