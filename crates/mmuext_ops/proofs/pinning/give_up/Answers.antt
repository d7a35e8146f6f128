use Rattle.std.proofs.Common.{sym, subst, rules}
use Rattle.level_release.specs.Parking.{HoldsTyped, Parks}
use Rattle.partial_state.specs.Levels.{level_type}
use Rattle.mmuext_ops.proofs.GivingUp.{gives_up, table_typed}
use Rattle.mmuext_ops.proofs.pinning.give_up.Goals as goal

pub park-requires : goal.park-requires
park-requires g c =
    let holds = subst (λ o. HoldsTyped (g.P.Port.value c.args.port.now) c.args.frame (level_type c.args.level) o) (sym c.own_domain-owner.ensures.own) (table_typed c.requires.holds) in
    search (rules, holds)

pub returns : goal.returns
returns g c = gives_up (subst (λ o. Parks (g.P.Port.value c.args.port.now) (g.P.Port.value c.park.new.port) c.args.frame c.args.level o c.args.kept) c.own_domain-owner.ensures.own c.park.ensures)
