use Rattle.std.proofs.Common.{inl, inr, arith}
use Rattle.reference_recount.proofs.Asked.{asks_nothing, asks_badly, asks_read, asks_typed}
use Rattle.reference_recount.proofs.adding.add_demand.Goals as goal

pub returns-in-Nothing : goal.returns-in-Nothing
returns-in-Nothing c =
    let kinds = c.args.kinds.now in
    elim c.in-Nothing.is [
      | inl e ↦ asks_nothing kinds c.args.tallies.now.items c.args.demand e
      | inr e ↦ asks_badly kinds c.args.tallies.now.items c.args.demand e
    ]

pub returns-in-Read : goal.returns-in-Read
returns-in-Read c = asks_read c.args.kinds.now c.args.tallies.now.items _ c.in-Read.frame c.args.demand c.in-Read.is c.add.ensures

pub returns-in-Typed : goal.returns-in-Typed
returns-in-Typed c =
    asks_typed c.args.kinds.now c.args.tallies.now.items _ c.in-Typed.frame c.in-Typed.kind c.is_other_type-other.result c.args.demand c.in-Typed.is
    (λ l. c.is_other_type-other.ensures (let e = c.requires.frames in omega arith)) c.add-in-Typed.ensures
