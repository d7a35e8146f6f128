use Rattle.std.proofs.Common.{◌∙◌, refl}
use Rattle.domain_destroy.proofs.NoUse.{both_serve, in_use_by, in_use_stops, kind_some, other_by, other_owner, other_serves, other_unused, own_owner, unused_by, unused_since, use_is}
use Rattle.domain_destroy.proofs.unused.check_one.Goals as goal

-- ---- another's
pub returns-then-ne-clause-unused : goal.returns-then-ne-clause-unused
returns-then-ne-clause-unused g c =
    other_unused (g.P.Port.value c.args.port.now) (g.P.Port.value c.look_refs.new.port) c.args.domain c.args.frame c.look_refs.result c.look_refs.ensures.moves
    (other_owner c.look_refs.result c.args.domain c.owner_in.result c.owner_in.ensures c.if-ne.ensures)

pub returns-then-ne-clause-serves : goal.returns-then-ne-clause-serves
returns-then-ne-clause-serves g c =
    other_serves (g.P.Port.value c.args.port.now) (g.P.Port.value c.look_refs.new.port) c.args.domain c.args.frame c.look_refs.result c.look_refs.ensures.moves

pub returns-then-ne-clause-by : goal.returns-then-ne-clause-by
returns-then-ne-clause-by g c =
    other_by (g.P.Port.value c.args.port.now) (g.P.Port.value c.look_refs.new.port) c.args.domain c.args.frame c.look_refs.result c.look_refs.ensures.moves
    (other_owner c.look_refs.result c.args.domain c.owner_in.result c.owner_in.ensures c.if-ne.ensures)

pub read_kind-requires : goal.read_kind-requires
read_kind-requires g c =
    kind_some (g.P.Port.value c.args.port.now) (g.P.Port.value c.look_refs.new.port) c.args.domain c.args.frame c.look_refs.result c.look_refs.ensures.moves (g.P.Port.value c.look_kind-found.new.port) c.look_kind-found.result
    c.requires.frame c.look_kind-found.ensures.moves

-- ---- in use
pub returns-then-is_in_use-clause-serves : goal.returns-then-is_in_use-clause-serves
returns-then-is_in_use-clause-serves g c =
    both_serve (g.P.Port.value c.args.port.now) (g.P.Port.value c.look_refs.new.port) c.args.domain c.args.frame c.look_refs.result c.look_refs.ensures.moves
    (own_owner c.look_refs.result c.args.domain c.owner_in.result c.owner_in.ensures c.if-ne.ensures) (g.P.Port.value c.look_kind-found.new.port) c.look_kind-found.result c.look_kind-found.ensures.moves _ refl

pub returns-then-is_in_use-clause-stops : goal.returns-then-is_in_use-clause-stops
returns-then-is_in_use-clause-stops g c =
    in_use_stops (g.P.Port.value c.args.port.now) (g.P.Port.value c.look_refs.new.port) c.args.domain c.args.frame c.look_refs.result c.look_refs.ensures.moves
    (own_owner c.look_refs.result c.args.domain c.owner_in.result c.owner_in.ensures c.if-ne.ensures) (g.P.Port.value c.look_kind-found.new.port) c.look_kind-found.result c.look_kind-found.ensures.moves
    (use_is c.look_kind-found.result c.read_kind.result c.is_in_use.result c.read_kind.ensures c.is_in_use.ensures ∙ c.if-is_in_use.true)

pub returns-then-is_in_use-clause-by : goal.returns-then-is_in_use-clause-by
returns-then-is_in_use-clause-by g c =
    in_use_by (g.P.Port.value c.args.port.now) (g.P.Port.value c.look_refs.new.port) c.args.domain c.args.frame c.look_refs.result c.look_refs.ensures.moves
    (own_owner c.look_refs.result c.args.domain c.owner_in.result c.owner_in.ensures c.if-ne.ensures) (g.P.Port.value c.look_kind-found.new.port) c.look_kind-found.result c.look_kind-found.ensures.moves
    (use_is c.look_kind-found.result c.read_kind.result c.is_in_use.result c.read_kind.ensures c.is_in_use.ensures ∙ c.if-is_in_use.true)

-- ---- not in use
pub returns-clause-unused : goal.returns-clause-unused
returns-clause-unused g c =
    unused_since (g.P.Port.value c.args.port.now) (g.P.Port.value c.look_refs.new.port) c.args.domain c.args.frame c.look_refs.result c.look_refs.ensures.moves
    (own_owner c.look_refs.result c.args.domain c.owner_in.result c.owner_in.ensures c.if-ne.ensures) (g.P.Port.value c.look_kind-found.new.port) c.look_kind-found.result c.look_kind-found.ensures.moves
    (use_is c.look_kind-found.result c.read_kind.result c.is_in_use.result c.read_kind.ensures c.is_in_use.ensures ∙ c.if-is_in_use.false)

pub returns-clause-serves : goal.returns-clause-serves
returns-clause-serves g c =
    both_serve (g.P.Port.value c.args.port.now) (g.P.Port.value c.look_refs.new.port) c.args.domain c.args.frame c.look_refs.result c.look_refs.ensures.moves
    (own_owner c.look_refs.result c.args.domain c.owner_in.result c.owner_in.ensures c.if-ne.ensures) (g.P.Port.value c.look_kind-found.new.port) c.look_kind-found.result c.look_kind-found.ensures.moves _ refl

pub returns-clause-by : goal.returns-clause-by
returns-clause-by g c =
    unused_by (g.P.Port.value c.args.port.now) (g.P.Port.value c.look_refs.new.port) c.args.domain c.args.frame c.look_refs.result c.look_refs.ensures.moves
    (own_owner c.look_refs.result c.args.domain c.owner_in.result c.owner_in.ensures c.if-ne.ensures) (g.P.Port.value c.look_kind-found.new.port) c.look_kind-found.result c.look_kind-found.ensures.moves
    (use_is c.look_kind-found.result c.read_kind.result c.is_in_use.result c.read_kind.ensures c.is_in_use.ensures ∙ c.if-is_in_use.false)
