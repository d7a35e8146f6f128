use Rattle.std.proofs.Common.{None, refl, sym, ◌∙◌, subst, arith}
use Rattle.own_cache.specs.declared.flight.Flight.{Flight}
use Rattle.tlb_walks.specs.Flying.{IsAt, PathMoves, barred, walks}
use Rattle.tlb_walks.proofs.Walking.{base_inside, top_at}
use Rattle.tlb_walks.proofs.walks.walk_to.Goals as goal

pub returns-in-Some-clause-moves : goal.returns-in-Some-clause-moves
returns-in-Some-clause-moves g c = barred c.in-Some.refusal (sym c.refused_walk.ensures ∙ c.in-Some.is) refl refl

pub at_top-top-requires-clause-few : goal.at_top-top-requires-clause-few
at_top-top-requires-clause-few g c =
    let b = base_inside _ _ _ c.args.user _ c.load_base-base.ensures.moves.finds in
    let less = b.0 in
    let few = b.1 in
    omega arith

pub walk_from-requires-clause-at : goal.walk_from-requires-clause-at
walk_from-requires-clause-at g c =
    subst (λ (f : Flight). IsAt (g.P.Port.value c.load_base-base.new.port) f.user c.args.va f.write None f) (sym c.at_top-top.ensures)
    (top_at _ _ c.args.user c.args.write c.args.va c.load_base-base.result c.load_base-base.ensures.moves c.load_base-base.ensures.hand c.if-base-eq0.false c.ranges.va.fits (sym c.refused_walk.ensures ∙ c.in_default.is))

pub returns-clause-moves : goal.returns-clause-moves
returns-clause-moves g c =
    walks _ c.load_base-base.result (sym c.refused_walk.ensures ∙ c.in_default.is) c.if-base-eq0.false c.load_base-base.ensures.moves
    (subst (λ (f : Flight). PathMoves (g.P.Port.value c.walk_from.new.port) c.args.va f.write c.walk_from.result (g.P.Port.value c.load_base-base.new.port) f.level f.table None) c.at_top-top.ensures c.walk_from.ensures.path)
