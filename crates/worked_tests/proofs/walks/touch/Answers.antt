use Rattle.std.proofs.Common.{Bool, true, false, not, refl, ◌≡◌, ◌<◌, Some, ap, sym, subst, ◌∙◌}
use Rattle.xp_words.specs.Machine.{Machine}
use Rattle.xp_words.specs.declared.place.Place.{Place}
use Rattle.xp_words.specs.declared.place.Place.TheVariants.{Cell}
use Rattle.xp_words.specs.Places.{sizes_of}
use Rattle.xp_board.specs.Spelling.{IsSpelling}
use Rattle.xp_board.specs.declared.step.Act.TheVariants.{Cas}
use Rattle.own_cache.specs.Keeping.{AwaitsTouch}
use Rattle.worked_tests.proofs.Telling.{Stands, cell_stands, cell_spelled}
use Rattle.worked_tests.proofs.walks.touch.Goals as goal

here : (c : goal.After-hear-arg-1) → Stands (sizes_of c.args.layout.now) c.cell_place.result (Cell c.in-Some.flight.table c.args.index)
here c =
    let few = subst (λ k. c.in-Some.flight.table < k) (ap (λ (n : Machine). n.frames) c.layout.view_is) c.if-flight-layout.false in
    cell_stands (sizes_of c.args.layout.now) c.in-Some.flight.table c.args.index c.cell_place.result few c.if-index-ge512.false c.cell_place.ensures

is_touching : (b : Bool) → not b ≡ false → b ≡ true
is_touching true e = refl
is_touching false e = absurd cc

pub hear-requires-clause-real : goal.hear-requires-clause-real
hear-requires-clause-real c = let there = here c in there.real

pub hear-requires-clause-small : goal.hear-requires-clause-small
hear-requires-clause-small c =
    let there = here c in
    subst (λ (p : Place). IsSpelling c.args.layout.now p c.args.found) (sym there.at) (cell_spelled c.args.layout.now c.in-Some.flight.table c.args.index c.args.found c.ranges.found.fits)

pub hear-requires-clause-awaits : goal.hear-requires-clause-awaits
hear-requires-clause-awaits c =
    let there = here c in
    let flying : c.args.t.now.flight ≡ Some c.in-Some.flight = sym c.flight.ensures ∙ c.in-Some.is in
    subst (λ (p : Place). AwaitsTouch p (Cas c.args.expected c.touched-new.result) c.args.t.now.flight) (sym there.at)
    (record { flight = c.in-Some.flight; flying = flying; touching = is_touching _ c.if-not-flight.false })
