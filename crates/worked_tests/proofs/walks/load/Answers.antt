use Rattle.std.proofs.Common.{◌≡◌, ◌<◌, Some, ap, sym, subst, ◌∙◌}
use Rattle.xp_words.specs.Machine.{Machine}
use Rattle.xp_words.specs.declared.place.Place.{Place}
use Rattle.xp_words.specs.Places.{sizes_of}
use Rattle.xp_board.specs.Spelling.{IsSpelling}
use Rattle.worked_tests.proofs.Telling.{cell_stands, cell_spelled}
use Rattle.worked_tests.proofs.walks.load.Goals as goal

pub hear-requires-clause-real : goal.hear-requires-clause-real
hear-requires-clause-real c =
    let few = subst (λ k. c.args.table < k) (ap (λ (n : Machine). n.frames) c.layout.view_is) c.if-table-layout.false in
    let there = cell_stands (sizes_of c.args.layout.now) c.args.table c.args.index c.cell_place.result few c.if-index-ge512.false c.cell_place.ensures in
    there.real

pub hear-requires-clause-small : goal.hear-requires-clause-small
hear-requires-clause-small c =
    let few = subst (λ k. c.args.table < k) (ap (λ (n : Machine). n.frames) c.layout.view_is) c.if-table-layout.false in
    let there = cell_stands (sizes_of c.args.layout.now) c.args.table c.args.index c.cell_place.result few c.if-index-ge512.false c.cell_place.ensures in
    subst (λ (p : Place). IsSpelling c.args.layout.now p c.args.word) (sym there.at) (cell_spelled c.args.layout.now c.args.table c.args.index c.args.word c.ranges.word.fits)

pub hear-requires-clause-awaits : goal.hear-requires-clause-awaits
hear-requires-clause-awaits c =
    let few = subst (λ k. c.args.table < k) (ap (λ (n : Machine). n.frames) c.layout.view_is) c.if-table-layout.false in
    let there = cell_stands (sizes_of c.args.layout.now) c.args.table c.args.index c.cell_place.result few c.if-index-ge512.false c.cell_place.ensures in
    let flying : c.args.t.now.flight ≡ Some c.in-Some.flight = sym c.flight.ensures ∙ c.in-Some.is in (
      c.args.table,
      c.args.index,
      there.at,
      record {
        flight = c.in-Some.flight;
        flying = flying;
        free = c.if-flight.false;
        table = c.if-flight-table.false;
        frame = few;
        index = c.if-index-ge512.false;
      },
    )
