use Rattle.std.proofs.Common.{sym, subst}
use Rattle.xp_words.specs.declared.place.Place.{Place}
use Rattle.xp_words.specs.Places.{sizes_of}
use Rattle.xp_board.specs.Spelling.{IsSpelling}
use Rattle.worked_tests.proofs.Telling.{clock_stands, clock_spelled}
use Rattle.worked_tests.proofs.walks.forget.Goals as goal

pub hear-requires-clause-real : goal.hear-requires-clause-real
hear-requires-clause-real c = let there = clock_stands (sizes_of c.args.layout.now) in there.real

pub hear-requires-clause-small : goal.hear-requires-clause-small
hear-requires-clause-small c =
    let there = clock_stands (sizes_of c.args.layout.now) in
    subst (λ (p : Place). IsSpelling c.args.layout.now p 5) (sym there.at) (clock_spelled c.args.layout.now)
