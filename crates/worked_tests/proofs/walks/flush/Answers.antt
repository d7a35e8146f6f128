use Rattle.std.proofs.Common.{sym, subst, arith}
use Rattle.xp_words.specs.declared.place.Place.{Place}
use Rattle.xp_words.specs.Places.{sizes_of}
use Rattle.xp_board.specs.Spelling.{IsSpelling}
use Rattle.worked_tests.proofs.Telling.{vcpu_stands, flushed_spelled}
use Rattle.worked_tests.proofs.walks.flush.Goals as goal

pub hear-requires-clause-real : goal.hear-requires-clause-real
hear-requires-clause-real c = let there = vcpu_stands (sizes_of c.args.layout.now) 0 5 c.vcpu_place.result c.requires.some_vcpus (omega arith) c.vcpu_place.ensures in there.real

pub hear-requires-clause-small : goal.hear-requires-clause-small
hear-requires-clause-small c =
    let there = vcpu_stands (sizes_of c.args.layout.now) 0 5 c.vcpu_place.result c.requires.some_vcpus (omega arith) c.vcpu_place.ensures in
    subst (λ (p : Place). IsSpelling c.args.layout.now p 0) (sym there.at) (flushed_spelled c.args.layout.now 0 0 (omega arith))
