use Rattle.std.proofs.Common.{IsTrue, sym, subst}
use Rattle.xp_words.specs.Machine.{Machine}
use Rattle.xp_words.specs.Places.{is_place, sizes_of}
use Rattle.xp_words.specs.declared.place.Place.TheVariants.{Refs}
use Rattle.xp_board.proofs.Numbers.{refs_there}
use Rattle.domain_destroy.proofs.marks.lost_reference.Goals as goal

pub place-place-requires : goal.place-place-requires
place-place-requires g c = subst (λ (n : Machine). IsTrue (is_place (sizes_of n) (Refs c.args.frame))) (sym c.layout.ensures.layout) (refs_there (sizes_of (g.P.Port.value c.args.port.now).post.machine) c.args.frame c.requires)
