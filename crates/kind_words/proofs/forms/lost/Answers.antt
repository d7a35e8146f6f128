use Rattle.std.proofs.Common.{◌<◌, sym, subst}
use Rattle.xp_words.specs.Machine.{Machine}
use Rattle.xp_words.specs.Places.{sizes_of}
use Rattle.kind_words.proofs.RowSteps.{kind_there}
use Rattle.kind_words.proofs.forms.lost.Goals as goal

pub place-place-requires : goal.place-place-requires
place-place-requires g c = kind_there (sizes_of c.layout.result.now) c.args.frame (subst (λ (n : Machine). c.args.frame < n.frames) (sym c.layout.ensures.layout) c.requires)
