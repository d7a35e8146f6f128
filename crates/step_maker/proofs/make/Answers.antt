use Rattle.std.proofs.Common.{ap, ◌∙◌, subst, IsTrue, sym}
use Rattle.xp_words.specs.Machine.{Machine}
use Rattle.xp_words.specs.Places.{is_place, number, sizes_of}
use Rattle.step_maker.proofs.Moving.{legal_there, moves_there}
use Rattle.step_maker.proofs.make.Goals as goal

pub place-at-requires : goal.place-at-requires
place-at-requires g c = subst (λ (n : Machine). IsTrue (is_place (sizes_of n) c.args.place)) (sym c.layout.ensures.layout) c.requires.place

pub step-requires : goal.step-requires
step-requires g c =
    legal_there (g.P.Port.value c.args.port.now) c.args.place c.args.act c.args.kind c.args.mark c.place-at.result c.requires
    (c.place-at.ensures ∙ ap (λ (n : Machine). number (sizes_of n) c.args.place) c.layout.ensures.layout)

pub returns : goal.returns
returns g c =
    moves_there (g.P.Port.value c.args.port.now) c.args.place c.args.act c.args.kind c.args.mark c.place-at.result c.requires
    (c.place-at.ensures ∙ ap (λ (n : Machine). number (sizes_of n) c.args.place) c.layout.ensures.layout)
    _ c.step.result c.step.ensures.found c.step.ensures.own c.step.ensures.told c.step.ensures.value
