use Rattle.std.proofs.Common.{◌∙◌, false, refl, sym}
use Rattle.xp_board.specs.declared.step.Act.TheVariants.{Load}
use Rattle.tlb_walks.specs.Guesting.{barred, cached}
use Rattle.tlb_walks.proofs.Guests.{cell_at, may_read_cached}
use Rattle.tlb_walks.proofs.accesses.read_word.Goals as goal

pub returns-in-Some : goal.returns-in-Some
returns-in-Some g c = barred c.in-Some.refusal (sym c.refused_access.ensures ∙ c.in-Some.is) refl

pub load_guest-requires-clause-cached : goal.load_guest-requires-clause-cached
load_guest-requires-clause-cached g c = may_read_cached _ c.args.user c.args.va false c.in-Some-serving.item c.requires.ready (sym c.serving.ensures.item ∙ c.in-Some-serving.is)

pub returns-in-Some-serving : goal.returns-in-Some-serving
returns-in-Some-serving g c =
    cached c.in-Some-serving.item c.load_guest.result (sym c.refused_access.ensures ∙ c.in_default.is) (sym c.serving.ensures.item ∙ c.in-Some-serving.is)
    (cell_at _ _ Load _ _ _ _ c.load_guest.result refl c.word_at.ensures.word c.load_guest.ensures.moves) c.load_guest.ensures.hand
