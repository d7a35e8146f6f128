use Rattle.std.proofs.Common.{◌∙◌, refl, sym}
use Rattle.xp_board.specs.declared.step.Act.TheVariants.{Store}
use Rattle.tlb_walks.specs.Guesting.{barred, cached}
use Rattle.tlb_walks.proofs.Guests.{cell_at, may_store_cached}
use Rattle.tlb_walks.proofs.accesses.write_word.Goals as goal

pub returns-in-Some : goal.returns-in-Some
returns-in-Some g c = barred c.in-Some.refusal (sym c.refused_access.ensures ∙ c.in-Some.is) refl

pub store_guest-requires-clause-cached : goal.store_guest-requires-clause-cached
store_guest-requires-clause-cached g c = may_store_cached _ c.args.user c.args.va c.in-Some-serving.item c.requires.ready (sym c.serving.ensures.item ∙ c.in-Some-serving.is)

pub returns-in-Some-serving : goal.returns-in-Some-serving
returns-in-Some-serving g c =
    cached c.in-Some-serving.item c.store_guest.result (sym c.refused_access.ensures ∙ c.in_default.is) (sym c.serving.ensures.item ∙ c.in-Some-serving.is)
    (cell_at _ _ (Store c.args.val) _ _ _ _ c.store_guest.result refl c.word_at.ensures.word c.store_guest.ensures.moves) c.store_guest.ensures.hand
