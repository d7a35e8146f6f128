use Rattle.std.proofs.Common.{[], ◌∷◌, refl, ap, sym, ◌∙◌, subst}
use Rattle.trace_text.specs.WellFormed.{IsWellFormed}
use Rattle.trace_gen.proofs.WellMade.{well_made}
use Rattle.trace_gen.proofs.whole.generate.Goals as goal

pub returns-clause-generates : goal.returns-clause-generates
returns-clause-generates c =
    let owned = c.new.ensures ∙ c.in_ok-from_array.ensures.items in
    let cells = c.new-3.ensures ∙ c.new-2.ensures.items in
    let scripts = c.new-4.ensures ∙ c.in_ok-from_array-2.ensures.items ∙ ap (λ s. s ∷ []) c.in_ok-script.ensures in
    let turns = c.new-5.ensures ∙ c.in_ok-from_array-3.ensures.items in
    rw (c.machine.ensures, owned, cells, scripts, turns) refl

pub returns-clause-well : goal.returns-clause-well
returns-clause-well c = subst IsWellFormed (sym (returns-clause-generates c)) (well_made _ c.requires.most)
