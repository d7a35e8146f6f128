use Rattle.std.proofs.Common.{sym, ◌∙◌, subst}
use Rattle.mmu_update.specs.Plain.{TwinUpdate}
use Rattle.mmu_update.specs.declared.element.Element.TheVariants.{Write}
use Rattle.mmu_update.proofs.Plainly.{updated_plain}
use Rattle.mmu_update.proofs.Updating.{map_course, map_kinds, map_serves, misaligned_course, unknown_course}
use Rattle.mmu_update.proofs.elements.update.Goals as goal

pub returns-in-SetM2p-clause-serves : goal.returns-in-SetM2p-clause-serves
returns-in-SetM2p-clause-serves g c = map_serves (g.P.Port.value c.args.port.now) (g.P.Port.value c.set_m2p.new.port) c.args.owners _ c.in-SetM2p.frame c.in-SetM2p.gpfn (sym c.element_of.ensures ∙ c.in-SetM2p.is) c.set_m2p.result c.set_m2p.ensures.serves

pub returns-in-SetM2p-clause-kinds : goal.returns-in-SetM2p-clause-kinds
returns-in-SetM2p-clause-kinds g c = map_kinds (g.P.Port.value c.args.port.now) (g.P.Port.value c.set_m2p.new.port) c.args.owners _ c.in-SetM2p.frame c.in-SetM2p.gpfn (sym c.element_of.ensures ∙ c.in-SetM2p.is) c.set_m2p.result c.set_m2p.ensures.found

pub returns-in-SetM2p-clause-course : goal.returns-in-SetM2p-clause-course
returns-in-SetM2p-clause-course g c = map_course (g.P.Port.value c.args.port.now) (g.P.Port.value c.set_m2p.new.port) c.args.owners _ c.in-SetM2p.frame c.in-SetM2p.gpfn (sym c.element_of.ensures ∙ c.in-SetM2p.is) c.set_m2p.result c.set_m2p.ensures.found c.set_m2p.ensures.plain

pub returns-in-Misaligned-clause-course : goal.returns-in-Misaligned-clause-course
returns-in-Misaligned-clause-course g c = misaligned_course (g.P.Port.value c.args.port.now) c.args.owners _ (sym c.element_of.ensures ∙ c.in-Misaligned.is)

pub returns-in-Unknown-clause-course : goal.returns-in-Unknown-clause-course
returns-in-Unknown-clause-course g c = unknown_course (g.P.Port.value c.args.port.now) c.args.owners _ (sym c.element_of.ensures ∙ c.in-Unknown.is)

pub returns-in-SetM2p-clause-plain : goal.returns-in-SetM2p-clause-plain
returns-in-SetM2p-clause-plain g c = updated_plain (g.P.Port.value c.args.port.now) (g.P.Port.value c.set_m2p.new.port) c.args.owners _ _ _ (returns-in-SetM2p-clause-course g c).course

pub returns-in-Misaligned-clause-plain : goal.returns-in-Misaligned-clause-plain
returns-in-Misaligned-clause-plain g c = updated_plain (g.P.Port.value c.args.port.now) (g.P.Port.value c.args.port.now) c.args.owners _ _ _ (returns-in-Misaligned-clause-course g c).course

pub returns-in-Unknown-clause-plain : goal.returns-in-Unknown-clause-plain
returns-in-Unknown-clause-plain g c = updated_plain (g.P.Port.value c.args.port.now) (g.P.Port.value c.args.port.now) c.args.owners _ _ _ (returns-in-Unknown-clause-course g c).course

pub returns-in-Write-clause-plain : goal.returns-in-Write-clause-plain
returns-in-Write-clause-plain g c =
    let v = g.P.Port.value c.args.port.now in
    let w = g.P.Port.value c.write_word.new.port in
    subst (λ e. TwinUpdate v w c.args.owners e c.write_word.result) (sym (sym c.element_of.ensures ∙ c.in-Write.is)) (updated_plain v w c.args.owners (Write c.in-Write.frame c.in-Write.index c.in-Write.word c.in-Write.keep) _ _ c.write_word.ensures.course.course)
