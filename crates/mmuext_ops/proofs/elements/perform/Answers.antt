use Rattle.std.proofs.Common.{Some, refl, sym, ◌∙◌}
use Rattle.xp_preempt.proofs.Consulting.{past_none}
use Rattle.table_bases.specs.Asking.{user_frame}
use Rattle.mmuext_ops.proofs.Numbers.{unknown_serves, unknown_stops}
use Rattle.mmuext_ops.proofs.Rests.{spent_undue, wait_undue}
use Rattle.mmuext_ops.proofs.Setting.{base_stops, kernel_serves, user_serves}
use Rattle.mmuext_ops.proofs.Wholes.{clear_serves, copy_serves, ldt_serves, ldt_stops, ldt_undue, whole_undue}
use Rattle.mmuext_ops.proofs.elements.perform.Goals as goal

-- ---- a new base
pub returns-in-NewBase-clause-serves : goal.returns-in-NewBase-clause-serves
returns-in-NewBase-clause-serves g c =
    rw (sym c.element_of.ensures ∙ c.in-NewBase.is)
    (kernel_serves (g.P.Port.value c.args.port.now) (g.P.Port.value c.new_base.new.port) c.args.domain c.in-NewBase.frame c.requires.own c.args.awaited c.new_base.result c.new_base.ensures.serves)

pub returns-in-NewBase-clause-stops : goal.returns-in-NewBase-clause-stops
returns-in-NewBase-clause-stops g c =
    rw (sym c.element_of.ensures ∙ c.in-NewBase.is)
    (base_stops (g.P.Port.value c.args.port.now) (g.P.Port.value c.new_base.new.port) c.args.domain c.in-NewBase.frame c.requires.own c.args.awaited (Some c.in-NewBase.frame) c.new_base.result c.new_base.ensures.stops)

pub returns-in-NewUserBase-clause-serves : goal.returns-in-NewUserBase-clause-serves
returns-in-NewUserBase-clause-serves g c =
    rw (sym c.element_of.ensures ∙ c.in-NewUserBase.is)
    (user_serves (g.P.Port.value c.args.port.now) (g.P.Port.value c.new_user_base.new.port) c.args.domain c.in-NewUserBase.frame c.requires.own c.args.awaited c.new_user_base.result c.new_user_base.ensures.serves)

pub returns-in-NewUserBase-clause-stops : goal.returns-in-NewUserBase-clause-stops
returns-in-NewUserBase-clause-stops g c =
    rw (sym c.element_of.ensures ∙ c.in-NewUserBase.is)
    (base_stops (g.P.Port.value c.args.port.now) (g.P.Port.value c.new_user_base.new.port) c.args.domain c.in-NewUserBase.frame c.requires.own c.args.awaited (user_frame c.in-NewUserBase.frame) c.new_user_base.result c.new_user_base.ensures.stops)

-- ---- own translations are dropped
pub returns-in-FlushLocal-clause-serves : goal.returns-in-FlushLocal-clause-serves
returns-in-FlushLocal-clause-serves g c = rw (sym c.element_of.ensures ∙ c.in-FlushLocal.is) (c.flush_local.ensures.serves c.args.domain)

pub returns-in-FlushLocal-clause-stops : goal.returns-in-FlushLocal-clause-stops
returns-in-FlushLocal-clause-stops g c = rw (sym c.element_of.ensures ∙ c.in-FlushLocal.is) (c.flush_local.ensures.stops c.args.domain)

pub returns-in-FlushLocal-clause-course : goal.returns-in-FlushLocal-clause-course
returns-in-FlushLocal-clause-course g c = rw (sym c.element_of.ensures ∙ c.in-FlushLocal.is) (past_none (spent_undue c.flush_local.result c.flush_local.ensures.kinds) c.flush_local.ensures.course)

pub returns-in-Invalidate-clause-serves : goal.returns-in-Invalidate-clause-serves
returns-in-Invalidate-clause-serves g c = rw (sym c.element_of.ensures ∙ c.in-Invalidate.is) (c.invalidate.ensures.serves c.args.domain)

pub returns-in-Invalidate-clause-course : goal.returns-in-Invalidate-clause-course
returns-in-Invalidate-clause-course g c = rw (sym c.element_of.ensures ∙ c.in-Invalidate.is) (past_none refl c.invalidate.ensures.course)

-- ---- a wait
pub returns-in-FlushVcpus-clause-serves : goal.returns-in-FlushVcpus-clause-serves
returns-in-FlushVcpus-clause-serves g c = rw (sym c.element_of.ensures ∙ c.in-FlushVcpus.is) (c.flush_vcpus.ensures.serves c.args.domain)

pub returns-in-FlushVcpus-clause-stops : goal.returns-in-FlushVcpus-clause-stops
returns-in-FlushVcpus-clause-stops g c = rw (sym c.element_of.ensures ∙ c.in-FlushVcpus.is) (c.flush_vcpus.ensures.stops c.args.domain)

pub returns-in-FlushVcpus-clause-course : goal.returns-in-FlushVcpus-clause-course
returns-in-FlushVcpus-clause-course g c = rw (sym c.element_of.ensures ∙ c.in-FlushVcpus.is) (past_none (wait_undue c.flush_vcpus.result c.flush_vcpus.ensures.kinds) c.flush_vcpus.ensures.course)

-- ---- the LDT
pub returns-in-SetLdt-clause-serves : goal.returns-in-SetLdt-clause-serves
returns-in-SetLdt-clause-serves g c = rw (sym c.element_of.ensures ∙ c.in-SetLdt.is) (ldt_serves c.args.awaited {address = c.in-SetLdt.address} {entries = c.in-SetLdt.entries} c.set_ldt.result c.requires.own c.set_ldt.ensures)

pub returns-in-SetLdt-clause-stops : goal.returns-in-SetLdt-clause-stops
returns-in-SetLdt-clause-stops g c = rw (sym c.element_of.ensures ∙ c.in-SetLdt.is) (ldt_stops c.args.awaited {address = c.in-SetLdt.address} {entries = c.in-SetLdt.entries} c.set_ldt.result c.requires.own c.set_ldt.ensures)

pub returns-in-SetLdt-clause-course : goal.returns-in-SetLdt-clause-course
returns-in-SetLdt-clause-course g c = rw (sym c.element_of.ensures ∙ c.in-SetLdt.is) (past_none (ldt_undue c.set_ldt.result c.set_ldt.ensures.kinds) (refl, c.set_ldt.ensures.course))

-- ---- a page cleared
pub returns-in-ClearPage-clause-serves : goal.returns-in-ClearPage-clause-serves
returns-in-ClearPage-clause-serves g c = rw (sym c.element_of.ensures ∙ c.in-ClearPage.is) (clear_serves c.args.awaited {f = c.in-ClearPage.frame} c.clear_page.result c.clear_page.ensures)

pub returns-in-ClearPage-clause-stops : goal.returns-in-ClearPage-clause-stops
returns-in-ClearPage-clause-stops g c = rw (sym c.element_of.ensures ∙ c.in-ClearPage.is) (c.clear_page.ensures.stops)

pub returns-in-ClearPage-clause-course : goal.returns-in-ClearPage-clause-course
returns-in-ClearPage-clause-course g c = rw (sym c.element_of.ensures ∙ c.in-ClearPage.is) (past_none (whole_undue c.clear_page.result c.clear_page.ensures.kinds) (refl, c.clear_page.ensures.course))

-- ---- a page copied
pub returns-in-CopyPage-clause-serves : goal.returns-in-CopyPage-clause-serves
returns-in-CopyPage-clause-serves g c = rw (sym c.element_of.ensures ∙ c.in-CopyPage.is) (copy_serves c.args.awaited {to = c.in-CopyPage.to} {from = c.in-CopyPage.from} c.copy_page.result c.copy_page.ensures)

pub returns-in-CopyPage-clause-stops : goal.returns-in-CopyPage-clause-stops
returns-in-CopyPage-clause-stops g c = rw (sym c.element_of.ensures ∙ c.in-CopyPage.is) (c.copy_page.ensures.stops)

pub returns-in-CopyPage-clause-course : goal.returns-in-CopyPage-clause-course
returns-in-CopyPage-clause-course g c = rw (sym c.element_of.ensures ∙ c.in-CopyPage.is) (past_none (whole_undue c.copy_page.result c.copy_page.ensures.kinds) (refl, (c.copy_page.ensures.words, c.copy_page.ensures.course)))

-- ---- no element
pub returns-in-Unknown-clause-serves : goal.returns-in-Unknown-clause-serves
returns-in-Unknown-clause-serves g c = rw (sym c.element_of.ensures ∙ c.in-Unknown.is) (unknown_serves (g.P.Port.value c.args.port.now) c.args.domain c.args.awaited)

pub returns-in-Unknown-clause-stops : goal.returns-in-Unknown-clause-stops
returns-in-Unknown-clause-stops g c = rw (sym c.element_of.ensures ∙ c.in-Unknown.is) (unknown_stops (g.P.Port.value c.args.port.now) c.args.domain c.args.awaited)

pub returns-in-Unknown-clause-course : goal.returns-in-Unknown-clause-course
returns-in-Unknown-clause-course g c = rw (sym c.element_of.ensures ∙ c.in-Unknown.is) (past_none refl (refl, refl, refl))
