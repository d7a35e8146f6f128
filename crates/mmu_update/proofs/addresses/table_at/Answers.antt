use Rattle.std.proofs.Common.{refl, sym, ◌∙◌}
use Rattle.mmu_update.specs.Addresses.{barred, based}
use Rattle.mmu_update.proofs.addresses.table_at.Goals as goal

pub returns-in-Some : goal.returns-in-Some
returns-in-Some g c = record { leads = barred c.in-Some.refusal (sym c.refused_walk.ensures ∙ c.in-Some.is) refl refl }

pub returns : goal.returns
returns g c = record { leads = based (g.P.Port.value c.look_base-base.new.port) c.look_base-base.result (sym c.refused_walk.ensures ∙ c.in_default.is) c.if-base-eq0.false c.look_base-base.ensures.moves c.descend.ensures.path }
