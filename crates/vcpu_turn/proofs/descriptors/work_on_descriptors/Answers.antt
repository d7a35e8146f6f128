use Rattle.std.proofs.Common.{refl}
use Rattle.vcpu_turn.proofs.Staying.{kept_warm}
use Rattle.vcpu_turn.proofs.descriptors.work_on_descriptors.Goals as goal

pub returns-in_err-set_gdt-in-Gdt-clause-warm : goal.returns-in_err-set_gdt-in-Gdt-clause-warm
returns-in_err-set_gdt-in-Gdt-clause-warm g c = kept_warm _ _ c.set_gdt.ensures.came c.set_gdt.ensures.hand c.requires.warm

pub returns-in_err-update_descriptor-in-Descriptor-clause-warm : goal.returns-in_err-update_descriptor-in-Descriptor-clause-warm
returns-in_err-update_descriptor-in-Descriptor-clause-warm g c = kept_warm _ _ c.update_descriptor.ensures.came c.update_descriptor.ensures.hand c.requires.warm

pub returns-in_ok-set_gdt-in-Gdt-clause-warm : goal.returns-in_ok-set_gdt-in-Gdt-clause-warm
returns-in_ok-set_gdt-in-Gdt-clause-warm g c = kept_warm _ _ c.set_gdt.ensures.came c.set_gdt.ensures.hand c.requires.warm

pub returns-in_ok-update_descriptor-in-Descriptor-clause-warm : goal.returns-in_ok-update_descriptor-in-Descriptor-clause-warm
returns-in_ok-update_descriptor-in-Descriptor-clause-warm g c = kept_warm _ _ c.update_descriptor.ensures.came c.update_descriptor.ensures.hand c.requires.warm

pub returns-in_ok-set_gdt-in-Gdt-clause-works : goal.returns-in_ok-set_gdt-in-Gdt-clause-works
returns-in_ok-set_gdt-in-Gdt-clause-works g c = rw c.in-Gdt.is (record { done = refl; no_ask = refl; does = c.in_ok-set_gdt-in-Gdt.ensures })
