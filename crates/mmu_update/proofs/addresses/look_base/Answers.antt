use Rattle.mmu_update.proofs.Leading.{base_few, own_base_there}
use Rattle.mmu_update.proofs.addresses.look_base.Goals as goal

pub look-requires : goal.look-requires
look-requires g c = own_base_there (g.P.Port.value c.args.port.now).post.machine _ c.vcpu-vcpu.ensures.real

pub returns-clause-few : goal.returns-clause-few
returns-clause-few g c = base_few _ _ _ _ c.vcpu-vcpu.ensures.vcpu c.look.ensures
