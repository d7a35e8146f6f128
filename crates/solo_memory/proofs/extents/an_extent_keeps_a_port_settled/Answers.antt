use Rattle.solo_memory.proofs.Extending.{settled_extent}
use Rattle.solo_memory.proofs.extents.an_extent_keeps_a_port_settled.Goals as goal

pub returns : goal.returns
returns c v w d size extent from left answer a settled = settled_extent v w d size extent from left answer a settled
