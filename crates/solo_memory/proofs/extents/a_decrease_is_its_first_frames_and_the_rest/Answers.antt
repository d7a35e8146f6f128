use Rattle.solo_memory.proofs.Extending.{rest_extent}
use Rattle.solo_memory.proofs.extents.a_decrease_is_its_first_frames_and_the_rest.Goals as goal

pub returns : goal.returns
returns c w size call k first from x few = rest_extent w size call k first from x few
