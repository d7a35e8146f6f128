use Rattle.machine_build.proofs.RefLaws.{reads_as}
use Rattle.machine_build.proofs.laws.each_frame_opens_owned_or_free.Goals as goal

pub returns : goal.returns
returns c = reads_as
