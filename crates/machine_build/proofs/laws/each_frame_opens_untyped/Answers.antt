use Rattle.machine_build.proofs.RefLaws.{kind_reads_as}
use Rattle.machine_build.proofs.laws.each_frame_opens_untyped.Goals as goal

pub returns : goal.returns
returns c = kind_reads_as
