use Rattle.std.proofs.Common.{refl}
use Rattle.machine_image.specs.Image.{image_of}
use Rattle.machine_image.proofs.Whole.{reads_back}
use Rattle.machine_image.proofs.laws.an_image_reads_back.Goals as goal

pub returns : goal.returns
returns c = λ m ws is. reads_back (image_of m ws) m ws is refl
