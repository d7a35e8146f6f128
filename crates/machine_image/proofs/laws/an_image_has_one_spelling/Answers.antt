use Rattle.machine_image.proofs.Whole.{one_spelling}
use Rattle.machine_image.proofs.laws.an_image_has_one_spelling.Goals as goal

pub returns : goal.returns
returns c = one_spelling
