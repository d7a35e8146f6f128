use Rattle.machine_image.proofs.Whole.{no_fault}
use Rattle.machine_image.proofs.laws.bytes_without_fault_are_an_image.Goals as goal

pub returns : goal.returns
returns c = λ bytes small none. no_fault bytes (record { small = small }) none
