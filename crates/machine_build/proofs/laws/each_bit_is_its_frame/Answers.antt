use Rattle.machine_build.proofs.MapLaws.{each_bit, map_word-lt}
use Rattle.machine_build.proofs.laws.each_bit_is_its_frame.Goals as goal

pub returns : goal.returns
returns c = record { bit = each_bit; rest = map_word-lt }
