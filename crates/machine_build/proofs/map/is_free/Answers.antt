use Rattle.std.proofs.Common.{◌<◌, arith}
use Rattle.machine_build.proofs.Steps.{zero_word}
use Rattle.machine_build.proofs.map.is_free.Goals as goal

pub returns-then-frame-layout : goal.returns-then-frame-layout
returns-then-frame-layout c = let below : c.args.frame < c.args.layout.now.frames = grind arith in rw c.get.ensures (zero_word _ _ _ _ below c.refs_place.ensures)
