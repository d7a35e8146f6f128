use Rattle.std.proofs.Common.{subst, arith}
use Rattle.solo_ports.specs.Standing.{whose}
use Rattle.solo_memory.specs.Extents.{ComesExtent}
use Rattle.solo_memory.proofs.Extending.{comes_extent, whole_extent}
use Rattle.solo_memory.proofs.extents.an_extent_alone_comes_to_its_plain_meaning.Goals as goal

pub returns : goal.returns
returns c v w x size call k extent left answer clean some fair a =
    subst (λ o. ComesExtent call k w o answer) (whole_extent (whose v) size call k extent x) (comes_extent c.alone_stays.ensures v w x size call k extent 0 left answer clean some fair.clock (omega arith) a)
