use Rattle.trace_lines.proofs.FarPlaces.{far_is_position}
use Rattle.trace_lines.proofs.words.far_place_of.Goals as goal

pub returns : goal.returns
returns c = far_is_position c.args.byte c.args.bytes.now _ c.memchr.ensures
