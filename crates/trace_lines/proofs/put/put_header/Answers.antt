use Rattle.std.proofs.Common.{append-nil}
use Rattle.std.specs.Prelude.{decimal}
use Rattle.trace_lines.specs.Spelling.{line_text}
use Rattle.trace_lines.proofs.put.put_header.Goals as goal

pub returns : goal.returns
unfolding line_text
returns c = rw (append-nil (decimal c.args.version)) c.writeln.ensures.bytes
