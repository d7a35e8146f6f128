use Rattle.trace_text.proofs.Known.{read_is_known}
use Rattle.trace_text.proofs.read.read_line.Goals as goal

pub returns-clause-known : goal.returns-clause-known
returns-clause-known c = read_is_known c.args.version c.args.line.now c.line_of.result c.line_of.ensures
