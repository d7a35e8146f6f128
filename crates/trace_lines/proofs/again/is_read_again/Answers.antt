use Rattle.trace_lines.proofs.LineAgain.{again, feedless, uncommented}
use Rattle.trace_lines.proofs.again.is_read_again.Goals as goal

pub returns : goal.returns
returns c = record { again = again c.args.version c.args.line.now c.requires; whole = feedless c.args.version c.args.line.now c.requires; plain = uncommented c.args.line.now }
