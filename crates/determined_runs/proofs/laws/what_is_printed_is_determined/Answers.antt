use Rattle.trace_text.specs.TraceOf.{trace_of}
use Rattle.determined_runs.proofs.Texts.{answer_same}
use Rattle.determined_runs.proofs.laws.what_is_printed_is_determined.Goals as goal

pub returns : goal.returns
returns c = λ shown gates bytes v w x y one p q. answer_same shown one gates (trace_of bytes) v w x y p q
