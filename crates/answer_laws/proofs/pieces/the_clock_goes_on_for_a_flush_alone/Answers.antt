use Rattle.answer_laws.proofs.Fitting.{clock_flushed}
use Rattle.answer_laws.proofs.pieces.the_clock_goes_on_for_a_flush_alone.Goals as goal

pub returns : goal.returns
returns c = clock_flushed
