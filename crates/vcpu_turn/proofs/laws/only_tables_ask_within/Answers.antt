use Rattle.vcpu_turn.proofs.PairTurns.{silent_counts, silent_within, turn_silent}
use Rattle.vcpu_turn.proofs.laws.only_tables_ask_within.Goals as goal

pub returns-clause-tables : goal.returns-clause-tables
returns-clause-tables g c d op foreign pairs end v w answers next built turn = turn_silent foreign pairs c d op end v w answers next built turn

pub returns-clause-counts : goal.returns-clause-counts
returns-clause-counts g c d op foreign pairs end v w answers next built turn off = silent_counts c d op foreign pairs end v w answers next built turn off

pub returns-clause-stops : goal.returns-clause-stops
returns-clause-stops g c d op foreign pairs end v w before answers says next built turn off gives j some less is_yes =
    silent_within c d op foreign pairs end v w answers next built turn off before says gives j some less is_yes
