use Rattle.xp_words.specs.Places.{sizes_of}
use Rattle.xp_board.proofs.Returned.{name_known, entry_known, settled_known}
use Rattle.xp_board.proofs.sanity.what_comes_back_is_known_live.Goals as goal

pub returns-clause-word : goal.returns-clause-word
returns-clause-word c n = name_known (sizes_of n)

pub returns-clause-entry : goal.returns-clause-entry
returns-clause-entry c n = entry_known (sizes_of n)

pub returns-clause-settled : goal.returns-clause-settled
returns-clause-settled c = settled_known
