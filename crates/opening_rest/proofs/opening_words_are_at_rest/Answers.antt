use Rattle.opening_rest.proofs.Opening.{nothing_left}
use Rattle.opening_rest.proofs.opening_words_are_at_rest.Goals as goal

pub returns-clause-left : goal.returns-clause-left
returns-clause-left c t words formed opens = nothing_left t words opens

pub returns-clause-rest : goal.returns-clause-rest
returns-clause-rest c t words formed opens = c.words_are_at_rest_where_nothing_is_left.ensures _ _ _ (c.opening_words_are_sound.ensures t words formed opens).sound (nothing_left t words opens)
