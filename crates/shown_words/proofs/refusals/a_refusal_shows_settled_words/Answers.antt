use Rattle.shown_words.proofs.Settled.{descriptors_settled, element_settled, extent_settled, mapped_settled, word_settled}
use Rattle.shown_words.proofs.refusals.a_refusal_shows_settled_words.Goals as goal

pub returns-clause-elements : goal.returns-clause-elements
returns-clause-elements c v w d e awaited answers r stands p = element_settled v w d e awaited answers r stands p

pub returns-clause-words : goal.returns-clause-words
returns-clause-words c v w o e answers r stands p = word_settled v w o e answers r stands p

pub returns-clause-mapped : goal.returns-clause-mapped
returns-clause-mapped c v w o va word answers r stands p = mapped_settled v w o va word answers r stands p

pub returns-clause-descriptors : goal.returns-clause-descriptors
returns-clause-descriptors c v w t r stands p = descriptors_settled v w t r stands p

pub returns-clause-extents : goal.returns-clause-extents
returns-clause-extents c v w d size e from to r stands p = extent_settled v w d size e from to r stands p
