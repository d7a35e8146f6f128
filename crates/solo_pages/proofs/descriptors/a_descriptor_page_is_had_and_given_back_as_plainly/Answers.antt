use Rattle.solo_pages.proofs.Given.{desc_given, desc_had}
use Rattle.solo_pages.proofs.descriptors.a_descriptor_page_is_had_and_given_back_as_plainly.Goals as goal

pub returns-clause-had : goal.returns-clause-had
returns-clause-had c = desc_had

pub returns-clause-given : goal.returns-clause-given
returns-clause-given c = desc_given
