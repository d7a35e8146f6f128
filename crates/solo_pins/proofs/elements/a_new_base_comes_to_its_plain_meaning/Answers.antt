use Rattle.mmuext_ops.specs.declared.element.Element.TheVariants.{NewBase, NewUserBase}
use Rattle.solo_pins.proofs.elements.a_new_base_comes_to_its_plain_meaning.Goals as goal

pub returns-clause-kernel : goal.returns-clause-kernel
returns-clause-kernel c v w x d f awaited answers answer own lives start settled fair a = c.an_element_on_tables_comes_to_its_plain_meaning.ensures v w x d (NewBase f) awaited answers answer tt own lives start settled fair a

pub returns-clause-user : goal.returns-clause-user
returns-clause-user c v w x d f awaited answers answer own lives start settled fair a = c.an_element_on_tables_comes_to_its_plain_meaning.ensures v w x d (NewUserBase f) awaited answers answer tt own lives start settled fair a
