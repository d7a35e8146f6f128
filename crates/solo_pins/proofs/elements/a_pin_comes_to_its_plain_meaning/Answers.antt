use Rattle.mmuext_ops.specs.declared.element.Element.TheVariants.{Pin}
use Rattle.solo_pins.proofs.elements.a_pin_comes_to_its_plain_meaning.Goals as goal

pub returns : goal.returns
returns c v w x d f level awaited answers answer low high own lives start settled fair a = c.an_element_on_tables_comes_to_its_plain_meaning.ensures v w x d (Pin f level) awaited answers answer (low, high) own lives start settled fair a
