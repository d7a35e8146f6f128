use Rattle.std.proofs.Common.{inl}
use Rattle.mmuext_ops.specs.declared.element.Element.TheVariants.{Unpin}
use Rattle.solo_pins.proofs.elements.an_unpin_comes_to_its_plain_meaning.Goals as goal

pub returns : goal.returns
returns c v w x d f awaited answers answer own lives clean settled fair a = c.an_element_on_tables_comes_to_its_plain_meaning.ensures v w x d (Unpin f) awaited answers answer tt own lives (inl clean) settled fair a
