use Rattle.solo_memory.proofs.Extending.{comes_extent}
use Rattle.solo_memory.proofs.extents.the_rest_of_an_extent_alone_comes_to_its_plain_meaning.Goals as goal

pub returns : goal.returns
returns c v w x size call k extent from left answer clean some fair few a = comes_extent c.alone_stays.ensures v w x size call k extent from left answer clean some fair.clock few a
