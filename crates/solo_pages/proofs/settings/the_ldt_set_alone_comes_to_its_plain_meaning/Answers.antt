use Rattle.solo_pages.proofs.Tables.{ldt_comes}
use Rattle.solo_pages.proofs.settings.the_ldt_set_alone_comes_to_its_plain_meaning.Goals as goal

pub returns : goal.returns
returns c = ldt_comes c.alone_stays.ensures
