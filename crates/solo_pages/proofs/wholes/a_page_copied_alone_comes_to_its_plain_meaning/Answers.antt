use Rattle.solo_pages.proofs.Wholly.{copy_comes}
use Rattle.solo_pages.proofs.wholes.a_page_copied_alone_comes_to_its_plain_meaning.Goals as goal

pub returns : goal.returns
returns c = copy_comes c.alone_stays.ensures c.a_call_alone_is_neither_lost_nor_busy.ensures c.nobody_is_waited_for.ensures
