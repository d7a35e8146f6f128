use Rattle.solo_pages.proofs.Touched.{touch_comes}
use Rattle.solo_pages.proofs.touches.a_page_of_the_ldt_touched_alone_comes_to_its_plain_meaning.Goals as goal

pub returns : goal.returns
returns c = touch_comes c.alone_stays.ensures c.a_call_alone_is_neither_lost_nor_busy.ensures c.nobody_is_waited_for.ensures
