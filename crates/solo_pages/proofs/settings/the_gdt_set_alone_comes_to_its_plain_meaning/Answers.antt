use Rattle.solo_pages.proofs.Tables.{gdt_comes}
use Rattle.solo_pages.proofs.settings.the_gdt_set_alone_comes_to_its_plain_meaning.Goals as goal

pub returns : goal.returns
returns c = gdt_comes c.alone_stays.ensures c.a_call_alone_is_neither_lost_nor_busy.ensures c.nobody_is_waited_for.ensures
