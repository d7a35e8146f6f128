use Rattle.solo_accesses.proofs.Touching.{touch_unwalked, touch_walked}
use Rattle.solo_accesses.proofs.walks.a_touched_page_is_walked_to_the_plain_way.Goals as goal

pub returns-clause-refused : goal.returns-clause-refused
returns-clause-refused c v w x d page b e clean within course = touch_unwalked c.alone_stays.ensures v w x clean d page b within e course

pub returns-clause-led : goal.returns-clause-led
returns-clause-led c v w x d page b entry clean within course = touch_walked c.alone_stays.ensures v w x clean d page b within entry course
