use Rattle.solo_deaths.proofs.Ending.{comes_dying}
use Rattle.solo_deaths.proofs.deaths.a_destruction_comes_to_its_plain_meaning.Goals as goal

pub returns : goal.returns
returns c v w x d op at to before log made o answers answer clean goes a =
    comes_dying c.alone_stays.ensures c.a_call_alone_is_neither_lost_nor_busy.ensures c.a_release_leaves_what_the_plain_one_leaves.ensures c.a_paused_release_leaves_the_rest.ensures v x clean d op at before log o goes w to made answers answer a
