use Rattle.answer_laws.proofs.Shared.{alone_telling}
use Rattle.solo_runs.proofs.pins.a_pin_that_leaves_the_clock_room_is_done_exactly_where_its_tree_is_lawful.Goals as goal

pub returns : goal.returns
returns c v w f level answers answer alone only calm low high free pinned none below =
    c.a_pin_is_done_exactly_where_its_tree_is_lawful.ensures v w f level answers answer alone only calm low high free pinned none (c.a_clock_below_its_last_value_was_never_there.ensures v w (alone_telling v alone) below)
