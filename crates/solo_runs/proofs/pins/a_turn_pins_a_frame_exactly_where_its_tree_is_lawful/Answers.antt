use Rattle.answer_laws.proofs.Shared.{alone_telling}
use Rattle.solo_runs.proofs.Pinning.{turn_pins}
use Rattle.solo_runs.proofs.pins.a_turn_pins_a_frame_exactly_where_its_tree_is_lawful.Goals as goal

pub returns : goal.returns
returns c d e end v w f level answers begins turn none below =
    turn_pins c.alone_stays.ensures c.a_pin_is_done_exactly_where_its_tree_is_lawful.ensures d e end v w f level answers begins turn none (c.a_clock_below_its_last_value_was_never_there.ensures v w (alone_telling v begins.alone) below)
