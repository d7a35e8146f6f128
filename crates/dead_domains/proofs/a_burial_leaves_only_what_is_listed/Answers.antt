use Rattle.dead_domains.proofs.Burials.{leaves_only}
use Rattle.dead_domains.proofs.a_burial_leaves_only_what_is_listed.Goals as goal

pub returns : goal.returns
returns c n a b log s d op lines state run real buried =
    leaves_only c.a_life_word_is_as_its_destroyer_left_it.ensures c.each_step_has_its_state.ensures c.every_run_stays_sound.ensures c.a_run_brings_the_stopped_nothing.ensures c.others_hold_what_the_dead_leave.ensures n a b log s d op
    lines state run real buried
