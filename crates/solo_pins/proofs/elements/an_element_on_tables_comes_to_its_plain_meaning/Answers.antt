use Rattle.std.proofs.Common.{◌≡◌, subst}
use Rattle.solo_pins.specs.Performing.{IsPerformed}
use Rattle.solo_pins.proofs.Meaning.{element_comes}
use Rattle.solo_pins.proofs.elements.an_element_on_tables_comes_to_its_plain_meaning.Goals as goal

pub returns : goal.returns
returns c v w x d e awaited answers answer on own lives start settled fair a =
    element_comes
    (record {
      stays = c.alone_stays.ensures;
      nobody = c.nobody_is_waited_for.ensures;
      release = c.a_release_leaves_what_the_plain_one_leaves.ensures;
      paused = c.a_paused_release_leaves_the_rest.ensures;
      first = c.a_first_call_alone_is_paused_by_the_gate_or_comes_to_its_plain_meaning.ensures;
      later = c.a_call_alone_behind_paused_ones_is_paused_by_the_gate_or_comes_to_its_plain_meaning.ensures;
      leaves = c.paused_calls_leave_a_kept_table.ensures.leaves;
      dead = c.paused_calls_leave_a_kept_table.ensures.found;
      tells = c.paused_calls_leave_a_kept_table.ensures.telling;
      spares = c.an_acquisition_that_is_had_touches_no_other_words.ensures;
    })
    v w x awaited answers answer (subst (λ b. x.lives b ≡ 0) own lives) settled fair e on start (subst (λ b. IsPerformed v w b e awaited answers answer) own a)
