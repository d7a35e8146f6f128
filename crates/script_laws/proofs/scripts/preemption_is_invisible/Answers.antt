use Rattle.solo_entries.proofs.Meaning.{keeps_write_on}
use Rattle.script_laws.proofs.Opening.{script_comes}
use Rattle.script_laws.proofs.scripts.preemption_is_invisible.Goals as goal

pub returns : goal.returns
returns c a d v w x opens turned retired fair fresh =
    script_comes
    (record {
      stays = c.alone_stays.ensures;
      nobody = c.nobody_is_waited_for.ensures;
      release = c.a_release_leaves_what_the_plain_one_leaves.ensures;
      paused = c.a_paused_release_leaves_the_rest.ensures;
      first = c.a_first_call_alone_is_paused_by_the_gate_or_comes_to_its_plain_meaning.ensures;
      later = c.a_call_alone_behind_paused_ones_is_paused_by_the_gate_or_comes_to_its_plain_meaning.ensures;
      leaves = c.paused_calls_leave_a_kept_table.ensures.leaves;
      dead = c.paused_calls_leave_a_kept_table.ensures.found;
      tells = c.paused_calls_leave_a_kept_table.ensures.telling;
      spares = c.an_acquisition_that_is_had_touches_no_other_words.ensures;
    })
    c.a_call_alone_is_neither_lost_nor_busy.ensures (keeps_write_on c.alone_stays.ensures) c.a_pair_comes_to_its_plain_meaning.ensures c.an_update_by_address_comes_to_its_plain_meaning.ensures
    (record {
      elements = c.a_refusal_shows_settled_words.ensures.elements;
      words = c.a_refusal_shows_settled_words.ensures.words;
      mapped = c.a_refusal_shows_settled_words.ensures.mapped;
      descriptors = c.a_refusal_shows_settled_words.ensures.descriptors;
      extents = c.a_refusal_shows_settled_words.ensures.extents;
    })
    c.an_extent_alone_comes_to_its_plain_meaning.ensures a d v w x opens turned retired fair fresh
