use Rattle.solo_entries.proofs.Mapping.{map_set}
use Rattle.solo_entries.proofs.exchanges.a_machine_to_physical_update_comes_to_its_plain_meaning.Goals as goal

pub returns : goal.returns
returns c v w x owner f gpfn answer clean rests found plain =
    map_set
    (record {
      stays = c.alone_stays.ensures;
      neither = c.a_call_alone_is_neither_lost_nor_busy.ensures;
      nobody = c.nobody_is_waited_for.ensures;
      releases = c.a_release_leaves_what_the_plain_one_leaves.ensures;
      pauses = c.a_paused_release_leaves_the_rest.ensures;
      first = c.a_first_call_alone_is_paused_by_the_gate_or_comes_to_its_plain_meaning.ensures;
      later = c.a_call_alone_behind_paused_ones_is_paused_by_the_gate_or_comes_to_its_plain_meaning.ensures;
      kept = c.paused_calls_leave_a_kept_table.ensures.leaves;
    })
    v w x owner f gpfn answer clean rests found plain
