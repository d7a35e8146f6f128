use Rattle.std.proofs.Common.{inl, inr, refl}
use Rattle.entry_exchange.specs.Asking.{of_exchange}
use Rattle.solo_entries.proofs.Known.{Known}
use Rattle.solo_entries.proofs.Stopping.{never_lost_alone}
use Rattle.solo_entries.proofs.Writing.{exchange_ends}
use Rattle.solo_entries.proofs.exchanges.an_exchange_in_one_turn_comes_to_the_plain_one.Goals as goal

pub returns : goal.returns
returns c y w t o q answers answer machine alone only calm first d held low high goes went stops off =
    let k : Known =
    record {
      stays = c.alone_stays.ensures;
      neither = c.a_call_alone_is_neither_lost_nor_busy.ensures;
      nobody = c.nobody_is_waited_for.ensures;
      releases = c.a_release_leaves_what_the_plain_one_leaves.ensures;
      pauses = c.a_paused_release_leaves_the_rest.ensures;
      first = c.a_first_call_alone_is_paused_by_the_gate_or_comes_to_its_plain_meaning.ensures;
      later = c.a_call_alone_behind_paused_ones_is_paused_by_the_gate_or_comes_to_its_plain_meaning.ensures;
      kept = c.paused_calls_leave_a_kept_table.ensures.leaves;
    } in
    elim (exchange_ends k y w t o q machine alone only calm first d held low high goes answers answer (never_lost_alone k y w (of_exchange t o answer) answer alone refl stops) went) [
      | inl p ↦ absurd (off p.paused.paused)
      | inr e ↦ e.comes
    ]
