use Rattle.std.proofs.Common.{◌≡◌, ◌++◌, [], length, vec_len}
use Rattle.thread_board.specs.Values.{AreOf, held_by}
use Rattle.thread_board.proofs.closing.gather.Given as goal

abbrev pub invariant-loop-pass : goal.invariant-loop-pass
invariant-loop-pass l = record {
  table : l.all.table_id ≡ l.shared.table_id;
  from : l.all.me.0.from ≡ length l.passes.items;
  hands : held_by l.fn.passes.items ≡ held_by l.passes.items ++ l.all.me.0.hands;
  slots : l.all.me.1 ≡ [];
  own : AreOf l.shared.table_id l.passes.items;
}

abbrev pub decreases-loop-pass : goal.decreases-loop-pass
decreases-loop-pass l = vec_len l.passes
