use Rattle.std.proofs.Common.{◌≡◌, ◌-◌, [], length, replicate}
use Rattle.std.specs.Vec.{vec_capacity}
use Rattle.xp_board.specs.Hands.{empty}
use Rattle.thread_board.specs.Values.{AreOpened}
use Rattle.thread_board.proofs.board.deal.Given as goal

abbrev pub invariant-loop-vcpu : goal.invariant-loop-vcpu
invariant-loop-vcpu l = record {
  table : l.rest.table_id ≡ l.shared.table_id;
  view : l.rest.me ≡ (record { from = l.vcpu; hands = replicate (l.vcpus - l.vcpu) empty }, []);
  room : vec_capacity l.passes ≡ vec_capacity l.fn.passes;
  count : length l.passes.items ≡ l.vcpu;
  passes : AreOpened l.shared.table_id l.passes.items;
}
