use Rattle.std.proofs.Common.{◌≡◌, ◌≤◌, take, length}
use Rattle.edge_tests.proofs.machines.short_list.Given as goal

abbrev pub invariant-loop-item : goal.invariant-loop-item
invariant-loop-item _ l = (l.list.items ≡ take l.item-index l.items) × (length l.items ≤ 16)
