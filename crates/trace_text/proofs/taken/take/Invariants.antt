use Rattle.std.proofs.Common.{◌≡◌, ℕ, ◌<◌, ◌||◌, ◌&&◌, nat_le, nat_lt, false, length, slice_index_or}
use Rattle.trace_text.proofs.taken.take.Given as goal

abbrev pub invariant-loop-at : goal.invariant-loop-at
invariant-loop-at l = record {
  each : length l.taken.items ≡ length l.initial.taken.items;
  are : (k : ℕ) → k < length l.initial.taken.items → slice_index_or l.taken.items k false ≡ (slice_index_or l.initial.taken.items k false || (nat_le l.first k && nat_lt k l.at));
}
