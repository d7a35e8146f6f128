use Rattle.std.proofs.Common.{◌≡◌, ◌≤◌, length, take}
use Rattle.std.specs.Vec.{vec_capacity}
use Rattle.thread_board.proofs.board.in_a_row.Given as goal

abbrev pub invariant-loop-place : goal.invariant-loop-place
invariant-loop-place l = record {
  items : l.row.items ≡ take l.place l.words;
  room : length l.words ≤ vec_capacity l.row;
}
