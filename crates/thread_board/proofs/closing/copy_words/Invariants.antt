use Rattle.std.proofs.Common.{◌≡◌, ◌++◌, length, take, drop}
use Rattle.std.specs.Slots.{slots_items}
use Rattle.thread_board.proofs.closing.copy_words.Given as goal

abbrev pub invariant-loop-place : goal.invariant-loop-place
invariant-loop-place l = record {
  words : l.words ≡ take l.place (slots_items l.closed.words) ++ drop l.place l.fn.words;
  count : length l.words ≡ length l.fn.words;
}
