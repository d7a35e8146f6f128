use Rattle.std.proofs.Common.{◌≡◌, ◌≤◌, ◌-◌, length, take}
use Rattle.std.specs.Io.KnownBytes.{Appends}
use Rattle.machine_image.specs.Image.{numbers_bytes}
use Rattle.machine_image.proofs.write.write_words.Given as goal

abbrev pub invariant-loop-place : goal.invariant-loop-place
invariant-loop-place g l = record {
  same : g.K.Sink.faults l.sink ≡ g.K.Sink.faults l.initial.sink;
  written : Appends (g.K.Sink.taken l.initial.sink) (g.K.Sink.taken l.sink) (numbers_bytes (take l.place l.words));
  inside : l.place ≤ length l.words;
  room : 8 ≤ length l.piece;
}

abbrev pub decreases-loop-place : goal.decreases-loop-place
decreases-loop-place g l = length l.words - l.place
