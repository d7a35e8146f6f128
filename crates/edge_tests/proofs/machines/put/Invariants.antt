use Rattle.std.proofs.Common.{◌≡◌, vec_len}
use Rattle.edge_tests.proofs.machines.put.Given as goal

abbrev pub invariant-loop-place : goal.invariant-loop-place
invariant-loop-place l = vec_len l.words ≡ vec_len l.initial.words
