use Rattle.std.proofs.Common.{◌≡◌, ◌≤◌, length, vec_len, ◌-◌}
use Rattle.std.specs.Io.KnownBytes.{Consumes}
use Rattle.xp_io.proofs.whole.read_into.Given as goal

abbrev pub invariant-loop-piece : goal.invariant-loop-piece
invariant-loop-piece g l = record {
  taken : Consumes (g.S.Source.left l.initial.source) (g.S.Source.left l.source) (g.K.Keeper.kept l.keeper);
  within : length (g.K.Keeper.kept l.keeper) ≤ l.limit;
  kept : g.S.Source.faults l.source ≡ g.S.Source.faults l.initial.source;
  room : vec_len l.piece ≡ 65536;
}

abbrev pub decreases-loop-piece : goal.decreases-loop-piece
decreases-loop-piece g l = l.limit - length (g.K.Keeper.kept l.keeper)
