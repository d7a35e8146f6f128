use Rattle.std.proofs.Common.{◌≡◌, ◌++◌, string_bytes}
use Rattle.machine_draw.specs.Drawing.{cluster_texts}
use Rattle.machine_draw.proofs.whole.put_clusters.Given as goal

abbrev pub invariant-loop-domain : goal.invariant-loop-domain
invariant-loop-domain l = string_bytes l.out ≡ string_bytes l.initial.out ++ cluster_texts l.picture l.domain
