use Rattle.std.proofs.Common.{◌≡◌, ℕ, ◌<◌}
use Rattle.xp_words.specs.Places.{sizes_of, memory}
use Rattle.xp_board.specs.Readings.{domain_of}
use Rattle.walk_audit.specs.Burials.{IsUnstopped}
use Rattle.walk_audit.proofs.dead.leaves_vcpu.Given as goal

abbrev pub invariant-loop-vcpu : goal.invariant-loop-vcpu
invariant-loop-vcpu l = (v : ℕ) → v < l.vcpu → domain_of l.layout v ≡ l.domain → IsUnstopped (memory (sizes_of l.layout) l.words) v → ⊥
