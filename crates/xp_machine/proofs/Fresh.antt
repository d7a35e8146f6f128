-- A vCPU of which nothing is done yet.
use Rattle.std.proofs.Common.{ℕ, ◌<◌, [], List, refl, inl, arith}
use Rattle.std.specs.Prelude.{slice_get}
use Rattle.xp_words.specs.declared.ops.Op.{Op}
use Rattle.xp_board.specs.Readings.{domain_of}
use Rattle.xp_board.specs.Told.{PortValue}
use Rattle.vcpu_runners.specs.Turns.{Idles, IsOf, Runs, fresh}
use Rattle.vcpu_turn.specs.Cpus.{job_next}
use Rattle.vcpu_turn.proofs.Burying.{place_begun}

no_less : (k : ℕ) → k < 0 → ⊥
no_less k less = omega arith

-- it may begin with any script at a port that idles and runs
pub of_fresh : (v : PortValue) (script : List Op) → Idles v → Runs v → IsOf v (fresh v.post.machine.frames v.post.vcpu (domain_of v.post.machine v.post.vcpu) script)
of_fresh v script idles runs =
    record {
      vcpu = refl;
      domain = refl;
      idles = idles;
      awaits = tt;
      runs = λ works. inl runs;
      frames = refl;
      place = place_begun v (job_next (slice_get script 0)) 1 [] refl;
      ahead = λ op later. refl;
      buried = λ i x reply at line unrefused. absurd (no_less line.0 line.1);
    }
