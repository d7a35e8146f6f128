use Rattle.std.proofs.Common.{Ok}
use Rattle.step_maker.specs.Holds.{Same}
use Rattle.step_maker.specs.Visits.{Does}
use Rattle.frame_claims.specs.Found.{Upwards}
use Rattle.domain_destroy.specs.Asking.{ServesDestroy}
use Rattle.domain_destroy.specs.Course.{FoundNoUse}
use Rattle.domain_destroy.proofs.NoUse.{AllUnused}
use Rattle.domain_destroy.proofs.unused.find_unused.Given as goal

abbrev pub invariant-loop-frame : goal.invariant-loop-frame
invariant-loop-frame g l =
    let v = g.P.Port.value l.fn.port in
    let u = g.P.Port.value l.port in
    record {
      hand : Same v u;
      serves : ServesDestroy {A = Unit {0}} v u l.domain (Ok tt);
      unused : AllUnused v u l.domain l.frame;
      visits : Does v u (λ vs. Upwards (FoundNoUse l.domain) 0 l.frame vs);
    }
