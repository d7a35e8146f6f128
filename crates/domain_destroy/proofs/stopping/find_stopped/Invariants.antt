use Rattle.std.proofs.Common.{◌-◌, [], Ok, length}
use Rattle.step_maker.specs.Holds.{Same}
use Rattle.domain_destroy.specs.Asking.{ServesDestroy}
use Rattle.domain_destroy.specs.Coming.{FoundStopped}
use Rattle.domain_destroy.specs.Course.{GoesOn}
use Rattle.domain_destroy.specs.declared.place.DestroyAt.TheVariants.{Stops}
use Rattle.domain_destroy.proofs.stopping.find_stopped.Given as goal

abbrev pub invariant-loop-at : goal.invariant-loop-at
invariant-loop-at g l =
    record {
      hand : Same (g.P.Port.value l.fn.port) (g.P.Port.value l.port);
      come : FoundStopped (g.P.Port.value l.port).post.machine (g.P.Port.value l.port).post.vcpu l.domain l.at (g.P.Port.value l.port).holdings;
      serves : ServesDestroy {A = Unit {0}} (g.P.Port.value l.fn.port) (g.P.Port.value l.port) l.domain (Ok tt);
      course : GoesOn l.domain (g.P.Port.value l.fn.port) (Stops l.fn.at) (g.P.Port.value l.port) (Stops l.at) [] [] (Ok tt);
    }

abbrev pub decreases-loop-at : goal.decreases-loop-at
decreases-loop-at g l = length (g.P.Port.value l.fn.port).post.machine.vcpu_domain - l.at
