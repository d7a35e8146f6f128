use Rattle.std.proofs.Common.{◌≡◌, ◌≤◌, ◌+◌, ◌-◌, Ok, vec_capacity, vec_len}
use Rattle.step_maker.specs.Holds.{Same}
use Rattle.domain_destroy.specs.Asking.{ServesDestroy}
use Rattle.domain_destroy.specs.Coming.{HasComeTo}
use Rattle.domain_destroy.specs.Destroying.{ListsOn}
use Rattle.domain_destroy.specs.declared.place.DestroyAt.TheVariants.{Lists}
use Rattle.domain_destroy.proofs.listing.list_frames.Given as goal

abbrev pub invariant-loop-at : goal.invariant-loop-at
invariant-loop-at g l =
    let v = g.P.Port.value l.fn.port in
    let u = g.P.Port.value l.port in
    record {
      hand : Same v u;
      come : HasComeTo u l.domain (Lists l.at l.left) l.op l.log.items;
      serves : ServesDestroy {A = Unit {0}} v u l.domain (Ok tt);
      lists : ListsOn l.domain l.op v (Lists l.fn.at l.fn.left) l.fn.log.items u (Lists l.at l.left) l.log.items (Ok tt);
      room : vec_len l.log + v.post.machine.frames ≤ vec_capacity l.log + l.at;
      capacity : vec_capacity l.log ≡ vec_capacity l.fn.log;
    }

abbrev pub decreases-loop-at : goal.decreases-loop-at
decreases-loop-at g l = (g.P.Port.value l.fn.port).post.machine.frames - l.at
