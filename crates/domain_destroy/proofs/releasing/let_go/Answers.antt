use Rattle.std.proofs.Common.{refl}
use Rattle.xp_preempt.proofs.Consulting.{gated_as}
use Rattle.domain_destroy.proofs.LettingGo.{let_go_serves, let_go_stops, one_held, put_rests}
use Rattle.domain_destroy.proofs.releasing.let_go.Goals as goal

pub put_old-requires-clause-held : goal.put_old-requires-clause-held
put_old-requires-clause-held g c = one_held c.requires.holds

pub settle-requires : goal.settle-requires
settle-requires g c = record { rests = put_rests c.requires.holds (g.P.Port.value c.put_old.new.port) c.put_old.ensures.hand }

pub returns-clause-serves : goal.returns-clause-serves
returns-clause-serves g c =
    let_go_serves (g.P.Port.value c.args.port.now) (g.P.Port.value c.put_old.new.port) (g.P.Port.value c.settle.new.port) c.put_old.ensures.moves c.settle.result c.settle.ensures.serves

pub returns-clause-stops : goal.returns-clause-stops
returns-clause-stops g c =
    let_go_stops (g.P.Port.value c.args.port.now) (g.P.Port.value c.put_old.new.port) (g.P.Port.value c.settle.new.port) c.put_old.ensures.moves c.settle.result c.settle.ensures.kinds c.settle.ensures.stops

pub returns-clause-course : goal.returns-clause-course
returns-clause-course g c = gated_as refl (λ answers settled. (g.P.Port.value c.put_old.new.port, c.put_old.ensures.moves, settled.0)) c.settle.ensures.course
