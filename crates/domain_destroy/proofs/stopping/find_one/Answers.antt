use Rattle.std.proofs.Common.{refl, subst}
use Rattle.xp_words.specs.Places.{run_of}
use Rattle.xp_board.specs.declared.step.Act.TheVariants.{Load}
use Rattle.xp_board.specs.declared.step.StepKind.TheVariants as kinds
use Rattle.step_maker.specs.Moves.{Moves}
use Rattle.step_maker.proofs.Coming.{moves_came}
use Rattle.domain_destroy.specs.Course.{Advances}
use Rattle.domain_destroy.proofs.Parts.{look_serves, nothing_serves}
use Rattle.domain_destroy.proofs.StoppedVcpus.{alive_stops, of_by, other_by, other_vcpu, stopped_more, stopped_other, stopped_stays}
use Rattle.domain_destroy.proofs.stopping.find_one.Goals as goal

-- ---- of another domain
pub returns-then-not-is_of-clause-come : goal.returns-then-not-is_of-clause-come
returns-then-not-is_of-clause-come g c =
    stopped_other (g.P.Port.value c.args.port.now) c.args.domain c.args.vcpu (other_by _ _ _ c.if-not-is_of.true c.is_of.ensures) c.requires.come

pub returns-then-not-is_of-clause-serves : goal.returns-then-not-is_of-clause-serves
returns-then-not-is_of-clause-serves g c = nothing_serves (g.P.Port.value c.args.port.now) c.args.domain _ refl

pub returns-then-not-is_of-clause-course : goal.returns-then-not-is_of-clause-course
returns-then-not-is_of-clause-course g c = Advances.passed_over c.args.vcpu c.requires.vcpu (other_by _ _ _ c.if-not-is_of.true c.is_of.ensures)

-- ---- found stopped
pub returns-then-found-eq-STOPPED-clause-stays : goal.returns-then-found-eq-STOPPED-clause-stays
returns-then-found-eq-STOPPED-clause-stays g c =
    let v = g.P.Port.value c.args.port.now in
    let w = g.P.Port.value c.look_run_of-found.new.port in
    stopped_stays v w c.args.domain c.args.vcpu (moves_came v w (run_of c.args.vcpu) Load kinds.Look _ _ c.look_run_of-found.ensures.moves) c.requires.come

pub returns-then-found-eq-STOPPED-clause-come : goal.returns-then-found-eq-STOPPED-clause-come
returns-then-found-eq-STOPPED-clause-come g c =
    stopped_more (g.P.Port.value c.args.port.now) (g.P.Port.value c.look_run_of-found.new.port) c.args.domain c.args.vcpu c.look_run_of-found.result c.look_run_of-found.ensures.moves c.if-found-eq-STOPPED.true c.requires.come

pub returns-then-found-eq-STOPPED-clause-serves : goal.returns-then-found-eq-STOPPED-clause-serves
returns-then-found-eq-STOPPED-clause-serves g c =
    look_serves (g.P.Port.value c.args.port.now) (g.P.Port.value c.look_run_of-found.new.port) c.args.domain _ (run_of c.args.vcpu) c.look_run_of-found.result refl (λ r. tt) c.look_run_of-found.ensures.moves

pub returns-then-found-eq-STOPPED-clause-course : goal.returns-then-found-eq-STOPPED-clause-course
returns-then-found-eq-STOPPED-clause-course g c =
    let v = g.P.Port.value c.args.port.now in
    let w = g.P.Port.value c.look_run_of-found.new.port in
    Advances.stopped c.args.vcpu w c.requires.vcpu (of_by _ _ _ c.if-not-is_of.false c.is_of.ensures)
    (subst (Moves v w (run_of c.args.vcpu) Load kinds.Look _) c.if-found-eq-STOPPED.true c.look_run_of-found.ensures.moves)

-- ---- found running
pub returns-else-found-eq-STOPPED-clause-stays : goal.returns-else-found-eq-STOPPED-clause-stays
returns-else-found-eq-STOPPED-clause-stays g c =
    let v = g.P.Port.value c.args.port.now in
    let w = g.P.Port.value c.look_run_of-found.new.port in
    stopped_stays v w c.args.domain c.args.vcpu (moves_came v w (run_of c.args.vcpu) Load kinds.Look _ _ c.look_run_of-found.ensures.moves) c.requires.come

pub returns-else-found-eq-STOPPED-clause-serves : goal.returns-else-found-eq-STOPPED-clause-serves
returns-else-found-eq-STOPPED-clause-serves g c =
    look_serves (g.P.Port.value c.args.port.now) (g.P.Port.value c.look_run_of-found.new.port) c.args.domain _ (run_of c.args.vcpu) c.look_run_of-found.result refl (λ r. tt) c.look_run_of-found.ensures.moves

pub returns-else-found-eq-STOPPED-clause-stops : goal.returns-else-found-eq-STOPPED-clause-stops
returns-else-found-eq-STOPPED-clause-stops g c =
    alive_stops (g.P.Port.value c.args.port.now) (g.P.Port.value c.look_run_of-found.new.port) c.args.domain c.args.vcpu c.look_run_of-found.result c.look_run_of-found.ensures.moves
    (of_by _ _ _ c.if-not-is_of.false c.is_of.ensures) c.if-found-eq-STOPPED.false

pub returns-else-found-eq-STOPPED-clause-course : goal.returns-else-found-eq-STOPPED-clause-course
returns-else-found-eq-STOPPED-clause-course g c =
    Advances.alive c.args.vcpu c.look_run_of-found.result (g.P.Port.value c.look_run_of-found.new.port) c.requires.vcpu (of_by _ _ _ c.if-not-is_of.false c.is_of.ensures) c.if-found-eq-STOPPED.false
    c.look_run_of-found.ensures.moves

pub look_run_of-found-requires-clause-other : goal.look_run_of-found-requires-clause-other
look_run_of-found-requires-clause-other g c = other_vcpu (g.P.Port.value c.args.port.now) c.args.domain c.args.vcpu (of_by _ _ _ c.if-not-is_of.false c.is_of.ensures) c.requires.come
