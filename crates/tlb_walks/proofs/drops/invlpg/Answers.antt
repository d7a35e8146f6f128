use Rattle.std.proofs.Common.{Some, sym, subst}
use Rattle.xp_words.specs.declared.place.Place.TheVariants.{Clock}
use Rattle.xp_board.specs.declared.step.Act.TheVariants.{Load}
use Rattle.xp_board.specs.declared.step.Mark.TheVariants.{Forget}
use Rattle.xp_board.specs.declared.step.StepKind.TheVariants as kinds
use Rattle.step_maker.specs.Moves.{Moves}
use Rattle.step_maker.proofs.Coming.{came_self, moves_came}
use Rattle.tlb_walks.specs.Addresses.{page_of}
use Rattle.tlb_walks.proofs.Flushes.{forget_does, forget_hand, forget_serves, may_forget, none_does, none_hand, none_serves}
use Rattle.tlb_walks.proofs.drops.invlpg.Given.{Over}
use Rattle.tlb_walks.proofs.drops.invlpg.Goals as goal

pub make-requires : goal.make-requires
make-requires g c = may_forget (g.P.Port.value c.args.port.now) c.page_at-page.result c.requires.landed

pub returns-then-not-canonical-clause-came : goal.returns-then-not-canonical-clause-came
returns-then-not-canonical-clause-came g c = came_self _

pub returns-then-not-canonical-clause-serves : goal.returns-then-not-canonical-clause-serves
returns-then-not-canonical-clause-serves g c = λ r. none_serves _ c.args.va (sym c.if-not-canonical.ensures) r

pub returns-then-not-canonical-clause-course : goal.returns-then-not-canonical-clause-course
returns-then-not-canonical-clause-course g c = none_does _ c.args.va (sym c.if-not-canonical.ensures)

pub returns-then-not-canonical-clause-hand : goal.returns-then-not-canonical-clause-hand
returns-then-not-canonical-clause-hand g c = none_hand (g.P.Port.value c.args.port.now) c.args.va (sym c.if-not-canonical.ensures)

pub returns-clause-came : goal.returns-clause-came
returns-clause-came g c = moves_came _ _ _ _ _ _ _ c.make.ensures

step : (g : Over) (c : goal.After-make g) → Moves (g.P.Port.value c.args.port.now) (g.P.Port.value c.make.new.port) Clock Load kinds.Look (Some (Forget (page_of c.args.va))) c.make.result
step g c =
    subst (λ p. Moves (g.P.Port.value c.args.port.now) (g.P.Port.value c.make.new.port) Clock Load kinds.Look (Some (Forget p)) c.make.result) c.page_at-page.ensures c.make.ensures

pub returns-clause-serves : goal.returns-clause-serves
returns-clause-serves g c = λ r. forget_serves _ _ c.args.va c.make.result (step g c) (sym c.if-not-canonical.ensures) r

pub returns-clause-course : goal.returns-clause-course
returns-clause-course g c = forget_does _ _ c.args.va c.make.result (step g c) (sym c.if-not-canonical.ensures)

pub returns-clause-hand : goal.returns-clause-hand
returns-clause-hand g c = forget_hand _ _ c.args.va c.make.result (step g c) (sym c.if-not-canonical.ensures)
