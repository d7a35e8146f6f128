use Rattle.level_release.proofs.HandsUnwinding.{leaving_begins, leaving_done, leaving_inside, leaving_last, leaving_may, leaving_named, leaving_stands}
use Rattle.std.proofs.Common.{◌∷◌, refl, sym, subst}
use Rattle.level_release.proofs.CoursesUnwound.{Unwinding, unwinding_begins, unwinding_done, unwinding_ends, unwinding_on}
use Rattle.level_release.proofs.leaving.unwind.Goals as goal

pub leave_outermost-requires : goal.leave_outermost-requires
leave_outermost-requires g c = leaving_last c.loop-table.invariant.hands c.in-Some.ensures.some c.requires (c.is_empty.ensures.0 c.if-is_empty.true)

pub leave_inside-requires-clause-may : goal.leave_inside-requires-clause-may
leave_inside-requires-clause-may g c = leaving_may c.loop-table.invariant.hands c.in-Some.ensures.some c.requires.stands c.requires.may

pub leave_inside-requires-clause-stands : goal.leave_inside-requires-clause-stands
leave_inside-requires-clause-stands g c = leaving_stands c.loop-table.invariant.hands c.in-Some.ensures.some c.requires.stands

pub returns-clause-hand : goal.returns-clause-hand
returns-clause-hand g c = leaving_done c.loop-table.invariant.hands c.in_default.ensures.none.0

pub loop-table-init : goal.loop-table-init
loop-table-init g c = record { hands = leaving_begins c.requires.some; goes = unwinding_begins }

pub loop-table-preserved-then-is_empty : goal.loop-table-preserved-then-is_empty
loop-table-preserved-then-is_empty g c =
    let u = g.P.Port.value c.args.port.now in
    let v = g.P.Port.value c.loop-table.port in
    let w = g.P.Port.value c.leave_outermost.new.port in
    let t = c.in-Some.table in
    let ts = c.args.stack.now in
    let none = c.if-is_empty.ensures.0 refl in
    let left = subst (λ us. Unwinding u v ts (t ∷ us)) none (subst (λ us. Unwinding u v ts us) c.in-Some.ensures.some c.loop-table.invariant.goes) in
    record {
      hands = leaving_named c.loop-table.invariant.hands c.in-Some.ensures.some w c.leave_outermost.ensures.came none c.leave_outermost.ensures.hand;
      goes = subst (λ us. Unwinding u w ts us) (sym none) (unwinding_ends left c.leave_outermost.ensures.course);
    }

pub loop-table-preserved : goal.loop-table-preserved
loop-table-preserved g c =
    let u = g.P.Port.value c.args.port.now in
    record {
      hands = leaving_inside c.loop-table.invariant.hands c.in-Some.ensures.some (g.P.Port.value c.leave_inside.new.port) c.leave_inside.ensures.came c.leave_inside.ensures.stands
          c.leave_inside.ensures.course;
      goes = unwinding_on (subst (λ us. Unwinding u (g.P.Port.value c.loop-table.port) c.args.stack.now us) c.in-Some.ensures.some c.loop-table.invariant.goes)
          c.leave_inside.ensures.course;
    }

pub returns-clause-course : goal.returns-clause-course
returns-clause-course g c = unwinding_done c.loop-table.invariant.goes c.in_default.ensures.none.0
