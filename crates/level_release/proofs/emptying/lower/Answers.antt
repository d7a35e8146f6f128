use Rattle.std.proofs.Common.{Err, ap, ◌∙◌, arith, refl, subst, sym, ◌<◌}
use Rattle.partial_state.proofs.WeightFacts.{done_lowers, popped_lowers}
use Rattle.partial_state.specs.Weights.{weight}
use Rattle.partial_state.specs.Stacks.{IsStack, left_on_top}
use Rattle.level_release.specs.Holding.{Empties}
use Rattle.level_release.proofs.HandsTop.{top}
use Rattle.level_release.proofs.HandsLowered.{lower_above, lower_looked, lower_works, popped_top}
use Rattle.std.proofs.lemmas.Result.{err_from_is_err_and}
use Rattle.level_release.proofs.Courses.{lowered_emptied, lowered_given, lowered_opened, lowered_stopped, some_left}
use Rattle.level_release.proofs.emptying.lower.Goals as goal

pub close-requires : goal.close-requires
close-requires g c =
    let are = popped_top c.pop.result c.in-Some.ensures.some c.pop.ensures.some c.pop.ensures.none in
    record { may = c.requires.may; stands = (c.pop.new.self, (c.requires.stands.0, subst (λ xs. Empties c.requires.stands.0 (g.P.Port.value c.args.port.now) xs) are c.requires.stands.1)); empty = c.if-top-eq512.true }

pub returns-then-top-eq512 : goal.returns-then-top-eq512
returns-then-top-eq512 g c =
    let are = popped_top c.pop.result c.in-Some.ensures.some c.pop.ensures.some c.pop.ensures.none in
    record {
      course = lowered_emptied c.in-Some.top are c.if-top-eq512.true c.close.ensures;
      kept = tt;
      less = subst (λ s. weight c.pop.new.self < weight s) (sym are) (popped_lowers c.in-Some.top c.pop.new.self);
      kinds = tt;
      undue = refl;
    }

pub overflow_sub-top : goal.overflow_sub-top
overflow_sub-top g c = let few = some_left c.in-Some.ensures.some c.in-Some.ensures.stack c.if-top-eq512.false in omega (arith, few)

pub release_entry-requires : goal.release_entry-requires
release_entry-requires g c =
    let are = c.in-Some.ensures.some in
    let s = subst (λ xs. Empties c.requires.stands.0 (g.P.Port.value c.args.port.now) xs) are c.requires.stands.1 in
    record {
      frame = (top s).is.inside;
      index = omega arith;
      may = c.requires.may;
      works = lower_works c.level_type.ensures (some_left are c.in-Some.ensures.stack c.if-top-eq512.false) s;
      above = lower_above are c.level_type.ensures c.requires.stands.1;
      looked = lower_looked s;
    }

pub advance-requires : goal.advance-requires
advance-requires g c =
    let few = some_left c.in-Some.ensures.some c.in-Some.ensures.stack c.if-top-eq512.false in
    subst (λ s. 0 < left_on_top s) (sym c.in-Some.ensures.some) (omega (arith, few))

pub advance-requires-in-Opened : goal.advance-requires-in-Opened
advance-requires-in-Opened g c =
    let few = some_left c.in-Some.ensures.some c.in-Some.ensures.stack c.if-top-eq512.false in
    subst (λ s. 0 < left_on_top s) (sym c.in-Some.ensures.some) (omega (arith, few))

pub overflow_sub-top-in-Opened : goal.overflow_sub-top-in-Opened
overflow_sub-top-in-Opened g c = (subst (λ s. IsStack s) c.in-Some.ensures.some c.in-Some.ensures.stack).0.low

pub returns-in-Given-clause-less : goal.returns-in-Given-clause-less
returns-in-Given-clause-less g c =
    let few = some_left c.in-Some.ensures.some c.in-Some.ensures.stack c.if-top-eq512.false in
    rw c.advance.ensures.advanced (done_lowers c.args.stack.now c.in-Some.ensures.stack (subst (λ s. 0 < left_on_top s) (sym c.in-Some.ensures.some) (omega (arith, few))))

pub returns-in_err-release_entry-clause-course : goal.returns-in_err-release_entry-clause-course
returns-in_err-release_entry-clause-course g c =
    let are = c.in-Some.ensures.some in
    let answer = err_from_is_err_and c.from_residual.result c.from_residual.ensures.1 in
    lowered_stopped _ (g.P.Port.value c.release_entry.new.port) are c.level_type.ensures (some_left are c.in-Some.ensures.stack c.if-top-eq512.false) (answer.1 ∙ ap Err answer.2) c.in_err-release_entry.ensures

pub returns-in-Given-clause-course : goal.returns-in-Given-clause-course
returns-in-Given-clause-course g c =
    let are = c.in-Some.ensures.some in
    lowered_given _ _ are c.level_type.ensures (some_left are c.in-Some.ensures.stack c.if-top-eq512.false) c.in-Given.is c.advance.ensures.advanced c.in_ok-release_entry.ensures

pub returns-in-Opened-clause-course : goal.returns-in-Opened-clause-course
returns-in-Opened-clause-course g c =
    let are = c.in-Some.ensures.some in
    lowered_opened _ _ are c.level_type.ensures (some_left are c.in-Some.ensures.stack c.if-top-eq512.false) c.in-Opened.is c.advance-in-Opened.ensures.advanced c.push.ensures.pushed c.in_ok-release_entry.ensures
