use Rattle.std.proofs.Common.{◌≡◌, ◌∙◌, ◌<◌, true, sym, subst, rules, arith, length}
use Rattle.std.proofs.lemmas.Grind.{common_steps}
use Rattle.trace_text.specs.declared.trace.Own.{Own}
use Rattle.trace_text.specs.Fronts.{Front, may_own}
use Rattle.trace_text.proofs.OneMore.{own_opening, own_tallies}
use Rattle.trace_text.proofs.part.Part.own.Goals as goal

pub invariant_of-self-2 : goal.invariant_of-self-2
invariant_of-self-2 c =
    let run : Own = record { domain = c.args.domain; first = c.args.first; count = c.args.count } in
    let yes : c.may_own.result ≡ true = grind (arith, common_steps) in
    let may = subst (λ (f : Front). may_own f run ≡ true) (sym c.self.view_is) (sym c.may_own.ensures.value ∙ yes) in
    let place : c.self.inside.place < 9 = grind (arith, common_steps) in
    let known : c.args.domain < length c.self.inside.pages = omega (arith, c.if-not-may_own.ensures.inside) in (
      search rules,
      rw (c.in_ok-push.ensures.items) (own_opening _ run c.self.invariant.1 place may),
      rw (c.in_ok-push.ensures.items) (own_tallies _ run _ _ _ _ _ _ _ c.self.invariant.2 c.take.ensures.each c.take.ensures.are known),
    )
