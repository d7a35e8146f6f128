use Rattle.std.proofs.Common.{refl, rules, sym, ◌∙◌}
use Rattle.vcpu_runners.proofs.Asking.{rests, takes}
use Rattle.vcpu_runners.proofs.runner.Runner.turn.Goals as goal

pub returns-then-is_retired-clause-turn : goal.returns-then-is_retired-clause-turn
returns-then-is_retired-clause-turn g c = rests _ _ _ _ (sym c.is_retired.ensures ∙ c.if-is_retired.true)

pub returns-clause-turn : goal.returns-clause-turn
returns-clause-turn g c =
    takes (λ x. (goal.Preempt-dyn g (x.vtable, x.value)).policy x.value) (λ x. (goal.Preempt-dyn g x).policy x.1) c.args.self.now.gate _ _ (c.args.self.now.gate.vtable, c.args.self.now.gate.value) _ c.args.self.now.cpu c.turn.new.cpu c.turn.result _ _
    (sym c.is_retired.ensures ∙ c.if-is_retired.false) refl (search rules) c.turn.ensures.turn refl
