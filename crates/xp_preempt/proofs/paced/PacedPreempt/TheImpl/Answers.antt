use Rattle.std.proofs.Common.{◌∙◌, refl, sym, ap}
use Rattle.xp_preempt.specs.Gates.{Pacing, is_in_step, one_more_if}
use Rattle.xp_preempt.proofs.Consulting.{consulted_ask}
use Rattle.xp_preempt.proofs.paced.PacedPreempt.TheImpl.Goals as goal

pub due-tells : goal.due-tells
due-tells x c = consulted_ask _ _ c.result c.ensures.due (ap (λ (g : Pacing). g.asks) c.ensures.on) (ap (λ (g : Pacing). g.yes) c.ensures.on ∙ ap (λ b. one_more_if b c.args.self.now.yes) (sym c.ensures.due))
    (λ n. ap (λ (g : Pacing). is_in_step g.every n) c.ensures.on) refl
