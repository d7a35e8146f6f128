use Rattle.std.proofs.Common.{◌≡◌, ◌∙◌, Bool, refl, sym, ap}
use Rattle.xp_preempt.specs.Gates.{Pacing, is_in_step, one_more_if}
use Rattle.xp_preempt.proofs.Consulting.{consulted_ask}
use Rattle.ptmac.proofs.gates.ApartPreempt.due.Goals as goal

pub returns : goal.returns
returns c = consulted_ask _ _ c.due.result c.due.ensures.due (ap (λ (g : Pacing). g.asks) c.due.ensures.on) (ap (λ (g : Pacing). g.yes) c.due.ensures.on ∙ ap (λ b. one_more_if b c.args.self.now.gate.yes) (sym c.due.ensures.due))
    (λ n. ap (λ (g : Pacing). is_in_step g.every n) c.due.ensures.on) refl
