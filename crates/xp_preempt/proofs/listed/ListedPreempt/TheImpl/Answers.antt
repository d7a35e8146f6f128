use Rattle.std.proofs.Common.{◌∙◌, refl, sym, ap}
use Rattle.std.specs.List.{list_any}
use Rattle.std.specs.Prelude.{nat_eq}
use Rattle.xp_preempt.specs.Gates.{Listing, one_more_if}
use Rattle.xp_preempt.proofs.Consulting.{consulted_ask}
use Rattle.xp_preempt.proofs.listed.ListedPreempt.TheImpl.Goals as goal

pub due-tells : goal.due-tells
due-tells x c = consulted_ask _ _ c.result c.ensures.due (ap (λ (g : Listing). g.asks) c.ensures.on) (ap (λ (g : Listing). g.yes) c.ensures.on ∙ ap (λ b. one_more_if b c.args.self.now.yes) (sym c.ensures.due))
    (λ n. ap (λ (g : Listing). list_any (λ k. nat_eq k n) g.yes_at) c.ensures.on) refl
