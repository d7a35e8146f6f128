use Rattle.std.proofs.Common.{◌≡◌, ◌==◌, ◌∙◌, if◌then◌else◌, Bool, true, false, refl, sym, ap}
use Rattle.xp_preempt.specs.Gates.{last_ask, one_more_if}
use Rattle.xp_preempt.proofs.Consulting.{consulted_ask, says_either}
use Rattle.machine_tests.proofs.lists.CountedPreempt.TheImpl.Goals as goal

pub due-tells : goal.due-tells
due-tells x c = consulted_ask _ _ c.result (c.ensures.never ∙ sym (says_either (c.args.self.now.asks == last_ask) false refl)) c.ensures.asked (sym (ap (λ b. one_more_if b 0) c.ensures.never)) (λ n. refl) refl
