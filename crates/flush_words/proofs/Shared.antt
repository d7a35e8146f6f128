-- Lemmas that several crates above cite.
use Rattle.std.proofs.Common.{◌≡◌, sym, ap, ◌∙◌, subst}
use Rattle.step_maker.specs.Holds.{Holds, MayWork}
use Rattle.xp_board.specs.Told.{PortValue}
use Rattle.xp_board.specs.declared.holdings.Holdings.{Holdings}
use Rattle.xp_words.specs.Machine.{Machine, IsMachine}

pub may_held : (v w : PortValue) (h : Holdings) → Holds v w h → h.run ≡ v.holdings.run → h.walk ≡ v.holdings.walk → MayWork v → MayWork w
may_held v w h holds run walk m =
    record {
      running = ap (λ (y : PortValue). y.holdings.run) holds ∙ run ∙ m.running;
      no_walk = ap (λ (y : PortValue). y.holdings.walk) holds ∙ walk ∙ m.no_walk;
      machine = subst (λ (n : Machine). IsMachine n) (sym (ap (λ (y : PortValue). y.post.machine) holds)) m.machine;
    }
