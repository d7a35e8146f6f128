-- A turn asks the gate of its vCPU.
use Rattle.std.proofs.Common.{◌≡◌, ℕ, Bool, true, false, refl, sym, ap, ◌∙◌, subst}
use Rattle.xp_board.specs.Told.{PortValue}
use Rattle.vcpu_turn.specs.declared.cpu.TurnEnd.{TurnEnd}
use Rattle.vcpu_turn.specs.Cpus.{Processing}
use Rattle.vcpu_turn.specs.Turning.{TurnBy, is_due}
use Rattle.vcpu_runners.specs.Runners.{TakesTurnBy}
use Rattle.xp_preempt.specs.Gates.{Gate, GatedPast}

takes_by : (retired : Bool) {has left : Gate} (c c2 : Processing) (end : TurnEnd) (v w : PortValue) → retired ≡ false → GatedPast has left (is_due end) (λ answers. TurnBy retired c c2 end v w answers) → TakesTurnBy retired has left c c2 v w
takes_by true c c2 end v w runs turn = absurd cc
takes_by false c c2 end v w runs turn = record { end = end; answers = turn.answers; turn = turn.course; consulted = turn.gate; due = turn.due }

-- one that is retired rests
pub rests : (retired : Bool) (gate : Gate) (c : Processing) (v : PortValue) → retired ≡ true → TakesTurnBy retired gate gate c c v v
rests true gate c v is = record { cpu = refl; port = refl; gate = refl }
rests false gate c v is = absurd cc

-- the gate of the box, as what it holds tells it, was asked
pub takes : {A X : Type 0} (gate : A → Gate) (told : X → Gate) (box : A) (x y z : X) (left : Gate) (c c2 : Processing) (end : TurnEnd) (v w : PortValue) → c.retired ≡ false → gate box ≡ told z → x ≡ z →
    GatedPast (told x) (told y) (is_due end) (λ answers. TurnBy c.retired c c2 end v w answers) → left ≡ told y → TakesTurnBy c.retired (gate box) left c c2 v w
takes gate told box x y z left c c2 end v w runs is at turn left_is =
    subst (λ k. TakesTurnBy c.retired k left c c2 v w) (ap told at ∙ sym is) (subst (λ k. TakesTurnBy c.retired (told x) k c c2 v w) (sym left_is) (takes_by c.retired c c2 end v w runs turn))
