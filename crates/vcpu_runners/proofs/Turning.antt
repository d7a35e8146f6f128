-- The turns of one vCPU by the port of its pass.
use Rattle.std.proofs.Common.{◌≡◌, ℕ, ◌<◌, true, false, None, sym, ap, ◌∙◌, subst, length, ◌^◌}
use Rattle.xp_words.specs.Machine.{Machine}
use Rattle.xp_words.specs.Places.{sizes_of, memory, run_of}
use Rattle.xp_board.specs.declared.step.Item.{Item}
use Rattle.xp_board.specs.Lists.{Member}
use Rattle.xp_board.specs.Told.{Post, PortValue}
use Rattle.thread_board.specs.Ports.{pass_port}
use Rattle.thread_board.specs.Values.{BoardValue, PassValue, IsPassOf}
use Rattle.vcpu_turn.specs.Cpus.{Processing, next_of}
use Rattle.vcpu_turn.specs.Turning.{IsOf}
use Rattle.vcpu_runners.specs.Cpus.{IsShort}
use Rattle.vcpu_runners.specs.Runners.{TakesTurn, TakesTurnBy}
use Rattle.vcpu_turn.proofs.Scripts.{turn_script}
use Rattle.vcpu_runners.specs.Replayed.{TookTurns, more, none}
use Rattle.vcpu_runners.specs.Working.{RanOut}
use Rattle.xp_preempt.specs.Gates.{Gate}

-- ---- one turn more
pub turns_more : (has mid left : Gate) (c d c2 : Processing) (v u w : PortValue) → TookTurns has c v mid d u → d.retired ≡ false → TakesTurnBy d.retired mid left d c2 u w → TookTurns has c v left c2 w
turns_more has mid left c d c2 v u w turns runs turn = more mid left d c2 u w turns runs (subst (λ b. TakesTurnBy b mid left d c2 u w) runs turn)

short_turn : (mid left : Gate) (d c2 : Processing) (u w : PortValue) → TakesTurn mid left d c2 u w → IsShort d → IsShort c2
short_turn mid left d c2 u w t short =
    let same = turn_script d (next_of d) t.turn.begun c2 t.turn.worked t.answers t.end t.turn.does in
    subst (λ s. length s < 2 ^ 32) (sym same) short

pub short_more : (mid left : Gate) (d c2 : Processing) (u w : PortValue) → d.retired ≡ false → TakesTurnBy d.retired mid left d c2 u w → IsShort d → IsShort c2
short_more mid left d c2 u w runs turn short = short_turn mid left d c2 u w (subst (λ b. TakesTurnBy b mid left d c2 u w) runs turn) short

-- turns leave a script as long as it is
pub short_behind : (has : Gate) (c : Processing) (v : PortValue) (left : Gate) (c2 : Processing) (w : PortValue) → TookTurns has c v left c2 w → IsShort c → IsShort c2
short_behind has c v _ _ _ none short = short
short_behind has c v _ _ _ (more mid left d c2 u w turns runs turn) short = short_turn mid left d c2 u w turn (short_behind has c v mid d u turns short)

-- ---- the port of the same board and of the same borrow
post_same : (b : BoardValue) (p q : PassValue) (l : ℕ) → q.vcpu ≡ p.vcpu → (pass_port b q l).post ≡ (pass_port b p l).post
post_same b p q l vcpu = λ i. record { machine = b.machine; vcpu = vcpu i; run = memory (sizes_of b.machine) b.opening (run_of (vcpu i)); lender = l; table = b.table }

-- which vCPU and board it is follows of what a call keeps
module _ (b b1 : BoardValue) (p q : PassValue) (l l1 : ℕ) (post : (pass_port b1 q l1).post ≡ (pass_port b p l).post) where
  same_vcpu : q.vcpu ≡ p.vcpu
  same_vcpu = ap (λ (x : Post). x.vcpu) post

  port_back : pass_port b1 q l1 ≡ pass_port b q l
  port_back = let same = post ∙ sym (post_same b p q l same_vcpu) in λ i. record { post = same i; holdings = q.holdings; told = None }

  pass_back : IsPassOf b1 q → IsPassOf b q
  pass_back own =
      let machine = ap (λ (x : Post). x.machine) post in
      record {
        table = own.table ∙ ap (λ (x : Post). x.table) post;
        vcpu = subst (λ (n : Machine). q.vcpu < (sizes_of n).vcpus) machine own.vcpu;
        inside = subst (λ (n : Machine). (x : Item) → Member x q.holdings.cache → x.frame < n.frames) machine own.inside;
      }

pub ran_out : (b b0 b1 : BoardValue) (p p0 q : PassValue) (l0 l1 : ℕ) (gate left : Gate) (c c2 : Processing) → b0 ≡ b → p0 ≡ p → (pass_port b1 q l1).post ≡ (pass_port b0 p0 l0).post →
    TookTurns gate c (pass_port b0 p0 l0) left c2 (pass_port b1 q l1) → c2.retired ≡ true → IsOf (pass_port b1 q l1) c2 → IsPassOf b1 q → RanOut b p q gate left c c2
ran_out b b0 b1 p p0 q l0 l1 gate left c c2 same pass post turns retired of own =
    let back = port_back b0 b1 p0 q l0 l1 post in
    subst (λ (y : BoardValue × PassValue). RanOut y.0 y.1 q gate left c c2) (λ i. (same i, pass i))
    (record {
      pass = pass_back b0 b1 p0 q l0 l1 post own;
      vcpu = same_vcpu b0 b1 p0 q l0 l1 post;
      lender = l0;
      turns = subst (TookTurns gate c (pass_port b0 p0 l0) left c2) back turns;
      retired = retired;
      of = subst (λ v. IsOf v c2) back of;
    })

-- the port of a pass before the first turn
pub of_first_port : (b b0 : BoardValue) (p p0 : PassValue) (l : ℕ) (c : Processing) → b0 ≡ b → p0 ≡ p → IsOf (pass_port b p l) c → IsOf (pass_port b0 p0 l) c
of_first_port b b0 p p0 l c same pass of = subst (λ v. IsOf v c) (λ i. pass_port (sym same i) (sym pass i) l) of
