-- A vCPU that is retired has answered its whole script.
use Rattle.std.proofs.Common.{◌≡◌, ℕ, Bool, true, false, List, [], Option, Some, None, refl, sym, ap, ◌∙◌, arith}
use Rattle.xp_words.specs.declared.ops.Op.{Op}
use Rattle.xp_board.specs.Told.{PortValue}
use Rattle.vcpu_turn.specs.Cpus.{Processing, next_of, nothing_left, pending_of}
use Rattle.vcpu_turn.specs.Turning.{DiesNext, DoesNext, DoesTurn}
use Rattle.vcpu_turn.specs.Turning as turning
use Rattle.vcpu_turn.specs.declared.cpu.TurnEnd.{TurnEnd}
use Rattle.vcpu_turn.proofs.TurnSteps.{after_retired, none_pending}
use Rattle.script_laws.specs.Turns.{Turned}
use Rattle.script_laws.specs.Turns as turns

never : {A : Type 0} (c d : Processing) → d.retired ≡ true → d.retired ≡ c.retired → c.retired ≡ false → A
never c d off same on = absurd (let e : true ≡ false = sym off ∙ (same ∙ on) in cc)

next_ends : (c : Processing) (o : Option Op) (d : Processing) (v w : PortValue) (answers : List Bool) (end : TurnEnd) → next_of c ≡ o → c.retired ≡ false → DoesNext c o d v w answers end → d.retired ≡ true → pending_of d ≡ 0
next_ends c None d v w answers end is on does off = ap pending_of does.cpu ∙ none_pending c is
next_ends c (Some op) d v w answers end is on does off = never c d off (ap (λ (x : Processing). x.retired) does.cpu ∙ after_retired c does.to does.log end) on

dying_ends : (life : ℕ) (c : Processing) (o : Option Op) (d : Processing) (v w : PortValue) (end : TurnEnd) → next_of c ≡ o → c.retired ≡ false → DiesNext life c o d v w end → d.retired ≡ true → pending_of d ≡ 0
dying_ends life c None d v w end is on (port, ended, cpu) off = ap pending_of cpu ∙ none_pending c is
dying_ends life c (Some op) d v w end is on (port, ended, cpu) off = never c d off (ap (λ (x : Processing). x.retired) cpu ∙ after_retired c c.at c.log end) on

turn_ends : (c : Processing) (v : PortValue) (d : Processing) (w : PortValue) (answers : List Bool) (end : TurnEnd) → c.retired ≡ false → DoesTurn c (next_of c) v d w answers end → d.retired ≡ true → pending_of d ≡ 0
turn_ends c v _ _ _ _ on (turning.DoesTurn.unsettled w answers p settles) off = never c c off refl on
turn_ends c v _ _ _ _ on (turning.DoesTurn.settled u w d early answers end settles does) off = next_ends (nothing_left c) (next_of c) d u w answers end refl on does off
turn_ends c v _ _ _ _ on (turning.DoesTurn.dying life w d end dead dies) off = dying_ends life c (next_of c) d v w end refl on dies off

pub retired_is_done : (c : Processing) (v : PortValue) (d : Processing) (w : PortValue) → Turned c v d w → c.retired ≡ false → d.retired ≡ true → pending_of d ≡ 0
retired_is_done c v _ _ turns.Turned.none on off = never c c off refl on
retired_is_done c v _ _ (turns.Turned.more d e u w end answers before going turn) on off = turn_ends d turn.begun e turn.worked answers end going turn.does off
