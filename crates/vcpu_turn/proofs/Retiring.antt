-- A turn retires its vCPU only at the script's end.
use Rattle.std.proofs.Common.{◌≡◌, ℕ, Bool, List, Option, Some, None, Result, Ok, Err, refl, sym, ◌∙◌}
use Rattle.xp_words.specs.declared.ops.Op.{Op}
use Rattle.xp_words.specs.declared.reply.Stop.{Stop}
use Rattle.xp_words.specs.declared.reply.Stop.TheVariants.{Refused, Paused}
use Rattle.xp_board.specs.Told.{PortValue}
use Rattle.vcpu_turn.specs.Cpus.{Processing, next_of, end_of, nothing_left}
use Rattle.vcpu_turn.specs.Turning as turning
use Rattle.vcpu_turn.specs.Turning.{DiesNext, DoesNext, DoesTurn, IsTurn}
use Rattle.vcpu_turn.specs.declared.cpu.TurnEnd.{TurnEnd}
use Rattle.vcpu_turn.specs.declared.cpu.TurnEnd.TheVariants as ends

never_retired : (to : ℕ) (answer : Result ℕ Stop) → end_of to answer ≡ ends.Retired → ⊥
never_retired to (Ok value) is = cc
never_retired to (Err (Refused r)) is = cc
never_retired to (Err (Paused p)) is = cc

next_none : (c d : Processing) (o : Option Op) (end : TurnEnd) (v w : PortValue) (answers : List Bool) → end ≡ ends.Retired → DoesNext c o d v w answers end → o ≡ None
next_none c d None end v w answers is does = refl
next_none c d (Some op) end v w answers is does = absurd (never_retired does.to.done does.answer (sym does.end_is ∙ is))

none_dies : (life : ℕ) (c d : Processing) (o : Option Op) (end : TurnEnd) (v w : PortValue) → end ≡ ends.Retired → DiesNext life c o d v w end → o ≡ None
none_dies life c d None end v w is dies = refl
none_dies life c d (Some op) end v w is dies = absurd (let answered = dies.1 in cc)

none_left : {c : Processing} {o : Option Op} {v : PortValue} {d : Processing} {w : PortValue} {answers : List Bool} {end : TurnEnd} → end ≡ ends.Retired → DoesTurn c o v d w answers end → o ≡ None
none_left is (turning.DoesTurn.unsettled w answers p settles) = absurd cc
none_left {c} {o} {v} {d} is (turning.DoesTurn.dying life w d2 end dead dies) = none_dies life c d2 o end v w is dies
none_left {c} {o} {v} {d} is (turning.DoesTurn.settled u w d2 early answers end settles does) = next_none (nothing_left c) d2 o end u w answers is does

pub retired_at_end : (c d : Processing) (v w : PortValue) (answers : List Bool) → IsTurn c d ends.Retired v w answers → next_of c ≡ None
retired_at_end c d v w answers turn = none_left refl turn.does
