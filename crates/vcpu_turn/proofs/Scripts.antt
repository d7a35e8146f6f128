-- A turn leaves a vCPU its script.
use Rattle.std.proofs.Common.{◌≡◌, ℕ, Bool, List, Option, Some, None, refl, ap, ◌∙◌}
use Rattle.xp_words.specs.declared.ops.Op.{Op}
use Rattle.xp_words.specs.declared.reply.LogLine.{LogLine}
use Rattle.xp_board.specs.Told.{PortValue}
use Rattle.vcpu_turn.specs.Cpus.{Processing, after_turn, nothing_left}
use Rattle.vcpu_turn.specs.declared.cpu.Progress.{Progress}
use Rattle.vcpu_turn.specs.declared.cpu.TurnEnd.{TurnEnd}
use Rattle.vcpu_turn.specs.declared.cpu.TurnEnd.TheVariants as ends
use Rattle.vcpu_turn.specs.Turning.{DiesNext, DoesNext, DoesTurn, dying, settled, unsettled}

kept_by : (c : Processing) (to : Progress) (log : List LogLine) (end : TurnEnd) → (after_turn c to log end).script ≡ c.script
kept_by c to log (ends.Answered reply) = refl
kept_by c to log (ends.Paused p) = refl
kept_by c to log ends.Retired = refl

next_script : (c c2 : Processing) (o : Option Op) (v w : PortValue) (answers : List Bool) (end : TurnEnd) → DoesNext c o c2 v w answers end → c2.script ≡ c.script
next_script c c2 (Some op) v w answers end d = ap (λ (x : Processing). x.script) d.cpu ∙ kept_by c d.to d.log end
next_script c c2 None v w answers end d = ap (λ (x : Processing). x.script) d.cpu

dies_script : (life : ℕ) (c c2 : Processing) (o : Option Op) (v w : PortValue) (end : TurnEnd) → DiesNext life c o c2 v w end → c2.script ≡ c.script
dies_script life c c2 (Some op) v w end d = ap (λ (x : Processing). x.script) d.2 ∙ kept_by c c.at c.log end
dies_script life c c2 None v w end d = ap (λ (x : Processing). x.script) d.2

pub turn_script : (c : Processing) (o : Option Op) (v : PortValue) (c2 : Processing) (w : PortValue) (answers : List Bool) (end : TurnEnd) → DoesTurn c o v c2 w answers end → c2.script ≡ c.script
turn_script c o v _ _ _ _ (unsettled w answers p s) = refl
turn_script c o v _ _ _ _ (settled u w c2 early answers end s d) = next_script (nothing_left c) c2 o u w answers end d
turn_script c o v _ _ _ _ (dying life w c2 end dead d) = dies_script life c c2 o v w end d
