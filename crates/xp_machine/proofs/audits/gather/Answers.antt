use Rattle.std.proofs.Common.{rules, inr}
use Rattle.xp_machine.proofs.audits.gather.Goals as goal

pub returns-in-Ok-too_long-clause-due : goal.returns-in-Ok-too_long-clause-due
returns-in-Ok-too_long-clause-due g c = inr (c.in-Ok-too_long.ensures _ _ (c.in-Err-Large.ensures.large (search rules)))
