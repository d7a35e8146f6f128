use Rattle.std.proofs.Common.{Err}
use Rattle.mmu_update.proofs.Leading.{leads_came}
use Rattle.mmu_update.proofs.Reaching.{begins_there, led, led_came, unled}
use Rattle.mmu_update.proofs.updates_at.update_at.Goals as goal

pub enter_table-requires : goal.enter_table-requires
enter_table-requires g c = record { begins = begins_there c.requires.rests c.in-Ok.ensures.leads c.requires.maps c.requires.room c.requires.room_too }

pub returns-in-Ok-clause-came : goal.returns-in-Ok-clause-came
returns-in-Ok-clause-came g c = led_came c.requires.rests c.in-Ok.ensures.leads c.enter_table.ensures

pub returns-in-Ok-clause-updates : goal.returns-in-Ok-clause-updates
returns-in-Ok-clause-updates g c = led c.requires.rests c.in-Ok.ensures.leads c.enter_table.ensures

pub returns-in-Err-clause-came : goal.returns-in-Err-clause-came
returns-in-Err-clause-came g c = leads_came (g.P.Port.value c.args.port.now) (g.P.Port.value c.table_at.new.port) c.args.va (Err c.in-Err.stop) c.in-Err.ensures.leads

pub returns-in-Err-clause-updates : goal.returns-in-Err-clause-updates
returns-in-Err-clause-updates g c = unled c.requires.rests c.in-Err.ensures.leads
