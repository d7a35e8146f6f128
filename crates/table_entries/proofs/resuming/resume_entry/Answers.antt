use Rattle.std.proofs.Common.{sym, ◌∙◌}
use Rattle.table_entries.proofs.HandAgain.{may_again}
use Rattle.table_entries.proofs.LastWays.{last_live, last_standing, live_is, looks_last}
use Rattle.table_entries.proofs.resuming.resume_entry.Goals as goal

pub take_again-requires-clause-may : goal.take_again-requires-clause-may
take_again-requires-clause-may g c = may_again _ _ _ _ _ c.look_cell-word.ensures.hand c.is_live_there.ensures c.requires.may

pub returns-then-is_live_there : goal.returns-then-is_live_there
returns-then-is_live_there g c =
    let r = c.requires in
    let look = c.look_cell-word.ensures in
    last_live (looks_last look.moves look.hand r.frame r.index r.held r.above r.looked r.works) (sym c.demand.ensures ∙ c.in-Typed.is) (live_is c.if-is_live_there.true c.is_live_there.ensures)

pub returns-else-is_live_there : goal.returns-else-is_live_there
returns-else-is_live_there g c =
    let r = c.requires in
    let look = c.look_cell-word.ensures in
    c.take_again.ensures _ _ _ (looks_last look.moves look.hand r.frame r.index r.held r.above r.looked r.works) (sym c.demand.ensures ∙ c.in-Typed.is) (live_is c.if-is_live_there.false c.is_live_there.ensures)

pub returns-in_default : goal.returns-in_default
returns-in_default g c =
    let r = c.requires in
    let look = c.look_cell-word.ensures in
    last_standing (looks_last look.moves look.hand r.frame r.index r.held r.above r.looked r.works) (λ frame want is. c.in_default.not-Typed frame want (c.demand.ensures ∙ is))
