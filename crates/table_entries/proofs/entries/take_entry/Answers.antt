use Rattle.std.proofs.Common.{◌∙◌, sym}
use Rattle.table_entries.proofs.HandReady.{looks_next, nothing_records}
use Rattle.table_entries.proofs.NextWays.{next_bad, next_nothing}
use Rattle.table_entries.proofs.entries.take_entry.Goals as goal

pub record_entry-requires : goal.record_entry-requires
record_entry-requires g c =
    let r = c.requires in
    let look = c.look_cell-word.ensures in
    nothing_records (looks_next c.args.at.owner look.moves look.hand r.frame r.index r.held r.above r.looked r.works r.known) (sym c.demand.ensures ∙ c.in-Nothing.is)

pub returns-in-Nothing : goal.returns-in-Nothing
returns-in-Nothing g c =
    let r = c.requires in
    let look = c.look_cell-word.ensures in
    next_nothing (looks_next c.args.at.owner look.moves look.hand r.frame r.index r.held r.above r.looked r.works r.known) (sym c.demand.ensures ∙ c.in-Nothing.is) c.record_entry.ensures.moves c.record_entry.ensures.hand

pub returns-in-Bad : goal.returns-in-Bad
returns-in-Bad g c =
    let r = c.requires in
    let look = c.look_cell-word.ensures in
    next_bad (looks_next c.args.at.owner look.moves look.hand r.frame r.index r.held r.above r.looked r.works r.known) (sym c.demand.ensures ∙ c.in-Bad.is)

pub returns-in-Read : goal.returns-in-Read
returns-in-Read g c =
    let r = c.requires in
    let look = c.look_cell-word.ensures in
    c.take_plain.ensures _ _ (looks_next c.args.at.owner look.moves look.hand r.frame r.index r.held r.above r.looked r.works r.known) (sym c.demand.ensures ∙ c.in-Read.is)

pub returns-in-Typed : goal.returns-in-Typed
returns-in-Typed g c =
    let r = c.requires in
    let look = c.look_cell-word.ensures in
    c.take_typed.ensures _ _ (looks_next c.args.at.owner look.moves look.hand r.frame r.index r.held r.above r.looked r.works r.known) (sym c.demand.ensures ∙ c.in-Typed.is)
