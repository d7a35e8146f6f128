use Rattle.std.proofs.Common.{rules, ◌||◌, ◌==◌, true, false, sym, ap, ◌∙◌}
use Rattle.xp_words.specs.PageTypes.{type_number}
use Rattle.frame_types.specs.Plain.{is_refused}
use Rattle.table_entries.proofs.NextLeft.{has_entries, is_waiting, next_dead, next_shared, next_unsettled, own_is_not, unsettled_records}
use Rattle.table_entries.proofs.waiting.wait_entry.Goals.{else-matches-via-else-matches, else-matches-via-then-matches+else-not-is_table, in-Refused, in_default}
use Rattle.table_entries.proofs.waiting.wait_entry.Goals as goal

pub leave_shared-requires-clause-waits : goal.leave_shared-requires-clause-waits
leave_shared-requires-clause-waits g c = is_waiting c.requires.waits.1 false (own_is_not c.args.late.own true c.if-not-late.true)

pub leave_dead-requires-clause-waits : goal.leave_dead-requires-clause-waits
leave_dead-requires-clause-waits g c = (c.args.late.stamp, is_waiting c.requires.waits.1 true (own_is_not c.args.late.own false c.if-not-late.false))

pub leave_unsettled-requires : goal.leave_unsettled-requires
leave_unsettled-requires g c =
    let late = c.requires.waits.1 in
    record { frame = search rules; may = c.requires.may; entries = has_entries late; waits = is_waiting late true (own_is_not c.args.late.own false c.if-not-late.false) }

pub record_entry-requires : goal.record_entry-requires
record_entry-requires g c =
    let left = c.leave_unsettled.ensures in
    unsettled_records c.requires.waits.1 (own_is_not c.args.late.own false c.if-not-late.false) left.came left.hand left.partial

pub returns-then-not-late : goal.returns-then-not-late
returns-then-not-late g c b late =
    let left = c.leave_shared.ensures in
    next_shared late (own_is_not c.args.late.own true c.if-not-late.true) left.serves left.hand left.visits left.plain left.owned

pub returns-then-not-is_table : goal.returns-then-not-is_table
returns-then-not-is_table g c b late =
    let left = c.leave_dead.ensures in
    next_dead late (own_is_not c.args.late.own false c.if-not-late.false)
    (elim c.match-matches.branch [
      | in-Refused w ↦ ap (λ e. is_refused e) w.in-Refused.is
      | in_default w ↦ absurd (let e = c.if-matches.true in let k = w.matches-is in cc)
    ])
    (sym c.is_table.ensures ∙ c.if-not-is_table.true) left.serves left.hand left.visits left.plain left.owned

pub returns : goal.returns
returns g c b late =
    let left = c.leave_unsettled.ensures in
    next_unsettled late (own_is_not c.args.late.own false c.if-not-late.false) left.came left.hand left.partial
    (λ refused.
    elim c.else-matches.branch [
      | else-matches-via-then-matches+else-not-is_table w ↦ ap (λ o. o || (type_number c.args.late.want == 5)) (sym w.is_table.ensures ∙ w.if-not-is_table.false)
      | else-matches-via-else-matches w ↦
          absurd (elim c.match-matches.branch [
            | in-Refused k ↦ (let e = w.if-matches.false in let o = k.matches-is in absurd cc)
            | in_default k ↦ (let e = sym (ap (λ o. is_refused o) k.in_default.is) ∙ refused in absurd cc)
          ])
    ])
    left.serves left.visits left.plain c.record_entry.ensures.moves c.record_entry.ensures.hand
