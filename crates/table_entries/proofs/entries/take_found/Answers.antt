use Rattle.table_entries.proofs.NextWays.{counted_records, had_some, next_counted, next_opened, next_untyped, same_puts, taken_of, took_as, waits_may}
use Rattle.table_entries.proofs.entries.take_found.Goals as goal

pub take_looked-requires : goal.take_looked-requires
take_looked-requires g c =
    let w = c.requires.finds.1 in
    record { frame = c.requires.frame; may = c.requires.may; wanted = had_some w.had; looked = (w.x, w.looked); stands = w.other }

pub record_entry-requires : goal.record_entry-requires
record_entry-requires g c =
    let w = c.requires.finds.1 in
    let way = c.in-Ok-Counted in
    counted_records w.had (took_as way.field-0-is (taken_of w.looked way.ensures.takes way.ensures.found way.ensures.plain))

pub returns-in-Ok-Counted : goal.returns-in-Ok-Counted
returns-in-Ok-Counted g c b w =
    let way = c.in-Ok-Counted in
    next_counted w.had (took_as way.field-0-is (taken_of w.looked way.ensures.takes way.ensures.found way.ensures.plain)) c.record_entry.ensures.moves c.record_entry.ensures.hand

pub returns-in-Ok-InWork : goal.returns-in-Ok-InWork
returns-in-Ok-InWork g c b w =
    let way = c.in-Ok-InWork in
    next_opened w.had (took_as way.field-0-is (taken_of w.looked way.ensures.takes way.ensures.found way.ensures.plain))

pub wait_entry-requires-clause-waits : goal.wait_entry-requires-clause-waits
wait_entry-requires-clause-waits g c =
    let w = c.requires.finds.1 in
    let way = c.in-Ok-Waiting in
    (c.requires.finds.0, record { x = w.x; had = w.had; taken = took_as way.field-0-is (taken_of w.looked way.ensures.takes way.ensures.found way.ensures.plain) })

pub wait_entry-requires-clause-may : goal.wait_entry-requires-clause-may
wait_entry-requires-clause-may g c =
    let w = c.requires.finds.1 in
    let way = c.in-Ok-Waiting in
    waits_may w.looked.same (took_as way.field-0-is (taken_of w.looked way.ensures.takes way.ensures.found way.ensures.plain)).takes.hand c.requires.may

pub returns-in-Ok-Waiting : goal.returns-in-Ok-Waiting
returns-in-Ok-Waiting g c b w =
    let way = c.in-Ok-Waiting in
    c.wait_entry.ensures b (record { x = w.x; had = w.had; taken = took_as way.field-0-is (taken_of w.looked way.ensures.takes way.ensures.found way.ensures.plain) })

pub returns-in-Err : goal.returns-in-Err
returns-in-Err g c b w =
    let way = c.in-Err in
    next_untyped w.had (taken_of w.looked way.ensures.takes way.ensures.found way.ensures.plain) c.put_ref.ensures.serves c.put_ref.ensures.puts c.put_ref.ensures.hand c.put_ref.ensures.plain

pub put_ref-requires : goal.put_ref-requires
put_ref-requires g c =
    let r = c.requires in
    let w = r.finds.1 in
    let puts = same_puts w.x (g.P.Port.value c.args.port.now) (g.P.Port.value c.take_looked.new.port) c.args.frame w.looked.same (c.in-Err.ensures.takes w.x w.looked).hand r.frame r.may r.gives in
    record { frame = puts.0; may = puts.1.0; gives = puts.1.1 }
