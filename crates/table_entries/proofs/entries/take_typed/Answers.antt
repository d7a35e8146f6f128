use Rattle.std.proofs.Common.{rules, refl, Err, ap, sym, subst, ◌∙◌, Result, inl, Some}
use Rattle.std.proofs.lemmas.Result.{err_from_is_err_and}
use Rattle.xp_words.specs.declared.reply.Stop.{Stop}
use Rattle.frame_words.proofs.Getting.{first_stopped}
use Rattle.table_entries.specs.Between.{TakesNext}
use Rattle.table_entries.specs.Found.{TypedBy}
use Rattle.table_entries.specs.declared.entries.Entered.{Entered}
use Rattle.table_entries.proofs.NextWays.{counted_as, counted_records, found_as, had_aside, had_other, had_ref, had_some, next_counted, next_untyped, next_unreferred}
use Rattle.table_entries.proofs.Twins.{typed_refused}
use Rattle.table_entries.proofs.entries.take_typed.Goals as goal

pub count_live-requires : goal.count_live-requires
count_live-requires g c =
    let got = c.in_ok-frame.ensures in
    let had = had_ref (g.P.Port.value c.get_ref.new.port) c.requires.looked.2 c.requires.looked.3 got.frame got.serves got.hand got.plain got.gets in
    record { frame = search rules; may = search rules; wanted = had_some had; lent = search rules; aside = λ none. inl (had_aside had none); other = had_other had; looked = search rules }

pub record_entry-requires : goal.record_entry-requires
record_entry-requires g c =
    let got = c.in_ok-frame.ensures in
    let way = c.in-Ok-Counted in
    counted_records (had_ref (g.P.Port.value c.get_ref.new.port) c.requires.looked.2 c.requires.looked.3 got.frame got.serves got.hand got.plain got.gets)
    (counted_as way.field-0 way.field-0-is way.ensures.takes way.ensures.found way.ensures.plain)

pub take_found-requires-clause-finds : goal.take_found-requires-clause-finds
take_found-requires-clause-finds g c =
    let got = c.in_ok-frame.ensures in
    let way = c.in-Ok-Found in
    let x = g.P.Port.value c.get_ref.new.port in
    let found = found_as way.field-0 way.word way.field-0-is way.ensures.takes way.ensures.plain in
    (c.requires.looked.0, record { x = x; had = had_ref x c.requires.looked.2 c.requires.looked.3 got.frame got.serves got.hand got.plain got.gets; looked = found.0; other = found.1 })

pub returns-in_err-frame : goal.returns-in_err-frame
returns-in_err-frame g c b word next asks =
    let v = g.P.Port.value c.args.port.now in
    let x = g.P.Port.value c.get_ref.new.port in
    let at = c.args.at in
    let e = c.in_err-frame.field-0.0 in
    let no = c.in_err-frame.ensures in
    let answer = err_from_is_err_and c.from_residual.result c.from_residual.ensures.1 in
    subst (λ (r : Result Entered Stop). TakesNext b x at.table at.index at.owner at.kind r) (sym (answer.1 ∙ ap Err answer.2))
    (next_unreferred next c.args.frame (Some c.args.want) asks (refl, refl) no.kinds no.serves no.stops no.hand
    (first_stopped Entered v x c.args.frame at.owner (λ ts. TypedBy v.post c.args.frame at.owner c.args.want at.table at.index (Err e) ts) e no.gets) (λ telling. typed_refused v x c.args.frame at.owner e no.plain telling at.table at.index c.args.want))

pub returns-in-Ok-Counted : goal.returns-in-Ok-Counted
returns-in-Ok-Counted g c b word next asks =
    let got = c.in_ok-frame.ensures in
    let way = c.in-Ok-Counted in
    next_counted (had_ref (g.P.Port.value c.get_ref.new.port) next asks got.frame got.serves got.hand got.plain got.gets) (counted_as way.field-0 way.field-0-is way.ensures.takes way.ensures.found way.ensures.plain)
    c.record_entry.ensures.moves c.record_entry.ensures.hand

pub returns-in-Ok-Found : goal.returns-in-Ok-Found
returns-in-Ok-Found g c b word next asks =
    let got = c.in_ok-frame.ensures in
    let way = c.in-Ok-Found in
    let x = g.P.Port.value c.get_ref.new.port in
    let found = found_as way.field-0 way.word way.field-0-is way.ensures.takes way.ensures.plain in
    c.take_found.ensures b (record { x = x; had = had_ref x next asks got.frame got.serves got.hand got.plain got.gets; looked = found.0; other = found.1 })

pub returns-in-Err : goal.returns-in-Err
returns-in-Err g c b word next asks =
    let got = c.in_ok-frame.ensures in
    let no = c.in-Err.ensures in
    let back = c.put_ref.ensures in
    next_untyped (had_ref (g.P.Port.value c.get_ref.new.port) next asks got.frame got.serves got.hand got.plain got.gets) (record { takes = no.takes; found = no.found; plain = no.plain }) back.serves back.puts back.hand back.plain
