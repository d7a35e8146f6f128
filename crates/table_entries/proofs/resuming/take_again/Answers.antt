use Rattle.std.proofs.Common.{rules, Err, ap, sym, subst, ◌∙◌, Result, inl}
use Rattle.std.proofs.lemmas.Result.{err_from_is_err_and}
use Rattle.xp_words.specs.declared.reply.Stop.{Stop}
use Rattle.table_entries.specs.Between.{TakesLast}
use Rattle.table_entries.specs.declared.resuming.Resumed.{Resumed}
use Rattle.table_entries.proofs.LastWays.{again_aside, again_looking, again_other, again_some, had_again, last_opened, last_taken, last_unreferred, last_untyped, last_waiting}
use Rattle.table_entries.proofs.NextWays.{type_taken}
use Rattle.table_entries.proofs.resuming.take_again.Goals as goal

pub take_type-requires : goal.take_type-requires
take_type-requires g c =
    let was = c.requires.looked in
    let got = c.in_ok-frame.ensures in
    let had = had_again (g.P.Port.value c.get_ref.new.port) c.args.at.owner was.1.2 was.1.3 was.2 got.frame got.serves got.hand got.plain got.gets in
    record { frame = search rules; may = search rules; wanted = again_some had; lent = search rules; aside = λ none. inl (again_aside had none); other = again_other had; looked = again_looking had }

pub returns-in_err-frame : goal.returns-in_err-frame
returns-in_err-frame g c b u word l asks off =
    let at = c.args.at in
    let no = c.in_err-frame.ensures in
    let answer = err_from_is_err_and c.from_residual.result c.from_residual.ensures.1 in
    subst (λ (r : Result Resumed Stop). TakesLast b (g.P.Port.value c.get_ref.new.port) at.table at.index at.owner at.kind r) (sym (answer.1 ∙ ap Err answer.2)) (last_unreferred l asks off no.kinds no.serves no.stops no.gets no.plain no.hand)

pub returns-in-Ok-Counted : goal.returns-in-Ok-Counted
returns-in-Ok-Counted g c b u word l asks off =
    let got = c.in_ok-frame.ensures in
    let way = c.in-Ok-Counted in
    let had = had_again (g.P.Port.value c.get_ref.new.port) c.args.at.owner l asks off got.frame got.serves got.hand got.plain got.gets in
    last_taken had (type_taken way.field-0-is way.ensures.serves way.ensures.waits way.ensures.hand way.ensures.found way.ensures.plain) way.field-0-is way.ensures.live

pub returns-in-Ok-InWork : goal.returns-in-Ok-InWork
returns-in-Ok-InWork g c b u word l asks off =
    let got = c.in_ok-frame.ensures in
    let way = c.in-Ok-InWork in
    let had = had_again (g.P.Port.value c.get_ref.new.port) c.args.at.owner l asks off got.frame got.serves got.hand got.plain got.gets in
    last_opened had (type_taken way.field-0-is way.ensures.serves way.ensures.waits way.ensures.hand way.ensures.found way.ensures.plain)

pub returns-in-Ok-Waiting : goal.returns-in-Ok-Waiting
returns-in-Ok-Waiting g c b u word l asks off =
    let got = c.in_ok-frame.ensures in
    let way = c.in-Ok-Waiting in
    let had = had_again (g.P.Port.value c.get_ref.new.port) c.args.at.owner l asks off got.frame got.serves got.hand got.plain got.gets in
    last_waiting had (type_taken way.field-0-is way.ensures.serves way.ensures.waits way.ensures.hand way.ensures.found way.ensures.plain)

pub returns-in-Err : goal.returns-in-Err
returns-in-Err g c b u word l asks off =
    let got = c.in_ok-frame.ensures in
    let no = c.in-Err.ensures in
    let back = c.put_ref.ensures in
    let had = had_again (g.P.Port.value c.get_ref.new.port) c.args.at.owner l asks off got.frame got.serves got.hand got.plain got.gets in
    last_untyped had (record { takes = record { serves = no.serves; stops = no.stops; kinds = no.kinds; waits = tt; hand = no.hand }; found = no.found; plain = no.plain }) back.serves back.puts back.hand back.plain
