use Rattle.std.proofs.Common.{refl, [], None, subst, Result, Err, sym, ap, ◌∙◌, Ok}
use Rattle.std.proofs.lemmas.Result.{err_from_is_err_and}
use Rattle.xp_words.specs.declared.entry.Demand.TheVariants.{Read}
use Rattle.xp_words.specs.declared.reply.Stop.{Stop}
use Rattle.step_maker.specs.Holds.{Holds}
use Rattle.step_maker.proofs.Telling.{came_telling}
use Rattle.step_maker.specs.Asked.{of_frame}
use Rattle.step_maker.proofs.Piecing.{serves_came}
use Rattle.frame_words.specs.Refs.{MayPut, took}
use Rattle.table_entries.specs.Between.{TakesNext}
use Rattle.table_entries.specs.declared.entries.Entered.{Entered}
use Rattle.table_entries.specs.declared.entries.Entered.TheVariants.{Recorded}
use Rattle.table_entries.proofs.Finding.{enters_by, read_recorded}
use Rattle.table_entries.proofs.HandReady.{plain_hand, plain_records}
use Rattle.table_entries.proofs.NextWays.{next_unreferred, takes_next}
use Rattle.table_entries.proofs.PiecesAsking.{asks_plain, looked_goes}
use Rattle.table_entries.proofs.PiecesEntering.{met, referred}
use Rattle.table_entries.proofs.PiecesTaking.{goes_record, record_shows}
use Rattle.table_entries.proofs.Twins.{load_keeps, read_refused, read_taken, twin_entry}
use Rattle.table_entries.proofs.entries.take_plain.Goals as goal

pub record_entry-requires : goal.record_entry-requires
record_entry-requires g c =
    let v = g.P.Port.value c.args.port.now in
    let u = g.P.Port.value c.get_ref.new.port in
    let at = c.args.at in
    let l = c.requires.looked in
    let got = c.in_ok-get_ref.ensures in
    let takes = subst (λ x. Holds v u (took x at.owner v.holdings)) got.frame.0 got.hand in
    plain_records l.2 u c.args.frame takes (serves_came v u (of_frame c.args.frame at.owner None) [] got.serves) (subst (λ x. MayPut x u.holdings) got.frame.0 got.gives) l.3

pub returns-in_err-get_ref : goal.returns-in_err-get_ref
returns-in_err-get_ref g c b word next asks =
    let v = g.P.Port.value c.args.port.now in
    let x = g.P.Port.value c.get_ref.new.port in
    let at = c.args.at in
    let e = c.in_err-get_ref.field-0.0 in
    let no = c.in_err-get_ref.ensures in
    let answer = err_from_is_err_and c.from_residual.result c.from_residual.ensures.1 in
    subst (λ (r : Result Entered Stop). TakesNext b x at.table at.index at.owner at.kind r) (sym (answer.1 ∙ ap Err answer.2))
    (next_unreferred next c.args.frame None asks (refl, tt) no.kinds no.serves no.stops no.hand no.gets (λ telling. read_refused v x c.args.frame at.owner e no.plain telling at.table at.index))

pub returns : goal.returns
returns g c b word next asks =
    let v = g.P.Port.value c.args.port.now in
    let u = g.P.Port.value c.get_ref.new.port in
    let w = g.P.Port.value c.record_entry.new.port in
    let at = c.args.at in
    let got = c.in_ok-get_ref.ensures in
    let record_it = c.record_entry.ensures in
    let takes = subst (λ x. Holds v u (took x at.owner v.holdings)) got.frame.0 got.hand in
    let came = serves_came v u (of_frame c.args.frame at.owner None) [] got.serves in
    takes_next
    (λ pages.
    let goes = referred c.args.frame None (looked_goes next.looks at.owner pages) (asks_plain next.looks at.owner pages next.works.on c.args.frame asks) u got.serves in
    met (goes_record goes record_it.moves) (record_shows goes record_it.moves))
    (enters_by next.looks at.owner (Read c.args.frame) asks w (Ok Recorded) (read_recorded v u w c.args.frame at.owner at.table at.index c.in_ok-get_ref.field-0 c.record_entry.result got.gets record_it.moves))
    (plain_hand next u c.args.frame takes came (subst (λ x. MayPut x u.holdings) got.frame.0 got.gives) asks w record_it.hand)
    (twin_entry at.owner at.kind next.looks.look asks w (Ok Recorded)
    (λ telling. read_taken v u c.args.frame c.in_ok-get_ref.field-0 at.owner got.plain telling w at.table at.index (load_keeps record_it.moves (came_telling v u came ∙ telling))))
