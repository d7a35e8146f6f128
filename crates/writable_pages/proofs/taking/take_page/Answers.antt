use Rattle.std.proofs.Common.{[], subst, inl, rules}
use Rattle.xp_words.specs.declared.kind.PageType.TheVariants.{Writable}
use Rattle.step_maker.proofs.Coming.{came_trans}
use Rattle.step_maker.proofs.Piecing.{serves_came}
use Rattle.frame_types.specs.Taking.{ShowsWait}
use Rattle.frame_types.specs.declared.taking.Taken.TheVariants.{Counted, Waiting}
use Rattle.frame_types.proofs.Waiting.{err_gives}
use Rattle.writable_pages.proofs.Taken.{counted_serves, counted_took, stops_page, type_took, untyped_came, untyped_serves, untyped_took, waiting_took}
use Rattle.writable_pages.proofs.TakenWords.{page_twin}
use Rattle.writable_pages.proofs.taking.take_page.Goals as goal

pub take_type-requires : goal.take_type-requires
take_type-requires g c =
    record { frame = search rules; may = search rules; wanted = search rules; lent = search rules; aside = λ none. inl c.requires.untyped; other = search rules; looked = search rules }

-- ---- it is not to be had
pub put_ref-requires-clause-gives : goal.put_ref-requires-clause-gives
put_ref-requires-clause-gives g c =
    err_gives (g.P.Port.value c.args.port.now) (g.P.Port.value c.take_type.new.port) c.args.frame c.args.owner c.requires.lent c.requires.apart c.in-Err.ensures.hand

pub returns-in-Err : goal.returns-in-Err
returns-in-Err g c =
    let v = g.P.Port.value c.args.port.now in
    let u = g.P.Port.value c.take_type.new.port in
    let w = g.P.Port.value c.put_ref.new.port in
    let e = c.in-Err.ensures in
    let course = untyped_took v u c.args.frame c.args.owner w c.in-Err.stop e.found e.plain e.stops c.put_ref.ensures.puts c.put_ref.ensures.plain in
    record {
      came = untyped_came v u c.args.frame c.args.owner w c.in-Err.stop e.serves c.put_ref.ensures.serves;
      serves = untyped_serves v u c.args.frame c.args.owner w c.in-Err.stop e.serves c.put_ref.ensures.serves;
      stops = stops_page v u c.args.frame c.args.owner w c.in-Err.stop (serves_came u w _ [] c.put_ref.ensures.serves) e.stops;
      kinds = e.kinds;
      hand = search rules;
      course = course;
      plain = λ mine. page_twin v w c.args.frame c.args.owner _ mine course;
    }

-- ---- it is ordinary memory
pub returns-in-Ok-Counted : goal.returns-in-Ok-Counted
returns-in-Ok-Counted g c =
    let v = g.P.Port.value c.args.port.now in
    let u = g.P.Port.value c.take_type.new.port in
    let e = c.in-Ok-Counted in
    let course = counted_took v u c.args.frame c.args.owner (type_took v u c.args.frame c.args.owner e.field-0 Counted e.field-0-is e.ensures.found e.ensures.plain e.ensures.waits) in
    record {
      came = serves_came v u _ [] e.ensures.serves;
      serves = counted_serves v u c.args.frame c.args.owner e.ensures.serves;
      stops = tt;
      kinds = tt;
      hand = search rules;
      course = course;
      plain = λ mine. page_twin v u c.args.frame c.args.owner _ mine course;
    }

-- ---- it waits
pub returns-in-Ok-Waiting : goal.returns-in-Ok-Waiting
returns-in-Ok-Waiting g c =
    let v = g.P.Port.value c.args.port.now in
    let u = g.P.Port.value c.take_type.new.port in
    let w = g.P.Port.value c.leave_page.new.port in
    let e = c.in-Ok-Waiting in
    let shows : ShowsWait v u c.args.frame c.args.owner Writable (Waiting e.own e.stamp e.stop) = subst (λ t. ShowsWait v u c.args.frame c.args.owner Writable t) e.field-0-is e.ensures.waits in
    let course = waiting_took v u c.args.frame c.args.owner w e.stop e.own e.stamp
    (type_took v u c.args.frame c.args.owner e.field-0 (Waiting e.own e.stamp e.stop) e.field-0-is e.ensures.found e.ensures.plain e.ensures.waits) c.leave_page.ensures.course in
    record {
      came = came_trans v u w (serves_came v u _ [] e.ensures.serves) c.leave_page.ensures.came;
      serves = search rules;
      stops = stops_page v u c.args.frame c.args.owner w e.stop c.leave_page.ensures.came shows.1;
      kinds = search rules;
      hand = search rules;
      course = course;
      plain = λ mine. page_twin v w c.args.frame c.args.owner _ mine course;
    }
