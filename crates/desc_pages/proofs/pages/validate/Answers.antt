use Rattle.desc_pages.proofs.Validating.{page_work}
use Rattle.desc_pages.proofs.Validated.{bad_gives, bad_may, bad_validates, bad_works, fixed_may, fixed_validates, fixed_works, held_as, moved_as}
use Rattle.desc_pages.proofs.pages.validate.Goals as goal

pub fix_words-requires-clause-page : goal.fix_words-requires-clause-page
fix_words-requires-clause-page g c =
    let t = c.requires.taken in
    (t.2.works.work, t.0.holdings.works, page_work t.0 (g.P.Port.value c.args.port.now) c.args.frame t.1 t.2)

-- ---- all its words are fixed
pub leave-requires-clause-may : goal.leave-requires-clause-may
leave-requires-clause-may g c =
    let t = c.requires.taken in
    let v = g.P.Port.value c.args.port.now in
    fixed_works t.0 v (g.P.Port.value c.fix_words.new.port) c.args.frame t.1 t.2 (c.in-Ok.ensures t.2.works.work t.0.holdings.works (page_work t.0 v c.args.frame t.1 t.2)) c.requires.may

pub leave-requires-clause-leaves : goal.leave-requires-clause-leaves
leave-requires-clause-leaves g c =
    let t = c.requires.taken in
    let v = g.P.Port.value c.args.port.now in
    rw c.live_kind.ensures (fixed_may t.0 v (g.P.Port.value c.fix_words.new.port) c.args.frame t.1 t.2 (c.in-Ok.ensures t.2.works.work t.0.holdings.works (page_work t.0 v c.args.frame t.1 t.2)) c.requires.may)

pub returns-in-Ok : goal.returns-in-Ok
returns-in-Ok g c b owner t =
    let v = g.P.Port.value c.args.port.now in
    let a = g.P.Port.value c.fix_words.new.port in
    let w = g.P.Port.value c.leave.new.port in
    fixed_validates b v a c.args.frame owner t (c.in-Ok.ensures t.works.work b.holdings.works (page_work b v c.args.frame owner t)) w c.leave.result
    (moved_as a w c.args.frame c.leave.result _ _ c.live_kind.ensures c.leave.ensures.moves) (held_as a w c.args.frame _ _ c.live_kind.ensures c.leave.ensures.hand)

-- ---- one has no fixed form
pub leave-requires-in-Err-clause-leaves : goal.leave-requires-in-Err-clause-leaves
leave-requires-in-Err-clause-leaves g c =
    let t = c.requires.taken in
    let v = g.P.Port.value c.args.port.now in
    let so = (c.in-Err.ensures t.2.works.work t.0.holdings.works (page_work t.0 v c.args.frame t.1 t.2)).1 in
    rw c.dead_kind.ensures
    (bad_may t.0 v (g.P.Port.value c.fix_words.new.port) c.args.frame t.1 t.2 c.in-Err.field-0.index c.in-Err.field-0.word so (g.P.Port.value c.look_clock-clock.new.port) c.look_clock-clock.result c.look_clock-clock.ensures.moves c.look_clock-clock.ensures.hand)

pub put_ref-requires-clause-may : goal.put_ref-requires-clause-may
put_ref-requires-clause-may g c =
    let t = c.requires.taken in
    let v = g.P.Port.value c.args.port.now in
    let a = g.P.Port.value c.look_clock-clock.new.port in
    let d = g.P.Port.value c.leave-in-Err.new.port in
    let so = (c.in-Err.ensures t.2.works.work t.0.holdings.works (page_work t.0 v c.args.frame t.1 t.2)).1 in
    bad_works t.0 v (g.P.Port.value c.fix_words.new.port) c.args.frame t.1 t.2 c.in-Err.field-0.index c.in-Err.field-0.word so a c.look_clock-clock.result c.look_clock-clock.ensures.moves c.look_clock-clock.ensures.hand
    d c.leave-in-Err.result (moved_as a d c.args.frame c.leave-in-Err.result _ _ c.dead_kind.ensures c.leave-in-Err.ensures.moves) (held_as a d c.args.frame _ _ c.dead_kind.ensures c.leave-in-Err.ensures.hand) c.requires.may

pub put_ref-requires-clause-gives : goal.put_ref-requires-clause-gives
put_ref-requires-clause-gives g c =
    let t = c.requires.taken in
    let v = g.P.Port.value c.args.port.now in
    let a = g.P.Port.value c.look_clock-clock.new.port in
    let d = g.P.Port.value c.leave-in-Err.new.port in
    let so = (c.in-Err.ensures t.2.works.work t.0.holdings.works (page_work t.0 v c.args.frame t.1 t.2)).1 in
    bad_gives t.0 v (g.P.Port.value c.fix_words.new.port) c.args.frame t.1 t.2 c.in-Err.field-0.index c.in-Err.field-0.word so a c.look_clock-clock.result c.look_clock-clock.ensures.moves c.look_clock-clock.ensures.hand
    d c.leave-in-Err.result (moved_as a d c.args.frame c.leave-in-Err.result _ _ c.dead_kind.ensures c.leave-in-Err.ensures.moves) (held_as a d c.args.frame _ _ c.dead_kind.ensures c.leave-in-Err.ensures.hand)

pub returns-in-Err : goal.returns-in-Err
returns-in-Err g c b owner t =
    let v = g.P.Port.value c.args.port.now in
    let a = g.P.Port.value c.look_clock-clock.new.port in
    let d = g.P.Port.value c.leave-in-Err.new.port in
    let so = (c.in-Err.ensures t.works.work b.holdings.works (page_work b v c.args.frame owner t)).1 in
    bad_validates b v (g.P.Port.value c.fix_words.new.port) c.args.frame owner t c.in-Err.field-0.index c.in-Err.field-0.word so a c.look_clock-clock.result c.look_clock-clock.ensures.moves c.look_clock-clock.ensures.hand
    d c.leave-in-Err.result (moved_as a d c.args.frame c.leave-in-Err.result _ _ c.dead_kind.ensures c.leave-in-Err.ensures.moves) (held_as a d c.args.frame _ _ c.dead_kind.ensures c.leave-in-Err.ensures.hand)
    (g.P.Port.value c.put_ref.new.port) (c.in-Err.ensures t.works.work b.holdings.works (page_work b v c.args.frame owner t)).0 c.put_ref.ensures.hand c.put_ref.ensures.serves c.put_ref.ensures.puts c.put_ref.ensures.plain
