use Rattle.desc_pages.proofs.Listing.{aside_there, takes_more, takes_none, untakes}
use Rattle.desc_pages.proofs.gdt.take_pages.Goals as goal

pub loop-at-init : goal.loop-at-init
loop-at-init g c = takes_none (g.P.Port.value c.args.port.now) c.args.frames.now c.requires.rests

pub get_desc-requires-clause-aside : goal.get_desc-requires-clause-aside
get_desc-requires-clause-aside g c = aside_there (g.P.Port.value c.args.port.now) (g.P.Port.value c.loop-at.port) c.args.frames.now c.loop-at.at c.requires.rests c.loop-at.invariant

pub loop-at-preserved : goal.loop-at-preserved
loop-at-preserved g c =
    let a = c.in-Ok.ensures in
    takes_more (g.P.Port.value c.args.port.now) (g.P.Port.value c.loop-at.port) c.args.frames.now c.loop-at.at c.requires.rests c.loop-at.invariant (g.P.Port.value c.get_desc.new.port) c.args.domain c.in-Ok.field-0 c.loop-at-test.true c.requires.own
    a.frame a.hand a.serves a.course

pub returns-in-Err : goal.returns-in-Err
returns-in-Err g c =
    let a = c.in-Err.ensures in
    untakes (g.P.Port.value c.args.port.now) (g.P.Port.value c.loop-at.port) c.args.frames.now c.loop-at.at c.requires.rests c.loop-at.invariant (g.P.Port.value c.get_desc.new.port) a.hand (g.P.Port.value c.give_pages.new.port) c.args.domain c.in-Err.stop c.loop-at-test.true c.requires.own
    a.serves a.stops a.kinds a.course c.give_pages.ensures
