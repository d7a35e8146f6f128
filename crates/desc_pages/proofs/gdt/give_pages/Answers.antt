use Rattle.std.proofs.Common.{◌-◌, subst, arith}
use Rattle.desc_pages.proofs.Held.{Giving, gave_all, giving_more, giving_none, may_drop_page, one_below}
use Rattle.desc_pages.proofs.gdt.give_pages.Goals as goal

pub loop-left-init : goal.loop-left-init
loop-left-init g c = giving_none (g.P.Port.value c.args.port.now) c.args.frames.now c.args.many c.requires.holds

pub drop_plain-requires-clause-drops : goal.drop_plain-requires-clause-drops
drop_plain-requires-clause-drops g c =
    let v = g.P.Port.value c.args.port.now in
    let y = g.P.Port.value c.loop-left.port in
    let so = subst (λ j. Giving v y c.args.frames.now c.args.many j) (one_below c.loop-left.left c.loop-left-test.true) c.loop-left.invariant in
    may_drop_page v y c.args.frames.now c.args.many (c.loop-left.left - 1) c.requires.holds so

pub loop-left-preserved : goal.loop-left-preserved
loop-left-preserved g c =
    let v = g.P.Port.value c.args.port.now in
    let y = g.P.Port.value c.loop-left.port in
    let so = subst (λ j. Giving v y c.args.frames.now c.args.many j) (one_below c.loop-left.left c.loop-left-test.true) c.loop-left.invariant in
    giving_more v y c.args.frames.now c.args.many (c.loop-left.left - 1) c.requires.holds so (g.P.Port.value c.drop_plain.new.port) c.drop_plain.ensures.serves c.drop_plain.ensures.hand c.drop_plain.ensures.found

pub returns : goal.returns
returns g c =
    let v = g.P.Port.value c.args.port.now in
    let y = g.P.Port.value c.loop-left.port in
    gave_all v y c.args.frames.now c.args.many (subst (λ j. Giving v y c.args.frames.now c.args.many j) (let off = c.loop-left-test.false in omega (arith, off)) c.loop-left.invariant)
