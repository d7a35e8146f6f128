use Rattle.std.proofs.Common.{subst, rules}
use Rattle.xp_words.specs.declared.kind.PageType.TheVariants.{Desc}
use Rattle.frame_types.specs.Taking.{ShowsWait, TakesAs}
use Rattle.frame_types.proofs.Waiting.{err_gives}
use Rattle.desc_pages.proofs.Taking.{counted_takes, no_work_on, read_takes, untyped_takes, waiting_takes}
use Rattle.desc_pages.proofs.pages.take_desc.Goals as goal

pub take_type-requires : goal.take_type-requires
take_type-requires g c =
    let none = no_work_on (g.P.Port.value c.args.port.now) c.args.frame c.requires.works in
    record { frame = search rules; may = search rules; wanted = search rules; lent = search rules; aside = search rules; other = λ e at. absurd (let is = at in cc); looked = search rules }

-- ---- the type is not to be had
pub put_ref-requires-clause-gives : goal.put_ref-requires-clause-gives
put_ref-requires-clause-gives g c =
    err_gives (g.P.Port.value c.args.port.now) (g.P.Port.value c.take_type.new.port) c.args.frame c.args.owner c.requires.lent (no_work_on (g.P.Port.value c.args.port.now) c.args.frame c.requires.works) c.in-Err.ensures.hand

pub returns-in-Err : goal.returns-in-Err
returns-in-Err g c =
    let e = c.in-Err.ensures in
    let p = c.put_ref.ensures in
    untyped_takes (g.P.Port.value c.args.port.now) (g.P.Port.value c.take_type.new.port) (g.P.Port.value c.put_ref.new.port) c.args.frame c.args.owner c.in-Err.stop e.serves e.stops e.kinds e.hand e.found e.plain p.serves p.puts p.hand p.plain

-- ---- it is a page, or comes into work
pub returns-in-Ok-Counted : goal.returns-in-Ok-Counted
returns-in-Ok-Counted g c =
    let a = c.in-Ok-Counted in
    let v = g.P.Port.value c.args.port.now in
    let u = g.P.Port.value c.take_type.new.port in
    counted_takes v u c.args.frame c.args.owner a.ensures.serves a.ensures.found a.ensures.plain a.field-0-is (subst (λ t. TakesAs v u c.args.frame c.args.owner Desc t) a.field-0-is a.ensures.hand)

pub returns-in-Ok-InWork : goal.returns-in-Ok-InWork
returns-in-Ok-InWork g c =
    let a = c.in-Ok-InWork in
    let v = g.P.Port.value c.args.port.now in
    let u = g.P.Port.value c.take_type.new.port in
    read_takes v u c.args.frame c.args.owner a.ensures.serves a.ensures.found a.ensures.plain (g.P.Port.value c.validate.new.port) a.field-0-0 a.field-0-1 c.validate.result a.field-0-is (subst (λ t. TakesAs v u c.args.frame c.args.owner Desc t) a.field-0-is a.ensures.hand).1 c.requires.works c.requires.locks c.requires.claimed
    c.validate.ensures

pub returns-in-Ok-Waiting : goal.returns-in-Ok-Waiting
returns-in-Ok-Waiting g c =
    let a = c.in-Ok-Waiting in
    let v = g.P.Port.value c.args.port.now in
    let u = g.P.Port.value c.take_type.new.port in
    waiting_takes v u c.args.frame c.args.owner a.ensures.serves a.ensures.found a.ensures.plain (g.P.Port.value c.leave_waiting.new.port) a.field-0-0 a.stamp a.stop a.field-0-is c.requires.lent (subst (λ t. TakesAs v u c.args.frame c.args.owner Desc t) a.field-0-is a.ensures.hand)
    (subst (λ t. ShowsWait v u c.args.frame c.args.owner Desc t) a.field-0-is a.ensures.waits) c.leave_waiting.ensures
