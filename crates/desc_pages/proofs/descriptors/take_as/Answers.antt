use Rattle.std.proofs.Common.{inl}
use Rattle.desc_pages.proofs.Taking.{no_work_on}
use Rattle.desc_pages.proofs.Typing.{desc_as, memory_as, memory_type, none_typed}
use Rattle.desc_pages.proofs.descriptors.take_as.Goals as goal

pub take_desc-requires-clause-aside : goal.take_desc-requires-clause-aside
take_desc-requires-clause-aside g c = inl (none_typed (g.P.Port.value c.args.port.now) c.args.frame c.requires.holds.typed)

pub take_page-requires : goal.take_page-requires
take_page-requires g c =
    record {
      frame = c.requires.frame;
      may = c.requires.may;
      lent = c.requires.holds.lent;
      real = c.requires.real;
      apart = no_work_on (g.P.Port.value c.args.port.now) c.args.frame c.requires.holds.works;
      untyped = none_typed (g.P.Port.value c.args.port.now) c.args.frame c.requires.holds.typed;
      looked = c.requires.holds.looking;
      room = λ foreign. absurd (foreign c.requires.own);
    }

pub returns-in-Desc : goal.returns-in-Desc
returns-in-Desc g c = desc_as (g.P.Port.value c.args.port.now) (g.P.Port.value c.take_desc.new.port) c.args.frame c.args.owner c.args.want c.take_desc.result c.in-Desc.is c.take_desc.ensures

pub returns-in_default : goal.returns-in_default
returns-in_default g c =
    let e = c.take_page.ensures in
    memory_as (g.P.Port.value c.args.port.now) (g.P.Port.value c.take_page.new.port) c.args.frame c.args.owner c.requires.own c.args.want c.take_page.result (memory_type c.args.want c.requires.want c.in_default.not-Desc) e.came e.serves e.stops e.kinds e.hand e.course
