use Rattle.std.proofs.Common.{sym, ◌∙◌}
use Rattle.desc_pages.proofs.Local.{barred_sets, set_sets}
use Rattle.desc_pages.proofs.ldt.set_ldt.Goals as goal

pub returns-in-Some : goal.returns-in-Some
returns-in-Some g c = barred_sets (g.P.Port.value c.args.port.now) c.args.address c.args.entries c.in-Some.refusal (sym c.refusal_of.ensures ∙ c.in-Some.is) c.requires.rests

pub returns-in-None : goal.returns-in-None
returns-in-None g c =
    set_sets (g.P.Port.value c.args.port.now) (g.P.Port.value c.unname_pages.new.port) (g.P.Port.value c.put_base.new.port) c.args.address c.args.entries c.put_base.result (sym c.refusal_of.ensures ∙ c.in-None.is)
    c.unname_pages.ensures c.base_of.result c.base_of.ensures.base c.put_base.ensures.moves c.put_base.ensures.hand c.requires.rests
