use Rattle.std.proofs.Common.{sym, ◌∙◌}
use Rattle.desc_pages.proofs.Storing.{type_is}
use Rattle.desc_pages.proofs.descriptors.type_for.Goals as goal

pub returns-then-is_live_page : goal.returns-then-is_live_page
returns-then-is_live_page c = type_is _ _ _ c.read_kind.ensures (sym c.is_live_page.ensures ∙ c.if-is_live_page.true)

pub returns-else-is_live_page : goal.returns-else-is_live_page
returns-else-is_live_page c = type_is _ _ _ c.read_kind.ensures (sym c.is_live_page.ensures ∙ c.if-is_live_page.false)
