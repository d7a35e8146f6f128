use Rattle.report_text.proofs.Blocks.{no_domains, domains_more, none_yet}
use Rattle.xp_words.proofs.Joining.{joined}
use Rattle.report_text.proofs.whole.put_domains.Goals as goal

pub loop-domain-init : goal.loop-domain-init
loop-domain-init c = none_yet _ _ (no_domains _)

pub loop-domain-preserved : goal.loop-domain-preserved
loop-domain-preserved c = rw domains_more (joined _ _ _ _ _ c.loop-domain.invariant c.in_ok-put_domain.ensures)
