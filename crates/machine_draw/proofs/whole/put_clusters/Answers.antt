use Rattle.xp_words.proofs.Joining.{joined}
use Rattle.report_text.proofs.Blocks.{none_yet}
use Rattle.machine_draw.proofs.Texts.{no_clusters, clusters_more}
use Rattle.machine_draw.proofs.whole.put_clusters.Goals as goal

pub loop-domain-init : goal.loop-domain-init
loop-domain-init c = none_yet _ _ (no_clusters _)

pub loop-domain-preserved : goal.loop-domain-preserved
loop-domain-preserved c = rw clusters_more (joined _ _ _ _ _ c.loop-domain.invariant c.in_ok-put_cluster.ensures)
