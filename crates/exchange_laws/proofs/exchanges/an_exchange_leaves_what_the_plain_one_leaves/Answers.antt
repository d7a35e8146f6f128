use Rattle.exchange_laws.proofs.Exchanging.{exchange_plain}
use Rattle.exchange_laws.proofs.exchanges.an_exchange_leaves_what_the_plain_one_leaves.Goals as goal

pub returns : goal.returns
returns c v w x o answers answer machine telling calm orderly low high frame few exchange =
    exchange_plain c.a_release_leaves_what_the_plain_one_leaves.ensures c.a_paused_release_leaves_the_rest.ensures v x o machine telling calm orderly low high frame few w answers answer exchange
