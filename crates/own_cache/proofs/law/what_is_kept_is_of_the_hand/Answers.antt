use Rattle.own_cache.proofs.Projecting.{translating_after}
use Rattle.own_cache.proofs.law.what_is_kept_is_of_the_hand.Goals as goal

pub returns : goal.returns
returns c = translating_after
