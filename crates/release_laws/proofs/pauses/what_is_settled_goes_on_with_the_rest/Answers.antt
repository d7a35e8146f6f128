use Rattle.std.specs.Prelude.{Ok, Err}
use Rattle.xp_words.specs.declared.reply.Pause.TheVariants.{Due}
use Rattle.xp_words.specs.declared.reply.Stop.TheVariants.{Paused}
use Rattle.release_laws.proofs.Settling.{settled}
use Rattle.release_laws.proofs.pauses.what_is_settled_goes_on_with_the_rest.Goals as goal

pub returns-clause-done : goal.returns-clause-done
returns-clause-done c below n v w f level answers q left a none = (settled n v f level q w answers (Ok tt) left a none).1

pub returns-clause-paused : goal.returns-clause-paused
returns-clause-paused c below n v w f level answers q left a none = settled n v f level q w answers (Err (Paused Due)) left a none
