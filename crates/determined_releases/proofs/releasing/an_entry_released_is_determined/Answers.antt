use Rattle.determined_releases.proofs.Entries.{released_tie}
use Rattle.determined_releases.proofs.releasing.an_entry_released_is_determined.Goals as goal

pub returns : goal.returns
returns c = λ n frame index kind a b us vs p q. released_tie n frame index kind a b us vs p q
