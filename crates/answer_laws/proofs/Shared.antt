-- Lemmas that several crates above cite.
use Rattle.std.proofs.Common.{◌≡◌, true, is_some, ap}
use Rattle.answer_laws.specs.Alone.{IsAlone}
use Rattle.xp_board.specs.Told.{PortValue, is_telling}

pub alone_telling : (v : PortValue) → IsAlone v → is_telling v ≡ true
alone_telling v alone = ap is_some alone.telling
