use Rattle.std.specs.Prelude.{refl}
use Rattle.exchange_laws.proofs.Locking.{locked_again}
use Rattle.exchange_laws.proofs.locks.a_table_that_is_locked_again_is_as_before.Goals as goal

pub returns : goal.returns
returns c v u w f owner level p machine telling low describes left on = locked_again v.post.machine owner f level machine v u w p refl telling low describes left on
