use Rattle.entry_exchange.proofs.GivingDemand.{may_put_ref, nothing_released, ref_released, typed_released}
use Rattle.entry_exchange.proofs.demands.release_demand.Goals as goal

pub put_ref-requires-clause-gives : goal.put_ref-requires-clause-gives
put_ref-requires-clause-gives g c = may_put_ref (rw c.in-Read.is at c.requires.freed)

pub returns-in-Nothing : goal.returns-in-Nothing
returns-in-Nothing g c = nothing_released c.in-Nothing.is

pub returns-in-Read : goal.returns-in-Read
returns-in-Read g c = let put = c.put_ref.ensures in rw c.in-Read.is (ref_released put.serves put.hand (record { found = put.puts; plain = put.plain }))

pub returns-in-Typed : goal.returns-in-Typed
returns-in-Typed g c = let by = c.release.ensures in rw c.in-Typed.is (typed_released (rw c.in-Typed.is at c.requires.freed) by.kinds by.serves by.hand by.course)

pub returns-in-Typed-2 : goal.returns-in-Typed-2
returns-in-Typed-2 g c = let by = c.release.ensures in rw c.in-Typed.is (typed_released (rw c.in-Typed.is at c.requires.freed) by.kinds by.serves by.hand by.course)
