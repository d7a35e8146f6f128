use Rattle.entry_exchange.proofs.GivingDemand.{may_drop_page, may_put_ref, nothing_given, page_given, ref_given, table_given}
use Rattle.entry_exchange.proofs.Taking.{above_one, page_named, table_named}
use Rattle.entry_exchange.proofs.demands.give_demand.Goals as goal

pub put_ref-requires-clause-gives : goal.put_ref-requires-clause-gives
put_ref-requires-clause-gives g c = may_put_ref (rw c.in-Read.is at c.requires.taken)

pub drop_plain-requires-clause-drops : goal.drop_plain-requires-clause-drops
drop_plain-requires-clause-drops g c = may_drop_page (rw (page_named c.in-Typed.is c.requires.asks c.if-level-eq1.true) at c.requires.taken)

pub returns-in-Nothing : goal.returns-in-Nothing
returns-in-Nothing g c = nothing_given c.requires.asks c.in-Nothing.is

pub returns-in-Read : goal.returns-in-Read
returns-in-Read g c = let put = c.put_ref.ensures in rw c.in-Read.is (ref_given put.serves put.hand (record { found = put.puts; plain = put.plain }))

pub returns-in-Typed : goal.returns-in-Typed
returns-in-Typed g c =
    let drops = c.drop_plain.ensures in
    rw (page_named c.in-Typed.is c.requires.asks c.if-level-eq1.true) (page_given c.if-level-eq1.true drops.serves drops.hand (record {
      found = drops.found;
      plain = drops.plain;
      stands = drops.stands;
    }))

pub returns-in-Typed-2 : goal.returns-in-Typed-2
returns-in-Typed-2 g c =
    let is = table_named c.in-Typed-2.is c.requires.asks c.requires.low c.requires.high in
    rw is (table_given (above_one c.requires.low c.if-level-eq1.false) (rw is at c.requires.taken) c.park.ensures)
