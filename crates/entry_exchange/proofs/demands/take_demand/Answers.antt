use Rattle.std.proofs.lemmas.Result.{err_from_is_err_and}
use Rattle.entry_exchange.proofs.Taking.{above_one, acquired, nothing_taken, page_named, paged, referred, refused, table_named, unpaged, unreferred}
use Rattle.entry_exchange.proofs.demands.take_demand.Goals as goal

pub returns-in-Nothing : goal.returns-in-Nothing
returns-in-Nothing g c = nothing_taken c.requires.asks c.in-Nothing.is

-- ---- a reference
pub returns-in_err-get_ref-in-Read : goal.returns-in_err-get_ref-in-Read
returns-in_err-get_ref-in-Read g c =
    let p = err_from_is_err_and c.from_residual.result c.from_residual.ensures.1 in
    let got = c.in_err-get_ref-in-Read.ensures in
    rw (p.1, p.2, c.in-Read.is) (unreferred (record { found = got.gets; plain = got.plain; stops = got.stops }) got.serves got.hand)

pub returns-in_ok-get_ref-in-Read : goal.returns-in_ok-get_ref-in-Read
returns-in_ok-get_ref-in-Read g c = let got = c.in_ok-get_ref-in-Read.ensures in rw c.in-Read.is (referred got.frame (record {
  found = got.gets;
  plain = got.plain;
  stops = tt;
}) got.serves got.hand)

-- ---- a page
pub returns-in_err-get_page-in-Typed : goal.returns-in_err-get_page-in-Typed
returns-in_err-get_page-in-Typed g c =
    let p = err_from_is_err_and c.from_residual-in_err-get_page-in-Typed.result c.from_residual-in_err-get_page-in-Typed.ensures.1 in
    let got = c.in_err-get_page-in-Typed.ensures in
    rw (p.1, p.2, page_named c.in-Typed.is c.requires.asks c.if-level-eq1.true) (unpaged c.if-level-eq1.true got.came got.serves got.stops got.hand got.course)

pub returns-in_ok-get_page-in-Typed : goal.returns-in_ok-get_page-in-Typed
returns-in_ok-get_page-in-Typed g c =
    let got = c.in_ok-get_page-in-Typed.ensures in
    rw (page_named c.in-Typed.is c.requires.asks c.if-level-eq1.true) (paged c.if-level-eq1.true got.came got.frame got.serves got.hand got.course)

-- ---- a table
pub returns-in_err-acquire-in-Typed-2 : goal.returns-in_err-acquire-in-Typed-2
returns-in_err-acquire-in-Typed-2 g c =
    let p = err_from_is_err_and c.from_residual-in_err-acquire-in-Typed-2.result c.from_residual-in_err-acquire-in-Typed-2.ensures.1 in
    let got = c.in_err-acquire-in-Typed-2.ensures in
    rw (p.1, p.2, table_named c.in-Typed-2.is c.requires.asks c.requires.low c.requires.high)
    (refused (above_one c.requires.low c.if-level-eq1.false) got.kinds got.serves got.stops got.hand got.course)

pub returns-in_ok-acquire-in-Typed-2 : goal.returns-in_ok-acquire-in-Typed-2
returns-in_ok-acquire-in-Typed-2 g c =
    let got = c.in_ok-acquire-in-Typed-2.ensures in
    rw (table_named c.in-Typed-2.is c.requires.asks c.requires.low c.requires.high) (acquired (above_one c.requires.low c.if-level-eq1.false) got.frame got.serves got.hand got.course)
