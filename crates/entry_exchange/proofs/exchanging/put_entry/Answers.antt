use Rattle.std.proofs.Common.{ap, ◌∙◌}
use Rattle.xp_words.specs.Places.{number, sizes_of}
use Rattle.xp_words.specs.declared.place.Place.TheVariants.{Cell}
use Rattle.xp_board.specs.Told.{PortValue}
use Rattle.entry_exchange.proofs.ServesPut.{put_lost, put_stored, put_swapped}
use Rattle.entry_exchange.proofs.exchanging.put_entry.Goals as goal

pub store_entry-requires-clause-exchanges : goal.store_entry-requires-clause-exchanges
store_entry-requires-clause-exchanges g c = let e = c.requires.exchanges in record { lock = e.lock; here = e.here; may = e.may.may }

pub returns-then-not-update : goal.returns-then-not-update
returns-then-not-update g c = put_stored c.requires.index c.requires.exchanges c.if-not-update.true c.store_entry.ensures.moves c.store_entry.ensures.hand

pub returns-in-Ok : goal.returns-in-Ok
returns-in-Ok g c = put_swapped c.requires.index c.requires.exchanges c.if-not-update.false c.in-Ok.ensures.moves c.in-Ok.ensures.hand

pub returns-in-Err : goal.returns-in-Err
returns-in-Err g c =
    let at = c.place-place.ensures ∙ ap (λ m. number (sizes_of m) (Cell c.args.update.table c.args.update.index))
    (c.layout.ensures.layout ∙ ap (λ (q : PortValue). q.post.machine) c.in-Err.ensures.moves.to) in
    put_lost c.requires.index c.requires.exchanges c.if-not-update.false c.in-Err.ensures.lost c.in-Err.ensures.moves c.in-Err.ensures.hand at
