use Rattle.std.proofs.Common.{refl}
use Rattle.mmuext_ops.proofs.PinningLive.{fits, found_some, may_pin, missed_it, pinned, raced, read_some, seen, spelled, still_holds}
use Rattle.mmuext_ops.proofs.pinning.pin_live.Goals as goal

pub read_kind-kind-requires : goal.read_kind-kind-requires
read_kind-kind-requires g c = read_some c.requires.frame c.requires.holds c.look_kind-found.ensures.moves c.look_kind-found.ensures.hand

pub set_pin-requires-clause-is : goal.set_pin-requires-clause-is
set_pin-requires-clause-is g c = spelled c.requires.frame c.requires.holds c.look_kind-found.ensures.moves c.look_kind-found.ensures.hand c.read_kind-kind.ensures

pub set_pin-requires-clause-fits : goal.set_pin-requires-clause-fits
set_pin-requires-clause-fits g c = fits c.requires.frame c.requires.holds c.look_kind-found.ensures.moves c.look_kind-found.ensures.hand c.read_kind-kind.ensures

pub set_pin-requires-clause-pins : goal.set_pin-requires-clause-pins
set_pin-requires-clause-pins g c = may_pin c.requires.frame c.requires.holds c.look_kind-found.ensures.moves c.look_kind-found.ensures.hand c.read_kind-kind.ensures c.requires.low c.if-kind.false

pub read_kind-requires : goal.read_kind-requires
read_kind-requires g c = found_some c.requires.frame c.requires.holds c.look_kind-found.ensures.moves c.look_kind-found.ensures.hand c.read_kind-kind.ensures c.requires.low c.if-kind.false c.in-Err.ensures.moves

pub give_up-requires-then-read_kind-clause-holds : goal.give_up-requires-then-read_kind-clause-holds
give_up-requires-then-read_kind-clause-holds g c = still_holds c.requires.frame c.requires.holds c.look_kind-found.ensures.moves c.look_kind-found.ensures.hand c.read_kind-kind.ensures c.requires.low c.if-kind.false c.in-Err.ensures.moves c.in-Err.ensures.hand

pub give_up-requires-else-read_kind-clause-holds : goal.give_up-requires-else-read_kind-clause-holds
give_up-requires-else-read_kind-clause-holds g c = still_holds c.requires.frame c.requires.holds c.look_kind-found.ensures.moves c.look_kind-found.ensures.hand c.read_kind-kind.ensures c.requires.low c.if-kind.false c.in-Err.ensures.moves c.in-Err.ensures.hand

pub returns-then-kind : goal.returns-then-kind
returns-then-kind g c = seen c.requires.frame c.requires.holds c.look_kind-found.ensures.moves c.look_kind-found.ensures.hand c.read_kind-kind.ensures c.if-kind.true c.give_up.ensures

pub returns-in-Ok : goal.returns-in-Ok
returns-in-Ok g c = pinned c.requires.frame c.requires.holds c.look_kind-found.ensures.moves c.look_kind-found.ensures.hand c.read_kind-kind.ensures c.requires.low c.if-kind.false c.in-Ok.ensures.moves refl c.in-Ok.ensures.hand

pub returns-then-read_kind : goal.returns-then-read_kind
returns-then-read_kind g c = raced c.requires.frame c.requires.holds c.look_kind-found.ensures.moves c.look_kind-found.ensures.hand c.read_kind-kind.ensures c.requires.low c.if-kind.false c.in-Err.ensures.moves c.in-Err.ensures.lost c.in-Err.ensures.hand c.read_kind.ensures c.give_up-then-read_kind.ensures c.if-read_kind.true

pub returns-else-read_kind : goal.returns-else-read_kind
returns-else-read_kind g c = missed_it c.requires.frame c.requires.holds c.look_kind-found.ensures.moves c.look_kind-found.ensures.hand c.read_kind-kind.ensures c.requires.low c.if-kind.false c.in-Err.ensures.moves c.in-Err.ensures.lost c.in-Err.ensures.hand c.read_kind.ensures c.give_up-else-read_kind.ensures c.if-read_kind.false c.lost.ensures
