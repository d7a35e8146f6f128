use Rattle.flush_words.proofs.OwnFlush.{clock_below, to_next, to_found, may_flush, ticked_own, overtaken_own, spent_own}
use Rattle.flush_words.proofs.flushes.flush_own.Goals as goal

pub returns-then-clock-eq-LAST_CLOCK-clause-flushes : goal.returns-then-clock-eq-LAST_CLOCK-clause-flushes
returns-then-clock-eq-LAST_CLOCK-clause-flushes g c = spent_own _ _ _ c.look_clock-clock.ensures.moves c.if-clock-eq-LAST_CLOCK.true

pub tick-requires : goal.tick-requires
tick-requires g c = clock_below _ _ _ c.look_clock-clock.ensures.moves c.if-clock-eq-LAST_CLOCK.false

pub flush-requires : goal.flush-requires
flush-requires g c = may_flush _ _ _ _ _ c.look_clock-clock.ensures.moves c.in-Ok.ensures.moves _ (to_next _) c.requires.landed

pub flush-requires-in-Err : goal.flush-requires-in-Err
flush-requires-in-Err g c = may_flush _ _ _ _ _ c.look_clock-clock.ensures.moves c.in-Err.ensures.moves _ (to_found _ _ c.in-Err.ensures.lost) c.requires.landed

pub returns-in-Ok-clause-flushes : goal.returns-in-Ok-clause-flushes
returns-in-Ok-clause-flushes g c = ticked_own _ _ _ _ _ _ c.if-clock-eq-LAST_CLOCK.false c.look_clock-clock.ensures.moves c.in-Ok.ensures.moves c.flush.ensures.moves

pub returns-in-Err-clause-flushes : goal.returns-in-Err-clause-flushes
returns-in-Err-clause-flushes g c = overtaken_own _ _ _ _ _ _ _ c.if-clock-eq-LAST_CLOCK.false c.in-Err.ensures.lost c.look_clock-clock.ensures.moves c.in-Err.ensures.moves c.flush-in-Err.ensures.moves
