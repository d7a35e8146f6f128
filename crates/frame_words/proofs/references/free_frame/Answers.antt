use Rattle.frame_words.proofs.Putting.{left, clock_low, ending_since, bit_raised, page_credited}
use Rattle.frame_words.proofs.references.free_frame.Goals as goal

pub store_free-requires-clause-clock : goal.store_free-requires-clause-clock
store_free-requires-clause-clock g c = clock_low _ _ _ c.look_clock-clock.ensures.moves

pub store_free-requires-clause-ending : goal.store_free-requires-clause-ending
store_free-requires-clause-ending g c =
    ending_since _ _ _ c.args.frame c.args.owner c.look_clock-clock.result _ c.look_clock-clock.ensures.moves c.set_free_bit.ensures.moves c.look_clock-clock.ensures.hand c.set_free_bit.ensures.hand c.requires.ending

pub store_free-requires-clause-raised : goal.store_free-requires-clause-raised
store_free-requires-clause-raised g c = bit_raised (g.P.Port.value c.look_clock-clock.new.port) (g.P.Port.value c.set_free_bit.new.port) c.args.frame c.set_free_bit.ensures.hand

pub lower_pages-requires-clause-credit : goal.lower_pages-requires-clause-credit
lower_pages-requires-clause-credit g c = page_credited (g.P.Port.value c.set_free_bit.new.port) (g.P.Port.value c.store_free.new.port) c.args.frame c.args.owner c.store_free.ensures.hand

pub returns : goal.returns
returns g c =
    record {
      a = g.P.Port.value c.look_clock-clock.new.port;
      b = g.P.Port.value c.set_free_bit.new.port;
      d = g.P.Port.value c.store_free.new.port;
      stamp = c.look_clock-clock.result;
      x = c.set_free_bit.result;
      y = c.store_free.result;
      z = c.lower_pages.result;
      look = c.look_clock-clock.ensures.moves;
      bit = c.set_free_bit.ensures.moves;
      free = c.store_free.ensures.moves;
      pages = c.lower_pages.ensures.moves;
      hand = left (g.P.Port.value c.args.port.now) (g.P.Port.value c.look_clock-clock.new.port) (g.P.Port.value c.set_free_bit.new.port) (g.P.Port.value c.store_free.new.port) (g.P.Port.value c.lower_pages.new.port) c.args.frame c.args.owner
          c.look_clock-clock.ensures.hand c.set_free_bit.ensures.hand c.store_free.ensures.hand c.lower_pages.ensures.hand;
    }
