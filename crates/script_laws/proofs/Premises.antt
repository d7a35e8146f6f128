-- The premises on all steps of a script hold of those between any two of its ports.
use Rattle.std.proofs.Common.{◌<◌, sym, subst}
use Rattle.xp_board.specs.Told.{Post, PortValue}
use Rattle.step_maker.specs.Moves.{Came, Met, Moment}
use Rattle.step_maker.proofs.Coming.{came_post, came_trans}
use Rattle.xp_board.specs.Readings.{ref_count}
use Rattle.solo_ports.specs.Standing.{Fair}
use Rattle.solo_accesses.specs.Stale.{IsNeverStale}

-- no limit of the clock or of a count was met, and no stale translation used
pub record FairFrom (v w : PortValue) : Type 0 where
  pub fair : Fair v w
  pub fresh : IsNeverStale v w

-- that step, among more steps behind it, or before it
abbrev followed : {v u : PortValue} {m : Moment} → (w : PortValue) → Met v u m → Came u w → Met v w m
followed {v} {u} {m} w a b = record { from = a.from; to = a.to; before = a.before; moved = a.moved; after = came_trans a.to u w a.after b }

abbrev preceded : {u w : PortValue} {m : Moment} → (v : PortValue) → Came v u → Met u w m → Met v w m
preceded {u} {w} {m} v a b = record { from = b.from; to = b.to; before = came_trans v u b.from a b.before; moved = b.moved; after = b.after }

pub fair_back : (v u w : PortValue) → Came u w → FairFrom v w → FairFrom v u
fair_back v u w on f =
    record {
      fair = record { clock = λ m met. f.fair.clock m (followed w met on); room = λ m g met. f.fair.room m g (followed w met on) };
      fresh = λ m g i x met. f.fresh m g i x (followed w met on);
    }

pub fair_on : (v u w : PortValue) → Came v u → FairFrom v w → FairFrom u w
fair_on v u w before f =
    record {
      fair = record {
        clock = λ m met. f.fair.clock m (preceded v before met);
        room = λ m g met at. subst (λ (p : Post). ref_count m.found < p.machine.limit) (sym (came_post v u before)) (f.fair.room m g (preceded v before met) at);
      };
      fresh = λ m g i x met. f.fresh m g i x (preceded v before met);
    }
