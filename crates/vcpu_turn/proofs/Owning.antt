-- What was found of owners in a turn is known for the rest of it.
use Rattle.std.proofs.Common.{◌≡◌, ℕ, ◌<◌, length, Result, IsTrue, sym, ap, subst, inl, inr}
use Rattle.xp_words.specs.Places.{sizes_of}
use Rattle.xp_words.specs.declared.place.Place.TheVariants.{Priv}
use Rattle.xp_words.specs.declared.reply.Stop.{Stop}
use Rattle.xp_board.specs.Readings.{has_now}
use Rattle.xp_board.specs.Steps.{some_since}
use Rattle.xp_board.specs.Told.{Post, PortValue}
use Rattle.step_maker.specs.Moves.{Came}
use Rattle.step_maker.proofs.Coming.{came_post}
use Rattle.step_maker.specs.Answers.{Serves, misses}
use Rattle.step_maker.proofs.Piecing.{serves_came}
use Rattle.flush_words.proofs.Lasting.{came_keeps}
use Rattle.foreign_map.specs.Owning.{MayMapFor}
use Rattle.foreign_map.specs.declared.owners.Owners.{Owners}
use Rattle.level_release.specs.Asking.{of_settle}
use Rattle.level_release.specs.Settling.{SettledHand}
use Rattle.mmu_update.specs.Elements.{LeavesUpdate}

-- in the same turn
module _ (v w : PortValue) (o : Owners) (came : Came v w) (turn : w.holdings.turn ≡ v.holdings.turn) where
  pub may_map_on : MayMapFor v o → MayMapFor w o
  may_map_on may =
      let post = came_post v w came in
      record {
        tables = subst (λ (q : Post). o.tables < length q.machine.page_limit) (sym post) may.tables;
        frames = subst (λ (q : Post). o.frames < length q.machine.page_limit) (sym post) may.frames;
        over = elim may.over [
          | inl same ↦ inl same
          | inr found ↦ inr
              (subst (λ (q : Post). IsTrue (some_since (sizes_of q.machine) w.holdings.turn (Priv o.tables) (has_now o.frames) w.holdings.steps)) (sym post)
              (subst (λ k. IsTrue (some_since (sizes_of v.post.machine) k (Priv o.tables) (has_now o.frames) w.holdings.steps)) (sym turn) (came_keeps v w _ came found)))
        ];
      }

pub may_map_settled : (v w : PortValue) (o : Owners) (answer : Result (Unit {0}) Stop) → ((owner pages : ℕ) → Serves v w (of_settle owner pages answer) (misses v.post.machine answer)) → SettledHand v w → MayMapFor v o → MayMapFor w o
may_map_settled v w o answer serves hand =
    may_map_on v w o (serves_came v w (of_settle 0 0 answer) (misses v.post.machine answer) (serves 0 0)) (ap (λ (y : PortValue). y.holdings.turn) hand)

pub may_map_updated : (v w : PortValue) (o : Owners) → Came v w → LeavesUpdate v w → MayMapFor v o → MayMapFor w o
may_map_updated v w o came hand = may_map_on v w o came (ap (λ (y : PortValue). y.holdings.turn) hand.2)
