-- Who may map whose frames stays known behind steps of the same turn.
use Rattle.std.proofs.Common.{◌≡◌, ◌⊎◌, ◌<◌, length, IsTrue, sym, subst, inl, inr}
use Rattle.xp_words.specs.Places.{sizes_of}
use Rattle.xp_words.specs.declared.place.Place.TheVariants.{Priv}
use Rattle.xp_board.specs.Readings.{has_now}
use Rattle.xp_board.specs.Steps.{some_since}
use Rattle.xp_board.specs.Told.{Post, PortValue}
use Rattle.step_maker.specs.Moves.{Came}
use Rattle.step_maker.proofs.Coming.{came_post}
use Rattle.flush_words.proofs.Lasting.{came_keeps}
use Rattle.foreign_map.specs.Owning.{MayMapFor}
use Rattle.foreign_map.specs.declared.owners.Owners.{Owners}

-- ---- who may map
pub may_map : (v w : PortValue) (o : Owners) → Came v w → w.holdings.turn ≡ v.holdings.turn → MayMapFor v o → MayMapFor w o
may_map v w o came turn may =
    record {
      tables = subst (λ (p : Post). o.tables < length p.machine.page_limit) (sym (came_post v w came)) may.tables;
      frames = subst (λ (p : Post). o.frames < length p.machine.page_limit) (sym (came_post v w came)) may.frames;
      over = by_way may.over;
    }
  where
    by_way : (o.frames ≡ o.tables) ⊎ IsTrue (some_since (sizes_of v.post.machine) v.holdings.turn (Priv o.tables) (has_now o.frames) v.holdings.steps) →
        (o.frames ≡ o.tables) ⊎ IsTrue (some_since (sizes_of w.post.machine) w.holdings.turn (Priv o.tables) (has_now o.frames) w.holdings.steps)
    by_way (inl same) = inl same
    by_way (inr over) =
        inr (subst (λ (p : Post). IsTrue (some_since (sizes_of p.machine) w.holdings.turn (Priv o.tables) (has_now o.frames) w.holdings.steps)) (sym (came_post v w came))
        (subst (λ k. IsTrue (some_since (sizes_of v.post.machine) k (Priv o.tables) (has_now o.frames) w.holdings.steps)) (sym turn) (came_keeps v w _ came over)))
