-- The steps of a release.
use Rattle.std.proofs.Common.{ℕ, Bool, List, [], ◌∷◌, Option, Result, Ok, Err, sym, subst}
use Rattle.xp_words.specs.declared.kind.PageType.{PageType}
use Rattle.xp_words.specs.declared.reply.Stop.{Stop}
use Rattle.xp_board.specs.Told.{PortValue}
use Rattle.step_maker.specs.Moves.{Came}
use Rattle.step_maker.proofs.Coming.{came_self, came_trans, moves_came}
use Rattle.step_maker.proofs.Visiting.{does_came}
use Rattle.partial_state.specs.declared.stack.TableWork.{TableWork}
use Rattle.table_entries.proofs.Shared.{gave_came}
use Rattle.level_release.specs.Course as course
use Rattle.level_release.specs.Course.{Emptied, LeftInside, Lowered, RanDown, ReleasedWithin, StoredPartial, UnwoundDown, one_less}

lowered_came : (v : PortValue) (ts : List TableWork) (w : PortValue) (us : List TableWork) (answer : Result Bool Stop) → Lowered v ts w us answer → Came v w
lowered_came _ _ _ _ _ (course.Lowered.given v w t ts few gave) = does_came v w _ gave.entry.found
lowered_came _ _ _ _ _ (course.Lowered.opened v w t ts f recorded closing few gave) = does_came v w _ gave.entry.found
lowered_came _ _ _ _ _ (course.Lowered.stopped v w t ts stop few gave) = does_came v w _ gave.entry.found
lowered_came _ _ _ _ _ (course.Lowered.emptied v w t ts full dead) = does_came v w _ dead.found

ran_came : {below : Option ℕ} → (v : PortValue) (ts : List TableWork) (w : PortValue) (us : List TableWork) (answers : List Bool) (answer : Result (Unit {0}) Stop) → RanDown below v ts w us answers answer → Came v w
ran_came v ts _ _ _ _ course.RanDown.begun = came_self v
ran_came v ts _ _ _ _ (course.RanDown.unasked u w us xs done answers ran lowered off) = came_trans v u w (ran_came v ts u us answers (Ok tt) ran) (lowered_came u us w xs _ lowered)
ran_came v ts _ _ _ _ (course.RanDown.asked u w us xs answers ran lowered on) = came_trans v u w (ran_came v ts u us answers (Ok tt) ran) (lowered_came u us w xs _ lowered)
ran_came v ts _ _ _ _ (course.RanDown.due u w us xs answers ran lowered on) = came_trans v u w (ran_came v ts u us answers (Ok tt) ran) (lowered_came u us w xs _ lowered)
ran_came v ts _ _ _ _ (course.RanDown.stopped u w us xs answers stop ran lowered) = came_trans v u w (ran_came v ts u us answers (Ok tt) ran) (lowered_came u us w xs _ lowered)

stored_came : (v w : PortValue) (t : TableWork) → StoredPartial v w t → Came v w
stored_came v w t stored = moves_came v w _ _ _ _ _ stored.1

inside_came : (v : PortValue) (t outer : TableWork) (ts : List TableWork) (w : PortValue) (us : List TableWork) → LeftInside v t (outer ∷ ts) w us → Came v w
inside_came v t outer ts w us left = came_trans v left.1.0 w (stored_came v left.1.0 t left.1.1) (moves_came left.1.0 w _ _ _ _ _ left.1.2.1)

unwound_came : (v : PortValue) (us : List TableWork) (w : PortValue) → UnwoundDown v us w → Came v w
unwound_came v [] w unwound = subst (Came v) (sym unwound) (came_self v)
unwound_came v (t ∷ []) w unwound = came_trans v unwound.0 w (stored_came v unwound.0 t unwound.1) (moves_came unwound.0 w _ _ _ _ _ unwound.2)
unwound_came v (t ∷ outer ∷ ts) w unwound = came_trans v unwound.0 w (inside_came v t outer ts unwound.0 (one_less outer ∷ ts) unwound.1) (unwound_came unwound.0 (one_less outer ∷ ts) w unwound.2)

emptied_came : {below : Option ℕ} → (v : PortValue) (t : TableWork) (w : PortValue) (answers : List Bool) (answer : Result (Unit {0}) Stop) → Emptied below v t w answers answer → Came v w
emptied_came v t _ _ _ (course.Emptied.finished w answers ran) = ran_came v (t ∷ []) w [] answers (Ok tt) ran
emptied_came v t _ _ _ (course.Emptied.paused u w us answers stop ran unwound) = came_trans v u w (ran_came v (t ∷ []) u us answers (Err stop) ran) (unwound_came u us w unwound)

pub released_came : {below : Option ℕ} → (v : PortValue) (f : ℕ) (kind : PageType) (w : PortValue) (answers : List Bool) (answer : Result (Unit {0}) Stop) → ReleasedWithin below v f kind w answers answer → Came v w
released_came v f kind _ _ _ (course.ReleasedWithin.plain w ordinary dropped) = does_came v w _ dropped.found
released_came v f kind _ _ _ (course.ReleasedWithin.shared u w table dropped gave) = came_trans v u w (moves_came v u _ _ _ _ _ dropped.lowers.step) (gave_came u w f gave)
released_came v f kind _ _ _ (course.ReleasedWithin.last u x w word level answers answer table at high dropped looks emptied) =
    came_trans v u w (moves_came v u _ _ _ _ _ dropped.lowers.step) (came_trans u x w (moves_came u x _ _ _ _ _ looks) (emptied_came x _ w answers answer emptied))
