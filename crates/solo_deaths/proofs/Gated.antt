-- A release by a vCPU that is alone is stopped by its gate alone.
use Rattle.std.proofs.Common.{◌≡◌, ℕ, List, [], ◌∷◌, Bool, Option, Result, Ok, Err, refl, sym}
use Rattle.xp_words.specs.declared.kind.PageType.{PageType}
use Rattle.xp_words.specs.declared.reply.Pause.TheVariants.{Alive, Busy, Due, Flush, Lost}
use Rattle.xp_words.specs.declared.reply.Stop.{Stop}
use Rattle.xp_words.specs.declared.reply.Stop.TheVariants.{Refused, Paused}
use Rattle.xp_board.specs.Told.{PortValue}
use Rattle.step_maker.proofs.Coming.{came_trans, moves_came}
use Rattle.answer_laws.specs.Alone.{IsAlone}
use Rattle.partial_state.specs.declared.stack.TableWork.{TableWork}
use Rattle.table_entries.specs.Asking.{of_entries}
use Rattle.level_release.specs.Course as course
use Rattle.level_release.specs.Course.{Emptied, GaveEntry, Lowered, RanDown, ReleasedWithin}
use Rattle.course_laws.proofs.Awaiting.{AloneStays, NeitherLostNorBusy}
use Rattle.turn_measures.proofs.Keeping.{ran_away}

module _ (stays : AloneStays) (neither : NeitherLostNorBusy) (below : Option ℕ) where
  never_stopped : (v w : PortValue) (t : TableWork) (stop : Stop) → IsAlone v → GaveEntry v w t (Err stop) → ⊥
  never_stopped v w t (Paused (Lost p x y)) alone gave = neither v w (of_entries 0 0) (Lost p x y) alone refl (gave.entry.stops 0 0)
  never_stopped v w t (Paused (Busy g x)) alone gave = neither v w (of_entries 0 0) (Busy g x) alone refl (gave.entry.stops 0 0)
  never_stopped v w t (Paused Due) alone gave = absurd gave.entry.kinds
  never_stopped v w t (Paused (Flush u x y)) alone gave = absurd gave.entry.kinds
  never_stopped v w t (Paused (Alive u x)) alone gave = absurd gave.entry.kinds
  never_stopped v w t (Refused r) alone gave = absurd gave.entry.kinds

  never_lowered : (v : PortValue) (ts : List TableWork) (w : PortValue) (us : List TableWork) (answer : Result Bool Stop) (stop : Stop) → answer ≡ Err stop → IsAlone v → Lowered v ts w us answer → ⊥
  never_lowered _ _ _ _ _ stop is alone (course.Lowered.given v w t ts some gave) = absurd cc
  never_lowered _ _ _ _ _ stop is alone (course.Lowered.opened v w t ts f recorded closing some gave) = absurd cc
  never_lowered _ _ _ _ _ stop is alone (course.Lowered.stopped v w t ts e some gave) = never_stopped v w t e alone gave
  never_lowered _ _ _ _ _ stop is alone (course.Lowered.emptied v w t ts all dead) = absurd cc

  ran_due : (v : PortValue) (ts : List TableWork) (w : PortValue) (us : List TableWork) (answers : List Bool) (answer : Result (Unit {0}) Stop) (stop : Stop) → answer ≡ Err stop → IsAlone v → RanDown below v ts w us answers answer → stop ≡ Paused Due
  ran_due v ts _ _ _ _ stop is alone course.RanDown.begun = absurd cc
  ran_due v ts _ _ _ _ stop is alone (course.RanDown.unasked u w us xs done answers ran lowered off) = absurd cc
  ran_due v ts _ _ _ _ stop is alone (course.RanDown.asked u w us xs answers ran lowered on) = absurd cc
  ran_due v ts _ _ _ _ stop is alone (course.RanDown.due u w us xs answers ran lowered on) = let e : Paused Due ≡ stop = cc in sym e
  ran_due v ts _ _ _ _ stop is alone (course.RanDown.stopped u w us xs answers e ran lowered) =
      absurd (never_lowered u us w xs (Err e) e refl (stays v u alone (ran_away below v ts u us answers (Ok tt) (λ x at. absurd cc) ran).came) lowered)

  emptied_due : (v : PortValue) (t : TableWork) (w : PortValue) (answers : List Bool) (answer : Result (Unit {0}) Stop) (stop : Stop) → answer ≡ Err stop → IsAlone v → Emptied below v t w answers answer → stop ≡ Paused Due
  emptied_due v t _ _ _ stop is alone (course.Emptied.finished w answers ran) = absurd cc
  emptied_due v t _ _ _ stop is alone (course.Emptied.paused u w us answers e ran unwound) = ran_due v (t ∷ []) u us answers (Err e) stop is alone ran

  pub released_due : (v : PortValue) (f : ℕ) (kind : PageType) (w : PortValue) (answers : List Bool) (answer : Result (Unit {0}) Stop) (stop : Stop) → answer ≡ Err stop → IsAlone v → ReleasedWithin below v f kind w answers answer → stop ≡ Paused Due
  released_due v f kind _ _ _ stop is alone (course.ReleasedWithin.plain w ordinary dropped) = absurd cc
  released_due v f kind _ _ _ stop is alone (course.ReleasedWithin.shared u w table dropped gave) = absurd cc
  released_due v f kind _ _ _ stop is alone (course.ReleasedWithin.last u x w word level answers answer table at high dropped looks emptied) =
      emptied_due x _ w answers answer stop is (stays v x alone (came_trans v u x (moves_came v u _ _ _ _ _ dropped.lowers.step) (moves_came u x _ _ _ _ _ looks))) emptied
