-- The links of a course are steps of one port.
use Rattle.std.proofs.Common.{ℕ, Bool, true, false, List, [], ◌∷◌, Result, Ok, subst, sym}
use Rattle.xp_words.specs.declared.kind.KindWord.{KindWord}
use Rattle.xp_words.specs.declared.reply.Stop.{Stop}
use Rattle.xp_board.specs.Told.{PortValue}
use Rattle.step_maker.specs.Moves.{Came}
use Rattle.step_maker.proofs.Coming.{came_self, came_trans, moves_came}
use Rattle.step_maker.proofs.Visiting.{does_came}
use Rattle.kept_marks.specs.Marks as marks
use Rattle.kept_marks.specs.Marks.{KeptFor}
use Rattle.partial_state.specs.declared.stack.TableWork.{TableWork}
use Rattle.table_entries.specs.declared.entries.Entered.{Entered}
use Rattle.table_entries.specs.declared.resuming.Resumed.{Resumed}
use Rattle.table_entries.specs.Acquiring.{Advanced, Filled, GaveBack, InnerLeft, Joined, LeftPartial, LeftWaiting, MadeLive, OutermostLeft, ResumedEntry, TookEntry, TookOn, Unwound, WaitingLeft, Worked, around_left, asked, begun, completed, cut_off, due, filled, fresh, opened, recorded, settled, stopped, taken, unasked, unsettled, waiting}
use Rattle.table_entries.proofs.Shared.{gave_came}

pub back_came : (v w : PortValue) (f : ℕ) → GaveBack v w f → Came v w
back_came v w f a = came_trans v a.between w (moves_came v a.between _ _ _ _ _ a.lowers.lowers.step) (gave_came a.between w f a.puts)

pub entry_came : (v w : PortValue) (owner : ℕ) (t : TableWork) (r : Result Entered Stop) → TookEntry v w owner t r → Came v w
entry_came v w owner t r a = does_came v w _ a.found

pub again_came : (v w : PortValue) (owner : ℕ) (t : TableWork) (r : Result Resumed Stop) → ResumedEntry v w owner t r → Came v w
again_came v w owner t r a = does_came v w _ a.found

pub live_came : (v w : PortValue) (t : TableWork) → MadeLive v w t → Came v w
live_came v w t a = moves_came v w _ _ _ _ _ a.1

pub joined_came : (v w : PortValue) (t outer : TableWork) (b : Bool) → Joined v w t outer b → Came v w
joined_came v w t outer true a = back_came v w t.frame a
joined_came v w t outer false a = moves_came v w _ _ _ _ _ a.1

pub waiting_came : (v w : PortValue) (f level stamp : ℕ) → LeftWaiting v w f level stamp → Came v w
waiting_came v w f level stamp a = does_came v w _ a.found

-- ---- tables, until they are full
pub on_came : (owner : ℕ) (v : PortValue) (ts : List TableWork) (w : PortValue) (us : List TableWork) (r : Result Bool Stop) → TookOn owner v ts w us r → Came v w
on_came owner _ _ _ _ _ (fresh v t ts none) = came_self v
on_came owner _ _ _ _ _ (settled v w t ts some a) = again_came v w owner t _ a
on_came owner _ _ _ _ _ (taken v u w t ts f some a b) = came_trans v u w (again_came v u owner t _ a) (back_came u w f b)
on_came owner _ _ _ _ _ (opened v u w t ts us f progress answer some a b) = came_trans v u w (again_came v u owner t _ a) (on_came owner u _ w us answer b)
on_came owner _ _ _ _ _ (waiting v u w t ts f stamp stop some a b) = came_trans v u w (again_came v u owner t _ a) (waiting_came u w f _ stamp b)
on_came owner _ _ _ _ _ (stopped v w t ts stop some a) = again_came v w owner t _ a

pub advanced_came : (owner : ℕ) (v : PortValue) (ts : List TableWork) (w : PortValue) (us : List TableWork) (r : Result Bool Stop) → Advanced owner v ts w us r → Came v w
advanced_came owner _ _ _ _ _ (recorded v w t ts few a) = entry_came v w owner t _ a
advanced_came owner _ _ _ _ _ (opened v u w t ts us f progress own done few a b) = came_trans v u w (entry_came v u owner t _ a) (on_came owner u _ w us _ b)
advanced_came owner _ _ _ _ _ (cut_off v u w t ts us f progress own stop few a b) = came_trans v u w (entry_came v u owner t _ a) (on_came owner u _ w us _ b)
advanced_came owner _ _ _ _ _ (unsettled v w t ts stop few a) = entry_came v w owner t _ a
advanced_came owner _ _ _ _ _ (stopped v w t ts stop few a) = entry_came v w owner t _ a
advanced_came owner _ _ _ _ _ (completed v u w t outer ts full a b) = came_trans v u w (live_came v u t a) (joined_came u w t outer t.recorded b)

pub filled_came : (owner : ℕ) (v : PortValue) (ts : List TableWork) (first : List Bool) (w : PortValue) (us : List TableWork) (answers : List Bool) (r : Result (Unit {0}) Stop) → Filled owner v ts first w us answers r → Came v w
filled_came owner v ts first _ _ _ _ begun = came_self v
filled_came owner v ts first _ _ _ _ (unasked u w us xs done answers before step off) = came_trans v u w (filled_came owner v ts first u us answers (Ok tt) before) (advanced_came owner u us w xs _ step)
filled_came owner v ts first _ _ _ _ (asked u w us xs answers before step on) = came_trans v u w (filled_came owner v ts first u us answers (Ok tt) before) (advanced_came owner u us w xs _ step)
filled_came owner v ts first _ _ _ _ (due u w us xs answers before step on) = came_trans v u w (filled_came owner v ts first u us answers (Ok tt) before) (advanced_came owner u us w xs _ step)
filled_came owner v ts first _ _ _ _ (stopped u w us xs answers stop before step) = came_trans v u w (filled_came owner v ts first u us answers (Ok tt) before) (advanced_came owner u us w xs _ step)

pub worked_came : (owner : ℕ) (v : PortValue) (t : TableWork) (w : PortValue) (us : List TableWork) (answers : List Bool) (r : Result (Unit {0}) Stop) → Worked owner v t w us answers r → Came v w
worked_came owner v t _ _ _ _ (cut_off w us stop a) = on_came owner v (t ∷ []) w us _ a
worked_came owner v t _ _ _ _ (due w us a on) = on_came owner v (t ∷ []) w us _ a
worked_came owner v t _ _ _ _ (filled u w us xs done answers answer a b) = came_trans v u w (on_came owner v (t ∷ []) u us _ a) (filled_came owner u us _ w xs answers answer b)

-- ---- tables that are left
partial_came : (v w : PortValue) (t : TableWork) → LeftPartial v w t → Came v w
partial_came v w t a = moves_came v w _ _ _ _ _ a.1

-- its mark is left, or taken back
pub kept_came : (v w : PortValue) (f : ℕ) (k : KindWord) (owner : ℕ) → KeptFor v w f k owner → Came v w
kept_came v w f k owner (marks.own home a) = moves_came v w _ _ _ _ _ a.1
kept_came v w f k owner (marks.alive u foreign a look) = came_trans v u w (moves_came v u _ _ _ _ _ a.1) (moves_came u w _ _ _ _ _ look)
kept_came v w f k owner (marks.dying u x y life foreign a look off back names) =
    came_trans v u w (moves_came v u _ _ _ _ _ a.1) (came_trans u x w (moves_came u x _ _ _ _ _ look) (came_trans x y w (moves_came x y _ _ _ _ _ back) (moves_came y w _ _ _ _ _ names)))
kept_came v w f k owner (marks.taken u x life found foreign a look off back other) =
    came_trans v u w (moves_came v u _ _ _ _ _ a.1) (came_trans u x w (moves_came u x _ _ _ _ _ look) (moves_came x w _ _ _ _ _ back))

outermost_came : (v w : PortValue) (owner : ℕ) (t : TableWork) (own kept : Bool) → OutermostLeft v w owner t own kept → Came v w
outermost_came v w owner t true true a = kept_came v w t.frame _ owner a
outermost_came v w owner t true false a = came_trans v a.0 w (partial_came v a.0 t a.1) (moves_came a.0 w _ _ _ _ _ a.2)
outermost_came v w owner t false kept a = came_trans v a.0 w (partial_came v a.0 t a.1) (gave_came a.0 w t.frame a.2)

pub inner_came : (v w : PortValue) (t outer : TableWork) (own : Bool) → InnerLeft v w t outer own → Came v w
inner_came v w t outer true a = let l = a.1 in came_trans v l.0 w (partial_came v l.0 t l.1) (moves_came l.0 w _ _ _ _ _ l.2.1)
inner_came v w t outer false a = came_trans v a.0 w (partial_came v a.0 t a.1) (gave_came a.0 w t.frame a.2)

pub unwound_came : (v : PortValue) (owner : ℕ) (ts : List TableWork) (kept : Bool) (w : PortValue) → Unwound v owner ts kept w → Came v w
unwound_came v owner [] kept w a = subst (Came v) (sym a) (came_self v)
unwound_came v owner (t ∷ []) kept w a = outermost_came v w owner t t.own kept a
unwound_came v owner (t ∷ outer ∷ ts) kept w a = came_trans v a.0 w (inner_came v a.0 t outer t.own a.1) (unwound_came a.0 owner (around_left t outer ∷ ts) kept w a.2)

pub left_came : (v w : PortValue) (f level owner stamp : ℕ) (own kept : Bool) → WaitingLeft v w f level owner stamp own kept → Came v w
left_came v w f level owner stamp true true a = kept_came v w f _ owner a
left_came v w f level owner stamp true false a = came_trans v a.0 w (does_came v a.0 _ a.1) (moves_came a.0 w _ _ _ _ _ a.2)
left_came v w f level owner stamp false kept a = does_came v w _ a
