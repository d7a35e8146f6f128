-- What an acquisition stops for, one of its calls stopped for, unless the gate said yes.
use Rattle.std.proofs.Common.{◌≡◌, ℕ, Bool, true, false, List, [], ◌∷◌, Some, None, Result, Ok, Err, refl, ap, arith}
use Rattle.xp_words.specs.declared.reply.Pause.TheVariants.{Due}
use Rattle.xp_words.specs.declared.reply.Stop.{Stop}
use Rattle.xp_words.specs.declared.reply.Stop.TheVariants.{Paused}
use Rattle.xp_board.specs.Told.{PortValue}
use Rattle.xp_preempt.specs.Gates.{yeses}
use Rattle.step_maker.specs.Moves.{Came}
use Rattle.step_maker.proofs.Coming.{came_self, came_trans}
use Rattle.step_maker.specs.Answers.{Stops}
use Rattle.step_maker.specs.Asked.{Request, of_frame}
use Rattle.step_maker.proofs.Visiting.{does_came}
use Rattle.partial_state.specs.Levels.{level_type}
use Rattle.partial_state.specs.declared.stack.TableWork.{TableWork}
use Rattle.table_entries.specs.Asking.{of_entries}
use Rattle.table_entries.specs.Acquiring.{Acquired, Advanced, Filled, TookOn, Worked, asked, begun, completed, counted, cut_off, due, filled, finished, fresh, keeps_it, opened, outermost_table, recorded, settled, stopped, taken, unasked, unfinished, unreferred, unsettled, untyped, waiting}
use Rattle.table_entries.proofs.Shared.{ref_came, gave_came}
use Rattle.course_laws.proofs.Walking.{again_came, entry_came, filled_came, left_came, live_came, on_came, unwound_came, waiting_came, worked_came}

-- one of the steps from v to w is a call that stopped for that: it destroys nothing, and no gate was asked in it
pub record StopsIn (v w : PortValue) (e : Stop) : Type 0 where
  pub from : PortValue
  pub to : PortValue
  pub before : Came v from
  pub after : Came to w
  pub request : Request
  pub spares : request.destroys ≡ None
  pub calm : request.rose ≡ false
  pub stops : Stops from to request e

abbrev pub StopsAs : {A : Type 0} → PortValue → PortValue → Result A Stop → Type 0
StopsAs v w (Ok a) = Unit {0}
StopsAs v w (Err e) = StopsIn v w e

pub stops_here : (v w : PortValue) (r : Request) (e : Stop) → r.destroys ≡ None → r.rose ≡ false → Stops v w r e → StopsIn v w e
stops_here v w r e spares calm stops = record { from = v; to = w; before = came_self v; after = came_self w; request = r; spares = spares; calm = calm; stops = stops }

pub behind : (v u w : PortValue) (e : Stop) → Came v u → StopsIn u w e → StopsIn v w e
behind v u w e came s = record { from = s.from; to = s.to; before = came_trans v u s.from came s.before; after = s.after; request = s.request; spares = s.spares; calm = s.calm; stops = s.stops }

pub ahead_of : (v u w : PortValue) (e : Stop) → StopsIn v u e → Came u w → StopsIn v w e
ahead_of v u w e s came = record { from = s.from; to = s.to; before = s.before; after = came_trans s.to u w s.after came; request = s.request; spares = s.spares; calm = s.calm; stops = s.stops }

behind_as : {A : Type 0} (v u w : PortValue) (r : Result A Stop) → Came v u → StopsAs u w r → StopsAs v w r
behind_as v u w (Ok a) came s = tt
behind_as v u w (Err e) came s = behind v u w e came s

-- ---- down to where a table was left, one entry, and until the only table is full
pub on_stops : (owner : ℕ) (v : PortValue) (ts : List TableWork) (w : PortValue) (us : List TableWork) (r : Result Bool Stop) → TookOn owner v ts w us r → StopsAs v w r
on_stops owner _ _ _ _ _ (fresh v t ts none) = tt
on_stops owner _ _ _ _ _ (settled v w t ts some a) = tt
on_stops owner _ _ _ _ _ (taken v u w t ts f some a b) = tt
on_stops owner _ _ _ _ _ (opened v u w t ts us f progress answer some a b) = behind_as v u w answer (again_came v u owner t _ a) (on_stops owner u _ w us answer b)
on_stops owner _ _ _ _ _ (waiting v u w t ts f stamp stop some a b) = ahead_of v u w stop (stops_here v u (of_entries owner 0) stop refl refl (a.shows 0).2) (waiting_came u w f _ stamp b)
on_stops owner _ _ _ _ _ (stopped v w t ts stop some a) = stops_here v w (of_entries owner 0) stop refl refl (a.stops 0)

pub advanced_stops : (owner : ℕ) (v : PortValue) (ts : List TableWork) (w : PortValue) (us : List TableWork) (r : Result Bool Stop) → Advanced owner v ts w us r → StopsAs v w r
advanced_stops owner _ _ _ _ _ (recorded v w t ts few a) = tt
advanced_stops owner _ _ _ _ _ (opened v u w t ts us f progress own done few a b) = tt
advanced_stops owner _ _ _ _ _ (cut_off v u w t ts us f progress own stop few a b) = behind v u w stop (entry_came v u owner t _ a) (on_stops owner u _ w us (Err stop) b)
advanced_stops owner _ _ _ _ _ (unsettled v w t ts stop few a) = stops_here v w (of_entries owner 0) stop refl refl (a.shows 0).2
advanced_stops owner _ _ _ _ _ (stopped v w t ts stop few a) = stops_here v w (of_entries owner 0) stop refl refl (a.stops 0)
advanced_stops owner _ _ _ _ _ (completed v u w t outer ts full a b) = tt

-- it is not for the gate, or this never said yes
abbrev pub IsUngated : {A : Type 0} → List Bool → Result A Stop → Type 0
IsUngated answers r = r ≡ Err (Paused Due) → yeses answers ≡ 0

pub no_yes : (answers : List Bool) → yeses (true ∷ answers) ≡ 0 → ⊥
unfolding yeses
no_yes answers none = omega arith

pub filled_stops : (owner : ℕ) (v : PortValue) (ts : List TableWork) (first : List Bool) (w : PortValue) (us : List TableWork) (answers : List Bool) (r : Result (Unit {0}) Stop) → Filled owner v ts first w us answers r → IsUngated answers r → StopsAs v w r
filled_stops owner v ts first _ _ _ _ begun none = tt
filled_stops owner v ts first _ _ _ _ (unasked u w us xs done answers before step off) none = tt
filled_stops owner v ts first _ _ _ _ (asked u w us xs answers before step on) none = tt
filled_stops owner v ts first _ _ _ _ (due u w us xs answers before step on) none = absurd (no_yes answers (none refl))
filled_stops owner v ts first _ _ _ _ (stopped u w us xs answers stop before step) none = behind v u w stop (filled_came owner v ts first u us answers (Ok tt) before) (advanced_stops owner u us w xs (Err stop) step)

pub worked_stops : (owner : ℕ) (v : PortValue) (t : TableWork) (w : PortValue) (us : List TableWork) (answers : List Bool) (r : Result (Unit {0}) Stop) → Worked owner v t w us answers r → IsUngated answers r → StopsAs v w r
worked_stops owner v t _ _ _ _ (cut_off w us stop a) none = on_stops owner v (t ∷ []) w us (Err stop) a
worked_stops owner v t _ _ _ _ (due w us a on) none = absurd (no_yes [] (none refl))
worked_stops owner v t _ _ _ _ (filled u w us xs done answers answer a b) none = behind_as v u w answer (on_came owner v (t ∷ []) u us _ a) (filled_stops owner u us _ w xs answers answer b none)

-- ---- the whole

pub acquired_came : (v : PortValue) (f owner level : ℕ) (w : PortValue) (answers : List Bool) (r : Result ℕ Stop) → Acquired v f owner level w answers r → Came v w
acquired_came v f owner level _ _ _ (unreferred w stop ref) = ref_came v w f owner _ ref
acquired_came v f owner level _ _ _ (untyped u x w stop ref type back) = came_trans v u w (ref_came v u f owner _ ref) (came_trans u x w (does_came u x _ type.found) (gave_came x w f back))
acquired_came v f owner level _ _ _ (counted u w ref type) = came_trans v u w (ref_came v u f owner _ ref) (does_came u w _ type.found)
acquired_came v f owner level _ _ _ (waiting u x w own stamp stop ref type left) =
    came_trans v u w (ref_came v u f owner _ ref) (came_trans u x w (does_came u x _ type.found) (left_came x w f level owner stamp own (keeps_it stop) left))
acquired_came v f owner level _ _ _ (unfinished u x y w progress own us answers stop ref type work left) =
    came_trans v u w (ref_came v u f owner _ ref)
    (came_trans u x w (does_came u x _ type.found)
    (came_trans x y w (worked_came owner x (outermost_table f level progress own) y us answers _ work) (unwound_came y owner us (keeps_it stop) w left)))
acquired_came v f owner level _ _ _ (finished u x y w progress own t answers ref type work full made) =
    came_trans v u w (ref_came v u f owner _ ref)
    (came_trans u x w (does_came u x _ type.found)
    (came_trans x y w (worked_came owner x (outermost_table f level progress own) y (t ∷ []) answers _ work) (live_came y w t made)))

pub acquired_stops : (v : PortValue) (f owner level : ℕ) (w : PortValue) (answers : List Bool) (answer : Result ℕ Stop) → Acquired v f owner level w answers answer → IsUngated answers answer → StopsAs v w answer
acquired_stops v f owner level _ _ _ (unreferred w stop ref) none = stops_here v w (of_frame f owner None) stop refl refl ref.stops
acquired_stops v f owner level _ _ _ (untyped u x w stop ref type back) none =
    behind v u w stop (ref_came v u f owner _ ref) (ahead_of u x w stop (stops_here u x (of_frame f owner (Some (level_type level))) stop refl refl type.stops) (gave_came x w f back))
acquired_stops v f owner level _ _ _ (counted u w ref type) none = tt
acquired_stops v f owner level _ _ _ (waiting u x w own stamp stop ref type left) none =
    behind v u w stop (ref_came v u f owner _ ref)
    (ahead_of u x w stop (stops_here u x (of_frame f owner (Some (level_type level))) stop refl refl type.waits.1) (left_came x w f level owner stamp own (keeps_it stop) left))
acquired_stops v f owner level _ _ _ (unfinished u x y w progress own us answers stop ref type work left) none =
    behind v u w stop (ref_came v u f owner _ ref)
    (behind u x w stop (does_came u x _ type.found)
    (ahead_of x y w stop (worked_stops owner x (outermost_table f level progress own) y us answers (Err stop) work (λ e. let same : stop ≡ Paused Due = cc in none (ap Err same))) (unwound_came y owner us (keeps_it stop) w left)))
acquired_stops v f owner level _ _ _ (finished u x y w progress own t answers ref type work full made) none = tt
