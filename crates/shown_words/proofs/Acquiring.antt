-- What a refused acquisition shows of a frame of another owner: its course, link by link.
use Rattle.std.proofs.Common.{◌≡◌, ℕ, ◌-◌, ◌&&◌, nat_lt, Bool, true, false, List, [], ◌∷◌, Option, Some, None, Result, Ok, Err, refl, sym, ap, ◌∙◌, subst}
use Rattle.xp_words.specs.Entries.{demand_at}
use Rattle.xp_words.specs.Machine.{IsMachine, Machine}
use Rattle.xp_words.specs.declared.entry.Demand.{Demand}
use Rattle.xp_words.specs.declared.entry.Demand.TheVariants as demands
use Rattle.xp_words.specs.declared.kind.PageType.{PageType}
use Rattle.xp_words.specs.declared.place.Place.TheVariants.{Cell, Kind, Refs}
use Rattle.xp_words.specs.declared.reply.Pause.TheVariants as pauses
use Rattle.xp_words.specs.declared.reply.Refusal.{Refusal}
use Rattle.xp_words.specs.declared.reply.Refusal.TheVariants as refusals
use Rattle.xp_words.specs.declared.reply.Refusal.TheVariants.{WrongOwner}
use Rattle.xp_words.specs.declared.reply.Stop.{Stop}
use Rattle.xp_words.specs.declared.reply.Stop.TheVariants.{Refused, Paused}
use Rattle.xp_board.specs.Readings.{is_dying, is_live_word}
use Rattle.xp_board.specs.Told.{PortValue, is_telling, told_word}
use Rattle.step_maker.specs.Plain.{Leaves, Words}
use Rattle.step_maker.proofs.Coming.{same_machine}
use Rattle.step_maker.proofs.Telling.{came_telling}
use Rattle.step_maker.proofs.Visiting.{does_came}
use Rattle.frame_words.specs.Plain.{got, put, refer}
use Rattle.frame_types.specs.Plain.{less_kept, set_kind}
use Rattle.frame_types.specs.Standing.{standing_of}
use Rattle.frame_types.specs.declared.taking.Taken.TheVariants as types
use Rattle.kind_words.specs.Kinds.{dead_kind, partial_kind}
use Rattle.flush_waits.specs.Waiting.{IsWait}
use Rattle.partial_state.specs.Levels.{level_type}
use Rattle.partial_state.specs.declared.stack.TableWork.{TableWork}
use Rattle.table_entries.specs.declared.entries.Entered.{Entered}
use Rattle.table_entries.specs.declared.entries.Entered.TheVariants.{Recorded, Opened, Unsettled}
use Rattle.table_entries.specs.declared.resuming.Resumed.{Resumed}
use Rattle.table_entries.specs.declared.resuming.Resumed.TheVariants as again
use Rattle.table_entries.specs.Plain.{AgainBy, AgainWhere, EntersPlainly, RefersPlainly, ResumesPlainly, TypedPlainly, TypesAgain, TypesPlainly, WaitsPlainly, is_own_of, kind_of, left_dead, left_partial, left_shared}
use Rattle.table_entries.specs.Acquiring.{Acquired, Advanced, Filled, GaveBack, GotRef, Joined, MadeLive, ResumedEntry, TookEntry, TookOn, TookType, Worked, asked, begun, completed, counted, cut_off, due, filled, finished, fresh, opened, outermost_table, recorded, settled, stopped, taken as took, unasked, unfinished, unreferred, unsettled, untyped, waiting}
use Rattle.shown_words.specs.Shown.{IsSettledRef, NoneDies}
use Rattle.shown_words.proofs.Base.{Settling, alike_none, gave_settling, got_none, had_settling, kind_none, less_none, look_settling, nothing_settling, off_settling, put_none, ref_shows, refused_word, settling_then, take_none, type_settling, type_unowned}

-- ---- what entries leave
left_none : (w : PortValue) (m : Words) → Leaves w m → NoneDies m → NoneDies (told_word w)
left_none w m leaves n g = subst IsSettledRef (sym (leaves (Refs g))) (n g)

module _ (w : PortValue) (m : Words) (g : ℕ) (t : PageType) (n : NoneDies m) where
  less : NoneDies (less_kept g (kind_of m g) (standing_of (kind_of m g) t) m)
  less = less_none g (kind_of m g) (standing_of (kind_of m g) t) m n

  partial_none : NoneDies (left_partial g t m)
  partial_none = kind_none g (partial_kind t false true 0 0) (less_kept g (kind_of m g) (standing_of (kind_of m g) t) m) less

  shared_none : NoneDies (left_shared g t m)
  shared_none = put_none g (set_kind g (partial_kind t false true 0 0) m) (kind_none g (partial_kind t false true 0 0) m n)

  dead_none : NoneDies (left_dead g t m)
  dead_none =
      let x = less_kept g (kind_of m g) (standing_of (kind_of m g) t) m in
      put_none g (set_kind g (dead_kind t true 0) x) (kind_none g (dead_kind t true 0) x less)

  waits_none : (own : Bool) → WaitsPlainly w m g t own → NoneDies (told_word w)
  waits_none true a = alike_none (left_dead g t m) (told_word w) a.1 dead_none
  waits_none false a = alike_none (left_shared g t m) (told_word w) a shared_none

  types_none : (answer : Result Entered Stop) → TypesPlainly w m g t answer → NoneDies (told_word w)
  types_none (Ok Recorded) a = take_none w m g t types.Counted a.1 n
  types_none (Ok (Opened f progress own)) a = take_none w m g t (types.InWork progress own) a.2 n
  types_none (Ok (Unsettled stop)) a = alike_none (left_partial g t m) (told_word w) a.3 partial_none
  types_none (Err (Refused (refusals.Clock x))) a = waits_none (is_own_of m g t) a.1
  types_none (Err (Refused _)) a = left_none w (put g m) a.1 (put_none g m n)
  types_none (Err (Paused (pauses.Flush u y x))) a = alike_none (left_shared g t m) (told_word w) a.2 shared_none
  types_none (Err (Paused _)) a = left_none w (put g m) a.1 (put_none g m n)

  again_none : (answer : Result Resumed Stop) → TypesAgain w m g t answer → NoneDies (told_word w)
  again_none (Ok again.Settled) a = absurd a
  again_none (Ok (again.Taken f)) a = take_none w m g t types.Counted a.2 n
  again_none (Ok (again.Opened f progress)) a = take_none w m g t (types.InWork progress false) a.2 n
  again_none (Ok (again.Waiting f stamp stop)) a = take_none w m g t (types.Waiting false stamp stop) a.2 n
  again_none (Err e) a = left_none w (put g m) a.1 (put_none g m n)

-- by whether the reference is refused
module _ (n : Machine) (w : PortValue) (m : Words) (owner : ℕ) (machine : IsMachine n) (none : NoneDies m) where
  had : (g : ℕ) → refer n owner g (m (Refs g)) ≡ None → NoneDies (got g m)
  had g is = got_none n owner g m machine is none

  refers_none : (answer : Result Entered Stop) (g : ℕ) (o : Option Refusal) → refer n owner g (m (Refs g)) ≡ o → RefersPlainly w m answer o (got g m) → NoneDies (told_word w)
  refers_none answer g (Some x) is a = left_none w m a.1 none
  refers_none answer g None is a = left_none w (got g m) a.1 (had g is)

  typed_none : (answer : Result Entered Stop) (g : ℕ) (t : PageType) (o : Option Refusal) → refer n owner g (m (Refs g)) ≡ o → TypedPlainly w m g t answer o → NoneDies (told_word w)
  typed_none answer g t (Some x) is a = left_none w m a.1 none
  typed_none answer g t None is a = types_none w (got g m) g t (had g is) answer a

  enters_none : (f i : ℕ) (answer : Result Entered Stop) (e : Demand) → EntersPlainly n w m f i owner answer e → NoneDies (told_word w)
  enters_none f i answer demands.Nothing a = left_none w m a.1 none
  enters_none f i answer demands.Bad a = left_none w m a.1 none
  enters_none f i answer (demands.Read g) a = refers_none answer g (refer n owner g (m (Refs g))) refl a
  enters_none f i answer (demands.Typed g t) a = typed_none answer g t (refer n owner g (m (Refs g))) refl a

  back_none : (answer : Result Resumed Stop) (g : ℕ) (t : PageType) (o : Option Refusal) → refer n owner g (m (Refs g)) ≡ o → AgainBy w m g t answer o → NoneDies (told_word w)
  back_none answer g t (Some x) is a = left_none w m a.1 none
  back_none answer g t None is a = again_none w (got g m) g t (had g is) answer a

  where_none : (answer : Result Resumed Stop) (g : ℕ) (t : PageType) (b : Bool) → AgainWhere n w m g t owner answer b → NoneDies (told_word w)
  where_none answer g t true a = left_none w m a.1 none
  where_none answer g t false a = back_none answer g t (refer n owner g (m (Refs g))) refl a

  resumes_none : (answer : Result Resumed Stop) (e : Demand) → ResumesPlainly n w m owner answer e → NoneDies (told_word w)
  resumes_none answer (demands.Typed g t) a = where_none answer g t (nat_lt g n.frames && is_live_word (m (Kind g))) a
  resumes_none answer demands.Nothing a = left_none w m a.1 none
  resumes_none answer demands.Bad a = left_none w m a.1 none
  resumes_none answer (demands.Read g) a = left_none w m a.1 none

-- ---- what a refused entry shows
-- an error, and the one that refuses a frame of another owner
abbrev failed : {A : Type 0} → Stop → Result A Stop
failed e = Err e

abbrev refused_for : {A : Type 0} → ℕ → ℕ → Result A Stop
refused_for h x = failed (Refused (WrongOwner h x))

module _ (n : Machine) (w : PortValue) (m : Words) (owner h x : ℕ) (none : NoneDies m) where
  shows_word : (g : ℕ) → refer n owner g (m (Refs g)) ≡ Some (WrongOwner h x) → is_dying x ≡ false
  shows_word g is = ap is_dying (refused_word n owner g (m (Refs g)) h x is) ∙ (none g).owned

  refers_shows : (g : ℕ) (o : Option Refusal) → refer n owner g (m (Refs g)) ≡ o → RefersPlainly w m (refused_for h x) o (got g m) → is_dying x ≡ false
  refers_shows g (Some y) is a = let same = a.0 in shows_word g cc
  refers_shows g None is a = absurd (let same = a.0 in cc)

  typed_shows : (g : ℕ) (t : PageType) (o : Option Refusal) → refer n owner g (m (Refs g)) ≡ o → TypedPlainly w m g t (refused_for h x) o → is_dying x ≡ false
  typed_shows g t (Some y) is a = let same = a.0 in shows_word g cc
  typed_shows g t None is a = absurd (type_unowned g h x (got g m (Kind g)) t a.0)

  enters_shows : (f i : ℕ) (e : Demand) → EntersPlainly n w m f i owner (refused_for h x) e → is_dying x ≡ false
  enters_shows f i demands.Nothing a = absurd (let same = a.0 in cc)
  enters_shows f i demands.Bad a = absurd (let same = a.0 in cc)
  enters_shows f i (demands.Read g) a = refers_shows g (refer n owner g (m (Refs g))) refl a
  enters_shows f i (demands.Typed g t) a = typed_shows g t (refer n owner g (m (Refs g))) refl a

  back_shows : (g : ℕ) (t : PageType) (o : Option Refusal) → refer n owner g (m (Refs g)) ≡ o → AgainBy w m g t (refused_for h x) o → is_dying x ≡ false
  back_shows g t (Some y) is a = let same = a.0 in shows_word g cc
  back_shows g t None is a = absurd (type_unowned g h x (got g m (Kind g)) t a.0)

  where_shows : (g : ℕ) (t : PageType) (b : Bool) → AgainWhere n w m g t owner (refused_for h x) b → is_dying x ≡ false
  where_shows g t true a = absurd (let same = a.0 in cc)
  where_shows g t false a = back_shows g t (refer n owner g (m (Refs g))) refl a

  resumes_shows : (e : Demand) → ResumesPlainly n w m owner (refused_for h x) e → is_dying x ≡ false
  resumes_shows (demands.Typed g t) a = where_shows g t (nat_lt g n.frames && is_live_word (m (Kind g))) a
  resumes_shows demands.Nothing a = absurd (let same = a.0 in cc)
  resumes_shows demands.Bad a = absurd (let same = a.0 in cc)
  resumes_shows (demands.Read g) a = absurd (let same = a.0 in cc)

-- ---- one call each
entry_settling : (v w : PortValue) (owner : ℕ) (t : TableWork) (answer : Result Entered Stop) → TookEntry v w owner t answer → Settling v w
entry_settling v w owner t answer a =
    record {
      came = does_came v w _ a.found;
      none = λ machine telling n. enters_none v.post.machine w (told_word v) owner machine n t.frame t.done answer (demand_at (level_type t.level) t.done (told_word v (Cell t.frame t.done))) (a.plain telling);
    }

again_settling : (v w : PortValue) (owner : ℕ) (t : TableWork) (answer : Result Resumed Stop) → ResumedEntry v w owner t answer → Settling v w
again_settling v w owner t answer a =
    record {
      came = does_came v w _ a.found;
      none = λ machine telling n. resumes_none v.post.machine w (told_word v) owner machine n answer (demand_at (level_type t.level) (t.done - 1) (told_word v (Cell t.frame (t.done - 1)))) (a.plain telling);
    }

back_settling : (v w : PortValue) (f : ℕ) → GaveBack v w f → Settling v w
back_settling v w f a = settling_then v a.between w (off_settling v a.between _ _ _ _ _ (λ g e. absurd cc) a.lowers.lowers.step) (gave_settling a.between w f a.puts)

live_settling : (v w : PortValue) (t : TableWork) → MadeLive v w t → Settling v w
live_settling v w t a = off_settling v w _ _ _ _ _ (λ g e. absurd cc) a.1

joined_settling : (v w : PortValue) (t outer : TableWork) (b : Bool) → Joined v w t outer b → Settling v w
joined_settling v w t outer true a = back_settling v w t.frame a
joined_settling v w t outer false a = look_settling v w _ _ _ _ a.1

-- x is of no dying frame, where none was at v
abbrev Shows : PortValue → ℕ → Type 0
Shows v x = IsMachine v.post.machine → is_telling v ≡ true → NoneDies (told_word v) → is_dying x ≡ false

shows_then : (v u : PortValue) (x : ℕ) → Settling v u → Shows u x → Shows v x
shows_then v u x a shows machine telling n = shows (subst IsMachine (sym (same_machine v u a.came)) machine) (came_telling v u a.came ∙ telling) (a.none machine telling n)

entry_shows : (v w : PortValue) (owner : ℕ) (t : TableWork) (h x : ℕ) → TookEntry v w owner t (refused_for h x) → Shows v x
entry_shows v w owner t h x a machine telling n = enters_shows v.post.machine w (told_word v) owner h x n t.frame t.done (demand_at (level_type t.level) t.done (told_word v (Cell t.frame t.done))) (a.plain telling)

again_shows : (v w : PortValue) (owner : ℕ) (t : TableWork) (h x : ℕ) → ResumedEntry v w owner t (refused_for h x) → Shows v x
again_shows v w owner t h x a machine telling n = resumes_shows v.post.machine w (told_word v) owner h x n (demand_at (level_type t.level) (t.done - 1) (told_word v (Cell t.frame (t.done - 1)))) (a.plain telling)

-- a wait is no such refusal
no_wait : (e : Stop) (h x : ℕ) → IsWait e → e ≡ Refused (WrongOwner h x) → ⊥
no_wait e h x wait is = subst IsWait is wait

-- the error of such an answer
stop_is : {A : Type 0} (e : Stop) (h x : ℕ) → failed {A = A} e ≡ refused_for h x → e ≡ Refused (WrongOwner h x)
stop_is e h x is = cc

-- ---- tables, until they are full: what goes on
on_settling : (owner : ℕ) (v : PortValue) (ts : List TableWork) (w : PortValue) (us : List TableWork) (r : Result Bool Stop) (d : Bool) → TookOn owner v ts w us r → r ≡ Ok d → Settling v w
on_settling owner _ _ _ _ _ d (fresh v t ts none) is = nothing_settling v
on_settling owner _ _ _ _ _ d (settled v w t ts some a) is = again_settling v w owner t _ a
on_settling owner _ _ _ _ _ d (took v u w t ts f some a b) is = settling_then v u w (again_settling v u owner t _ a) (back_settling u w f b)
on_settling owner _ _ _ _ _ d (opened v u w t ts us f progress answer some a b) is = settling_then v u w (again_settling v u owner t _ a) (on_settling owner u _ w us answer d b is)
on_settling owner _ _ _ _ _ d (waiting v u w t ts f stamp stop some a b) is = absurd cc
on_settling owner _ _ _ _ _ d (stopped v w t ts stop some a) is = absurd cc

advanced_settling : (owner : ℕ) (v : PortValue) (ts : List TableWork) (w : PortValue) (us : List TableWork) (r : Result Bool Stop) (d : Bool) → Advanced owner v ts w us r → r ≡ Ok d → Settling v w
advanced_settling owner _ _ _ _ _ d (recorded v w t ts few a) is = entry_settling v w owner t _ a
advanced_settling owner _ _ _ _ _ d (opened v u w t ts us f progress own done few a b) is = settling_then v u w (entry_settling v u owner t _ a) (on_settling owner u _ w us _ done b refl)
advanced_settling owner _ _ _ _ _ d (cut_off v u w t ts us f progress own stop few a b) is = absurd cc
advanced_settling owner _ _ _ _ _ d (unsettled v w t ts stop few a) is = absurd cc
advanced_settling owner _ _ _ _ _ d (stopped v w t ts stop few a) is = absurd cc
advanced_settling owner _ _ _ _ _ d (completed v u w t outer ts full a b) is = settling_then v u w (live_settling v u t a) (joined_settling u w t outer t.recorded b)

filled_settling : (owner : ℕ) (v : PortValue) (ts : List TableWork) (first : List Bool) (w : PortValue) (us : List TableWork) (answers : List Bool) (r : Result (Unit {0}) Stop) → Filled owner v ts first w us answers r → r ≡ Ok tt → Settling v w
filled_settling owner v ts first _ _ _ _ begun is = nothing_settling v
filled_settling owner v ts first _ _ _ _ (unasked u w us xs done answers before step off) is =
    settling_then v u w (filled_settling owner v ts first u us answers (Ok tt) before refl) (advanced_settling owner u us w xs _ done step refl)
filled_settling owner v ts first _ _ _ _ (asked u w us xs answers before step on) is =
    settling_then v u w (filled_settling owner v ts first u us answers (Ok tt) before refl) (advanced_settling owner u us w xs _ true step refl)
filled_settling owner v ts first _ _ _ _ (due u w us xs answers before step on) is = absurd cc
filled_settling owner v ts first _ _ _ _ (stopped u w us xs answers stop before step) is = absurd cc

worked_settling : (owner : ℕ) (v : PortValue) (t : TableWork) (w : PortValue) (us : List TableWork) (answers : List Bool) (r : Result (Unit {0}) Stop) → Worked owner v t w us answers r → r ≡ Ok tt → Settling v w
worked_settling owner v t _ _ _ _ (cut_off w us stop a) is = absurd cc
worked_settling owner v t _ _ _ _ (due w us a on) is = absurd cc
worked_settling owner v t _ _ _ _ (filled u w us xs done answers answer a b) is = settling_then v u w (on_settling owner v (t ∷ []) u us _ done a refl) (filled_settling owner u us _ w xs answers answer b is)

-- ---- and what is refused
on_shows : (owner h x : ℕ) (v : PortValue) (ts : List TableWork) (w : PortValue) (us : List TableWork) (r : Result Bool Stop) → TookOn owner v ts w us r → r ≡ refused_for h x → Shows v x
on_shows owner h x _ _ _ _ _ (fresh v t ts none) is = absurd cc
on_shows owner h x _ _ _ _ _ (settled v w t ts some a) is = absurd cc
on_shows owner h x _ _ _ _ _ (took v u w t ts f some a b) is = absurd cc
on_shows owner h x _ _ _ _ _ (opened v u w t ts us f progress answer some a b) is = shows_then v u x (again_settling v u owner t _ a) (on_shows owner h x u _ w us answer b is)
on_shows owner h x _ _ _ _ _ (waiting v u w t ts f stamp stop some a b) is = absurd (no_wait stop h x (a.shows 0).1 (stop_is stop h x is))
on_shows owner h x _ _ _ _ _ (stopped v w t ts stop some a) is = again_shows v w owner t h x (subst (λ e. ResumedEntry v w owner t (Err e)) (stop_is stop h x is) a)

advanced_shows : (owner h x : ℕ) (v : PortValue) (ts : List TableWork) (w : PortValue) (us : List TableWork) (r : Result Bool Stop) → Advanced owner v ts w us r → r ≡ refused_for h x → Shows v x
advanced_shows owner h x _ _ _ _ _ (recorded v w t ts few a) is = absurd cc
advanced_shows owner h x _ _ _ _ _ (opened v u w t ts us f progress own done few a b) is = absurd cc
advanced_shows owner h x _ _ _ _ _ (cut_off v u w t ts us f progress own stop few a b) is = shows_then v u x (entry_settling v u owner t _ a) (on_shows owner h x u _ w us _ b is)
advanced_shows owner h x _ _ _ _ _ (unsettled v w t ts stop few a) is = absurd (no_wait stop h x (a.shows 0).1 (stop_is stop h x is))
advanced_shows owner h x _ _ _ _ _ (stopped v w t ts stop few a) is = entry_shows v w owner t h x (subst (λ e. TookEntry v w owner t (Err e)) (stop_is stop h x is) a)
advanced_shows owner h x _ _ _ _ _ (completed v u w t outer ts full a b) is = absurd cc

filled_shows : (owner h x : ℕ) (v : PortValue) (ts : List TableWork) (first : List Bool) (w : PortValue) (us : List TableWork) (answers : List Bool) (r : Result (Unit {0}) Stop) → Filled owner v ts first w us answers r → r ≡ refused_for h x → Shows v x
filled_shows owner h x v ts first _ _ _ _ begun is = absurd cc
filled_shows owner h x v ts first _ _ _ _ (unasked u w us xs done answers before step off) is = absurd cc
filled_shows owner h x v ts first _ _ _ _ (asked u w us xs answers before step on) is = absurd cc
filled_shows owner h x v ts first _ _ _ _ (due u w us xs answers before step on) is = absurd cc
filled_shows owner h x v ts first _ _ _ _ (stopped u w us xs answers stop before step) is =
    shows_then v u x (filled_settling owner v ts first u us answers (Ok tt) before refl) (advanced_shows owner h x u us w xs (Err stop) step (ap Err (stop_is stop h x is)))

worked_shows : (owner h x : ℕ) (v : PortValue) (t : TableWork) (w : PortValue) (us : List TableWork) (answers : List Bool) (r : Result (Unit {0}) Stop) → Worked owner v t w us answers r → r ≡ refused_for h x → Shows v x
worked_shows owner h x v t _ _ _ _ (cut_off w us stop a) is = on_shows owner h x v (t ∷ []) w us (Err stop) a (ap Err (stop_is stop h x is))
worked_shows owner h x v t _ _ _ _ (due w us a on) is = absurd cc
worked_shows owner h x v t _ _ _ _ (filled u w us xs done answers answer a b) is = shows_then v u x (on_settling owner v (t ∷ []) u us _ done a refl) (filled_shows owner h x u us _ w xs answers answer b is)

-- ---- the whole
type_shows : (v w : PortValue) (f owner level : ℕ) (stop : Stop) (h x : ℕ) → TookType v w f owner level (Err stop) → stop ≡ Refused (WrongOwner h x) → Shows v x
type_shows v w f owner level stop h x a is machine telling n = absurd (type_unowned f h x (told_word v (Kind f)) (level_type level) ((a.plain telling).0 ∙ ap Some is))

shows_by : (v : PortValue) (f owner level : ℕ) (w : PortValue) (answers : List Bool) (answer : Result ℕ Stop) (h x : ℕ) → Acquired v f owner level w answers answer → answer ≡ refused_for h x → Shows v x
shows_by v f owner level _ _ _ h x (unreferred w stop ref) is = λ machine telling n. ref_shows v w f owner h x (subst (λ e. GotRef v w f owner (Err e)) (stop_is stop h x is) ref) telling n
shows_by v f owner level _ _ _ h x (untyped u y w stop ref type back) is = shows_then v u x (had_settling v u f owner f ref) (type_shows u y f owner level stop h x type (stop_is stop h x is))
shows_by v f owner level _ _ _ h x (counted u w ref type) is = absurd cc
shows_by v f owner level _ _ _ h x (waiting u y w own stamp stop ref type left) is = absurd (no_wait stop h x type.waits.0 (stop_is stop h x is))
shows_by v f owner level _ _ _ h x (unfinished u y z w progress own us answers stop ref type work left) is =
    shows_then v u x (had_settling v u f owner f ref)
    (shows_then u y x (type_settling u y f owner level _ type) (worked_shows owner h x y (outermost_table f level progress own) z us answers (Err stop) work (ap Err (stop_is stop h x is))))
shows_by v f owner level _ _ _ h x (finished u y z w progress own t answers ref type work full made) is = absurd cc

-- What a refused acquisition shows of a frame of another owner is a word of no frame that is just being given back.
pub acquired_shows : (v : PortValue) (f owner level : ℕ) (w : PortValue) (answers : List Bool) (g x : ℕ) → IsMachine v.post.machine → is_telling v ≡ true → NoneDies (told_word v) → Acquired v f owner level w answers (Err (Refused (WrongOwner g x))) → is_dying x ≡ false
acquired_shows v f owner level w answers g x machine telling n acquired = shows_by v f owner level w answers (refused_for g x) g x acquired refl machine telling n

settling_by : (v : PortValue) (f owner level : ℕ) (w : PortValue) (answers : List Bool) (answer : Result ℕ Stop) (g : ℕ) → Acquired v f owner level w answers answer → answer ≡ Ok g → Settling v w
settling_by v f owner level _ _ _ g (unreferred w stop ref) is = absurd cc
settling_by v f owner level _ _ _ g (untyped u x w stop ref type back) is = absurd cc
settling_by v f owner level _ _ _ g (counted u w ref type) is = settling_then v u w (had_settling v u f owner f ref) (type_settling u w f owner level _ type)
settling_by v f owner level _ _ _ g (waiting u x w own stamp stop ref type left) is = absurd cc
settling_by v f owner level _ _ _ g (unfinished u x y w progress own us answers stop ref type work left) is = absurd cc
settling_by v f owner level _ _ _ g (finished u x y w progress own t answers ref type work full made) is =
    settling_then v x w (settling_then v u x (had_settling v u f owner f ref) (type_settling u x f owner level _ type))
    (settling_then x y w (worked_settling owner x (outermost_table f level progress own) y (t ∷ []) answers (Ok tt) work refl) (live_settling y w t made))

-- and one that is had lets no frame die
pub acquired_settling : (v : PortValue) (f owner level : ℕ) (w : PortValue) (answers : List Bool) (g : ℕ) → Acquired v f owner level w answers (Ok g) → Settling v w
acquired_settling v f owner level w answers g acquired = settling_by v f owner level w answers (Ok g) g acquired refl
