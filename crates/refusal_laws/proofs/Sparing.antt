-- A paused acquisition touches no other words: its course, link by link.
use Rattle.std.proofs.Common.{◌≡◌, ℕ, ◌-◌, Bool, true, false, List, [], ◌∷◌, Result, Ok, Err, refl, sym, ◌∙◌, subst}
use Rattle.xp_words.specs.Entries.{demand_at}
use Rattle.xp_words.specs.declared.kind.KindWord.{KindWord}
use Rattle.xp_words.specs.declared.place.Place.TheVariants.{Cell}
use Rattle.xp_words.specs.declared.reply.Pause.TheVariants as pauses
use Rattle.xp_words.specs.declared.reply.Stop.{Stop}
use Rattle.xp_words.specs.declared.reply.Stop.TheVariants.{Refused, Paused}
use Rattle.xp_board.specs.Told.{PortValue, is_telling, told_word}
use Rattle.step_maker.specs.Moves.{Came}
use Rattle.step_maker.proofs.Coming.{came_self, came_trans, met_after, moves_came}
use Rattle.step_maker.proofs.Telling.{came_telling, leaves, load_tells}
use Rattle.step_maker.proofs.Visiting.{does_came}
use Rattle.frame_words.specs.Plain.{got, put}
use Rattle.frame_types.specs.declared.taking.Taken.{Taken}
use Rattle.kept_marks.specs.Marks.{KeptFor}
use Rattle.partial_state.specs.Levels.{level_type}
use Rattle.partial_state.specs.declared.stack.TableWork.{TableWork}
use Rattle.table_entries.specs.declared.entries.Entered.{Entered}
use Rattle.table_entries.specs.declared.resuming.Resumed.{Resumed}
use Rattle.table_entries.specs.Acquiring.{Acquired, Advanced, Filled, GaveBack, GaveRef, GotRef, InnerLeft, Joined, LeftPartial, MadeLive, OutermostLeft, ResumedEntry, TookEntry, TookOn, TookType, Unwound, Worked, around_left, asked, begun, completed, counted, cut_off, due, filled, finished, fresh, keeps_it, opened, outermost_table, recorded, settled, stopped, taken, unasked, unfinished, unreferred, unsettled, untyped, waiting}
use Rattle.table_entries.proofs.Shared.{gave_came, ref_came}
use Rattle.flush_waits.specs.Waiting.{IsWait}
use Rattle.course_laws.specs.Courses.{FindsAlive}
use Rattle.course_laws.proofs.Unwinding.{at_home}
use Rattle.course_laws.proofs.Walking.{again_came, entry_came}
use Rattle.refusal_laws.proofs.Untouched.{Spares, enters_spares, got_spares, kind_spares, leaves_spares, put_spares, resumes_spares, type_spares}

-- From v to w these words stay, where the board tells all words.
pub record Sparing (v w : PortValue) : Type 0 where
  pub came : Came v w
  pub same : is_telling v ≡ true → Spares (told_word v) (told_word w)

nothing_sparing : (v : PortValue) → Sparing v v
nothing_sparing v = record { came = came_self v; same = λ telling q off. refl }

sparing_then : (v u w : PortValue) → Sparing v u → Sparing u w → Sparing v w
sparing_then v u w a b = record { came = came_trans v u w a.came b.came; same = λ telling q off. b.same (came_telling v u a.came ∙ telling) q off ∙ a.same telling q off }

-- it is paused for the gate, or goes on
abbrev pub IsCalm : {A : Type 0} → Result A Stop → Type 0
IsCalm (Ok a) = Unit {0}
IsCalm (Err e) = e ≡ Paused pauses.Due

no_wait : (e : Stop) → IsWait e → e ≡ Paused pauses.Due → ⊥
no_wait e wait is = subst IsWait is wait

-- ---- one call each
ref_spares : (v w : PortValue) (f owner : ℕ) (answer : Result ℕ Stop) → GotRef v w f owner answer → is_telling v ≡ true → Spares (told_word v) (told_word w)
ref_spares v w f owner (Ok g) a telling = leaves_spares w (told_word v) (got f (told_word v)) (a.plain telling).1 (got_spares f (told_word v))
ref_spares v w f owner (Err (Refused x)) a telling = leaves_spares w (told_word v) (told_word v) (a.plain telling).1 (λ q off. refl)
ref_spares v w f owner (Err (Paused x)) a telling = absurd (a.plain telling)

ref_sparing : (v w : PortValue) (f owner : ℕ) (answer : Result ℕ Stop) → GotRef v w f owner answer → Sparing v w
ref_sparing v w f owner answer a = record { came = ref_came v w f owner answer a; same = ref_spares v w f owner answer a }

gave_sparing : (v w : PortValue) (f : ℕ) → GaveRef v w f → Sparing v w
gave_sparing v w f a = record { came = gave_came v w f a; same = λ telling. leaves_spares w (told_word v) (put f (told_word v)) (a.plain telling) (put_spares f (told_word v)) }

took_spares : (v w : PortValue) (f owner level : ℕ) (answer : Result Taken Stop) → TookType v w f owner level answer → is_telling v ≡ true → Spares (told_word v) (told_word w)
took_spares v w f owner level (Ok way) a telling = type_spares w (told_word v) f (level_type level) way (a.plain telling).2
took_spares v w f owner level (Err e) a telling = leaves_spares w (told_word v) (told_word v) (a.plain telling).1 (λ q off. refl)

took_sparing : (v w : PortValue) (f owner level : ℕ) (answer : Result Taken Stop) → TookType v w f owner level answer → Sparing v w
took_sparing v w f owner level answer a = record { came = does_came v w _ a.found; same = took_spares v w f owner level answer a }

entry_sparing : (v w : PortValue) (owner : ℕ) (t : TableWork) (answer : Result Entered Stop) → TookEntry v w owner t answer → Sparing v w
entry_sparing v w owner t answer a =
    record { came = entry_came v w owner t answer a; same = λ telling. enters_spares v.post.machine w (told_word v) owner t.frame t.done answer (demand_at (level_type t.level) t.done (told_word v (Cell t.frame t.done))) (a.plain telling) }

again_sparing : (v w : PortValue) (owner : ℕ) (t : TableWork) (answer : Result Resumed Stop) → ResumedEntry v w owner t answer → Sparing v w
again_sparing v w owner t answer a =
    record { came = again_came v w owner t answer a; same = λ telling. resumes_spares v.post.machine w (told_word v) owner answer (demand_at (level_type t.level) (t.done - 1) (told_word v (Cell t.frame (t.done - 1)))) (a.plain telling) }

back_sparing : (v w : PortValue) (f : ℕ) → GaveBack v w f → Sparing v w
back_sparing v w f a =
    let step = a.lowers.lowers.step in
    sparing_then v a.between w
    (record { came = moves_came v a.between _ _ _ _ _ step; same = λ telling. leaves_spares a.between (told_word v) _ (leaves v a.between _ _ _ _ _ step telling) (kind_spares _ f (told_word v)) })
    (gave_sparing a.between w f a.puts)

live_sparing : (v w : PortValue) (t : TableWork) → MadeLive v w t → Sparing v w
live_sparing v w t a = record { came = moves_came v w _ _ _ _ _ a.1; same = λ telling. leaves_spares w (told_word v) _ (leaves v w _ _ _ _ _ a.1 telling) (kind_spares _ t.frame (told_word v)) }

partial_sparing : (v w : PortValue) (t : TableWork) → LeftPartial v w t → Sparing v w
partial_sparing v w t a = record { came = moves_came v w _ _ _ _ _ a.1; same = λ telling. leaves_spares w (told_word v) _ (leaves v w _ _ _ _ _ a.1 telling) (kind_spares _ t.frame (told_word v)) }

joined_sparing : (v w : PortValue) (t outer : TableWork) (b : Bool) → Joined v w t outer b → Sparing v w
joined_sparing v w t outer true a = back_sparing v w t.frame a
joined_sparing v w t outer false a = record { came = moves_came v w _ _ _ _ _ a.1; same = λ telling q off. load_tells v w _ _ _ _ a.1 telling q }

-- ---- tables, until they are full
on_sparing : (owner : ℕ) (v : PortValue) (ts : List TableWork) (w : PortValue) (us : List TableWork) (r : Result Bool Stop) → TookOn owner v ts w us r → IsCalm r → Sparing v w
on_sparing owner _ _ _ _ _ (fresh v t ts none) calm = nothing_sparing v
on_sparing owner _ _ _ _ _ (settled v w t ts some a) calm = again_sparing v w owner t _ a
on_sparing owner _ _ _ _ _ (taken v u w t ts f some a b) calm = sparing_then v u w (again_sparing v u owner t _ a) (back_sparing u w f b)
on_sparing owner _ _ _ _ _ (opened v u w t ts us f progress answer some a b) calm = sparing_then v u w (again_sparing v u owner t _ a) (on_sparing owner u _ w us answer b calm)
on_sparing owner _ _ _ _ _ (waiting v u w t ts f stamp stop some a b) calm = absurd (no_wait stop (a.shows 0).1 calm)
on_sparing owner _ _ _ _ _ (stopped v w t ts stop some a) calm = again_sparing v w owner t _ a

advanced_sparing : (owner : ℕ) (v : PortValue) (ts : List TableWork) (w : PortValue) (us : List TableWork) (r : Result Bool Stop) → Advanced owner v ts w us r → IsCalm r → Sparing v w
advanced_sparing owner _ _ _ _ _ (recorded v w t ts few a) calm = entry_sparing v w owner t _ a
advanced_sparing owner _ _ _ _ _ (opened v u w t ts us f progress own done few a b) calm = sparing_then v u w (entry_sparing v u owner t _ a) (on_sparing owner u _ w us _ b tt)
advanced_sparing owner _ _ _ _ _ (cut_off v u w t ts us f progress own stop few a b) calm = sparing_then v u w (entry_sparing v u owner t _ a) (on_sparing owner u _ w us _ b calm)
advanced_sparing owner _ _ _ _ _ (unsettled v w t ts stop few a) calm = entry_sparing v w owner t _ a
advanced_sparing owner _ _ _ _ _ (stopped v w t ts stop few a) calm = entry_sparing v w owner t _ a
advanced_sparing owner _ _ _ _ _ (completed v u w t outer ts full a b) calm = sparing_then v u w (live_sparing v u t a) (joined_sparing u w t outer t.recorded b)

filled_sparing : (owner : ℕ) (v : PortValue) (ts : List TableWork) (first : List Bool) (w : PortValue) (us : List TableWork) (answers : List Bool) (r : Result (Unit {0}) Stop) → Filled owner v ts first w us answers r → IsCalm r → Sparing v w
filled_sparing owner v ts first _ _ _ _ begun calm = nothing_sparing v
filled_sparing owner v ts first _ _ _ _ (unasked u w us xs done answers before step off) calm = sparing_then v u w (filled_sparing owner v ts first u us answers (Ok tt) before tt) (advanced_sparing owner u us w xs _ step tt)
filled_sparing owner v ts first _ _ _ _ (asked u w us xs answers before step on) calm = sparing_then v u w (filled_sparing owner v ts first u us answers (Ok tt) before tt) (advanced_sparing owner u us w xs _ step tt)
filled_sparing owner v ts first _ _ _ _ (due u w us xs answers before step on) calm = sparing_then v u w (filled_sparing owner v ts first u us answers (Ok tt) before tt) (advanced_sparing owner u us w xs _ step tt)
filled_sparing owner v ts first _ _ _ _ (stopped u w us xs answers stop before step) calm = sparing_then v u w (filled_sparing owner v ts first u us answers (Ok tt) before tt) (advanced_sparing owner u us w xs _ step calm)

worked_sparing : (owner : ℕ) (v : PortValue) (t : TableWork) (w : PortValue) (us : List TableWork) (answers : List Bool) (r : Result (Unit {0}) Stop) → Worked owner v t w us answers r → IsCalm r → Sparing v w
worked_sparing owner v t _ _ _ _ (cut_off w us stop a) calm = on_sparing owner v (t ∷ []) w us _ a calm
worked_sparing owner v t _ _ _ _ (due w us a on) calm = on_sparing owner v (t ∷ []) w us _ a tt
worked_sparing owner v t _ _ _ _ (filled u w us xs done answers answer a b) calm = sparing_then v u w (on_sparing owner v (t ∷ []) u us _ a tt) (filled_sparing owner u us _ w xs answers answer b calm)

-- ---- tables that are left
kept_sparing : (v w : PortValue) (f : ℕ) (k : KindWord) (owner : ℕ) → is_telling v ≡ true → KeptFor v w f k owner → FindsAlive v w owner → Sparing v w
kept_sparing v w f k owner telling kept finds =
    let home = at_home v w f k owner telling kept finds in
    let step = home.marked.1 in
    record {
      came = came_trans v home.left w (moves_came v home.left _ _ _ _ _ step) home.came;
      same = λ told q off. home.same q ∙ leaves_spares home.left (told_word v) _ (leaves v home.left _ _ _ _ _ step told) (kind_spares _ f (told_word v)) q off;
    }

inner_sparing : (v w : PortValue) (t outer : TableWork) (own : Bool) → InnerLeft v w t outer own → Sparing v w
inner_sparing v w t outer true a =
    let l = a.1 in
    sparing_then v l.0 w (partial_sparing v l.0 t l.1) (record { came = moves_came l.0 w _ _ _ _ _ l.2.1; same = λ telling q off. load_tells l.0 w _ _ _ _ l.2.1 telling q })
inner_sparing v w t outer false a = sparing_then v a.0 w (partial_sparing v a.0 t a.1) (gave_sparing a.0 w t.frame a.2)

outermost_sparing : (v w : PortValue) (owner : ℕ) (t : TableWork) (own : Bool) → is_telling v ≡ true → OutermostLeft v w owner t own true → FindsAlive v w owner → Sparing v w
outermost_sparing v w owner t true telling a finds = kept_sparing v w t.frame _ owner telling a finds
outermost_sparing v w owner t false telling a finds = sparing_then v a.0 w (partial_sparing v a.0 t a.1) (gave_sparing a.0 w t.frame a.2)

unwound_sparing : (v : PortValue) (owner : ℕ) (ts : List TableWork) (w : PortValue) → is_telling v ≡ true → Unwound v owner ts true w → FindsAlive v w owner → Sparing v w
unwound_sparing v owner [] w telling a finds = subst (Sparing v) (sym a) (nothing_sparing v)
unwound_sparing v owner (t ∷ []) w telling a finds = outermost_sparing v w owner t t.own telling a finds
unwound_sparing v owner (t ∷ outer ∷ ts) w telling a finds =
    let inner = inner_sparing v a.0 t outer t.own a.1 in
    sparing_then v a.0 w inner (unwound_sparing a.0 owner (around_left t outer ∷ ts) w (came_telling v a.0 inner.came ∙ telling) a.2 (λ m met. finds m (met_after v a.0 w m inner.came met)))

-- ---- the whole
acquired_by : (v : PortValue) (f owner level : ℕ) (w : PortValue) (answers : List Bool) (answer : Result ℕ Stop) → answer ≡ Err (Paused pauses.Due) → is_telling v ≡ true → Acquired v f owner level w answers answer → FindsAlive v w owner → Sparing v w
acquired_by v f owner level _ _ _ same telling (unreferred w stop ref) finds = ref_sparing v w f owner _ ref
acquired_by v f owner level _ _ _ same telling (untyped u x w stop ref type back) finds = sparing_then v u w (ref_sparing v u f owner _ ref) (sparing_then u x w (took_sparing u x f owner level _ type) (gave_sparing x w f back))
acquired_by v f owner level _ _ _ same telling (counted u w ref type) finds = sparing_then v u w (ref_sparing v u f owner _ ref) (took_sparing u w f owner level _ type)
acquired_by v f owner level _ _ _ same telling (waiting u x w own stamp stop ref type left) finds = absurd (no_wait stop type.waits.0 cc)
acquired_by v f owner level _ _ _ same telling (unfinished u x y w progress own us answers stop ref type work left) finds =
    let is : stop ≡ Paused pauses.Due = cc in
    let before = sparing_then v x y (sparing_then v u x (ref_sparing v u f owner _ ref) (took_sparing u x f owner level _ type)) (worked_sparing owner x (outermost_table f level progress own) y us answers (Err stop) work is) in
    sparing_then v y w before
    (unwound_sparing y owner us w (came_telling v y before.came ∙ telling) (subst (λ e. Unwound y owner us (keeps_it e) w) is left) (λ m met. finds m (met_after v y w m before.came met)))
acquired_by v f owner level _ _ _ same telling (finished u x y w progress own t answers ref type work full made) finds = absurd cc

pub acquired_sparing : (v : PortValue) (f owner level : ℕ) (w : PortValue) (answers : List Bool) → is_telling v ≡ true → Acquired v f owner level w answers (Err (Paused pauses.Due)) → FindsAlive v w owner → Sparing v w
acquired_sparing v f owner level w answers telling acquired finds = acquired_by v f owner level w answers (Err (Paused pauses.Due)) refl telling acquired finds

-- one that is had
had_by : (v : PortValue) (f owner level : ℕ) (w : PortValue) (answers : List Bool) (answer : Result ℕ Stop) (g : ℕ) → answer ≡ Ok g → Acquired v f owner level w answers answer → Sparing v w
had_by v f owner level _ _ _ g same (unreferred w stop ref) = absurd cc
had_by v f owner level _ _ _ g same (untyped u x w stop ref type back) = absurd cc
had_by v f owner level _ _ _ g same (counted u w ref type) = sparing_then v u w (ref_sparing v u f owner _ ref) (took_sparing u w f owner level _ type)
had_by v f owner level _ _ _ g same (waiting u x w own stamp stop ref type left) = absurd cc
had_by v f owner level _ _ _ g same (unfinished u x y w progress own us answers stop ref type work left) = absurd cc
had_by v f owner level _ _ _ g same (finished u x y w progress own t answers ref type work full made) =
    sparing_then v x w (sparing_then v u x (ref_sparing v u f owner _ ref) (took_sparing u x f owner level _ type))
    (sparing_then x y w (worked_sparing owner x (outermost_table f level progress own) y (t ∷ []) answers (Ok tt) work tt) (live_sparing y w t made))

pub had_sparing : (v : PortValue) (f owner level : ℕ) (w : PortValue) (answers : List Bool) (g : ℕ) → Acquired v f owner level w answers (Ok g) → Sparing v w
had_sparing v f owner level w answers g acquired = had_by v f owner level w answers (Ok g) g refl acquired
