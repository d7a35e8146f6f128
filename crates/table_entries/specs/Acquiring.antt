-- The course of an acquisition: the calls that it makes, from port to port, with the tables in work before and after each, and the
-- answers of the gate, the newest first.
use Rattle.std.specs.Prelude.{◌≡◌, ℕ, ◌+◌, ◌-◌, ◌<◌, ◌==◌, ◌&&◌, ◌||◌, nat_le, not, if◌then◌else◌, Bool, true, false, List, [], ◌∷◌, None, Some, Result, Ok, Err, IfOk, IfErr}
use Rattle.xp_words.specs.KindWords.{kind_fields, kind_write}
use Rattle.xp_words.specs.declared.kind.PageType.{PageType}
use Rattle.xp_words.specs.declared.place.Place.TheVariants.{Clock, Kind, Refs}
use Rattle.xp_words.specs.declared.reply.Pause.TheVariants.{Due}
use Rattle.xp_words.specs.declared.reply.Stop.{Stop}
use Rattle.xp_words.specs.declared.reply.Stop.TheVariants.{Paused}
use Rattle.xp_board.specs.declared.step.Act.TheVariants.{Load, Store}
use Rattle.xp_board.specs.declared.step.Mark.TheVariants.{Record}
use Rattle.xp_board.specs.declared.step.StepKind.TheVariants as kinds
use Rattle.xp_board.specs.Readings.{is_free}
use Rattle.xp_board.specs.Told.{PortValue, is_telling, told_word}
use Rattle.step_maker.specs.Moves.{Moves}
use Rattle.step_maker.specs.Plain.{Leaves}
use Rattle.step_maker.specs.Answers.{Serves, Stops, misses}
use Rattle.step_maker.specs.Asked.{of_back, of_frame}
use Rattle.step_maker.specs.Holds.{Holds}
use Rattle.step_maker.specs.Visits.{Does}
use Rattle.frame_words.specs.Plain.{TwinGet, put}
use Rattle.frame_words.specs.Freeing.{Puts}
use Rattle.frame_words.specs.Refs.{Gets}
use Rattle.kind_words.specs.Kinds.{live_kind, partial_kind}
use Rattle.frame_types.specs.Found.{DropsPlain, SharedBy, StoresKind, TakesFound}
use Rattle.frame_types.specs.Lowering.{DropsType}
use Rattle.frame_types.specs.Plain.{TwinTake, dropped_plain, is_refused}
use Rattle.frame_types.specs.Leaving.{GivesBack, ServesType}
use Rattle.frame_types.specs.Taking.{ShowsWait, gave_type}
use Rattle.frame_types.specs.declared.taking.Taken.{Taken}
use Rattle.frame_types.specs.declared.taking.Taken.TheVariants as types
use Rattle.kept_marks.specs.Marks.{KeptFor}
use Rattle.xp_words.specs.Entries.{is_slot}
use Rattle.partial_state.specs.Levels.{level_type}
use Rattle.partial_state.specs.declared.stack.TableWork.{TableWork}
use Rattle.table_words.specs.OldWords.{old_place}
use Rattle.table_words.specs.declared.old_words.OldWord.TheVariants.{First}
use Rattle.table_entries.specs.Asking.{ShowsEntered, ShowsResumed, of_entries}
use Rattle.table_entries.specs.Between.{HandEntered, HandResumed}
use Rattle.table_entries.specs.Found.{EntersFound, ResumesFound}
use Rattle.table_entries.specs.Plain.{TwinEntry, TwinResume}
use Rattle.table_entries.specs.Tops.{WorksAtTop}
use Rattle.table_entries.specs.declared.entries.Entered.{Entered}
use Rattle.table_entries.specs.declared.entries.Entered.TheVariants.{Recorded, Opened, Unsettled}
use Rattle.table_entries.specs.declared.resuming.Resumed.{Resumed}
use Rattle.table_entries.specs.declared.resuming.Resumed.TheVariants as again

-- ---- one call each: by the words that its steps found; on a board that tells all words; and what the steps show of its answer
pub record GotRef (v w : PortValue) (f owner : ℕ) (answer : Result ℕ Stop) : Type 0 where
  pub found : Gets v w f owner answer
  pub plain : TwinGet v w f owner answer
  pub stops : IfErr answer (λ e. Stops v w (of_frame f owner None) e)

pub record GaveRef (v w : PortValue) (f : ℕ) : Type 0 where
  pub found : Puts v w f
  pub plain : is_telling v ≡ true → Leaves w (put f (told_word v))

-- a type of a frame that holds no entries, and the reference with it: the frame is an owned one, and live
pub record GaveType (v w : PortValue) (f : ℕ) (kind : PageType) : Type 0 where
  pub found : DropsPlain v w f kind
  pub plain : is_telling v ≡ true → Leaves w (dropped_plain f kind (told_word v))
  pub stands : is_telling v ≡ true → (is_free (told_word v (Refs f)) ≡ false) × ((kind_fields (told_word v (Kind f))).validated ≡ true)

pub record TookType (v w : PortValue) (f owner level : ℕ) (answer : Result Taken Stop) : Type 0 where
  pub found : TakesFound v w f owner (level_type level) answer
  pub plain : TwinTake v w f (level_type level) answer
  pub stops : IfErr answer (λ e. Stops v w (of_frame f owner (Some (level_type level))) e)
  pub waits : IfOk answer (λ t. ShowsWait v w f owner (level_type level) t)

-- the next entry of the innermost table, of which the vCPU has so many recorded
pub record TookEntry (v w : PortValue) (owner : ℕ) (t : TableWork) (answer : Result Entered Stop) : Type 0 where
  pub top : WorksAtTop t.frame (level_type t.level) t.done v.holdings
  pub found : EntersFound v w t.frame t.done (level_type t.level) owner answer
  pub plain : TwinEntry v w t.frame (level_type t.level) t.done owner answer
  pub serves : (pages : ℕ) → Serves v w (of_entries owner pages) (misses v.post.machine answer)
  pub stops : (pages : ℕ) → IfErr answer (λ e. Stops v w (of_entries owner pages) e)
  pub shows : (pages : ℕ) → IfOk answer (λ a. ShowsEntered v w owner pages (level_type t.level) a)
  pub hand : HandEntered v w t.frame t.done owner (level_type t.level) answer

-- its last recorded entry
pub record ResumedEntry (v w : PortValue) (owner : ℕ) (t : TableWork) (answer : Result Resumed Stop) : Type 0 where
  pub top : WorksAtTop t.frame (level_type t.level) t.done v.holdings
  pub found : ResumesFound v w t.frame (t.done - 1) (level_type t.level) owner answer
  pub plain : TwinResume v w t.frame (level_type t.level) (t.done - 1) owner answer
  pub serves : (pages : ℕ) → Serves v w (of_entries owner pages) (misses v.post.machine answer)
  pub stops : (pages : ℕ) → IfErr answer (λ e. Stops v w (of_entries owner pages) e)
  pub shows : (pages : ℕ) → IfOk answer (λ a. ShowsResumed v w owner pages (level_type t.level) a)
  pub hand : HandResumed v w t.frame (t.done - 1) owner (level_type t.level) answer

-- ---- tables
-- a table that an entry of table t names came into work: the entry is under way, or was recorded before
abbrev pub table_opened : TableWork → ℕ → ℕ → Bool → Bool → TableWork
table_opened t f progress own recorded = record { frame = f; level = t.level - 1; done = progress; own = own; recorded = recorded }

-- the frame of the outermost one
abbrev pub outermost_frame : List TableWork → ℕ
outermost_frame [] = 0
outermost_frame (t ∷ []) = t.frame
outermost_frame (t ∷ u ∷ us) = outermost_frame (u ∷ us)

abbrev pub one_entry_more : TableWork → TableWork
one_entry_more t = record t { done = t.done + 1 }

-- one type count too many is given back with its reference: it is not the last
pub record GaveBack (v w : PortValue) (f : ℕ) : Type 0 where
  pub between : PortValue
  pub lowers : DropsType v between f false
  pub puts : GaveRef between w f
  pub serves : Serves v w (of_back f) []
  pub hand : Holds v w (gave_type f v.holdings)

-- live, with the own type count, or with a second one beside another holder's
abbrev pub type_counts : Bool → ℕ
type_counts own = if own then 1 else 2

abbrev pub MadeLive : PortValue → PortValue → TableWork → Type 0
MadeLive v w t = (found : ℕ) × Moves v w (Kind t.frame) (Store (kind_write (live_kind (level_type t.level) (type_counts t.own)))) kinds.Kind None found

-- the entry that names it is recorded, or was before: then what was taken for it is given back
abbrev pub Joined : PortValue → PortValue → TableWork → TableWork → Bool → Type 0
Joined v w t outer true = GaveBack v w t.frame
Joined v w t outer false = (clock : ℕ) × Moves v w Clock Load kinds.Look (Some (Record outer.frame outer.done)) clock

-- a frame of a recorded entry waits for a flush which is not to be had: it is left as it was found
pub record LeftWaiting (v w : PortValue) (f level stamp : ℕ) : Type 0 where
  pub found : Does v w (λ vs. SharedBy f (level_type level) stamp vs)
  pub serves : ServesType v w f (level_type level)
  pub hand : GivesBack v w f (level_type level) false

-- ---- down to where a table was left
-- From v, with these tables in work, of which the innermost has just come into work, to w with those: its last recorded entry is
-- looked at, and the table that this one names is taken on, if it was left unfinished. True: an entry is done with, whose frame was
-- not live, and is.
pub data TookOn (owner : ℕ) : PortValue → List TableWork → PortValue → List TableWork → Result Bool Stop → Type 0 where
  fresh : (v : PortValue) (t : TableWork) (ts : List TableWork) → t.done ≡ 0 → TookOn owner v (t ∷ ts) v (t ∷ ts) (Ok false)
  settled : (v w : PortValue) (t : TableWork) (ts : List TableWork) → 0 < t.done → ResumedEntry v w owner t (Ok again.Settled) → TookOn owner v (t ∷ ts) w (t ∷ ts) (Ok false)
  taken : (v u w : PortValue) (t : TableWork) (ts : List TableWork) (f : ℕ) → 0 < t.done → ResumedEntry v u owner t (Ok (again.Taken f)) → GaveBack u w f →
      TookOn owner v (t ∷ ts) w (t ∷ ts) (Ok true)
  opened : (v u w : PortValue) (t : TableWork) (ts us : List TableWork) (f progress : ℕ) (answer : Result Bool Stop) → 0 < t.done →
      ResumedEntry v u owner t (Ok (again.Opened f progress)) → TookOn owner u (table_opened t f progress false true ∷ t ∷ ts) w us answer → TookOn owner v (t ∷ ts) w us answer
  waiting : (v u w : PortValue) (t : TableWork) (ts : List TableWork) (f stamp : ℕ) (stop : Stop) → 0 < t.done →
      ResumedEntry v u owner t (Ok (again.Waiting f stamp stop)) → LeftWaiting u w f (t.level - 1) stamp → TookOn owner v (t ∷ ts) w (t ∷ ts) (Err stop)
  stopped : (v w : PortValue) (t : TableWork) (ts : List TableWork) (stop : Stop) → 0 < t.done → ResumedEntry v w owner t (Err stop) → TookOn owner v (t ∷ ts) w (t ∷ ts) (Err stop)

-- ---- one entry, or one table
-- true: an entry is done with
pub data Advanced (owner : ℕ) : PortValue → List TableWork → PortValue → List TableWork → Result Bool Stop → Type 0 where
  recorded : (v w : PortValue) (t : TableWork) (ts : List TableWork) → t.done < 512 → TookEntry v w owner t (Ok Recorded) → Advanced owner v (t ∷ ts) w (one_entry_more t ∷ ts) (Ok true)
  opened : (v u w : PortValue) (t : TableWork) (ts us : List TableWork) (f progress : ℕ) (own done : Bool) → t.done < 512 → TookEntry v u owner t (Ok (Opened f progress own)) →
      TookOn owner u (table_opened t f progress own false ∷ one_entry_more t ∷ ts) w us (Ok done) → Advanced owner v (t ∷ ts) w us (Ok done)
  cut_off : (v u w : PortValue) (t : TableWork) (ts us : List TableWork) (f progress : ℕ) (own : Bool) (stop : Stop) → t.done < 512 → TookEntry v u owner t (Ok (Opened f progress own)) →
      TookOn owner u (table_opened t f progress own false ∷ one_entry_more t ∷ ts) w us (Err stop) → Advanced owner v (t ∷ ts) w us (Err stop)
  unsettled : (v w : PortValue) (t : TableWork) (ts : List TableWork) (stop : Stop) → t.done < 512 → TookEntry v w owner t (Ok (Unsettled stop)) →
      Advanced owner v (t ∷ ts) w (one_entry_more t ∷ ts) (Err stop)
  stopped : (v w : PortValue) (t : TableWork) (ts : List TableWork) (stop : Stop) → t.done < 512 → TookEntry v w owner t (Err stop) → Advanced owner v (t ∷ ts) w (t ∷ ts) (Err stop)
  completed : (v u w : PortValue) (t outer : TableWork) (ts : List TableWork) → t.done ≡ 512 → MadeLive v u t → Joined u w t outer t.recorded →
      Advanced owner v (t ∷ outer ∷ ts) w (outer ∷ ts) (Ok true)

-- whether the gate is asked behind the last entry that is done with: not in a slot that is Xen's, nor where the table is then full
abbrev pub is_asked_at : ℕ → ℕ → Bool
is_asked_at level done = not (done == 512) && not (is_slot (level_type level) (done - 1))

abbrev pub is_asked : List TableWork → Bool
is_asked [] = false
is_asked (t ∷ ts) = is_asked_at t.level t.done

-- ---- until the only table is full
-- From v to w, and from these tables to those; the gate said no behind each entry, or yes, and then it ends so. The newest answer
-- stands first, and below them those that it gave before.
pub data Filled (owner : ℕ) (v : PortValue) (ts : List TableWork) (before : List Bool) : PortValue → List TableWork → List Bool → Result (Unit {0}) Stop → Type 0 where
  begun : Filled owner v ts before v ts before (Ok tt)
  unasked : (u w : PortValue) (us xs : List TableWork) (done : Bool) (answers : List Bool) → Filled owner v ts before u us answers (Ok tt) → Advanced owner u us w xs (Ok done) →
      (done && is_asked xs) ≡ false → Filled owner v ts before w xs answers (Ok tt)
  asked : (u w : PortValue) (us xs : List TableWork) (answers : List Bool) → Filled owner v ts before u us answers (Ok tt) → Advanced owner u us w xs (Ok true) → is_asked xs ≡ true →
      Filled owner v ts before w xs (false ∷ answers) (Ok tt)
  due : (u w : PortValue) (us xs : List TableWork) (answers : List Bool) → Filled owner v ts before u us answers (Ok tt) → Advanced owner u us w xs (Ok true) → is_asked xs ≡ true →
      Filled owner v ts before w xs (true ∷ answers) (Err (Paused Due))
  stopped : (u w : PortValue) (us xs : List TableWork) (answers : List Bool) (stop : Stop) → Filled owner v ts before u us answers (Ok tt) → Advanced owner u us w xs (Err stop) →
      Filled owner v ts before w xs answers (Err stop)

-- ---- tables that are left unfinished
abbrev pub LeftPartial : PortValue → PortValue → TableWork → Type 0
LeftPartial v w t = (found : ℕ) × Moves v w (Kind t.frame) (Store (kind_write (partial_kind (level_type t.level) false false t.done 0))) kinds.Kind None found

-- the first old word names the frame
abbrev pub Named : PortValue → PortValue → ℕ → Type 0
Named v w f = Moves v w (old_place v.post.vcpu First) (Store (f + 1)) kinds.Context None 0

-- the outermost one, by whether its type count is in hand, and by whether its own mark is to keep that
abbrev pub OutermostLeft : PortValue → PortValue → ℕ → TableWork → Bool → Bool → Type 0
OutermostLeft v w owner t true true = KeptFor v w t.frame (partial_kind (level_type t.level) true false t.done 0) owner
OutermostLeft v w owner t true false = (u : PortValue) × LeftPartial v u t × Named u w t.frame
OutermostLeft v w owner t false kept = (u : PortValue) × LeftPartial v u t × GaveRef u w t.frame

-- One inside another, by whether its type count is in hand: then the entry that names it is recorded with it. Else its reference is given
-- back. (The type count of one whose entry was recorded before is that entry's.)
abbrev pub InnerLeft : PortValue → PortValue → TableWork → TableWork → Bool → Type 0
InnerLeft v w t outer true = (t.recorded ≡ false) × ((u : PortValue) × LeftPartial v u t × ((clock : ℕ) × Moves u w Clock Load kinds.Look (Some (Record outer.frame outer.done)) clock))
InnerLeft v w t outer false = (u : PortValue) × LeftPartial v u t × GaveRef u w t.frame

-- an entry that was under way, and whose table stays another holder's, is not done with any more
abbrev pub around_left : TableWork → TableWork → TableWork
around_left t outer = if t.own || t.recorded then outer else record outer { done = outer.done - 1 }

-- the innermost first, until none is in work
abbrev pub Unwound : PortValue → ℕ → List TableWork → Bool → PortValue → Type 0
Unwound v owner [] kept w = w ≡ v
Unwound v owner (t ∷ []) kept w = OutermostLeft v w owner t t.own kept
Unwound v owner (t ∷ outer ∷ ts) kept w = (u : PortValue) × InnerLeft v u t outer t.own × Unwound u owner (around_left t outer ∷ ts) kept w

-- the frame waits for a flush that is not to be had
abbrev pub WaitingLeft : PortValue → PortValue → ℕ → ℕ → ℕ → ℕ → Bool → Bool → Type 0
WaitingLeft v w f level owner stamp true true = KeptFor v w f (partial_kind (level_type level) true true 0 stamp) owner
WaitingLeft v w f level owner stamp true false = (u : PortValue) × Does v u (λ vs. StoresKind f (partial_kind (level_type level) false true 0 stamp) vs) × Named u w f
WaitingLeft v w f level owner stamp false kept = Does v w (λ vs. SharedBy f (level_type level) stamp vs)

-- its own mark keeps the type count where the call is paused
abbrev pub keeps_it : Stop → Bool
keeps_it stop = not (is_refused stop)

-- ---- the whole
-- the frame came into work as a table with its reference taken first, and these tables are in work at the end
pub data Worked (owner : ℕ) (v : PortValue) (t : TableWork) : PortValue → List TableWork → List Bool → Result (Unit {0}) Stop → Type 0 where
  cut_off : (w : PortValue) (us : List TableWork) (stop : Stop) → TookOn owner v (t ∷ []) w us (Err stop) → Worked owner v t w us [] (Err stop)
  due : (w : PortValue) (us : List TableWork) → TookOn owner v (t ∷ []) w us (Ok true) → is_asked us ≡ true → Worked owner v t w us (true ∷ []) (Err (Paused Due))
  filled : (u w : PortValue) (us xs : List TableWork) (done : Bool) (answers : List Bool) (answer : Result (Unit {0}) Stop) → TookOn owner v (t ∷ []) u us (Ok done) →
      Filled owner u us (if done && is_asked us then false ∷ [] else []) w xs answers answer → Worked owner v t w xs answers answer

abbrev pub outermost_table : ℕ → ℕ → ℕ → Bool → TableWork
outermost_table f level progress own = record { frame = f; level = level; done = progress; own = own; recorded = false }

-- from v to w a frame was taken as a table of that level
pub data Acquired (v : PortValue) (f owner level : ℕ) : PortValue → List Bool → Result ℕ Stop → Type 0 where
  unreferred : (w : PortValue) (stop : Stop) → GotRef v w f owner (Err stop) → Acquired v f owner level w [] (Err stop)
  untyped : (u x w : PortValue) (stop : Stop) → GotRef v u f owner (Ok f) → TookType u x f owner level (Err stop) → GaveRef x w f → Acquired v f owner level w [] (Err stop)
  counted : (u w : PortValue) → GotRef v u f owner (Ok f) → TookType u w f owner level (Ok types.Counted) → Acquired v f owner level w [] (Ok f)
  waiting : (u x w : PortValue) (own : Bool) (stamp : ℕ) (stop : Stop) → GotRef v u f owner (Ok f) → TookType u x f owner level (Ok (types.Waiting own stamp stop)) → WaitingLeft x w f level owner stamp own (keeps_it stop) →
      Acquired v f owner level w [] (Err stop)
  unfinished : (u x y w : PortValue) (progress : ℕ) (own : Bool) (us : List TableWork) (answers : List Bool) (stop : Stop) → GotRef v u f owner (Ok f) →
      TookType u x f owner level (Ok (types.InWork progress own)) → Worked owner x (outermost_table f level progress own) y us answers (Err stop) → Unwound y owner us (keeps_it stop) w →
      Acquired v f owner level w answers (Err stop)
  finished : (u x y w : PortValue) (progress : ℕ) (own : Bool) (t : TableWork) (answers : List Bool) → GotRef v u f owner (Ok f) →
      TookType u x f owner level (Ok (types.InWork progress own)) → Worked owner x (outermost_table f level progress own) y (t ∷ []) answers (Ok tt) → t.done ≡ 512 → MadeLive y w t →
      Acquired v f owner level w answers (Ok f)
