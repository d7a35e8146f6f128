-- The course of a release: the calls that it makes, from port to port, with the tables that are being released before and after each, and
-- the answers of the gate, the newest first.
use Rattle.std.specs.Prelude.{◌≡◌, ◌≢◌, ℕ, ◌+◌, ◌-◌, ◌<◌, ◌≤◌, ◌==◌, ◌&&◌, nat_lt, not, Bool, true, false, List, [], ◌∷◌, ◌++◌, Option, None, Some, Result, Ok, Err, IsTrue}
use Rattle.xp_words.specs.KindWords.{kind_fields, kind_write}
use Rattle.xp_words.specs.PageTypes.{is_table}
use Rattle.xp_words.specs.Places.{number, sizes_of}
use Rattle.xp_words.specs.declared.kind.KindWord.{KindWord}
use Rattle.xp_words.specs.declared.kind.PageType.{PageType}
use Rattle.xp_words.specs.declared.place.Place.TheVariants.{Clock, Kind, Refs}
use Rattle.xp_words.specs.declared.reply.Pause.TheVariants.{Busy, Due, Lost}
use Rattle.xp_words.specs.declared.reply.Stop.{Stop}
use Rattle.xp_words.specs.declared.reply.Stop.TheVariants.{Paused}
use Rattle.xp_preempt.specs.Gates.{Gate, Gated}
use Rattle.xp_board.specs.KindSteps.{Live, Partial, form_of, resumed_kind}
use Rattle.xp_board.specs.declared.step.Act.TheVariants.{Cas, Load, Store}
use Rattle.xp_board.specs.declared.step.Mark.TheVariants.{Record}
use Rattle.xp_board.specs.declared.step.StepKind.TheVariants as kinds
use Rattle.xp_board.specs.Told.{PortValue}
use Rattle.step_maker.specs.Moves.{Moves}
use Rattle.step_maker.specs.Reasons.{keeps_type}
use Rattle.step_maker.specs.Visits.{Does, Then}
use Rattle.frame_words.specs.Freeing.{PutBy}
use Rattle.kind_words.specs.Kinds.{partial_kind}
use Rattle.frame_types.specs.Found.{Dies}
use Rattle.frame_types.specs.Lowering.{DropsType}
use Rattle.xp_words.specs.Entries.{is_slot}
use Rattle.partial_state.specs.Levels.{level_type}
use Rattle.partial_state.specs.Weights.{weight}
use Rattle.partial_state.specs.declared.stack.TableWork.{TableWork}
use Rattle.table_words.specs.OldWords.{old_place}
use Rattle.table_words.specs.declared.old_words.OldWord.{OldWord}
use Rattle.table_words.specs.declared.old_words.OldWord.TheVariants.{First, Second}
use Rattle.table_entries.specs.Acquiring.{GaveRef, GaveType, Named}
use Rattle.table_releases.specs.Between.{ReleasesEntry}
use Rattle.table_releases.specs.Found.{has_recorded}
use Rattle.table_releases.specs.declared.entries.Released.{Released}
use Rattle.table_releases.specs.declared.entries.Released.TheVariants.{Given, Opened}
use Rattle.table_releases.specs.Tops.{IsSettledTop}
use Rattle.level_release.specs.Asking.{Continues, is_due_answer}
use Rattle.level_release.specs.Holding.{StaysEmptying}

-- ---- one call each
-- the last recorded entry of the innermost table
pub record GaveEntry (v w : PortValue) (t : TableWork) (answer : Result Released Stop) : Type 0 where
  pub entry : ReleasesEntry v w t.frame (511 - t.done) (level_type t.level) answer

-- Dead, with a clock value that was found, and its reference given back: by these steps, which serve any call that asked the table; and
-- what is in hand then.
pub record MadeDead (v w : PortValue) (t : TableWork) : Type 0 where
  pub found : Does v w (λ vs. Then (Dies t.frame (level_type t.level) false) (PutBy t.frame) vs)
  pub serves : (ts : List TableWork) → Continues v w (t ∷ ts) ts []
  pub stands : (ts : List TableWork) → StaysEmptying v w (t ∷ ts) ts
  pub settled : IsSettledTop w.holdings

-- ---- one entry, or one table
abbrev pub one_more_done : TableWork → TableWork
one_more_done t = record t { done = t.done + 1 }

-- the table that an entry of table t named is released first
abbrev pub table_under : TableWork → ℕ → ℕ → Bool → TableWork
table_under t f recorded closing = record { frame = f; level = t.level - 1; done = 512 - recorded; own = not closing; recorded = false }

-- true: an entry is done with
pub data Lowered : PortValue → List TableWork → PortValue → List TableWork → Result Bool Stop → Type 0 where
  given : (v w : PortValue) (t : TableWork) (ts : List TableWork) → t.done < 512 → GaveEntry v w t (Ok Given) → Lowered v (t ∷ ts) w (one_more_done t ∷ ts) (Ok true)
  opened : (v w : PortValue) (t : TableWork) (ts : List TableWork) (f recorded : ℕ) (closing : Bool) → t.done < 512 → GaveEntry v w t (Ok (Opened f recorded closing)) →
      Lowered v (t ∷ ts) w (table_under t f recorded closing ∷ one_more_done t ∷ ts) (Ok false)
  stopped : (v w : PortValue) (t : TableWork) (ts : List TableWork) (stop : Stop) → t.done < 512 → GaveEntry v w t (Err stop) → Lowered v (t ∷ ts) w (t ∷ ts) (Err stop)
  emptied : (v w : PortValue) (t : TableWork) (ts : List TableWork) → t.done ≡ 512 → MadeDead v w t → Lowered v (t ∷ ts) w ts (Ok true)

-- whether the gate is asked behind the last entry that is done with: not in a slot that is Xen's, nor behind a table's last
abbrev pub is_asked_below : ℕ → ℕ → Bool
is_asked_below level done = not (done == 512) && not (is_slot (level_type level) (512 - done))

abbrev pub is_asked_down : List TableWork → Bool
is_asked_down [] = false
is_asked_down (t ∷ ts) = is_asked_below t.level t.done

-- The gate is asked only where less is left than that, if it is a number: than the vCPU left when it was paused before.
abbrev pub is_less : Option ℕ → ℕ → Bool
is_less None left = true
is_less (Some bound) left = nat_lt left bound

abbrev pub is_asked_within : Option ℕ → List TableWork → Bool
is_asked_within below ts = is_asked_down ts && is_less below (weight ts)

-- ---- until no table is left
pub data RanDown (below : Option ℕ) (v : PortValue) (ts : List TableWork) : PortValue → List TableWork → List Bool → Result (Unit {0}) Stop → Type 0 where
  begun : RanDown below v ts v ts [] (Ok tt)
  unasked : (u w : PortValue) (us xs : List TableWork) (done : Bool) (answers : List Bool) → RanDown below v ts u us answers (Ok tt) → Lowered u us w xs (Ok done) →
      (done && is_asked_within below xs) ≡ false → RanDown below v ts w xs answers (Ok tt)
  asked : (u w : PortValue) (us xs : List TableWork) (answers : List Bool) → RanDown below v ts u us answers (Ok tt) → Lowered u us w xs (Ok true) → is_asked_within below xs ≡ true →
      RanDown below v ts w xs (false ∷ answers) (Ok tt)
  due : (u w : PortValue) (us xs : List TableWork) (answers : List Bool) → RanDown below v ts u us answers (Ok tt) → Lowered u us w xs (Ok true) → is_asked_within below xs ≡ true →
      RanDown below v ts w xs (true ∷ answers) (Err (Paused Due))
  stopped : (u w : PortValue) (us xs : List TableWork) (answers : List Bool) (stop : Stop) → RanDown below v ts u us answers (Ok tt) → Lowered u us w xs (Err stop) →
      RanDown below v ts w xs answers (Err stop)

-- ---- tables that are left unfinished
-- its kind word, with what is recorded still; it is a table of that type already, and not dead
abbrev pub partial_word : TableWork → ℕ
partial_word t = kind_write (partial_kind (level_type t.level) false false (512 - t.done) 0)

abbrev pub StoredPartial : PortValue → PortValue → TableWork → Type 0
StoredPartial v w t = (found : ℕ) × Moves v w (Kind t.frame) (Store (partial_word t)) kinds.Kind None found × IsTrue (keeps_type found (partial_word t))

abbrev pub one_less : TableWork → TableWork
one_less t = record t { done = t.done - 1 }

-- one inside another is recorded again as that one's last entry
abbrev pub Rerecorded : PortValue → PortValue → TableWork → Type 0
Rerecorded v w outer = (clock : ℕ) × Moves v w Clock Load kinds.Look (Some (Record outer.frame (512 - outer.done))) clock

abbrev pub LeftInside : PortValue → TableWork → List TableWork → PortValue → List TableWork → Type 0
LeftInside v t [] w us = ⊥
LeftInside v t (outer ∷ ts) w us = (us ≡ one_less outer ∷ ts) × ((u : PortValue) × StoredPartial v u t × Rerecorded u w (one_less outer))

-- the innermost first, until the outermost one is named
abbrev pub UnwoundDown : PortValue → List TableWork → PortValue → Type 0
UnwoundDown v [] w = w ≡ v
UnwoundDown v (t ∷ []) w = (u : PortValue) × StoredPartial v u t × Named u w t.frame
UnwoundDown v (t ∷ outer ∷ ts) w = (u : PortValue) × LeftInside v t (outer ∷ ts) u (one_less outer ∷ ts) × UnwoundDown u (one_less outer ∷ ts) w

-- ---- one table and all in it
pub data Emptied (below : Option ℕ) (v : PortValue) (t : TableWork) : PortValue → List Bool → Result (Unit {0}) Stop → Type 0 where
  finished : (w : PortValue) (answers : List Bool) → RanDown below v (t ∷ []) w [] answers (Ok tt) → Emptied below v t w answers (Ok tt)
  paused : (u w : PortValue) (us : List TableWork) (answers : List Bool) (stop : Stop) → RanDown below v (t ∷ []) u us answers (Err stop) → UnwoundDown u us w → Emptied below v t w answers (Err stop)

-- its owner is looked at first
abbrev pub closing_table : ℕ → ℕ → TableWork
closing_table f level = record { frame = f; level = level; done = 0; own = false; recorded = false }

pub data ReleasedWithin (below : Option ℕ) (v : PortValue) (f : ℕ) (kind : PageType) : PortValue → List Bool → Result (Unit {0}) Stop → Type 0 where
  plain : (w : PortValue) → is_table kind ≡ false → GaveType v w f kind → ReleasedWithin below v f kind w [] (Ok tt)
  shared : (u w : PortValue) → is_table kind ≡ true → DropsType v u f false → GaveRef u w f → ReleasedWithin below v f kind w [] (Ok tt)
  last : (u x w : PortValue) (word level : ℕ) (answers : List Bool) (answer : Result (Unit {0}) Stop) → is_table kind ≡ true → level_type level ≡ kind → level ≤ 4 → DropsType v u f true →
      Moves u x (Refs f) Load kinds.Look None word → Emptied below x (closing_table f level) w answers answer → ReleasedWithin below v f kind w answers answer

-- with a gate that is asked everywhere
abbrev pub WasReleased : PortValue → ℕ → PageType → PortValue → List Bool → Result (Unit {0}) Stop → Type 0
WasReleased v f kind w answers answer = ReleasedWithin None v f kind w answers answer

-- ---- what is left
-- Where the gate paused it, the number that is kept is what is left then; else it stays.
abbrev pub left_by : Option ℕ → Stop → List TableWork → Option ℕ
left_by below (Paused Due) us = Some (weight us)
left_by below _ us = below

abbrev pub left_emptied : {below : Option ℕ} {v : PortValue} {t : TableWork} {w : PortValue} {answers : List Bool} {answer : Result (Unit {0}) Stop} → Emptied below v t w answers answer → Option ℕ
left_emptied {below} (finished w answers ran) = below
left_emptied {below} (paused u w us answers stop ran unwound) = left_by below stop us

abbrev pub EmptiedTo : Option ℕ → Option ℕ → PortValue → TableWork → PortValue → List Bool → Result (Unit {0}) Stop → Type 0
EmptiedTo below left v t w answers answer = (course : Emptied below v t w answers answer) × (left ≡ left_emptied course)

abbrev pub left_released : {below : Option ℕ} {v : PortValue} {f : ℕ} {kind : PageType} {w : PortValue} {answers : List Bool} {answer : Result (Unit {0}) Stop} → ReleasedWithin below v f kind w answers answer → Option ℕ
left_released {below} (plain w ordinary drops) = below
left_released {below} (shared u w table drops gave) = below
left_released {below} (last u x w word level answers answer table is high drops look run) = left_emptied run

abbrev pub ReleasedTo : Option ℕ → Option ℕ → PortValue → ℕ → PageType → PortValue → List Bool → Result (Unit {0}) Stop → Type 0
ReleasedTo below left v f kind w answers answer = (course : ReleasedWithin below v f kind w answers answer) × (left ≡ left_released course)

-- ---- with a gate
abbrev pub RunsDownBy : Option ℕ → PortValue → List TableWork → PortValue → List TableWork → Gate → Gate → Result (Unit {0}) Stop → Type 0
RunsDownBy below v ts w us g h answer = Gated g h (is_due_answer answer) (λ answers. RanDown below v ts w us answers answer)

abbrev pub EmptiesBy : Option ℕ → Option ℕ → PortValue → PortValue → TableWork → Gate → Gate → Result (Unit {0}) Stop → Type 0
EmptiesBy below left v w t g h answer = Gated g h (is_due_answer answer) (λ answers. EmptiedTo below left v t w answers answer)

abbrev pub ReleasesWithinBy : Option ℕ → Option ℕ → PortValue → PortValue → ℕ → PageType → Gate → Gate → Result (Unit {0}) Stop → Type 0
ReleasesWithinBy below left v w f kind g h answer = Gated g h (is_due_answer answer) (λ answers. ReleasedTo below left v f kind w answers answer)

abbrev pub ReleasesFrameBy : PortValue → PortValue → ℕ → PageType → Gate → Gate → Result (Unit {0}) Stop → Type 0
ReleasesFrameBy v w f kind g h answer = Gated g h (is_due_answer answer) (λ answers. WasReleased v f kind w answers answer)

-- ---- what an old word names
-- the frame was taken out of the word: it was found live, partial, or busy
abbrev pub resumed_table : ℕ → ℕ → KindWord → TableWork
resumed_table f level k = record { frame = f; level = level; done = 512 - k.progress; own = true; recorded = false }

-- a partial one comes into work again; it is a table of which something is recorded, or is dead with its mark
abbrev pub SettledPartial : Option ℕ → PortValue → PortValue → ℕ → KindWord → List Bool → Result (Unit {0}) Stop → Bool → Type 0
SettledPartial below v w f k answers answer true =
    (u : PortValue) × (word level : ℕ) × (level_type level ≡ k.kind) × (level ≤ 4) × Moves v u (Refs f) Load kinds.Look None word × Emptied below u (resumed_table f level k) w answers answer
SettledPartial below v w f k answers answer false = (answer ≡ Ok tt) × (answers ≡ []) × Does v w (λ vs. Then (Dies f k.kind k.unflushed) (PutBy f) vs)

pub data SettledOne (below : Option ℕ) (v : PortValue) (which : OldWord) : PortValue → List Bool → Result (Unit {0}) Stop → Type 0 where
  none : (w : PortValue) → Moves v w (old_place v.post.vcpu which) Load kinds.Look None 0 → SettledOne below v which w [] (Ok tt)
  live : (a b c w : PortValue) (f word : ℕ) (answers : List Bool) (answer : Result (Unit {0}) Stop) → Moves v a (old_place v.post.vcpu which) Load kinds.Look None (f + 1) →
      Moves a b (old_place v.post.vcpu which) (Store 0) kinds.Context None (f + 1) → Moves b c (Kind f) Load kinds.Look None word → form_of (kind_fields word) ≡ Live →
      ReleasedWithin below c f (kind_fields word).kind w answers answer → SettledOne below v which w answers answer
  partial : (a b c d w : PortValue) (f word : ℕ) (answers : List Bool) (answer : Result (Unit {0}) Stop) → Moves v a (old_place v.post.vcpu which) Load kinds.Look None (f + 1) →
      Moves a b (old_place v.post.vcpu which) (Store 0) kinds.Context None (f + 1) → Moves b c (Kind f) Load kinds.Look None word → form_of (kind_fields word) ≡ Partial →
      Moves c d (Kind f) (Cas word (kind_write (resumed_kind (kind_fields word)))) kinds.Kind None word →
      SettledPartial below d w f (kind_fields word) answers answer (has_recorded (kind_fields word).kind (kind_fields word)) → SettledOne below v which w answers answer
  lost : (a b c d w : PortValue) (f word found : ℕ) → Moves v a (old_place v.post.vcpu which) Load kinds.Look None (f + 1) →
      Moves a b (old_place v.post.vcpu which) (Store 0) kinds.Context None (f + 1) → Moves b c (Kind f) Load kinds.Look None word → form_of (kind_fields word) ≡ Partial →
      Moves c d (Kind f) (Cas word (kind_write (resumed_kind (kind_fields word)))) kinds.Kind None found → found ≢ word → Named d w f →
      SettledOne below v which w [] (Err (Paused (Lost (number (sizes_of v.post.machine) (Kind f)) word found)))
  busy : (a b c w : PortValue) (f word : ℕ) → Moves v a (old_place v.post.vcpu which) Load kinds.Look None (f + 1) →
      Moves a b (old_place v.post.vcpu which) (Store 0) kinds.Context None (f + 1) → Moves b c (Kind f) Load kinds.Look None word →
      form_of (kind_fields word) ≢ Live → form_of (kind_fields word) ≢ Partial → Named c w f → SettledOne below v which w [] (Err (Paused (Busy f word)))

abbrev pub left_partial : (below : Option ℕ) (v w : PortValue) (f : ℕ) (k : KindWord) (answers : List Bool) (answer : Result (Unit {0}) Stop) (has : Bool) → SettledPartial below v w f k answers answer has → Option ℕ
left_partial below v w f k answers answer true steps = left_emptied steps.6
left_partial below v w f k answers answer false steps = below

abbrev pub left_one : {below : Option ℕ} {v : PortValue} {which : OldWord} {w : PortValue} {answers : List Bool} {answer : Result (Unit {0}) Stop} → SettledOne below v which w answers answer → Option ℕ
left_one {below} (none w look) = below
left_one {below} (live a b c w f word answers answer look take see form released) = left_released released
left_one {below} (partial a b c d w f word answers answer look take see form resume settled) = left_partial below d w f (kind_fields word) answers answer (has_recorded (kind_fields word).kind (kind_fields word)) settled
left_one {below} (lost a b c d w f word found look take see form resume other again) = below
left_one {below} (busy a b c w f word look take see unlive whole again) = below

abbrev pub SettledOneTo : Option ℕ → Option ℕ → PortValue → OldWord → PortValue → List Bool → Result (Unit {0}) Stop → Type 0
SettledOneTo below left v which w answers answer = (course : SettledOne below v which w answers answer) × (left ≡ left_one course)

abbrev pub SettlesOneBy : Option ℕ → Option ℕ → PortValue → PortValue → OldWord → Gate → Gate → Result (Unit {0}) Stop → Type 0
SettlesOneBy below left v w which g h answer = Gated g h (is_due_answer answer) (λ answers. SettledOneTo below left v which w answers answer)

-- the first word, and then the second
pub data Settled (below : Option ℕ) (v : PortValue) : PortValue → List Bool → Result (Unit {0}) Stop → Type 0 where
  first : (w : PortValue) (answers : List Bool) (stop : Stop) → SettledOne below v First w answers (Err stop) → Settled below v w answers (Err stop)
  both : (u w : PortValue) (answers more : List Bool) (answer : Result (Unit {0}) Stop) → SettledOne below v First u answers (Ok tt) → SettledOne None u Second w more answer →
      Settled below v w (more ++ answers) answer

-- nothing is, once both were
abbrev pub left_settled : {below : Option ℕ} {v w : PortValue} {answers : List Bool} {answer : Result (Unit {0}) Stop} → Settled below v w answers answer → Option ℕ
left_settled (first w answers stop one) = left_one one
left_settled (both u w answers more answer one two) = left_one two

-- what the first word named came to its end
abbrev pub is_first_done : {below : Option ℕ} {v w : PortValue} {answers : List Bool} {answer : Result (Unit {0}) Stop} → Settled below v w answers answer → Bool
is_first_done (first w answers stop one) = false
is_first_done (both u w answers more answer one two) = true

abbrev pub LeavesLess : ℕ → Option ℕ → Type 0
LeavesLess k (Some left) = left < k
LeavesLess k None = ⊥

abbrev pub SettledTo : Option ℕ → Option ℕ → PortValue → PortValue → List Bool → Result (Unit {0}) Stop → Type 0
SettledTo below left v w answers answer = (course : Settled below v w answers answer) × (left ≡ left_settled course)

abbrev pub SettlesBy : Option ℕ → Option ℕ → PortValue → PortValue → Gate → Gate → Result (Unit {0}) Stop → Type 0
SettlesBy below left v w g h answer = Gated g h (is_due_answer answer) (λ answers. SettledTo below left v w answers answer)
