-- What the refusals of words that are written show: no word of a frame that is just being given back.
use Rattle.std.proofs.Common.{◌≡◌, ℕ, ◌-◌, Bool, true, false, List, Some, None, Result, Ok, Err, refl, sym, ap, ◌∙◌, subst}
use Rattle.xp_words.specs.Machine.{IsMachine}
use Rattle.xp_words.specs.declared.entry.Demand.{Demand}
use Rattle.xp_words.specs.declared.place.Place.TheVariants.{Cell, Kind, Refs}
use Rattle.xp_words.specs.declared.reply.Refusal.TheVariants.{WrongOwner}
use Rattle.xp_words.specs.declared.reply.Stop.{Stop}
use Rattle.xp_words.specs.declared.reply.Stop.TheVariants.{Paused, Refused}
use Rattle.xp_board.specs.Readings.{is_dying}
use Rattle.xp_board.specs.Told.{PortValue, is_telling, told_word}
use Rattle.xp_board.specs.declared.step.StepKind.TheVariants as steps
use Rattle.step_maker.proofs.Coming.{same_machine}
use Rattle.step_maker.proofs.Telling.{came_telling}
use Rattle.step_maker.proofs.Visiting.{does_came}
use Rattle.entry_exchange.specs.Course as course
use Rattle.entry_exchange.specs.Course.{Exchanged, PutEntry, TookDemand, new_demand}
use Rattle.entry_exchange.specs.Holding.{owner_at}
use Rattle.entry_exchange.specs.Words.{word_kept}
use Rattle.entry_exchange.specs.declared.exchanging.EntryUpdate.{EntryUpdate}
use Rattle.entry_locks.specs.declared.locking.Locked.{Locked}
use Rattle.entry_locks.specs.declared.locking.Locked.TheVariants.{Other, Table}
use Rattle.entry_locks.specs.Plain.{LocksPlainly}
use Rattle.flush_waits.specs.Waiting.{IsWait}
use Rattle.foreign_map.specs.declared.owners.Owners.{Owners}
use Rattle.mmu_update.specs.Course as writes
use Rattle.mmu_update.specs.Course.{TriedLock, Updated, Wrote, entry_update}
use Rattle.mmu_update.specs.declared.element.Element.{Element}
use Rattle.mmu_update.specs.declared.element.Element.TheVariants.{Misaligned, SetM2p, Unknown, Write}
use Rattle.partial_state.specs.Levels.{level_type}
use Rattle.table_entries.specs.Acquiring.{Acquired, GotRef}
use Rattle.writable_pages.specs.Pages as pages
use Rattle.writable_pages.specs.Pages.{GotPage, TookPage}
use Rattle.shown_words.specs.Shown.{NoneDies}
use Rattle.shown_words.proofs.Base.{Settling, had_settling, look_settling, ref_shows, refused_word, same_none, settling_then, type_unowned}

-- of acquisitions: a refusal shows no word of a frame that is just being given back
abbrev pub AcquiredShows : Type 0
AcquiredShows =
    (v : PortValue) (f owner level : ℕ) (w : PortValue) (answers : List Bool) (g x : ℕ) → IsMachine v.post.machine → is_telling v ≡ true → NoneDies (told_word v) → Acquired v f owner level w answers (Err (Refused (WrongOwner g x))) →
    is_dying x ≡ false

-- the same of any answer
abbrev pub AnswerShows : {A : Type 0} → Result A Stop → Type 0
AnswerShows (Ok a) = Unit {0}
AnswerShows (Err e) = (g x : ℕ) → e ≡ Refused (WrongOwner g x) → is_dying x ≡ false

-- a port of a real board that tells all words, where no frame is just being given back
pub record Quiet (v : PortValue) : Type 0 where
  pub machine : IsMachine v.post.machine
  pub telling : is_telling v ≡ true
  pub none : NoneDies (told_word v)

pub quiet_after : (v w : PortValue) → Settling v w → Quiet v → Quiet w
quiet_after v w s q =
    record { machine = subst IsMachine (sym (same_machine v w s.came)) q.machine; telling = came_telling v w s.came ∙ q.telling; none = s.none q.machine q.telling q.none }

-- ---- references, locks, and pages
pub unreferred_shows : (v w : PortValue) (f owner : ℕ) (e : Stop) → Quiet v → GotRef v w f owner (Err e) → (g x : ℕ) → e ≡ Refused (WrongOwner g x) → is_dying x ≡ false
unreferred_shows v w f owner e q ref g x is = ref_shows v w f owner g x (subst (λ s. GotRef v w f owner (Err s)) is ref) q.telling q.none

-- a lock leaves the words of references
locked_none : (v w : PortValue) (f : ℕ) (k : Locked) → LocksPlainly w f (told_word v) (Ok k) → NoneDies (told_word v) → NoneDies (told_word w)
locked_none v w f (Table level x) p n = same_none (told_word v) (told_word w) (λ g. p.3 (Refs g)) n
locked_none v w f (Other x) p n = same_none (told_word v) (told_word w) (λ g. p.3 (Refs g)) n

pub lock_settling : (v w : PortValue) (f owner : ℕ) (k : Locked) → TriedLock v w f owner (Ok k) → Settling v w
lock_settling v w f owner k a = record { came = does_came v w _ a.found; none = λ machine telling n. locked_none v w f k (a.plain telling) n }

-- and is refused for no owner
lock_paused : (v w : PortValue) (f : ℕ) (e : Stop) → LocksPlainly w f (told_word v) (Err e) → (g x : ℕ) → e ≡ Refused (WrongOwner g x) → is_dying x ≡ false
lock_paused v w f (Paused p) l g x is = absurd cc
lock_paused v w f (Refused r) l g x is = absurd l

pub lock_shows : (v w : PortValue) (f owner : ℕ) (e : Stop) → Quiet v → TriedLock v w f owner (Err e) → (g x : ℕ) → e ≡ Refused (WrongOwner g x) → is_dying x ≡ false
lock_shows v w f owner e q lock = lock_paused v w f e (lock.plain q.telling)

-- nor is a flush that is waited for
pub wait_shows : (e : Stop) → IsWait e → (g x : ℕ) → e ≡ Refused (WrongOwner g x) → is_dying x ≡ false
wait_shows e wait g x is = absurd (subst IsWait is wait)

pub page_shows : (v w : PortValue) (f owner : ℕ) (answer : Result (Unit {0}) Stop) → is_telling v ≡ true → TookPage v f owner w answer → AnswerShows answer
page_shows v _ f owner _ telling (pages.counted w took) = tt
page_shows v _ f owner _ telling (pages.untyped u w stop took gave) = λ g x is. absurd (type_unowned f g x (told_word v (Kind f)) (level_type 0) ((took.plain telling).0 ∙ ap Some is))
page_shows v _ f owner _ telling (pages.waiting u w own stamp stop took left) = wait_shows stop took.waits.0

pub got_page_shows : (v w : PortValue) (f owner : ℕ) (answer : Result ℕ Stop) → Quiet v → GotPage v f owner w answer → AnswerShows answer
got_page_shows v _ f owner _ q (pages.unreferred w stop ref) = unreferred_shows v w f owner stop q ref
got_page_shows v _ f owner _ q (pages.refused u w stop ref took) = page_shows u w f owner (Err stop) (quiet_after v u (had_settling v u f owner f ref) q).telling took
got_page_shows v _ f owner _ q (pages.had u w ref took) = tt

-- ---- entries
-- an exchange that is lost is no refusal
put_shows : (v w : PortValue) (f i seen new : ℕ) (keep : Bool) (answer : Result ℕ Stop) → PutEntry v w f i seen new keep answer → AnswerShows answer
put_shows v w f i seen new _ _ (course.stored old m) = tt
put_shows v w f i seen new _ _ (course.exchanged m) = tt
put_shows v w f i seen new _ _ (course.lost found off m) = λ g x is. absurd cc

module _ (acquired : AcquiredShows) where
  demand_shows : (owner level : ℕ) (v : PortValue) (d : Demand) (w : PortValue) (answers : List Bool) (answer : Result (Unit {0}) Stop) → Quiet v → TookDemand owner level v d w answers answer → AnswerShows answer
  demand_shows owner level v _ _ _ _ q course.nothing = tt
  demand_shows owner level v _ _ _ _ q (course.referred w g ref) = tt
  demand_shows owner level v _ _ _ _ q (course.unreferred w g stop ref) = unreferred_shows v w g owner stop q ref
  demand_shows owner level v _ _ _ _ q (course.paged w g low got) = tt
  demand_shows owner level v _ _ _ _ q (course.unpaged w g stop low got) = got_page_shows v w g owner (Err stop) q got
  demand_shows owner level v _ _ _ _ q (course.acquired w g answers high took) = tt
  demand_shows owner level v _ _ _ _ q (course.refused w g answers stop high took) =
      λ h x is. acquired v g owner (level - 1) w answers h x q.machine q.telling q.none (subst (λ s. Acquired v g owner (level - 1) w answers (Err s)) is took)

  pub exchanged_shows : (v : PortValue) (t : EntryUpdate) (o : Owners) (w : PortValue) (answers : List Bool) (answer : Result (Unit {0}) Stop) → Quiet v → Exchanged v t o w answers answer → AnswerShows answer
  exchanged_shows v t o _ _ _ q (course.bad u w seen saw bad lock) = λ g x is. absurd cc
  exchanged_shows v t o _ _ _ q (course.same u y w seen old saw alike puts lock) = tt
  exchanged_shows v t o _ _ _ q (course.unput u y w seen stop saw alike puts lock) = put_shows u y t.table t.index seen (word_kept t.keep seen t.word) t.keep (Err stop) puts
  exchanged_shows v t o _ _ _ q (course.untaken u y w seen answers stop saw differ took lock) =
      demand_shows (owner_at t.level o.tables o.frames) t.level u (new_demand t seen) y answers (Err stop) (quiet_after v u (look_settling v u (Cell t.table t.index) steps.Look None seen saw) q) took
  exchanged_shows v t o _ _ _ q (course.lost u y z a w seen answers stop saw differ took puts gave lock) = put_shows y z t.table t.index seen (word_kept t.keep seen t.word) t.keep (Err stop) puts
  exchanged_shows v t o _ _ _ q (course.done u y z a w seen old answers more saw differ took puts lock gone) = tt

  -- ---- words
  wrote_shows : (v : PortValue) (o : Owners) (f i word : ℕ) (keep : Bool) (w : PortValue) (answers : List Bool) (answer : Result (Unit {0}) Stop) → Quiet v → Wrote v o f i word keep w answers answer → AnswerShows answer
  wrote_shows v o f i word keep _ _ _ q (writes.unreferred w stop ref) = unreferred_shows v w f o.tables stop q ref
  wrote_shows v o f i word keep _ _ _ q (writes.unlocked u y w stop ref lock gave) = lock_shows u y f o.tables stop (quiet_after v u (had_settling v u f o.tables f ref) q) lock
  wrote_shows v o f i word keep _ _ _ q (writes.slot u y w level found ref lock at left) = λ g x is. absurd cc
  wrote_shows v o f i word keep _ _ _ q (writes.exchanged u y w level found answers answer ref lock off went) =
      exchanged_shows y (entry_update f level i word keep) o w answers answer (quiet_after v y (settling_then v u y (had_settling v u f o.tables f ref) (lock_settling u y f o.tables (Table level found) lock)) q) went
  wrote_shows v o f i word keep _ _ _ q (writes.untaken u y w found stop ref lock took) =
      page_shows y w f o.tables (Err stop) (quiet_after v y (settling_then v u y (had_settling v u f o.tables f ref) (lock_settling u y f o.tables (Other found) lock)) q).telling took
  wrote_shows v o f i word keep _ _ _ q (writes.stored u y a b w found old ref lock took moves gave) = tt

  -- a word that is written, or a machine-to-physical word that is set: what a refusal shows is a word of no frame that is just being given back
  pub updated_shows : (v : PortValue) (o : Owners) (e : Element) (w : PortValue) (answers : List Bool) (g x : ℕ) → IsMachine v.post.machine → is_telling v ≡ true → NoneDies (told_word v) →
      Updated v o e w answers (Err (Refused (WrongOwner g x))) → is_dying x ≡ false
  updated_shows v o (SetM2p f gpfn) w answers g x machine telling n a = ap is_dying (refused_word v.post.machine o.frames f (told_word v (Refs f)) g x (a.2 telling).0) ∙ (n f).owned
  updated_shows v o (Write f i word keep) w answers g x machine telling n a =
      wrote_shows v o f i word keep w answers (Err (Refused (WrongOwner g x))) (record { machine = machine; telling = telling; none = n }) a g x refl
  updated_shows v o Misaligned w answers g x machine telling n a = absurd (let e = a.2 in cc)
  updated_shows v o Unknown w answers g x machine telling n a = absurd (let e = a.2 in cc)
