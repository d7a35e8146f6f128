-- The elements as plain functions of the words: what they answer and leave on a board that tells all words.
use Rattle.std.specs.Prelude.{◌≡◌, ℕ, true, false, Option, Some, None, Result, Ok, Err}
use Rattle.xp_words.specs.KindWords.{kind_fields}
use Rattle.xp_words.specs.declared.kind.KindWord.{KindWord}
use Rattle.xp_words.specs.declared.kind.PageType.TheVariants.{Writable}
use Rattle.xp_words.specs.declared.place.Place.TheVariants.{Cell, Kind, Refs}
use Rattle.xp_words.specs.declared.reply.Pause.TheVariants.{Flush}
use Rattle.xp_words.specs.declared.reply.Refusal.{Refusal}
use Rattle.xp_words.specs.declared.reply.Refusal.TheVariants as refusals
use Rattle.xp_words.specs.declared.reply.Stop.{Stop}
use Rattle.xp_words.specs.declared.reply.Stop.TheVariants.{Refused, Paused}
use Rattle.xp_board.specs.declared.step.Act.TheVariants.{Store}
use Rattle.xp_board.specs.Readings.{domain_of}
use Rattle.xp_board.specs.Told.{PortValue, is_telling, told_word}
use Rattle.step_maker.specs.Plain.{Leaves, Words, change}
use Rattle.step_maker.specs.Twins.{Alike}
use Rattle.frame_words.specs.Plain.{got, put, refer}
use Rattle.frame_types.specs.Plain.{dropped_plain, given_up, taken, type_stop, type_waits}
use Rattle.frame_types.specs.declared.taking.Taken.TheVariants.{Counted}
use Rattle.entry_locks.specs.Locks.{is_lockable, is_worked_on}
use Rattle.foreign_map.specs.declared.owners.Owners.{Owners}
use Rattle.m2p_map.specs.Maps.{TwinSet}
use Rattle.mmu_update.specs.declared.element.Element.{Element}
use Rattle.mmu_update.specs.declared.element.Element.TheVariants.{SetM2p, Write, Misaligned, Unknown}

-- ---- a word of ordinary memory
-- the word stored, and the type and the reference given back, where both were taken in m
abbrev pub write_word : ℕ → ℕ → ℕ → Words → Words
write_word f i x m = dropped_plain f Writable (change (Store x) (Cell f i) (taken f Writable Counted m))

-- Behind a reference that was taken, which left m: the word is stored; or the type is not to be had, by the kind word alone;
-- or the frame awaits a flush that is not to be had.
abbrev pub StoresPlainly : PortValue → Words → ℕ → ℕ → ℕ → Result (Unit {0}) Stop → Type 0
StoresPlainly w m f i x (Ok done) = (type_stop f Writable (m (Kind f)) ≡ None) × Alike (told_word w) (write_word f i x m)
StoresPlainly w m f i x (Err (Refused (refusals.Clock y))) = (type_waits Writable (m (Kind f)) ≡ true) × Alike (told_word w) (given_up f true m)
StoresPlainly w m f i x (Err (Paused (Flush u t y))) = (type_waits Writable (m (Kind f)) ≡ true) × Alike (told_word w) (given_up f false m)
StoresPlainly w m f i x (Err e) = (type_stop f Writable (m (Kind f)) ≡ Some e) × Leaves w (put f m)

-- refused by the reference word, and all is as before; or else
abbrev pub WritesPlainly : PortValue → PortValue → ℕ → ℕ → ℕ → Result (Unit {0}) Stop → Option Refusal → Type 0
WritesPlainly v w f i x answer (Some r) = (answer ≡ Err (Refused r)) × Leaves w (told_word v)
WritesPlainly v w f i x answer None = StoresPlainly w (got f (told_word v)) f i x answer

-- by its kind word: no live table, nor one that another vCPU works on
pub record IsNoTable (k : KindWord) : Type 0 where
  pub unlockable : is_lockable k ≡ false
  pub unworked : is_worked_on k ≡ false

-- of an own frame that is no such table
abbrev pub TwinWrite : PortValue → PortValue → ℕ → ℕ → ℕ → ℕ → Result (Unit {0}) Stop → Type 0
TwinWrite v w d f i x answer =
    is_telling v ≡ true → d ≡ domain_of v.post.machine v.post.vcpu → IsNoTable (kind_fields (told_word v (Kind f))) → WritesPlainly v w f i x answer (refer v.post.machine d f (told_word v (Refs f)))

-- ---- all elements
-- refused by its numbers, and all is as before
abbrev pub TwinNumbers : PortValue → PortValue → Refusal → Result (Unit {0}) Stop → Type 0
TwinNumbers v w r answer = is_telling v ≡ true → (answer ≡ Err (Refused r)) × Leaves w (told_word v)

abbrev pub TwinUpdate : PortValue → PortValue → Owners → Element → Result (Unit {0}) Stop → Type 0
TwinUpdate v w o (SetM2p f gpfn) answer = TwinSet v w f o.frames gpfn answer
TwinUpdate v w o (Write f i x keep) answer = TwinWrite v w o.tables f i x answer
TwinUpdate v w o Misaligned answer = TwinNumbers v w refusals.BadRange answer
TwinUpdate v w o Unknown answer = TwinNumbers v w refusals.BadCommand answer
