-- Calls as plain functions of the words: what they answer and leave on a board that tells all words.
use Rattle.std.specs.Prelude.{ℕ, ◌+◌, ◌/◌, ◌%◌, ◌^◌, ◌==◌, nat_lt, nat_le, if◌then◌else◌, Option, Some, None, Result}
use Rattle.xp_words.specs.Machine.{Machine}
use Rattle.xp_words.specs.declared.place.Place.TheVariants.{Clock, Pages, Refs, Map}
use Rattle.xp_words.specs.RefWords.{ref_read, ref_write}
use Rattle.xp_words.specs.declared.refs.RefWord.{RefWord}
use Rattle.xp_words.specs.declared.refs.RefWord.TheVariants.{Free, Owned}
use Rattle.xp_words.specs.declared.reply.Refusal.{Refusal}
use Rattle.xp_words.specs.declared.reply.Refusal.TheVariants.{NoFrame, WrongOwner, CountFull}
use Rattle.xp_words.specs.declared.reply.Stop.{Stop}
use Rattle.xp_board.specs.declared.step.Act.TheVariants.{Store, Add}
use Rattle.xp_board.specs.HintSteps.{map_bit}
use Rattle.xp_board.specs.Readings.{ref_count, owner_of}
use Rattle.xp_board.specs.RefSteps.{one_down, owner_number}
use Rattle.step_maker.specs.Twins.{Twin}
use Rattle.step_maker.specs.Plain.{Words, change}
use Rattle.xp_board.specs.Told.{PortValue, told_word}

-- ---- a reference is taken
abbrev pub refer_by : ℕ → ℕ → ℕ → ℕ → Option RefWord → Option Refusal
refer_by limit owner f w (Some (Owned o allocated count)) = if o == owner then (if nat_le limit count then Some (CountFull f w) else None) else Some (WrongOwner f w)
refer_by limit owner f w _ = Some (WrongOwner f w)

-- why it is refused, by the reference word alone
abbrev pub refer : Machine → ℕ → ℕ → ℕ → Option Refusal
refer n owner f w = if nat_lt f n.frames then refer_by n.limit owner f w (ref_read w) else Some (NoFrame f)

abbrev pub one_more : ℕ → Option RefWord → ℕ
one_more w (Some (Owned o allocated count)) = ref_write (Owned o allocated (count + 1))
one_more w _ = w

abbrev pub got : ℕ → Words → Words
got f m = change (Store (one_more (m (Refs f)) (ref_read (m (Refs f))))) (Refs f) m

-- ---- a reference is given back
abbrev pub lowered : ℕ → Words → Words
lowered f m = change (Add one_down) (Refs f) m

-- the clock as a stamp, which has 36 bits
abbrev pub stamp_now : Words → ℕ
stamp_now m = m Clock % 2 ^ 36

abbrev pub set_free : ℕ → ℕ → Words → Words
set_free f owner m = change (Add one_down) (Pages owner) (change (Store (ref_write (Free (stamp_now m)))) (Refs f) (change (Add (map_bit f)) (Map (f / 64)) m))

abbrev pub put : ℕ → Words → Words
put f m = if ref_count (m (Refs f)) == 1 then set_free f (owner_number (owner_of (m (Refs f)))) (lowered f m) else lowered f m

abbrev pub TwinGet : {A : Type 0} → PortValue → PortValue → ℕ → ℕ → Result A Stop → Type 0
TwinGet v w f owner answer = Twin v w (refer v.post.machine owner f (told_word v (Refs f))) (got f (told_word v)) answer
