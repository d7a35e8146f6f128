-- Calls as plain functions of the words: what they answer and leave on a board that tells all words.
use Rattle.std.specs.Prelude.{◌≡◌, ◌≢◌, ◌⊎◌, ℕ, true, false, Option, Some, None, Result, Ok, Err}
use Rattle.xp_words.specs.KindWords.{kind_fields}
use Rattle.xp_words.specs.declared.kind.KindWord.{KindWord}
use Rattle.xp_words.specs.declared.place.Place.{Place}
use Rattle.xp_words.specs.declared.place.Place.TheVariants.{Clock, Vcpu, Refs, Kind}
use Rattle.xp_words.specs.declared.reply.Refusal.{Refusal}
use Rattle.xp_words.specs.declared.reply.Stop.{Stop}
use Rattle.xp_words.specs.declared.reply.Stop.TheVariants.{Refused, Paused}
use Rattle.xp_board.specs.Readings.{is_free}
use Rattle.xp_board.specs.Told.{PortValue, is_telling, told_word}
use Rattle.step_maker.specs.Plain.{Words, Leaves}

-- ---- all words
-- The call is refused exactly so, or leaves exactly these words; it never pauses.
abbrev pub AnswersAs : {A : Type 0} → PortValue → PortValue → Option Refusal → Words → Result A Stop → Type 0
AnswersAs v w refusal done (Ok a) = (refusal ≡ None) × Leaves w done
AnswersAs v w refusal done (Err (Refused x)) = (refusal ≡ Some x) × Leaves w (told_word v)
AnswersAs v w refusal done (Err (Paused x)) = ⊥

abbrev pub Twin : {A : Type 0} → PortValue → PortValue → Option Refusal → Words → Result A Stop → Type 0
Twin v w refusal done answer = is_telling v ≡ true → AnswersAs v w refusal done answer

-- ---- all words but stamps, the clock, and the words of flushes
-- two words of a free frame; or the same word
abbrev pub IsAlikeRef : ℕ → ℕ → Type 0
IsAlikeRef x y = (x ≡ y) ⊎ ((is_free x ≡ true) × (is_free y ≡ true))

-- two words of a frame that is not validated, alike but for the stamp; or the same word
abbrev pub IsAlikeKind : KindWord → KindWord → Type 0
IsAlikeKind k l = (k.validated ≡ false) × (l ≡ record k { number = l.number })

abbrev pub IsAlike : Place → ℕ → ℕ → Type 0
IsAlike Clock x y = Unit {0}
IsAlike (Vcpu v k) x y = k ≢ 4 → k ≢ 5 → x ≡ y
IsAlike (Refs f) x y = IsAlikeRef x y
IsAlike (Kind f) x y = (x ≡ y) ⊎ IsAlikeKind (kind_fields x) (kind_fields y)
IsAlike _ x y = x ≡ y

abbrev pub Alike : Words → Words → Type 0
Alike m n = (q : Place) → IsAlike q (m q) (n q)
