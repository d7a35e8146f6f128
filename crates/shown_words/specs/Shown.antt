-- What a refusal shows of words.
use Rattle.std.specs.Prelude.{◌≡◌, ◌<◌, ◌^◌, ℕ, false, length, Some}
use Rattle.xp_words.specs.KindWords.{kind_read}
use Rattle.xp_words.specs.RefWords.{ref_read}
use Rattle.xp_words.specs.declared.kind.KindWord.{KindWord}
use Rattle.xp_words.specs.declared.place.Place.TheVariants.{Refs}
use Rattle.xp_words.specs.declared.refs.RefWord.{RefWord}
use Rattle.xp_words.specs.declared.reply.Refusal.{Refusal}
use Rattle.xp_words.specs.declared.reply.Refusal.TheVariants.{AlreadyPinned, NotPinned, OtherType, WrongOwner}
use Rattle.xp_board.specs.Hands.{IsEmptyHand}
use Rattle.xp_board.specs.Readings.{is_dying}
use Rattle.xp_board.specs.Told.{PortValue}
use Rattle.step_maker.specs.Plain.{Words}
use Rattle.answer_laws.specs.Alone.{IsAlone}

-- a reference word that is not of a frame whose last reference is gone, and which is not free yet
pub record IsSettledRef (w : ℕ) : Type 0 where
  pub small : w < 2 ^ 64
  pub owned : is_dying w ≡ false

-- none of the words m is
abbrev pub NoneDies : Words → Type 0
NoneDies m = (g : ℕ) → IsSettledRef (m (Refs g))

-- a kind word that is a spelling
abbrev pub IsSpelledKind : ℕ → Type 0
IsSpelledKind w = (k : KindWord) × (kind_read w ≡ Some k)

-- a reference word that is a spelling
abbrev pub IsSpelledRef : ℕ → Type 0
IsSpelledRef w = (r : RefWord) × (ref_read w ≡ Some r)

-- Each word of a frame that the refusal shows is a spelling, and no reference word that it shows is of a frame that is just being given back.
abbrev pub ShowsSettled : Refusal → Type 0
ShowsSettled (WrongOwner f w) = (is_dying w ≡ false) × IsSpelledRef w
ShowsSettled (OtherType f want w) = IsSpelledKind w
ShowsSettled (AlreadyPinned w) = IsSpelledKind w
ShowsSettled (NotPinned w) = IsSpelledKind w
ShowsSettled _ = Unit {0}

-- a port of the only vCPU, which has nothing in hand
pub record StandsAlone (v : PortValue) : Type 0 where
  pub alone : IsAlone v
  pub only : length v.post.machine.vcpu_domain ≡ 1
  pub real : v.post.vcpu < length v.post.machine.vcpu_domain
  pub empty : IsEmptyHand v.holdings
