-- Words of the machine, read; and words of kinds as their type reads them.
use Rattle.std.proofs.Common.{◌≡◌, ℕ, ◌<◌, ◌≤◌, List, length, IsTrue, Option, Some, None, refl, sym, arith}
use Rattle.std.specs.Option.{IsSome}
use Rattle.std.proofs.lemmas.Bool.Decides.{nat_tests}
use Rattle.xp_words.specs.KindWords.{kind_read, has_form}
use Rattle.xp_words.specs.declared.kind.KindWord.{KindWord}
use Rattle.xp_words.specs.declared.place.Place.{Place}
use Rattle.xp_words.specs.declared.place.Place.TheVariants.{Kind}
use Rattle.xp_words.specs.Machine.{Machine}
use Rattle.xp_words.specs.Places.{Sizes, is_place, number, size}
use Rattle.xp_words.proofs.PlaceLaws.{number-lt}
use Rattle.xp_board.specs.Readings.{kind_at}
use Rattle.xp_board.specs.Recorded.{held_of}
use Rattle.xp_board.specs.Spelling.{IsSpelling, is_kind_in}
use Rattle.xp_board.proofs.KindForms.{fields_of, form_read}
use Rattle.word_readers.specs.Recorded.{recorded_entries}

-- each word of the machine stands in the list
pub inside : (z : Sizes) (p : Place) (words : List ℕ) → IsTrue (is_place z p) → length words ≡ size z → number z p < length words
inside z p words h e = let b = number-lt z p h in omega arith

-- a word that may stand there can be read
kind_some : (n : Machine) (x : Option KindWord) → IsTrue (is_kind_in n x) → IsSome x
kind_some n (Some k) h = refl
kind_some n None h = absurd (cc)

pub kind_there : (n : Machine) (f w : ℕ) → IsSpelling n (Kind f) w → IsSome (kind_read w)
unfolding IsSpelling
kind_there n f w h = kind_some n (kind_read w) h

pub kind_is : (m : Place → ℕ) (f : ℕ) (k : KindWord) → kind_read (m (Kind f)) ≡ Some k → k ≡ kind_at m f
kind_is m f k e = sym (fields_of (m (Kind f)) k e)

-- a table has at most 512 recorded entries
few_in_form : (k : KindWord) → IsTrue (has_form k) → recorded_entries k ≤ 512
unfolding has_form held_of
few_in_form k form = grind (arith, nat_tests)

pub few_recorded : (w : ℕ) (k : KindWord) → kind_read w ≡ Some k → recorded_entries k ≤ 512
few_recorded w k read = few_in_form k (form_read w k read)
