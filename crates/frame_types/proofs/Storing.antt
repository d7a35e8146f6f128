-- Kind words that are stored, on a board that tells all words.
use Rattle.std.proofs.Common.{◌≡◌, ℕ, true, None, refl, ap, ◌∙◌, subst}
use Rattle.xp_words.specs.declared.kind.KindWord.{KindWord}
use Rattle.xp_words.specs.declared.place.Place.{Place}
use Rattle.xp_words.specs.declared.place.Place.TheVariants.{Kind}
use Rattle.xp_words.specs.KindWords.{kind_write}
use Rattle.xp_board.specs.declared.step.Act.TheVariants.{Store}
use Rattle.xp_board.specs.declared.step.StepKind.TheVariants as kinds
use Rattle.xp_board.specs.Acts.{left_by}
use Rattle.xp_board.specs.Steps.{is_same}
use Rattle.xp_board.specs.Told.{PortValue, is_telling, told_word}
use Rattle.xp_board.proofs.PlaceTests.{same_place}
use Rattle.step_maker.specs.Holds.{Holds}
use Rattle.step_maker.specs.Moves.{Moves}
use Rattle.step_maker.specs.Plain.{Words, change}
use Rattle.step_maker.proofs.Telling.{by_test, leaves}
use Rattle.step_maker.specs.Twins.{Alike}
use Rattle.step_maker.proofs.Alikes.{same_alike}
use Rattle.kind_words.specs.Kinds.{left}
use Rattle.frame_types.specs.Plain.{set_kind}

-- the word that is there already
pub store_same : (y : ℕ) (p : Place) (m : Words) → m p ≡ y → (q : Place) → m q ≡ change (Store y) p m q
unfolding left_by
store_same y p m is q = by_test (is_same q p) y (m q) (m q) (λ on. ap m (same_place q p on) ∙ is) (λ off. refl)

pub stored_alike : (v w : PortValue) (f : ℕ) (k l : KindWord) (found : ℕ) → Moves v w (Kind f) (Store (kind_write l)) kinds.Kind None found → l ≡ k → is_telling v ≡ true → Alike (told_word w) (set_kind f k (told_word v))
stored_alike v w f k l found store is telling =
    subst (λ y. Alike (told_word w) (set_kind f y (told_word v))) is
    (same_alike (told_word w) (set_kind f l (told_word v)) (leaves v w (Kind f) (Store (kind_write l)) kinds.Kind None found store telling))

-- ---- a word that is left, by its value
abbrev pub moved_as : (v d : PortValue) (f x : ℕ) (k l : KindWord) → k ≡ l → Moves v d (Kind f) (Store (kind_write k)) kinds.Kind None x → Moves v d (Kind f) (Store (kind_write l)) kinds.Kind None x
moved_as v d f x k l is m = subst (λ y. Moves v d (Kind f) (Store (kind_write y)) kinds.Kind None x) is m

abbrev pub held_as : (v d : PortValue) (f : ℕ) (k l : KindWord) → k ≡ l → Holds v d (left v f k) → Holds v d (left v f l)
held_as v d f k l is h = subst (λ y. Holds v d (left v f y)) is h
