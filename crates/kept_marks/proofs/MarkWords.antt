-- The word of a partial frame with its mark, and without.
use Rattle.std.proofs.Common.{◌≡◌, ◌≢◌, ◌+◌, ◌*◌, ◌^◌, ◌==◌, true, false, Some, IsTrue, refl, ap, ◌∙◌, arith}
use Rattle.std.proofs.lemmas.Bool.Decides.{nat_tests}
use Rattle.xp_words.specs.Machine.{Machine}
use Rattle.xp_words.specs.KindWords.{is_kind, kind_write, has_form}
use Rattle.xp_words.specs.PageTypes.{type_number}
use Rattle.xp_words.specs.RefWords.{bit}
use Rattle.xp_words.specs.declared.kind.KindWord.{KindWord}
use Rattle.xp_words.specs.declared.kind.PageType.{PageType}
use Rattle.xp_words.specs.declared.kind.PageType.TheVariants as types
use Rattle.xp_board.specs.KindSteps.{Partial, TakeBack, form_of, kind_row}
use Rattle.xp_board.specs.Readings.{is_dead, is_partial}
use Rattle.xp_board.specs.Spelling.{is_kind_in}
use Rattle.kept_marks.specs.Marks.{IsUnpaged, unkept_kind}

other_number : (t : PageType) → t ≢ types.Desc → (type_number t == 5) ≡ false
other_number types.None page = refl
other_number types.L1 page = refl
other_number types.L2 page = refl
other_number types.L3 page = refl
other_number types.L4 page = refl
other_number types.Desc page = absurd (page refl)
other_number types.Writable page = refl

unkept_by : (k : KindWord) → IsTrue (is_kind k) → IsTrue (is_partial k) → (type_number k.kind == 5) ≡ false → IsTrue (is_kind (unkept_kind k))
unfolding has_form
unkept_by k is partial page = grind (arith, nat_tests)

pub unkept_is : (k : KindWord) → IsTrue (is_kind k) → IsTrue (is_partial k) → IsUnpaged k → IsTrue (is_kind (unkept_kind k))
unkept_is k is partial page = unkept_by k is partial (other_number k.kind page)

pub unkept_row : (k : KindWord) → IsTrue (is_partial k) → kind_row k (unkept_kind k) ≡ TakeBack
unkept_row k partial = grind (arith, nat_tests)

pub unkept_fits : (n : Machine) (k : KindWord) → IsTrue (is_partial k) → IsTrue (is_kind_in n (Some (unkept_kind k)))
unkept_fits n k partial = grind (arith, nat_tests)

marked_more : (k : KindWord) → kind_write k ≡ kind_write (unkept_kind k) + 2 ^ 47 * bit k.kept
unfolding kind_write
marked_more k = omega arith

-- they are two words
pub unkept_differs : (k : KindWord) → k.kept ≡ true → kind_write k ≢ kind_write (unkept_kind k)
unkept_differs k kept same = let more = marked_more k ∙ ap (λ b. kind_write (unkept_kind k) + 2 ^ 47 * bit b) kept in absurd (omega (arith, same, more))

pub partial_form : (k : KindWord) → IsTrue (is_partial k) → form_of k ≡ Partial
partial_form k partial = grind (arith, nat_tests)

pub partial_undead : (k : KindWord) → IsTrue (is_partial k) → is_dead k ≡ false
partial_undead k partial = grind (arith, nat_tests)
