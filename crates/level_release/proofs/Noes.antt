-- A release that ends: the gate said no each time.
use Rattle.std.proofs.Common.{◌≡◌, ℕ, Option, Bool, true, false, List, Result, Ok, refl, ap, arith}
use Rattle.xp_words.specs.KindWords.{kind_fields}
use Rattle.xp_words.specs.declared.kind.KindWord.{KindWord}
use Rattle.xp_words.specs.declared.kind.PageType.{PageType}
use Rattle.xp_words.specs.declared.reply.Stop.{Stop}
use Rattle.xp_board.specs.Told.{PortValue}
use Rattle.xp_preempt.specs.Gates.{yeses}
use Rattle.xp_preempt.proofs.Consulting.{yeses_then}
use Rattle.partial_state.specs.declared.stack.TableWork.{TableWork}
use Rattle.table_releases.specs.Found.{has_recorded}
use Rattle.table_words.specs.declared.old_words.OldWord.{OldWord}
use Rattle.level_release.specs.Course as course
use Rattle.level_release.specs.Course.{Emptied, RanDown, Settled, SettledOne, SettledPartial, ReleasedWithin}

ran_no : {below : Option ℕ} → {v : PortValue} {ts : List TableWork} {w : PortValue} {us : List TableWork} {answers : List Bool} {answer : Result (Unit {0}) Stop} → answer ≡ Ok tt → RanDown below v ts w us answers answer → yeses answers ≡ 0
unfolding yeses
ran_no ok course.RanDown.begun = refl
ran_no {v} {ts} ok (course.RanDown.unasked u w us xs done answers ran one off) = ran_no refl ran
ran_no {v} {ts} ok (course.RanDown.asked u w us xs answers ran one on) = ran_no refl ran
ran_no ok (course.RanDown.due u w us xs answers ran one on) = absurd (cc)
ran_no ok (course.RanDown.stopped u w us xs answers stop ran one) = absurd (cc)

emptied_no : {below : Option ℕ} → {v w : PortValue} {t : TableWork} {answers : List Bool} {answer : Result (Unit {0}) Stop} → answer ≡ Ok tt → Emptied below v t w answers answer → yeses answers ≡ 0
emptied_no {v} {t} ok (course.Emptied.finished w answers ran) = ran_no refl ran
emptied_no ok (course.Emptied.paused u w us answers stop ran unwound) = absurd (cc)

released_no : {below : Option ℕ} → {v w : PortValue} {f : ℕ} {kind : PageType} {answers : List Bool} {answer : Result (Unit {0}) Stop} → answer ≡ Ok tt → ReleasedWithin below v f kind w answers answer → yeses answers ≡ 0
unfolding yeses
released_no ok (course.ReleasedWithin.plain w ordinary drops) = refl
released_no ok (course.ReleasedWithin.shared u w table drops gave) = refl
released_no ok (course.ReleasedWithin.last u x w word level answers answer table at high drops looks emptied) = emptied_no ok emptied

partial_no : (below : Option ℕ) (v w : PortValue) (f : ℕ) (k : KindWord) (answers : List Bool) {answer : Result (Unit {0}) Stop} → answer ≡ Ok tt → (b : Bool) → SettledPartial below v w f k answers answer b → yeses answers ≡ 0
unfolding yeses
partial_no below v w f k answers {answer} ok true h = emptied_no ok h.6
partial_no below v w f k answers ok false h = ap yeses h.1

one_no : {below : Option ℕ} → {v w : PortValue} {which : OldWord} {answers : List Bool} {answer : Result (Unit {0}) Stop} → answer ≡ Ok tt → SettledOne below v which w answers answer → yeses answers ≡ 0
unfolding yeses
one_no ok (course.SettledOne.none w looks) = refl
one_no ok (course.SettledOne.live a b c w f word answers answer looks takes sees form released) = released_no ok released
one_no ok (course.SettledOne.partial a b c d w f word answers answer looks takes sees form resumes settled) =
    partial_no _ d w f (kind_fields word) answers ok (has_recorded (kind_fields word).kind (kind_fields word)) settled
one_no ok (course.SettledOne.lost a b c d w f word found looks takes sees form resumes other named) = absurd (cc)
one_no ok (course.SettledOne.busy a b c w f word looks takes sees off away named) = absurd (cc)

pub settled_no : {below : Option ℕ} → (v w : PortValue) (answers : List Bool) (answer : Result (Unit {0}) Stop) → answer ≡ Ok tt → Settled below v w answers answer → yeses answers ≡ 0
settled_no v _ _ _ ok (course.Settled.first w answers stop one) = absurd (cc)
settled_no v _ _ _ ok (course.Settled.both u w answers more answer one two) = omega (arith, (one_no refl one), (one_no ok two), (yeses_then answers more))
