-- Paused for its gate, a release leaves less than the bound below which that was asked.
use Rattle.std.proofs.Common.{◌≡◌, ◌⊎◌, ℕ, ◌<◌, ◌&&◌, Option, None, Some, Bool, true, false, List, Result, Ok, Err, IfOk, refl, ◌∙◌, arith, inl, inr}
use Rattle.xp_words.specs.KindWords.{kind_fields}
use Rattle.xp_words.specs.declared.kind.KindWord.{KindWord}
use Rattle.xp_words.specs.declared.kind.PageType.{PageType}
use Rattle.xp_words.specs.declared.reply.Stop.{Stop}
use Rattle.xp_board.specs.Told.{PortValue}
use Rattle.xp_preempt.specs.Gates.{ends_yes}
use Rattle.partial_state.specs.Weights.{weight}
use Rattle.partial_state.specs.declared.stack.TableWork.{TableWork}
use Rattle.level_release.specs.Course as course
use Rattle.table_releases.specs.Found.{has_recorded}
use Rattle.table_words.specs.declared.old_words.OldWord.{OldWord}
use Rattle.table_words.specs.declared.old_words.OldWord.TheVariants.{First}
use Rattle.level_release.specs.Course.{Emptied, LeavesLess, RanDown, ReleasedWithin, Settled, SettledOne, SettledOneTo, SettledPartial, is_asked_down, is_first_done, left_by, left_emptied, left_one, left_partial, left_released, left_settled}

second : (a : Bool) {b : Bool} → (a && b) ≡ true → b ≡ true
second true is = is
second false is = absurd (cc)

-- as long as it goes on, no answer is yes
on_no : {below : Option ℕ} {v : PortValue} {ts : List TableWork} {w : PortValue} {us : List TableWork} {answers : List Bool} {answer : Result (Unit {0}) Stop} → answer ≡ Ok tt → RanDown below v ts w us answers answer → ends_yes answers ≡ false
on_no ok course.RanDown.begun = refl
on_no {below} {v} {ts} ok (course.RanDown.unasked u w us xs done answers ran one off) = on_no refl ran
on_no ok (course.RanDown.asked u w us xs answers ran one on) = refl
on_no ok (course.RanDown.due u w us xs answers ran one on) = absurd (cc)
on_no ok (course.RanDown.stopped u w us xs answers stop ran one) = absurd (cc)

pub ran_falls : {k : ℕ} {v : PortValue} {ts : List TableWork} {w : PortValue} {us : List TableWork} {answers : List Bool} {answer : Result (Unit {0}) Stop} → ends_yes answers ≡ true → RanDown (Some k) v ts w us answers answer → weight us < k
ran_falls said course.RanDown.begun = absurd (cc)
ran_falls {k} {v} {ts} said (course.RanDown.unasked u w us xs done answers ran one off) = let no = on_no refl ran in absurd (cc)
ran_falls said (course.RanDown.asked u w us xs answers ran one on) = absurd (cc)
ran_falls {k} said (course.RanDown.due u w us xs answers ran one on) = grind (arith, (second (is_asked_down xs) on))
ran_falls {k} {v} {ts} said (course.RanDown.stopped u w us xs answers stop ran one) = let no = on_no refl ran in absurd (cc)

-- Where the last answer is yes, it stops for that.
ran_leaves : {k : ℕ} {v : PortValue} {ts : List TableWork} {w : PortValue} {us : List TableWork} {answers : List Bool} {stop : Stop} → ends_yes answers ≡ true → RanDown (Some k) v ts w us answers (Err stop) → LeavesLess k (left_by (Some k) stop us)
ran_leaves {k} said (course.RanDown.due u w us xs answers ran one on) = grind (arith, (second (is_asked_down xs) on))
ran_leaves {k} {v} {ts} said (course.RanDown.stopped u w us xs answers stop ran one) = let no = on_no refl ran in absurd (cc)

emptied_leaves : (k : ℕ) (v : PortValue) (t : TableWork) (w : PortValue) (answers : List Bool) (answer : Result (Unit {0}) Stop) → ends_yes answers ≡ true → (run : Emptied (Some k) v t w answers answer) → LeavesLess k (left_emptied run)
emptied_leaves k v t _ _ _ said (course.Emptied.finished w answers ran) = let no = on_no refl ran in absurd (cc)
emptied_leaves k v t _ _ _ said (course.Emptied.paused u w us answers stop ran unwound) = ran_leaves said ran

released_leaves : (k : ℕ) (v : PortValue) (f : ℕ) (kind : PageType) (w : PortValue) (answers : List Bool) (answer : Result (Unit {0}) Stop) → ends_yes answers ≡ true → (run : ReleasedWithin (Some k) v f kind w answers answer) → LeavesLess k (left_released run)
released_leaves k v f kind _ _ _ said (course.ReleasedWithin.plain w ordinary drops) = absurd (cc)
released_leaves k v f kind _ _ _ said (course.ReleasedWithin.shared u w table drops gave) = absurd (cc)
released_leaves k v f kind _ _ _ said (course.ReleasedWithin.last u x w word level answers answer table is high drops look run) = emptied_leaves k x _ w answers answer said run

partial_leaves : (k : ℕ) (v w : PortValue) (f : ℕ) (word : KindWord) (answers : List Bool) (answer : Result (Unit {0}) Stop) → ends_yes answers ≡ true → (has : Bool) (run : SettledPartial (Some k) v w f word answers answer has) → LeavesLess k (left_partial (Some k) v w f word answers answer has run)
partial_leaves k v w f word answers answer said true run = emptied_leaves k run.0 _ w answers answer said run.6
partial_leaves k v w f word answers answer said false run = let none = run.1 in absurd (cc)

one_leaves : (k : ℕ) (v : PortValue) (which : OldWord) (w : PortValue) (answers : List Bool) (answer : Result (Unit {0}) Stop) → ends_yes answers ≡ true → (run : SettledOne (Some k) v which w answers answer) → LeavesLess k (left_one run)
one_leaves k v which _ _ _ said (course.SettledOne.none w look) = absurd (cc)
one_leaves k v which _ _ _ said (course.SettledOne.live a b c w f word answers answer look take see form released) = released_leaves k c f (kind_fields word).kind w answers answer said released
one_leaves k v which _ _ _ said (course.SettledOne.partial a b c d w f word answers answer look take see form resume settled) =
    partial_leaves k d w f (kind_fields word) answers answer said (has_recorded (kind_fields word).kind (kind_fields word)) settled
one_leaves k v which _ _ _ said (course.SettledOne.lost a b c d w f word found look take see form resume other again) = absurd (cc)
one_leaves k v which _ _ _ said (course.SettledOne.busy a b c w f word look take see unlive whole again) = absurd (cc)

-- of the first word, or that one is done with
pub settled_leaves : (k : ℕ) (v w : PortValue) (answers : List Bool) (answer : Result (Unit {0}) Stop) → ends_yes answers ≡ true → (run : Settled (Some k) v w answers answer) → LeavesLess k (left_settled run) ⊎ (is_first_done run ≡ true)
settled_leaves k v _ _ _ said (course.Settled.first w answers stop one) = inl (one_leaves k v First w answers (Err stop) said one)
settled_leaves k v _ _ _ said (course.Settled.both u w answers more answer one two) = inr refl

-- ---- what comes to its end leaves nothing, where the gate was asked everywhere
emptied_same : {below : Option ℕ} (v : PortValue) (t : TableWork) (w : PortValue) (answers : List Bool) {answer : Result (Unit {0}) Stop} → answer ≡ Ok tt → (run : Emptied below v t w answers answer) → left_emptied run ≡ below
emptied_same v t _ _ ok (course.Emptied.finished w answers ran) = refl
emptied_same v t _ _ ok (course.Emptied.paused u w us answers stop ran unwound) = absurd (cc)

released_same : {below : Option ℕ} (v : PortValue) (f : ℕ) (kind : PageType) (w : PortValue) (answers : List Bool) {answer : Result (Unit {0}) Stop} → answer ≡ Ok tt → (run : ReleasedWithin below v f kind w answers answer) → left_released run ≡ below
released_same v f kind _ _ ok (course.ReleasedWithin.plain w ordinary drops) = refl
released_same v f kind _ _ ok (course.ReleasedWithin.shared u w table drops gave) = refl
released_same {below} v f kind _ _ ok (course.ReleasedWithin.last u x w word level answers answer table is high drops look run) = emptied_same x _ w answers ok run

partial_same : {below : Option ℕ} (v w : PortValue) (f : ℕ) (word : KindWord) (answers : List Bool) {answer : Result (Unit {0}) Stop} → answer ≡ Ok tt → (has : Bool) (run : SettledPartial below v w f word answers answer has) → left_partial below v w f word answers answer has run ≡ below
partial_same {below} v w f word answers {answer} ok true run = emptied_same run.0 _ w answers ok run.6
partial_same v w f word answers ok false run = refl

one_same : {below : Option ℕ} (v : PortValue) (which : OldWord) (w : PortValue) (answers : List Bool) {answer : Result (Unit {0}) Stop} → answer ≡ Ok tt → (run : SettledOne below v which w answers answer) → left_one run ≡ below
one_same v which _ _ ok (course.SettledOne.none w look) = refl
one_same {below} v which _ _ ok (course.SettledOne.live a b c w f word answers answer look take see form released) = released_same c f (kind_fields word).kind w answers ok released
one_same {below} v which _ _ ok (course.SettledOne.partial a b c d w f word answers answer look take see form resume settled) =
    partial_same d w f (kind_fields word) answers ok (has_recorded (kind_fields word).kind (kind_fields word)) settled
one_same v which _ _ ok (course.SettledOne.lost a b c d w f word found look take see form resume other again) = absurd (cc)
one_same v which _ _ ok (course.SettledOne.busy a b c w f word look take see unlive whole again) = absurd (cc)

pub none_left : (left : Option ℕ) (v : PortValue) (which : OldWord) (w : PortValue) (answers : List Bool) (answer : Result (Unit {0}) Stop) → SettledOneTo None left v which w answers answer → IfOk answer (λ done. left ≡ None)
none_left left v which w answers (Ok done) s = s.1 ∙ one_same v which w answers refl s.0
none_left left v which w answers (Err stop) s = tt
