-- The answers of a gate while tables are acquired and released: it says no each time, until it pauses that.
use Rattle.std.proofs.Common.{◌≡◌, ℕ, ◌+◌, ◌++◌, ◌&&◌, if◌then◌else◌, Option, Bool, true, false, List, [], ◌∷◌, Result, Ok, Err, refl, sym, subst, arith}
use Rattle.xp_words.specs.KindWords.{kind_fields}
use Rattle.xp_words.specs.declared.kind.KindWord.{KindWord}
use Rattle.xp_words.specs.declared.kind.PageType.{PageType}
use Rattle.xp_words.specs.declared.reply.Stop.{Stop}
use Rattle.xp_board.specs.Told.{PortValue}
use Rattle.xp_preempt.specs.Gates.{yeses}
use Rattle.xp_preempt.proofs.Consulting.{yeses_then}
use Rattle.partial_state.specs.declared.stack.TableWork.{TableWork}
use Rattle.table_entries.specs.Acquiring as acquiring
use Rattle.table_entries.specs.Acquiring.{Acquired, Filled, Worked}
use Rattle.table_releases.specs.Found.{has_recorded}
use Rattle.table_words.specs.declared.old_words.OldWord.{OldWord}
use Rattle.level_release.specs.Asking.{is_due_answer}
use Rattle.level_release.specs.Course as releasing
use Rattle.level_release.specs.Course.{Emptied, RanDown, Settled, SettledOne, SettledPartial, ReleasedWithin}
use Rattle.vcpu_turn.specs.Asking.{NoUntilDue}

-- ---- answers
no_more : (a : Bool) (rest : List Bool) → yeses (a ∷ rest) ≡ 0 → yeses rest ≡ 0
unfolding yeses
no_more true rest is = absurd (let more : yeses rest + 1 ≡ 0 = is in omega (arith, more))
no_more false rest is = is

not_yes : (a : Bool) (rest : List Bool) → yeses (a ∷ rest) ≡ 0 → a ≡ true → ⊥
unfolding yeses
not_yes true rest is said = let more : yeses rest + 1 ≡ 0 = is in omega (arith, more)
not_yes false rest is said = cc

pub noes_none : (due : Bool) → NoUntilDue [] due
unfolding yeses
noes_none due = record { early = refl; last = λ said. absurd (cc) }

pub noes_all : (answers : List Bool) (due : Bool) → yeses answers ≡ 0 → NoUntilDue answers due
noes_all [] due is = noes_none due
noes_all (a ∷ rest) due is = record { early = no_more a rest is; last = λ said. absurd (not_yes a rest is said) }

pub noes_due : (answers : List Bool) → yeses answers ≡ 0 → NoUntilDue (true ∷ answers) true
noes_due answers is = record { early = is; last = λ said. refl }

pub noes_asked : (answers : List Bool) (due : Bool) → yeses answers ≡ 0 → NoUntilDue (false ∷ answers) due
noes_asked answers due is = record { early = is; last = λ said. absurd (cc) }

all_no : (answers : List Bool) (due : Bool) → due ≡ false → NoUntilDue answers due → yeses answers ≡ 0
unfolding yeses
all_no [] due not_due noes = refl
all_no (true ∷ rest) due not_due noes = absurd (let is = noes.last refl in cc)
all_no (false ∷ rest) due not_due noes = noes.early

-- of what is not paused for the gate
pub noes_no : (answers : List Bool) → NoUntilDue answers false → yeses answers ≡ 0
noes_no answers noes = all_no answers false refl noes

pub noes_then : (early late : List Bool) (due : Bool) → yeses early ≡ 0 → NoUntilDue late due → NoUntilDue (late ++ early) due
noes_then early [] due is noes = noes_all early due is
noes_then early (a ∷ rest) due is noes =
    let later = noes.early in
    let sum = yeses_then early rest in
    record { early = omega (arith, is, later, sum); last = noes.last }

pub noes_same : (answers asked : List Bool) (due : Bool) → answers ≡ asked → NoUntilDue asked due → NoUntilDue answers due
noes_same answers asked due same noes = subst (λ (xs : List Bool). NoUntilDue xs due) (sym same) noes

-- ---- a release
ran_noes : {below : Option ℕ} → (v : PortValue) (ts : List TableWork) (w : PortValue) (us : List TableWork) (answers : List Bool) (answer : Result (Unit {0}) Stop) → RanDown below v ts w us answers answer → NoUntilDue answers (is_due_answer answer)
ran_noes v ts _ _ _ _ releasing.RanDown.begun = noes_none false
ran_noes v ts _ _ _ _ (releasing.RanDown.unasked u w us xs done answers ran one off) = ran_noes v ts u us answers (Ok tt) ran
ran_noes v ts _ _ _ _ (releasing.RanDown.asked u w us xs answers ran one on) = noes_asked answers false (noes_no answers (ran_noes v ts u us answers (Ok tt) ran))
ran_noes v ts _ _ _ _ (releasing.RanDown.due u w us xs answers ran one on) = noes_due answers (noes_no answers (ran_noes v ts u us answers (Ok tt) ran))
ran_noes v ts _ _ _ _ (releasing.RanDown.stopped u w us xs answers stop ran one) = noes_all answers _ (noes_no answers (ran_noes v ts u us answers (Ok tt) ran))

emptied_noes : {below : Option ℕ} → (v w : PortValue) (t : TableWork) (answers : List Bool) (answer : Result (Unit {0}) Stop) → Emptied below v t w answers answer → NoUntilDue answers (is_due_answer answer)
emptied_noes v _ t _ _ (releasing.Emptied.finished w answers ran) = ran_noes v (t ∷ []) w [] answers (Ok tt) ran
emptied_noes v _ t _ _ (releasing.Emptied.paused u w us answers stop ran unwound) = ran_noes v (t ∷ []) u us answers (Err stop) ran

pub released_noes : {below : Option ℕ} → (v w : PortValue) (f : ℕ) (kind : PageType) (answers : List Bool) (answer : Result (Unit {0}) Stop) → ReleasedWithin below v f kind w answers answer → NoUntilDue answers (is_due_answer answer)
released_noes v _ f kind _ _ (releasing.ReleasedWithin.plain w ordinary drops) = noes_none false
released_noes v _ f kind _ _ (releasing.ReleasedWithin.shared u w table drops gave) = noes_none false
released_noes v _ f kind _ _ (releasing.ReleasedWithin.last u x w word level answers answer table at high drops looks emptied) = emptied_noes x w _ answers answer emptied

partial_noes : (below : Option ℕ) (v w : PortValue) (f : ℕ) (k : KindWord) (answers : List Bool) (answer : Result (Unit {0}) Stop) (recorded : Bool) → SettledPartial below v w f k answers answer recorded → NoUntilDue answers (is_due_answer answer)
partial_noes below v w f k answers answer true h = emptied_noes h.0 w _ answers answer h.6
partial_noes below v w f k answers answer false h = noes_same answers [] _ h.1 (noes_none _)

one_noes : {below : Option ℕ} → (v w : PortValue) (which : OldWord) (answers : List Bool) (answer : Result (Unit {0}) Stop) → SettledOne below v which w answers answer → NoUntilDue answers (is_due_answer answer)
one_noes v _ which _ _ (releasing.SettledOne.none w looks) = noes_none false
one_noes v _ which _ _ (releasing.SettledOne.live a b c w f word answers answer looks takes sees form released) = released_noes c w f (kind_fields word).kind answers answer released
one_noes v _ which _ _ (releasing.SettledOne.partial a b c d w f word answers answer looks takes sees form resumes settled) =
    partial_noes _ d w f (kind_fields word) answers answer (has_recorded (kind_fields word).kind (kind_fields word)) settled
one_noes v _ which _ _ (releasing.SettledOne.lost a b c d w f word found looks takes sees form resumes other named) = noes_none false
one_noes v _ which _ _ (releasing.SettledOne.busy a b c w f word looks takes sees off away named) = noes_none false

pub settled_noes : {below : Option ℕ} → (v w : PortValue) (answers : List Bool) (answer : Result (Unit {0}) Stop) → Settled below v w answers answer → NoUntilDue answers (is_due_answer answer)
settled_noes v _ _ _ (releasing.Settled.first w answers stop one) = one_noes v w _ answers (Err stop) one
settled_noes v _ _ _ (releasing.Settled.both u w answers more answer one two) =
    noes_then answers more _ (noes_no answers (one_noes v u _ answers (Ok tt) one)) (one_noes u w _ more answer two)

-- ---- an acquisition
filled_noes : (owner : ℕ) (v : PortValue) (ts : List TableWork) (before : List Bool) (w : PortValue) (us : List TableWork) (answers : List Bool) (answer : Result (Unit {0}) Stop) → yeses before ≡ 0 →
    Filled owner v ts before w us answers answer → NoUntilDue answers (is_due_answer answer)
filled_noes owner v ts before _ _ _ _ unsaid acquiring.Filled.begun = noes_all before false unsaid
filled_noes owner v ts before _ _ _ _ unsaid (acquiring.Filled.unasked u w us xs done answers ran one off) = filled_noes owner v ts before u us answers (Ok tt) unsaid ran
filled_noes owner v ts before _ _ _ _ unsaid (acquiring.Filled.asked u w us xs answers ran one on) = noes_asked answers false (noes_no answers (filled_noes owner v ts before u us answers (Ok tt) unsaid ran))
filled_noes owner v ts before _ _ _ _ unsaid (acquiring.Filled.due u w us xs answers ran one on) = noes_due answers (noes_no answers (filled_noes owner v ts before u us answers (Ok tt) unsaid ran))
filled_noes owner v ts before _ _ _ _ unsaid (acquiring.Filled.stopped u w us xs answers stop ran one) = noes_all answers _ (noes_no answers (filled_noes owner v ts before u us answers (Ok tt) unsaid ran))

-- behind the first entry the gate said no, where it was asked
once_no : (asks : Bool) → yeses (if asks then false ∷ [] else []) ≡ 0
unfolding yeses
once_no true = refl
once_no false = refl

worked_noes : (owner : ℕ) (v : PortValue) (t : TableWork) (w : PortValue) (us : List TableWork) (answers : List Bool) (answer : Result (Unit {0}) Stop) → Worked owner v t w us answers answer →
    NoUntilDue answers (is_due_answer answer)
unfolding yeses
worked_noes owner v t _ _ _ _ (acquiring.Worked.cut_off w us stop took) = noes_none _
worked_noes owner v t _ _ _ _ (acquiring.Worked.due w us took on) = noes_due [] refl
worked_noes owner v t _ _ _ _ (acquiring.Worked.filled u w us xs done answers answer took filled) = filled_noes owner u us _ w xs answers answer (once_no (done && acquiring.is_asked us)) filled

pub acquired_noes : (v w : PortValue) (f owner level : ℕ) (answers : List Bool) (answer : Result ℕ Stop) → Acquired v f owner level w answers answer → NoUntilDue answers (is_due_answer answer)
acquired_noes v _ f owner level _ _ (acquiring.Acquired.unreferred w stop got) = noes_none _
acquired_noes v _ f owner level _ _ (acquiring.Acquired.untyped u x w stop got took gave) = noes_none _
acquired_noes v _ f owner level _ _ (acquiring.Acquired.counted u w got took) = noes_none _
acquired_noes v _ f owner level _ _ (acquiring.Acquired.waiting u x w own stamp stop got took left) = noes_none _
acquired_noes v _ f owner level _ _ (acquiring.Acquired.unfinished u x y w progress own us answers stop got took worked unwound) = worked_noes owner x _ y us answers (Err stop) worked
acquired_noes v _ f owner level _ _ (acquiring.Acquired.finished u x y w progress own t answers got took worked full live) = worked_noes owner x _ y (t ∷ []) answers (Ok tt) worked
