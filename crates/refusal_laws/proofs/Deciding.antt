-- What a call, or a list of calls, comes to; and what is settled behind it.
use Rattle.std.proofs.Common.{◌≡◌, ℕ, ◌+◌, Bool, true, false, List, [], ◌∷◌, Option, None, Result, Ok, Err, refl, sym, ap, ◌∙◌, subst, arith}
use Rattle.xp_words.specs.Machine.{Machine}
use Rattle.xp_words.specs.declared.place.Place.{Place}
use Rattle.xp_words.specs.declared.reply.Pause.TheVariants.{Due}
use Rattle.xp_words.specs.declared.reply.Refusal.{Refusal}
use Rattle.xp_words.specs.declared.reply.Stop.{Stop}
use Rattle.xp_words.specs.declared.reply.Stop.TheVariants.{Refused, Paused}
use Rattle.xp_board.specs.declared.step.Act.TheVariants.{Load}
use Rattle.xp_board.specs.declared.step.StepKind.TheVariants as kinds
use Rattle.xp_board.specs.Told.{Post, PortValue, is_telling, told_word}
use Rattle.step_maker.specs.Moves.{Moves}
use Rattle.step_maker.proofs.Telling.{load_tells, moves_telling, told_there}
use Rattle.table_words.specs.OldWords.{old_place}
use Rattle.table_words.specs.declared.old_words.OldWord.TheVariants.{First}
use Rattle.partial_state.specs.declared.stack.TableWork.{TableWork}
use Rattle.table_entries.specs.Acquiring.{Unwound}
use Rattle.table_law.specs.Alone.{PlainOutcome}
use Rattle.table_law.specs.Plain.{Describes, Plain}
use Rattle.table_twins.proofs.Entering.{described_leaves}
use Rattle.table_twins.proofs.Kinding.{described_alike}
use Rattle.course_laws.specs.Courses.{IsDecided}
use Rattle.course_laws.proofs.Calling.{RefusedCall, at_once, in_work}
use Rattle.course_laws.proofs.Deciding.{LastOutcome}
use Rattle.course_laws.proofs.Outermost.{IsOutermost}
use Rattle.course_laws.proofs.Travelling.{RefusedAt}
use Rattle.level_release.specs.Course as course
use Rattle.level_release.specs.Course.{Settled, SettledOne}
use Rattle.release_laws.specs.Pauses as pauses
use Rattle.release_laws.specs.Pauses.{GoesOnFrom, IsLeft, SecondIsNone, SettledAtLast}
use Rattle.release_laws.proofs.Settling.{goes_on, second_none, settled_at_last}
use Rattle.refusal_laws.specs.Refusals.{ComesTo, IsRefusedAs, Owes, a_release, nothing}
use Rattle.refusal_laws.proofs.Leaving.{all_left, undoes}

-- ---- one that is refused
left_by : (n : Machine) (owner f level : ℕ) (w u : PortValue) (us : List TableWork) (y : Refusal) (a : PlainOutcome) → RefusedAt n owner u us y a → IsOutermost f level us → Unwound u owner us false w → IsLeft n w f level a.left
left_by n owner f level w u [] y a r outer left = absurd outer
left_by n owner f level w u (t ∷ us) y a r outer left = all_left n f level a.left owner us t u w (undoes n owner u (t ∷ us) y a r) outer left

pub refused_as : (n : Machine) (owner : ℕ) (v w : PortValue) (f level : ℕ) (y : Refusal) (a : PlainOutcome) → told_word v (old_place v.post.vcpu First) ≡ 0 → RefusedCall n owner v w f level y (record { outcome = a; whole = true }) → IsRefusedAs n w f level y a
refused_as n owner v w f level y a none (at_once whole r) = record { cause = r.cause; is = r.is; same = r.same; owes = nothing r.telling (r.old ∙ none) r.describes }
refused_as n owner v w f level y a none (in_work u us r outer left) =
    record { cause = r.words.cause; is = ap (λ (o : PlainOutcome). o.refusal) r.words.is; same = r.words.same; owes = a_release (left_by n owner f level w u us y a r outer left) }

pub comes_to : (n : Machine) (owner : ℕ) (v w : PortValue) (f level : ℕ) (a : PlainOutcome) (answer : Result ℕ Stop) → told_word v (old_place v.post.vcpu First) ≡ 0 → LastOutcome n owner v w f level a answer → IsDecided answer → ComesTo n w f level a answer
comes_to n owner v w f level a (Ok g) none o decided = (o.none, o.describes)
comes_to n owner v w f level a (Err (Refused y)) none o decided = refused_as n owner v w f level y a none (o decided)
comes_to n owner v w f level a (Err (Paused x)) none o decided = decided

-- ---- where nothing is to be settled
module _ (n : Machine) (q : Plain) (u : PortValue) (telling : is_telling u ≡ true) (none : told_word u (old_place u.post.vcpu First) ≡ 0) (d : Describes n (told_word u) q) where
  never : (a : PortValue) (g : ℕ) → Moves u a (old_place u.post.vcpu First) Load kinds.Look None (g + 1) → ⊥
  never a g look = let e = told_there u a _ Load kinds.Look None (g + 1) look telling in let k = none in omega arith

  -- the port behind it
  pub record Same (w : PortValue) (answer : Result (Unit {0}) Stop) : Type 0 where
    pub done : answer ≡ Ok tt
    pub tells : is_telling w ≡ true
    pub words : (p : Place) → told_word w p ≡ told_word u p

  first_none : {below : Option ℕ} → (w : PortValue) (answers : List Bool) (answer : Result (Unit {0}) Stop) → SettledOne below u First w answers answer → Same w answer
  first_none _ _ _ (course.none w look) = record { done = refl; tells = moves_telling u w _ _ _ _ _ look ∙ telling; words = load_tells u w _ _ _ _ look telling }
  first_none _ _ _ (course.live a b c w g word answers answer look store seen live released) = absurd (never a g look)
  first_none _ _ _ (course.partial a b c d w g word answers answer look store seen form take goes) = absurd (never a g look)
  first_none _ _ _ (course.lost a b c d w g word found look store seen form take off names) = absurd (never a g look)
  first_none _ _ _ (course.busy a b c w g word look store seen off_live off_partial names) = absurd (never a g look)

  none_stops : (w : PortValue) (e : Stop) → Same w (Err e) → ⊥
  none_stops w e same = let k = same.done in cc

  pub none_done : {below : Option ℕ} → (w : PortValue) (answers : List Bool) (answer : Result (Unit {0}) Stop) → (a : Settled below u w answers answer) → SecondIsNone a → (answer ≡ Ok tt) × Describes n (told_word w) q
  none_done _ _ _ (course.first w answers stop one) second = absurd (none_stops w stop (first_none w answers (Err stop) one))
  none_done _ _ _ (course.both x w answers more answer one two) second =
      let first = first_none x answers (Ok tt) one in
      let last = second_none x first.tells second w more answer two in
      (last.0, described_leaves n w (told_word u) q (λ p. last.1 p ∙ first.words p) d)

pub none_settled : (n : Machine) (q : Plain) (u w : PortValue) → is_telling u ≡ true → told_word u (old_place u.post.vcpu First) ≡ 0 → Describes n (told_word u) q → SettledAtLast u w → Describes n (told_word w) q
none_settled n q _ _ telling none d (pauses.done below u w answers a second) = (none_done n q u telling none d w answers (Ok tt) a second).1
none_settled n q _ _ telling none d (pauses.again below u x y w answers a second on rest) = absurd (let e = (none_done n q u telling none d x answers (Err (Paused Due)) a second).0 in cc)

pub owed_settled : (n : Machine) (v w : PortValue) (f level : ℕ) (q : Plain) → Owes n v f level q → SettledAtLast v w → Describes n (told_word w) q
owed_settled n v w f level q (nothing telling none d) on = none_settled n q v w telling none d on
owed_settled n v w f level q (a_release left) on = settled_at_last n f level q v w left on

-- a turn begins in between
pub owed_on : (n : Machine) (u x : PortValue) (f level : ℕ) (q : Plain) → GoesOnFrom u x → Owes n u f level q → Owes n x f level q
owed_on n u x f level q on (nothing telling none d) =
    nothing on.telling
    (subst (λ (p : Post). told_word x (old_place p.vcpu First) ≡ 0) (sym on.post) (on.words (old_place u.post.vcpu First) (λ e. absurd (omega arith)) (λ e. absurd (omega arith)) ∙ none))
    (described_alike n (told_word x) (told_word u) q on.words d)
owed_on n u x f level q on (a_release left) = a_release (goes_on n u x f level q on left)
