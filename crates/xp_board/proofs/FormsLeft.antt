-- The form of a kind word, and what it says of the word.
use Rattle.std.proofs.Common.{◌≡◌, IsTrue, Bool, true, false, refl, if◌then◌else◌}
use Rattle.xp_board.specs.KindSteps.{Form, Live, Partial, InWork, Dead, form_of}
use Rattle.xp_board.specs.Readings.{is_live, is_partial, is_work, is_dead}
use Rattle.xp_words.specs.declared.kind.KindWord.{KindWord}

abbrev form_by : Bool → Bool → Bool → Form
form_by v p q = if v then Live else if p then Partial else if q then InWork else Dead

-- ---- the form that is left
live_by : (v p q : Bool) → form_by v p q ≡ Live → v ≡ true
live_by true p q h = refl
live_by false true q h = absurd cc
live_by false false true h = absurd cc
live_by false false false h = absurd cc

partial_by : (v p q : Bool) → form_by v p q ≡ Partial → (v ≡ false) × (p ≡ true)
partial_by true p q h = absurd cc
partial_by false true q h = (refl, refl)
partial_by false false true h = absurd cc
partial_by false false false h = absurd cc

work_by : (v p q : Bool) → form_by v p q ≡ InWork → (v ≡ false) × (p ≡ false) × (q ≡ true)
work_by true p q h = absurd cc
work_by false true q h = absurd cc
work_by false false true h = (refl, refl, refl)
work_by false false false h = absurd cc

dead_by : (v p q : Bool) → form_by v p q ≡ Dead → (v ≡ false) × (p ≡ false) × (q ≡ false)
dead_by true p q h = absurd cc
dead_by false true q h = absurd cc
dead_by false false true h = absurd cc
dead_by false false false h = (refl, refl, refl)

pub is_live_left : (l : KindWord) → form_of l ≡ Live → l.validated ≡ true
is_live_left l h = live_by l.validated l.partial l.locked h

pub is_partial_left : (l : KindWord) → form_of l ≡ Partial → (l.validated ≡ false) × (l.partial ≡ true)
is_partial_left l h = partial_by l.validated l.partial l.locked h

pub is_work_left : (l : KindWord) → form_of l ≡ InWork → (l.validated ≡ false) × (l.partial ≡ false) × (l.locked ≡ true)
is_work_left l h = work_by l.validated l.partial l.locked h

pub is_dead_left : (l : KindWord) → form_of l ≡ Dead → (l.validated ≡ false) × (l.partial ≡ false) × (l.locked ≡ false)
is_dead_left l h = dead_by l.validated l.partial l.locked h

-- ---- the same by the tests of forms
pub form_live : (l : KindWord) → form_of l ≡ Live → IsTrue (is_live l)
form_live l e = is_live_left l e

pub form_partial : (l : KindWord) → form_of l ≡ Partial → IsTrue (is_partial l)
form_partial l e = let k = is_partial_left l e in rw (k.0, k.1) refl

pub form_work : (l : KindWord) → form_of l ≡ InWork → IsTrue (is_work l)
form_work l e = let k = is_work_left l e in rw (k.0, k.1, k.2) refl

pub form_dead : (l : KindWord) → form_of l ≡ Dead → IsTrue (is_dead l)
form_dead l e = let k = is_dead_left l e in rw (k.0, k.1, k.2) refl
