-- What one step, and each step of a call, leaves of the others.
use Rattle.std.proofs.Common.{◌≡◌, ◌≢◌, ℕ, ◌≤◌, if◌then◌else◌, Bool, true, false, Option, refl, sym, ap, ◌∙◌, subst, arith}
use Rattle.xp_words.specs.Machine.{Machine}
use Rattle.xp_words.specs.declared.place.Place.{Place}
use Rattle.xp_words.specs.declared.place.Place.TheVariants.{Clock, Life, Vcpu}
use Rattle.xp_words.specs.Places.{asked_of}
use Rattle.xp_board.specs.Acts.{left_by}
use Rattle.xp_board.specs.Steps.{is_same}
use Rattle.xp_board.specs.Told.{Post, PortValue, is_telling, told_word}
use Rattle.xp_board.specs.declared.step.Act.{Act}
use Rattle.xp_board.specs.declared.step.Mark.{Mark}
use Rattle.xp_board.specs.declared.step.StepKind.{StepKind}
use Rattle.xp_board.proofs.PlaceTests.{same_place}
use Rattle.step_maker.specs.Moves.{Moves}
use Rattle.step_maker.specs.Plain.{Words, change}
use Rattle.step_maker.proofs.Telling.{leaves, told_there}
use Rattle.turn_measures.specs.Measures.{LeavesOthers}

-- ---- one behind the other
pub same_leaves : (n : Machine) (s : ℕ) (m m' : Words) → ((q : Place) → m' q ≡ m q) → LeavesOthers n s m m'
same_leaves n s m m' same =
    record {
      words = λ t k off other. same (Vcpu t k);
      asked = λ t off. (let e = same (asked_of t) in omega (arith, e));
      lives = λ d. same (Life d);
      clock = (let e = same Clock in omega (arith, e));
    }

pub leaves_trans : (n : Machine) (s : ℕ) (a b c : Words) → LeavesOthers n s a b → LeavesOthers n s b c → LeavesOthers n s a c
leaves_trans n s a b c x y =
    record {
      words = λ t k off other. y.words t k off other ∙ x.words t k off other;
      asked = λ t off. (let p = x.asked t off in let q = y.asked t off in omega (arith, p, q));
      lives = λ d. y.lives d ∙ x.lives d;
      clock = (let p = x.clock in let q = y.clock in omega (arith, p, q));
    }

-- ---- one step, that found x
pub record Spares (s : ℕ) (p : Place) (a : Act) (x : ℕ) : Type 0 where
  pub words : (t k : ℕ) → t ≢ s → k ≢ 4 → p ≡ Vcpu t k → left_by a x ≡ x
  pub asked : (t : ℕ) → t ≢ s → p ≡ asked_of t → x ≤ left_by a x
  pub lives : (d : ℕ) → p ≡ Life d → left_by a x ≡ x
  pub clock : p ≡ Clock → x ≤ left_by a x

-- one word of all
word_goes : (R : ℕ → ℕ → Type 0) → ((x : ℕ) → R x x) → (a : Act) (p q : Place) (m : Words) → (q ≡ p → R (m p) (left_by a (m p))) → R (m q) (change a p m q)
word_goes R same a p q m on = by_test (is_same q p) (λ is. same_place q p is)
  where
    by_test : (b : Bool) → (b ≡ true → q ≡ p) → R (m q) (if b then left_by a (m p) else m q)
    by_test true is = subst (λ r. R (m r) (left_by a (m p))) (sym (is refl)) (on (is refl))
    by_test false is = same (m q)

changed_leaves : (n : Machine) (s : ℕ) (m : Words) (p : Place) (a : Act) → Spares s p a (m p) → LeavesOthers n s m (change a p m)
changed_leaves n s m p a spares =
    let at_most : (x : ℕ) → x ≤ x = λ x. omega arith in
    record {
      words = λ t k off other. word_goes (λ x y. y ≡ x) (λ x. refl) a p (Vcpu t k) m (λ is. spares.words t k off other (sym is));
      asked = λ t off. word_goes (λ x y. x ≤ y) at_most a p (asked_of t) m (λ is. spares.asked t off (sym is));
      lives = λ d. word_goes (λ x y. y ≡ x) (λ x. refl) a p (Life d) m (λ is. spares.lives d (sym is));
      clock = word_goes (λ x y. x ≤ y) at_most a p Clock m (λ is. spares.clock (sym is));
    }

-- words that a board tells
abbrev pub Spared : PortValue → PortValue → Type 0
Spared v w = LeavesOthers v.post.machine v.post.vcpu (told_word v) (told_word w)

pub step_leaves : (v w : PortValue) (p : Place) (a : Act) (kind : StepKind) (mark : Option Mark) (found : ℕ) → Moves v w p a kind mark found → is_telling v ≡ true → Spares v.post.vcpu p a found → Spared v w
step_leaves v w p a kind mark found m is spares =
    let n = v.post.machine in
    let s = v.post.vcpu in
    let here = told_there v w p a kind mark found m is in
    leaves_trans n s (told_word v) (change a p (told_word v)) (told_word w) (changed_leaves n s (told_word v) p a (subst (Spares s p a) (sym here) spares)) (same_leaves n s (change a p (told_word v)) (told_word w) (leaves v w p a kind mark found m is))

pub same_spared : (v w : PortValue) → w ≡ v → Spared v w
same_spared v w is = same_leaves v.post.machine v.post.vcpu (told_word v) (told_word w) (λ q. ap (λ (y : PortValue). told_word y q) is)

pub spared_trans : (v u w : PortValue) → u.post ≡ v.post → Spared v u → Spared u w → Spared v w
spared_trans v u w post x y =
    leaves_trans v.post.machine v.post.vcpu (told_word v) (told_word u) (told_word w) x (subst (λ (q : Post). LeavesOthers q.machine q.vcpu (told_word u) (told_word w)) post y)
