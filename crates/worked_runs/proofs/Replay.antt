-- Steps of two vCPUs, made one after the other: the word that each finds, and what both hold, are computed.
use Rattle.std.proofs.Common.{◌≡◌, ◌≢◌, ℕ, ◌<◌, ◌&&◌, ◌||◌, zero, suc, Bool, true, false, List, [], ◌∷◌, Option, None, IsTrue, refl, sym, ap, ◌∙◌, arith}
use Rattle.xp_words.specs.Machine.{Machine}
use Rattle.xp_words.specs.declared.place.Place.{Place}
use Rattle.xp_words.specs.Places.{Sizes, is_place, number, sizes_of}
use Rattle.xp_board.specs.declared.step.Step.{Step}
use Rattle.xp_board.specs.declared.step.Act.{Act}
use Rattle.xp_board.specs.declared.step.Act.TheVariants.{Load}
use Rattle.xp_board.specs.declared.step.Mark.{Mark}
use Rattle.xp_board.specs.declared.step.StepKind.{StepKind}
use Rattle.xp_board.specs.declared.step.StepKind.TheVariants as kinds
use Rattle.xp_board.specs.declared.holdings.Holdings.{Holdings}
use Rattle.xp_board.specs.declared.holdings.Made.{Made}
use Rattle.xp_board.specs.Acts.{left_by}
use Rattle.xp_board.specs.Steps.{is_same, is_at, left_of, some_step, some_since}
use Rattle.xp_board.specs.Hands.{empty}
use Rattle.xp_board.specs.After.{after}
use Rattle.xp_board.specs.Legal.{Legal, LegalMove}
use Rattle.xp_board.specs.Runs.{Stepped, place_of}
use Rattle.xp_board.proofs.PlaceTests.{is_same-refl, is_same-other}

-- ---- words and hands at one moment
pub record Written : Type 0 where
  pub place : Place
  pub word : ℕ

-- the newest word that was written at a place counts, and 0 where none was
pub record Moment : Type 0 where
  pub written : List Written
  pub first : Holdings
  pub second : Holdings

abbrev pub word_by : List Written → Place → ℕ
word_by [] p = 0
word_by (x ∷ xs) p = elim (is_same x.place p) [ true ↦ x.word | false ↦ word_by xs p ]

abbrev pub words : Moment → Place → ℕ
words a p = word_by a.written p

abbrev pub hands : Moment → ℕ → Holdings
hands a zero = a.first
hands a (suc zero) = a.second
hands a (suc (suc s)) = empty

-- ---- steps
abbrev pub step : Machine → Place → Act → StepKind → Option Mark → Step
step n p act kind mark = record { place = number (sizes_of n) p; act = act; kind = kind; mark = mark }

abbrev pub with_hand : Moment → ℕ → Holdings → Moment
with_hand a zero h = record a { first = h }
with_hand a (suc zero) h = record a { second = h }
with_hand a (suc (suc s)) h = a

abbrev pub with_word : Moment → Place → ℕ → Moment
with_word a p w = record a { written = record { place = p; word = w } ∷ a.written }

abbrev pub found_by : Machine → Moment → ℕ → Step → ℕ → Moment
found_by n a s x w = with_word (with_hand a s (after n s (hands a s) x w)) (place_of n x) (left_by x.act w)

abbrev pub next : Machine → Moment → ℕ → Step → Moment
next n a s x = found_by n a s x (words a (place_of n x))

-- the vCPU of each step, and the newest first
abbrev pub played : Machine → Moment → List (ℕ × Step) → Moment
played n a [] = a
played n a (e ∷ es) = next n (played n a es) e.0 e.1

-- each of them is legal by what its vCPU then has in hand
abbrev pub AreLegal : Machine → Moment → List (ℕ × Step) → Type 0
AreLegal n a [] = Unit {0}
AreLegal n a (e ∷ es) = AreLegal n a es × Legal n e.0 (hands (played n a es) e.0) e.1

pub look_is_legal : (n : Machine) (s : ℕ) (h : Holdings) (p : Place) → IsTrue (is_place (sizes_of n) p) → LegalMove n s h p Load kinds.Look None
look_is_legal n s h p real = record { place = real; marked = tt; running = λ needs. absurd cc; spelling = tt; act = tt }

-- ---- what was never found
abbrev pub is_ever : Sizes → Place → (ℕ → Bool) → List Made → Bool
is_ever z p test steps = some_step (λ k x. is_at z p x && test (left_of x)) steps

or_either : (b a r s : Bool) → (r ≡ true → s ≡ true) → ((b && a) || r) ≡ true → (a || s) ≡ true
or_either true true r s f h = refl
or_either true false r s f h = f h
or_either false true r s f h = refl
or_either false false r s f h = f h

-- from whatever step on
pub since_ever : (z : Sizes) (n : ℕ) (p : Place) (test : ℕ → Bool) (xs : List Made) → some_since z n p test xs ≡ true → is_ever z p test xs ≡ true
unfolding some_step
since_ever z n p test [] h = h
since_ever z n p test (x ∷ xs) h = or_either _ (is_at z p x && test (left_of x)) (some_since z n p test xs) (is_ever z p test xs) (since_ever z n p test xs) h

-- ---- such a step is one step of the definitions
word_here : (xs : List Written) (p : Place) (w : ℕ) → word_by (record { place = p; word = w } ∷ xs) p ≡ w
word_here xs p w = rw (is_same-refl p, word_by) refl

word_elsewhere : (xs : List Written) (p q : Place) (w : ℕ) → p ≢ q → word_by (record { place = p; word = w } ∷ xs) q ≡ word_by xs q
word_elsewhere xs p q w other = rw (is_same-other p q other, word_by) refl

written_same : (a : Moment) (s : ℕ) (h : Holdings) → (with_hand a s h).written ≡ a.written
written_same a zero h = refl
written_same a (suc zero) h = refl
written_same a (suc (suc s)) h = refl

hand_mine : (a : Moment) (s : ℕ) (h : Holdings) (p : Place) (w : ℕ) → s < 2 → hands (with_word (with_hand a s h) p w) s ≡ h
hand_mine a zero h p w real = refl
hand_mine a (suc zero) h p w real = refl
hand_mine a (suc (suc s)) h p w real = absurd (omega arith)

hand_other : (a : Moment) (s t : ℕ) (h : Holdings) (p : Place) (w : ℕ) → t ≢ s → hands (with_word (with_hand a s h) p w) t ≡ hands a t
hand_other a zero zero h p w other = absurd (other refl)
hand_other a zero (suc zero) h p w other = refl
hand_other a zero (suc (suc t)) h p w other = refl
hand_other a (suc zero) zero h p w other = refl
hand_other a (suc zero) (suc zero) h p w other = absurd (other refl)
hand_other a (suc zero) (suc (suc t)) h p w other = refl
hand_other a (suc (suc s)) zero h p w other = refl
hand_other a (suc (suc s)) (suc zero) h p w other = refl
hand_other a (suc (suc s)) (suc (suc t)) h p w other = refl

pub next_steps : (n : Machine) (a : Moment) (s : ℕ) (x : Step) → s < 2 → Stepped n s x (words a) (words (next n a s x)) (hands a) (hands (next n a s x))
next_steps n a s x real =
    let w = words a (place_of n x) in
    let h = after n s (hands a s) x w in
    record {
      here = word_here (with_hand a s h).written (place_of n x) (left_by x.act w);
      elsewhere = λ p other. word_elsewhere (with_hand a s h).written (place_of n x) p (left_by x.act w) (λ e. other (sym e)) ∙ ap (λ xs. word_by xs p) (written_same a s h);
      mine = hand_mine a s h (place_of n x) (left_by x.act w) real;
      others = λ t other. hand_other a s t h (place_of n x) (left_by x.act w) other;
    }
