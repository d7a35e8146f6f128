-- What a step keeps, in its two halves: the mark changes the hand of its vCPU, and then the act changes a word
-- and the hand that the mark left.
use Rattle.std.specs.Prelude.{◌≡◌, ◌≢◌, ℕ, ◌<◌, Some, IsTrue}
use Rattle.xp_words.specs.Machine.{Machine}
use Rattle.xp_words.specs.declared.place.Place.{Place}
use Rattle.xp_words.specs.Places.{sizes_of, is_place}
use Rattle.xp_board.specs.declared.step.Step.{Step}
use Rattle.xp_board.specs.declared.holdings.Holdings.{Holdings}
use Rattle.xp_board.specs.Acts.{left_by}
use Rattle.xp_board.specs.Marks.{LegalMark, after_mark}
use Rattle.xp_board.specs.After.{noted, learned, after_act}
use Rattle.xp_board.specs.Legal.{LegalAs, WritesSpelling, needs_running}
use Rattle.xp_board.specs.Runs.{place_of}
use Rattle.xp_board.specs.Sound.{Sound}

-- ---- the mark
-- the mark of a step of vCPU s is legal
pub record MayMark (n : Machine) (x : Step) (h : Holdings) : Type 0 where
  pub legal : LegalMark n h x.kind x.mark

-- the hands before and after the mark
pub record Marked (n : Machine) (s : ℕ) (x : Step) (h b : ℕ → Holdings) : Type 0 where
  pub mine : b s ≡ after_mark n x.mark (h s)
  pub others : (t : ℕ) → t ≢ s → b t ≡ h t

-- P holds after each mark of a vCPU on a sound machine
abbrev pub KeepsMark : (Machine → (Place → ℕ) → (ℕ → Holdings) → Type 0) → Type 0
KeepsMark P =
    (n : Machine) (s : ℕ) (x : Step) (m : Place → ℕ) (h b : ℕ → Holdings) → s < (sizes_of n).vcpus → MayMark n x (h s) →
    Marked n s x h b → Sound n m h → P n m b

-- ---- the act
-- the act of a step of vCPU s is legal by the hand that the mark left
pub record MayAct (n : Machine) (s : ℕ) (x : Step) (b : Holdings) : Type 0 where
  pub place : IsTrue (is_place (sizes_of n) (place_of n x))
  pub running : IsTrue (needs_running x.kind) → b.run ≡ Some 0
  pub spelling : WritesSpelling n (place_of n x) x.act
  pub act : LegalAs n s b (place_of n x) x.act x.mark x.kind

-- the words and hands before and after the act
pub record Acted (n : Machine) (s : ℕ) (x : Step) (m m2 : Place → ℕ) (b c : ℕ → Holdings) : Type 0 where
  pub here : m2 (place_of n x) ≡ left_by x.act (m (place_of n x))
  pub elsewhere : (p : Place) → p ≢ place_of n x → m2 p ≡ m p
  pub mine : c s ≡ noted x (m (place_of n x))
      (learned s (place_of n x) (m (place_of n x)) (left_by x.act (m (place_of n x)))
      (after_act n s (place_of n x) x.act x.kind x.mark (m (place_of n x)) (b s)))
  pub others : (t : ℕ) → t ≢ s → c t ≡ b t

-- P holds after each act of a vCPU on a sound machine
abbrev pub KeepsAct : (Machine → (Place → ℕ) → (ℕ → Holdings) → Type 0) → Type 0
KeepsAct P =
    (n : Machine) (s : ℕ) (x : Step) (m m2 : Place → ℕ) (b c : ℕ → Holdings) → s < (sizes_of n).vcpus → MayAct n s x (b s) →
    Acted n s x m m2 b c → Sound n m b → P n m2 c
