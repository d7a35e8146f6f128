-- Frames that become a domain's, and what they hold.
use Rattle.std.specs.Prelude.{◌≡◌, ◌≢◌, ℕ, ◌<◌, Bool, List, ◌∷◌, ◌++◌, Some}
use Rattle.xp_words.specs.Machine.{Machine}
use Rattle.xp_words.specs.Places.{sizes_of}
use Rattle.xp_words.specs.RefWords.{ref_read}
use Rattle.xp_words.specs.declared.place.Place.{Place}
use Rattle.xp_words.specs.declared.place.Place.TheVariants.{Refs, Cell}
use Rattle.xp_words.specs.declared.refs.RefWord.TheVariants.{Owned}
use Rattle.xp_board.specs.Acts.{left_by}
use Rattle.xp_board.specs.Reach.{Path, Reach, Use}
use Rattle.xp_board.specs.Recorded.{named}
use Rattle.xp_board.specs.Runs.{Run, State, StepsTo, place_of, word_at}
use Rattle.xp_board.specs.declared.holdings.Holdings.{Holdings}
use Rattle.xp_board.specs.declared.step.Act.TheVariants.{Store}
use Rattle.xp_board.specs.declared.step.Step.{Step}

-- the step gives frame f to domain d: it stores an owned word
pub record GivesFrame (n : Machine) (x : Step) (f d : ℕ) : Type 0 where
  pub place : place_of n x ≡ Refs f
  pub new : ℕ
  pub act : x.act ≡ Store new
  pub allocated : Bool
  pub count : ℕ
  pub owned : ref_read new ≡ Some (Owned d allocated count)

-- all cells are 0; no path of page tables, no translation and no walk in flight of a vCPU leads to the frame; and no entry, word, mark or hand refers to it
pub record IsClean (n : Machine) (m : Place → ℕ) (h : ℕ → Holdings) (f : ℕ) : Type 0 where
  pub cells : (i : ℕ) → i < 512 → m (Cell f i) ≡ 0
  pub pathless : (v : ℕ) (writable : Bool) → v < (sizes_of n).vcpus → Path (sizes_of n) m v writable f → ⊥
  pub unreached : (v : ℕ) (u : Use) → v < (sizes_of n).vcpus → Reach (sizes_of n) m (h v) f u → ⊥
  pub unnamed : named (sizes_of n) m h f ≡ 0

-- one of the steps of a run from state a changed the word at p to that word; it was legal in the state that those before it had led to
pub record WroteIn (n : Machine) (a : State) (log : List (ℕ × Step)) (p : Place) (w : ℕ) : Type 0 where
  pub early : List (ℕ × Step)
  pub late : List (ℕ × Step)
  pub before : State
  pub behind : State
  pub vcpu : ℕ
  pub step : Step
  pub one : log ≡ late ++ (vcpu, step) ∷ early
  pub run : Run n a early before
  pub steps : StepsTo n before vcpu step behind
  pub place : place_of n step ≡ p
  pub other : word_at n before p ≢ w
  pub left : left_by step.act (word_at n before p) ≡ w
