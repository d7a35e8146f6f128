-- A shared board and its passes as contracts see them.
use Rattle.std.specs.Prelude.{◌≡◌, ℕ, ◌<◌, ◌∷◌, List, length, map}
use mathlib.Core.Option.{some}
use lib.ListN.{get_elem?}
use Rattle.atomic_table.specs.Seated.{TableId}
use Rattle.xp_words.specs.Machine.{Machine}
use Rattle.xp_words.specs.Places.{sizes_of, memory, run_of}
use Rattle.xp_board.specs.declared.step.Step.{Step}
use Rattle.xp_board.specs.declared.holdings.Holdings.{Holdings}
use Rattle.xp_board.specs.declared.step.Item.{Item}
use Rattle.xp_board.specs.Hands.{empty}
use Rattle.xp_board.specs.Lists.{Member}
use Rattle.xp_board.specs.After.{after}
use Rattle.xp_board.specs.Runs.{place_of}
use Rattle.xp_board.specs.Told.{Finds, run_or}

pub record PassValue : Type 0 where
  pub table : TableId
  pub vcpu : ℕ
  pub holdings : Holdings

-- the words are those with which it opened
pub record BoardValue : Type 0 where
  pub table : TableId
  pub machine : Machine
  pub opening : List ℕ

-- a pass of that board
pub record IsPassOf (b : BoardValue) (p : PassValue) : Type 0 where
  pub table : p.table ≡ b.table
  pub vcpu : p.vcpu < (sizes_of b.machine).vcpus
  pub inside : (x : Item) → Member x p.holdings.cache → x.frame < b.machine.frames

-- what a step of a pass gives
pub record PassSteps (b : BoardValue) (p : PassValue) (x : Step) (found : ℕ) (q : PassValue) : Type 0 where
  pub finds : Finds b.machine p.vcpu p.holdings (place_of b.machine x) found
  pub own : place_of b.machine x ≡ run_of p.vcpu → found ≡ run_or (memory (sizes_of b.machine) b.opening (run_of p.vcpu)) p.holdings.run
  pub listed : q.holdings.steps ≡ record { step = x; found = found } ∷ p.holdings.steps
  pub value : q ≡ record { table = p.table; vcpu = p.vcpu; holdings = after b.machine p.vcpu p.holdings x found }
  pub pass : IsPassOf b q

-- passes of vCPUs from the first, with nothing in hand
abbrev pub opened_pass : TableId → ℕ → PassValue
opened_pass t s = record { table = t; vcpu = s; holdings = empty }

abbrev pub AreOpened : TableId → List PassValue → Type 0
AreOpened t passes = (k : ℕ) → k < length passes → get_elem? passes k ≡ some (opened_pass t k)

-- passes of this table, of the vCPUs in order
abbrev pub AreOf : TableId → List PassValue → Type 0
AreOf t passes = (k : ℕ) (p : PassValue) → get_elem? passes k ≡ some p → (p.table ≡ t) × (p.vcpu ≡ k)

abbrev pub held_by : List PassValue → List Holdings
held_by passes = map (λ p. p.holdings) passes
