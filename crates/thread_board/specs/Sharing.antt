-- The rule of the table: the steps of all seats are one run.
use Rattle.std.specs.Prelude.{◌≡◌, ℕ, ◌+◌, List, [], ◌∷◌, ◌++◌, take, drop, slice_index_or, replicate, length}
use mathlib.Core.Option.{some}
use lib.ListN.{get_elem?}
use Rattle.atomic_table.specs.Table.{State as Table, Me}
use Rattle.xp_words.specs.Places.{sizes_of, memory, run_of}
use Rattle.xp_board.specs.declared.step.Step.{Step}
use Rattle.xp_board.specs.declared.holdings.Holdings.{Holdings}
use Rattle.xp_board.specs.Hands.{empty}
use Rattle.xp_board.specs.After.{after}
use Rattle.xp_board.specs.Runs as runs
use Rattle.xp_board.specs.Told.{Finds, run_or}
use Rattle.thread_board.specs.Deeds.{Deed}
use Rattle.thread_board.specs.declared.rule.Opening.{Opening}
use Rattle.thread_board.specs.declared.rule.SharedView.{SharedView}

-- the view of one vCPU's seat
abbrev pub one : ℕ → Holdings → SharedView
one s h = record { from = s; hands = h ∷ [] }

abbrev pub hold_of : SharedView → Holdings
hold_of v = slice_index_or v.hands 0 empty

abbrev pub nobody : SharedView
nobody = record { from = 0; hands = [] }

abbrev pub all_hands : Opening → SharedView
all_hands o = record { from = 0; hands = replicate (sizes_of o.layout).vcpus empty }

abbrev pub first_view : SharedView → SharedView
first_view v = record { from = v.from; hands = take 1 v.hands }

abbrev pub rest_of : SharedView → SharedView
rest_of v = record { from = v.from + 1; hands = drop 1 v.hands }

abbrev pub joined_views : SharedView → SharedView → SharedView
joined_views v w = record { from = v.from; hands = v.hands ++ w.hands }

-- what a view says is so, of vCPUs that are its seat's
abbrev pub Fits : (ℕ → ℕ) → List Holdings → ℕ → SharedView → Type 0
Fits owner hands j v = (k : ℕ) (h : Holdings) → get_elem? v.hands k ≡ some h → (owner (v.from + k) ≡ j) × (get_elem? hands (v.from + k) ≡ some h)

-- there is a run from the opening words to the words and the hands of now, and each view has the hands of its vCPUs
pub record Kept (o : Opening) (t : Table (Unit {0}) SharedView) : Type 0 where
  pub log : List (ℕ × Step)
  pub hands : List Holdings
  pub owner : ℕ → ℕ
  pub run : runs.Run o.layout (runs.start o.layout o.words) log (record { words = t.words; hands = hands })
  pub many : length hands ≡ (sizes_of o.layout).vcpus
  pub each : (j : ℕ) (v : SharedView) → get_elem? t.views j ≡ some v → Fits owner hands j v

abbrev pub deed_of : Opening → ℕ → Step → Deed
deed_of o s x = record { machine = o.layout; opening = o.words; vcpu = s; step = x }

-- what a step tells: its word is one of a sound state, the own run word is as it was last found or left, and the hand goes on
pub record DidShare (d : Deed) (me : Me (Unit {0}) SharedView) (found : ℕ) (you : Me (Unit {0}) SharedView) : Type 0 where
  pub finds : Finds d.machine d.vcpu (hold_of me.0) (runs.place_of d.machine d.step) found
  pub own : runs.place_of d.machine d.step ≡ run_of d.vcpu → found ≡ run_or (memory (sizes_of d.machine) d.opening (run_of d.vcpu)) (hold_of me.0).run
  pub applied : you.0 ≡ one d.vcpu (after d.machine d.vcpu (hold_of me.0) d.step found)
  pub slots : you.1 ≡ me.1
