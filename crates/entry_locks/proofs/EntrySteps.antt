-- When an entry of a table under the own lock may be stored, and what that leaves in hand.
use Rattle.std.proofs.Common.{◌≢◌, ℕ, ◌^◌, ◌<◌, ◌==◌, if◌then◌else◌, None, Result, Ok, Err, IfErr, MatchResult, ap, ◌∙◌}
use Rattle.xp_words.specs.declared.place.Place.TheVariants.{Cell}
use Rattle.xp_words.specs.Places.{sizes_of}
use Rattle.xp_words.proofs.Shared.{eq_false as when_ne}
use Rattle.xp_board.specs.declared.step.Act.TheVariants.{Cas, Store}
use Rattle.xp_board.specs.declared.step.StepKind.TheVariants as kinds
use Rattle.xp_board.specs.Acts.{left_by}
use Rattle.xp_board.specs.After.{learned_cell}
use Rattle.xp_board.specs.CellSteps.{exchanged}
use Rattle.xp_board.specs.Hands.{lock_on}
use Rattle.xp_board.specs.Spelling.{IsSpelling}
use Rattle.xp_board.specs.Told.{PortValue}
use Rattle.xp_board.proofs.Numbers.{cell_there}
use Rattle.xp_board.proofs.Sums.{if_itself}
use Rattle.step_maker.specs.Holds.{Holds, MayWork, still}
use Rattle.step_maker.specs.Moves.{May, Moves, found_by}
use Rattle.entry_locks.specs.Entries.{MayStoreEntry, MaySwapEntry, entry_set, entry_unset}

module _ (v : PortValue) (f i : ℕ) (frame : f < v.post.machine.frames) (index : i < 512) (may : MayWork v) where
  pub may_store : (new : ℕ) → new < 2 ^ 64 → MayStoreEntry v.post.machine f i new v.holdings → May v (Cell f i) (Store new) kinds.Cell None
  unfolding IsSpelling
  may_store new small stores =
      record { place = cell_there (sizes_of v.post.machine) f i frame index; marked = tt; running = λ needs. may.running; spelling = small; act = rw stores.here stores.may }

  pub may_swap : (e new : ℕ) → new < 2 ^ 64 → MaySwapEntry v.post.machine f i e new v.holdings → May v (Cell f i) (Cas e new) kinds.Cell None
  unfolding IsSpelling
  may_swap e new small swaps =
      record { place = cell_there (sizes_of v.post.machine) f i frame index; marked = tt; running = λ needs. may.running; spelling = small; act = rw swaps.here swaps.may }

module _ (v w : PortValue) (f i : ℕ) where
  pub store_hand : (new found : ℕ) → Moves v w (Cell f i) (Store new) kinds.Cell None found → Holds v w (entry_set f i new found v.holdings)
  unfolding left_by
  store_hand new found m = ap still m.to

  swapped : (e new : ℕ) → Moves v w (Cell f i) (Cas e new) kinds.Cell None e → Holds v w (entry_set f i new e v.holdings)
  unfolding left_by
  swapped e new m =
      ap still m.to
      ∙ ap (λ y. still (record v { holdings = learned_cell f i y (if e == e then exchanged i new e (lock_on f v.holdings.locks) v.holdings else v.holdings) })) (if_itself e new e)
      ∙ ap (λ h. still (record v { holdings = learned_cell f i new h })) (if_itself e (exchanged i new e (lock_on f v.holdings.locks) v.holdings) v.holdings)

  unswapped : (e new found : ℕ) → Moves v w (Cell f i) (Cas e new) kinds.Cell None found → found ≢ e → Holds v w (entry_unset f i found v.holdings)
  unfolding left_by
  unswapped e new found m off =
      ap still m.to
      ∙ ap (λ b. still (record v { holdings = learned_cell f i (if b then new else found) (if b then exchanged i new found (lock_on f v.holdings.locks) v.holdings else v.holdings) })) (when_ne found e off)

  pub swap_hand : (e new : ℕ) (r : Result (Unit {0}) ℕ) → Moves v w (Cell f i) (Cas e new) kinds.Cell None (found_by e r) → IfErr r (λ found. found ≢ e) →
      MatchResult r (λ done. Holds v w (entry_set f i new e v.holdings)) (λ found. Holds v w (entry_unset f i found v.holdings))
  swap_hand e new (Ok done) m off = swapped e new m
  swap_hand e new (Err found) m off = unswapped e new found m off
