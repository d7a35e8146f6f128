-- When a lock may be set and cleared, and what that leaves in hand.
use Rattle.std.proofs.Common.{◌≡◌, ◌≢◌, ℕ, ◌+◌, ◌^◌, ◌<◌, false, Some, None, Result, Ok, Err, IfErr, MatchResult, IsTrue, refl, arith, lit<, inr}
use Rattle.std.proofs.lemmas.Bool.Decides.{nat_tests}
use Rattle.xp_words.specs.Machine.{Machine}
use Rattle.xp_words.specs.declared.kind.KindWord.{KindWord}
use Rattle.xp_words.specs.declared.place.Place.TheVariants.{Kind}
use Rattle.xp_words.specs.KindWords.{is_kind, kind_write}
use Rattle.xp_words.specs.Places.{sizes_of}
use Rattle.xp_board.specs.declared.step.Act.TheVariants.{Cas, Add}
use Rattle.xp_board.specs.declared.step.StepKind.TheVariants as kinds
use Rattle.xp_board.specs.Hands.{locks_on}
use Rattle.xp_board.specs.KindSteps.{Locks, MayLock, kind_row, locked_kind, unlocked_down}
use Rattle.xp_board.specs.Readings.{is_live}
use Rattle.xp_board.specs.Spelling.{IsSpelling, is_kind_in}
use Rattle.xp_board.specs.Told.{PortValue}
use Rattle.step_maker.specs.Holds.{Holds, MayWork}
use Rattle.step_maker.specs.Moves.{May, Moves, found_by}
use Rattle.kind_words.specs.Kinds.{looked_at}
use Rattle.kind_words.proofs.RowSteps.{exchanged, kind_there, may_exchange, unexchanged}
use Rattle.entry_locks.specs.Locks.{took_lock}
use Rattle.entry_locks.proofs.LockWriting.{locked_is}

lock_row : (k : KindWord) → IsTrue (is_live k) → k.locked ≡ false → kind_row k (locked_kind k) ≡ Locks
lock_row k live off = grind (arith, nat_tests)

locked_fits : (n : Machine) (k : KindWord) → k.number < n.limit → IsTrue (is_kind_in n (Some (locked_kind k)))
locked_fits n k low = grind (arith, nat_tests)

module _ (v : PortValue) (f : ℕ) (k : KindWord) (may : MayWork v) (is : IsTrue (is_kind k)) (locks : MayLock v.post.machine f k (locked_kind k) v.holdings) where
  pub few : k.number + 1 < 2 ^ 26
  few = let most = may.machine.few_counts in let below = locks.below in omega (arith, most, below)

  pub locked_spelled : IsTrue (is_kind (locked_kind k))
  locked_spelled = locked_is k is locks.live locks.table locks.counted few

  pub may_lock : (e n : ℕ) → f < v.post.machine.frames → e ≡ kind_write k → n ≡ kind_write (locked_kind k) → May v (Kind f) (Cas e n) kinds.Kind None
  may_lock e n frame = may_exchange v f k (locked_kind k) Locks is locked_spelled (lock_row k locks.live locks.unlocked) e n frame may (locked_fits v.post.machine k locks.below) locks

  pub lock_hand : (w : PortValue) (e n : ℕ) (r : Result (Unit {0}) ℕ) → e ≡ kind_write k → n ≡ kind_write (locked_kind k) → Moves v w (Kind f) (Cas e n) kinds.Kind None (found_by e r) → IfErr r (λ found. found ≢ e) →
      MatchResult r (λ done. Holds v w (took_lock f k v.holdings)) (λ found. Holds v w (looked_at f found v.holdings))
  lock_hand w e n (Ok done) is_e is_n m off = exchanged v f k (locked_kind k) Locks is locked_spelled (lock_row k locks.live locks.unlocked) w e n is_e is_n m
  lock_hand w e n (Err found) is_e is_n m off = unexchanged v w f _ _ found m off

-- the lock goes off with its type count
pub may_unlock : (v : PortValue) (f : ℕ) → f < v.post.machine.frames → MayWork v → 0 < locks_on f v.holdings.locks → May v (Kind f) (Add unlocked_down) kinds.Kind None
unfolding IsSpelling
may_unlock v f frame may held =
    record { place = kind_there (sizes_of v.post.machine) f frame; marked = tt; running = λ needs. may.running; spelling = lit< tt; act = inr (refl, held) }
