-- Boards and their vCPUs between turns, and how much is to be done there.
use Rattle.std.specs.Prelude.{◌≡◌, ◌≢◌, ℕ, ◌+◌, ◌-◌, ◌*◌, ◌<◌, All, List, true, length, slice_get, sum_by, None, Some}
use Rattle.std.specs.List.{range_with_len}
use Rattle.xp_words.specs.Machine.{IsMachine, Machine}
use Rattle.xp_words.specs.Places.{memory, run_of, sizes_of}
use Rattle.xp_words.specs.declared.ops.Op.{Op}
use Rattle.xp_words.specs.declared.place.Place.TheVariants.{Clock}
use Rattle.xp_board.specs.Hands.{IsEmptyHand}
use Rattle.xp_board.specs.Readings.{last_clock}
use Rattle.xp_board.specs.Sound.{SoundState, hand_of}
use Rattle.step_maker.specs.Plain.{Words}
use Rattle.frame_ranks.specs.Ranks.{AreAllAlive, rank_at}
use Rattle.turn_measures.specs.Measures.{DestroysNothing, IsWithin, KeepsLeft, ahead, left_rank, most_left, olds_named}
use Rattle.vcpu_turn.specs.Cpus.{Processing, next_of}
use Rattle.xp_machine.specs.Turns.{Stage}

abbrev pub words_of : Machine → Stage → Words
words_of n s = memory (sizes_of n) s.board.words

-- ---- between turns
abbrev pub IsSparing : Op → Type 0
IsSparing op = DestroysNothing (Some op)

-- a script without destructions
abbrev pub AreSparing : List Op → Type 0
AreSparing script = All IsSparing script

-- No more elements and calls of its operation are done than there are; what is left is of a frame that its first old word names; and a vCPU that is retired does not run, and has answered all.
pub record IsSteadyCpu (m : Words) (t : ℕ) (c : Processing) : Type 0 where
  pub within : IsWithin c
  pub left : KeepsLeft m t c.left
  pub stopped : c.retired ≡ true → m (run_of t) ≢ 0
  pub ended : c.retired ≡ true → next_of c ≡ None
  -- no operation of its script destroys a domain
  pub spares : AreSparing c.script

-- The words are sound, nobody has anything in hand, and no domain is dying.
pub record IsSteady (n : Machine) (s : Stage) : Type 0 where
  pub machine : IsMachine n
  pub state : SoundState n s.board.words s.board.hands
  pub hands : length s.board.hands ≡ (sizes_of n).vcpus
  pub empty : (t : ℕ) → t < (sizes_of n).vcpus → IsEmptyHand (hand_of s.board.hands t)
  pub all : length s.cpus ≡ (sizes_of n).vcpus
  pub each : (t : ℕ) (c : Processing) → slice_get s.cpus t ≡ Some c → IsSteadyCpu (words_of n s) t c
  pub alive : AreAllAlive n (words_of n s)

-- ---- how much is to be done
-- operations, elements and retirements
abbrev pub ahead_all : Stage → ℕ
ahead_all s = sum_by ahead s.cpus

-- old words that name a frame
abbrev pub olds_all : Machine → Stage → ℕ
olds_all n s = sum_by (olds_named (words_of n s)) (range_with_len 0 (sizes_of n).vcpus)

-- what is left of what they name
abbrev pub left_all : Stage → ℕ
left_all s = sum_by (λ c. left_rank c.left) s.cpus

-- how far all frames are from being live
abbrev pub ranks_open : Machine → Words → ℕ
ranks_open n m = sum_by (λ f. 515 - rank_at m f) (range_with_len 0 n.frames)

-- The first of these that differs decides.
abbrev pub put_together : Machine → ℕ → ℕ → ℕ → ℕ → ℕ
put_together n ahead olds left ranks =
    ((ahead * (2 * (sizes_of n).vcpus + 1) + olds) * ((sizes_of n).vcpus * most_left + 1) + left) * (515 * n.frames + 1) + ranks

abbrev pub to_go : Machine → Stage → ℕ
to_go n s = put_together n (ahead_all s) (olds_all n s) (left_all s) (ranks_open n (words_of n s))

-- so often the clock may still go on
abbrev pub ticks_to_go : Machine → Stage → ℕ
ticks_to_go n s = last_clock - words_of n s Clock
