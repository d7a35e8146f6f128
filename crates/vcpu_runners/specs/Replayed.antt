-- A whole run in threads: which turns each vCPU made, and that the steps of all of them are one run.
use Rattle.std.specs.Prelude.{◌≡◌, ℕ, true, false, List, length, slice_get, Option, Some}
use Rattle.xp_words.specs.Places.{memory, sizes_of}
use Rattle.xp_board.specs.declared.holdings.Holdings.{Holdings}
use Rattle.xp_board.specs.Hands.{empty}
use Rattle.xp_board.specs.Sound.{SoundWords, hand_of}
use Rattle.xp_board.specs.Told.{PortValue}
use Rattle.thread_board.specs.OneRun.{OneRun}
use Rattle.thread_board.specs.Ports.{pass_port}
use Rattle.thread_board.specs.Values.{BoardValue}
use Rattle.vcpu_turn.specs.Cpus.{Processing}
use Rattle.vcpu_turn.specs.Turning.{IsOf}
use Rattle.vcpu_runners.specs.Cpus.{AreShort}
use Rattle.vcpu_runners.specs.Destroyed.{AreDestroyed}
use Rattle.vcpu_runners.specs.Runners.{TakesTurn}
use Rattle.xp_preempt.specs.Gates.{Gate}

-- Turns of one vCPU, one behind the other, each by its own gate. A vCPU that is retired makes none.
pub data TookTurns (has : Gate) (c : Processing) (v : PortValue) : Gate → Processing → PortValue → Type 0 where
  none : TookTurns has c v has c v
  more : (mid left : Gate) (d c' : Processing) (u w : PortValue) → TookTurns has c v mid d u → d.retired ≡ false → TakesTurn mid left d c' u w → TookTurns has c v left c' w

-- the port of vCPU s on a board of threads, when it holds this
abbrev pub port_with : BoardValue → ℕ → ℕ → Holdings → PortValue
port_with b s lender h = pass_port b (record { table = b.table; vcpu = s; holdings = h }) lender

-- vCPU s made turns from its first, with nothing in hand and with the gate that it has, to the one that retired it, behind which it had this hand and this
-- gate left
pub record RanToItsEnd (b : BoardValue) (s : ℕ) (has left : Option Gate) (first last : Processing) (hand : Holdings) : Type 0 where
  pub gate : Gate
  pub asked : Gate
  pub own : has ≡ Some gate
  pub left_is : left ≡ Some asked
  pub lender : ℕ
  pub turns : TookTurns gate first (port_with b s lender empty) asked last (port_with b s lender hand)
  pub retired : last.retired ≡ true

-- Each vCPU made its own turns to its end, at any pace beside the others. One list of legal steps of all vCPUs leads from the opening
-- words to these: the steps of each vCPU on it are those that its turns made, each found the word that stood there then, and between any two of them
-- the machine is sound and safe.
pub record RanInThreads (b : BoardValue) (gates : List Gate) (first : List Processing) (words : List ℕ) (left : List Gate) (last : List Processing) : Type 0 where
  pub hands : List Holdings
  pub run : OneRun b.machine b.opening words hands
  pub count : length hands ≡ (sizes_of b.machine).vcpus
  pub all : length last ≡ length first
  pub each : (s : ℕ) (c c' : Processing) → slice_get first s ≡ Some c → slice_get last s ≡ Some c' → RanToItsEnd b s (slice_get gates s) (slice_get left s) c c' (hand_of hands s)
  -- the closing words are sound with empty hands
  pub sound : SoundWords b.machine words
  -- what was destroyed left there what it listed, and nothing else
  pub destroyed : AreDestroyed b.machine (memory (sizes_of b.machine) words) (hand_of hands) last

-- the vCPUs of a board before their first turn, one for each of its passes
pub record AreFirst (b : BoardValue) (cpus : List Processing) : Type 0 where
  pub all : length cpus ≡ (sizes_of b.machine).vcpus
  pub short : AreShort cpus
  pub of : (s lender : ℕ) (c : Processing) → slice_get cpus s ≡ Some c → IsOf (port_with b s lender empty) c × (c.retired ≡ false)
