-- A board and its vCPUs between two turns.
use Rattle.std.specs.Prelude.{◌≡◌, ◌<◌, ℕ, List, length, slice_get, Some}
use Rattle.xp_words.specs.Places.{sizes_of}
use Rattle.xp_words.specs.declared.ops.Op.{Op}
use Rattle.xp_board.specs.Readings.{domain_of}
use Rattle.xp_board.specs.Sound.{SoundState}
use Rattle.shared_board.specs.Board.{Board, port_value}
pub use Rattle.vcpu_runners.specs.Turns.{Idles, IsOf, Processing, fresh}
use Rattle.vcpu_runners.specs.Cpus.{AreShort}

-- The words and hands are sound. There is one vCPU for each vCPU. It idles, and unless it is retired it runs.
pub record Ready (b : Board) (cpus : List Processing) : Type 0 where
  pub all : length cpus ≡ (sizes_of b.machine).vcpus
  pub hands : length b.story.hands ≡ (sizes_of b.machine).vcpus
  pub short : AreShort cpus
  pub sound : SoundState b.machine b.story.words b.story.hands
  pub of : (v : ℕ) (c : Processing) → slice_get cpus v ≡ Some c → IsOf (port_value b v) c

-- a vCPU with any script may begin on this board
unfoldable pub TakesFresh : Board → Type 0
TakesFresh b = (v : ℕ) (script : List Op) → v < (sizes_of b.machine).vcpus → IsOf (port_value b v) (fresh b.machine.frames v (domain_of b.machine v) script)
