-- A vCPU that is alone: its board tells all words and hands, and no other vCPU holds anything.
use Rattle.std.specs.Prelude.{◌≡◌, ◌≢◌, ℕ, ◌<◌, Some}
use Rattle.xp_words.specs.Places.{sizes_of}
use Rattle.xp_words.specs.declared.reply.Pause.{Pause}
use Rattle.xp_words.specs.declared.reply.Pause.TheVariants.{Due, Flush}
use Rattle.xp_board.specs.Hands.{IsEmptyHand}
use Rattle.xp_board.specs.Sound.{SoundState, hand_of}
use Rattle.xp_board.specs.Told.{PortValue, Story}

pub record IsAlone (v : PortValue) : Type 0 where
  pub story : Story
  pub telling : v.told ≡ Some story
  -- what it tells is sound
  pub state : SoundState v.post.machine story.words story.hands
  -- the own hand is the one that it tells
  pub mine : hand_of story.hands v.post.vcpu ≡ v.holdings
  pub others : (t : ℕ) → t < (sizes_of v.post.machine).vcpus → t ≢ v.post.vcpu → IsEmptyHand (hand_of story.hands t)

-- the gate said yes, or another vCPU has still to flush
abbrev pub IsDueOrFlush : Pause → Type 0
IsDueOrFlush Due = Unit {0}
IsDueOrFlush (Flush v stamp found) = Unit {0}
IsDueOrFlush _ = ⊥
