-- A block that was found wholly free.
use Rattle.std.specs.Prelude.{◌≡◌, true, false, ℕ, ◌+◌, ◌%◌, ◌^◌, ◌<◌, ◌≤◌, max, List, [], ◌∷◌, length, slice_index, Some}
use Rattle.xp_words.specs.Places.{sizes_of}
use Rattle.xp_words.specs.RefWords.{ref_read}
use Rattle.xp_words.specs.declared.refs.RefWord.TheVariants.{Free}
use Rattle.xp_board.specs.declared.holdings.Holdings.{Holdings}
use Rattle.xp_board.specs.Told.{PortValue}
use Rattle.step_maker.specs.Holds.{Same}
use Rattle.xp_words.specs.declared.place.Place.{Place}
use Rattle.xp_words.specs.declared.place.Place.TheVariants.{Refs}
use Rattle.xp_board.specs.Readings.{is_free}
use Rattle.xp_board.specs.Steps.{last_since}
use Rattle.step_maker.specs.Moves.{Met}
use Rattle.step_maker.specs.Finding.{FoundAt, FoundWith}
use Rattle.step_maker.specs.Licences.{HasTakenAll}
use Rattle.step_maker.specs.Answers.{Serves}
use Rattle.step_maker.specs.Asked.{Request}
use Rattle.flush_waits.specs.Waiting.{HadFree}
use Rattle.frame_claims.specs.declared.choosing.Chosen.{Chosen}

-- the word of a free frame
pub record FreeWord (w stamp : ℕ) : Type 0 where
  pub read : ref_read w ≡ Some (Free stamp)
  pub is : w ≡ stamp
  pub low : stamp < 2 ^ 36

-- From v to w the vCPU looked at words that every call may look at, and holds the same.
pub record Looks (v w : PortValue) : Type 0 where
  pub serves : (r : Request) → Serves v w r []
  pub hand : Same v w

-- behind the steps from v to w the word is the same that was last found or left there
abbrev pub KeepsLast : PortValue → PortValue → Place → Type 0
KeepsLast v w p = (n : ℕ) → n ≤ length v.holdings.steps → last_since (sizes_of v.post.machine) n p w.holdings.steps ≡ last_since (sizes_of v.post.machine) n p v.holdings.steps

-- the steps from v to w found the frame free, with that stamp
pub record SeenFree (v w : PortValue) (f stamp : ℕ) : Type 0 where
  pub found : FoundAt (Met v w) (Refs f) stamp
  pub free : is_free stamp ≡ true

-- they did, and found and left nothing else there since
pub record StillFree (v w : PortValue) (f stamp : ℕ) : Type 0 where
  pub seen : SeenFree v w f stamp
  pub last : last_since (sizes_of v.post.machine) (length seen.found.moment.hand.steps) (Refs f) w.holdings.steps ≡ Some stamp

-- the steps from v to w found one of the block's frames not free, and nothing was claimed meanwhile
pub record SeenTaken (v w : PortValue) (first size : ℕ) : Type 0 where
  pub frame : ℕ
  pub from : first ≤ frame
  pub to : frame < first + size
  pub word : ℕ
  pub hand : Holdings
  pub found : FoundWith (Met v w) (Refs frame) word hand
  pub taken : is_free word ≡ false
  pub same : hand.claimed ≡ v.holdings.claimed

-- With nothing claimed: they found a frame of every block not free, in one pass upwards.
abbrev pub NoneFree : PortValue → PortValue → ℕ → Type 0
NoneFree v w size = v.holdings.claimed ≡ [] → HasTakenAll v.post.machine size (Met v w)

-- one of the frames from `first` on, below that one, was found free with that stamp by the steps from v to w
pub record IsLatest (v w : PortValue) (first below latest stamp : ℕ) : Type 0 where
  pub seen : SeenFree v w latest stamp
  pub had : HadFree w.post.machine latest stamp w.holdings
  pub from : first ≤ latest
  pub to : latest < below

abbrev pub greatest : List ℕ → ℕ
greatest [] = 0
greatest (s ∷ ss) = max s (greatest ss)

-- Each of the block's frames was found free by the steps from v to w, with that stamp; and the latest has the greatest.
pub record IsFound (v w : PortValue) (size : ℕ) (stamps : List ℕ) (c : Chosen) : Type 0 where
  pub inside : c.first + size ≤ w.post.machine.frames
  pub aligned : c.first % size ≡ 0
  pub whole : length stamps ≡ size
  pub low : (j : ℕ) → j < size → slice_index stamps j < 2 ^ 36
  pub seen : (j : ℕ) → j < size → StillFree v w (c.first + j) (slice_index stamps j)
  pub free : (j : ℕ) → j < size → HadFree w.post.machine (c.first + j) (slice_index stamps j) w.holdings
  pub most : (j : ℕ) → j < size → slice_index stamps j ≤ c.stamp
  pub stamp : c.stamp ≡ greatest stamps
  pub latest : IsLatest v w c.first (c.first + size) c.latest c.stamp
