-- How a port of a vCPU that is alone stands, between the elements of its operations, to a plain value of the machine.
use Rattle.std.specs.Prelude.{◌≡◌, ◌<◌, ℕ, false, List, length, Some, None}
use Rattle.xp_words.specs.Machine.{IsMachine, Machine}
use Rattle.xp_words.specs.declared.place.Place.TheVariants.{Life, M2p, Priv, Vcpu}
use Rattle.xp_board.specs.Hands.{IsEmptyHand}
use Rattle.xp_board.specs.Lists.{Member}
use Rattle.xp_board.specs.Readings.{domain_of}
use Rattle.xp_board.specs.Told.{PortValue, told_word}
use Rattle.step_maker.specs.Answers.{Deed, SetsM2p, SetsWord}
use Rattle.step_maker.specs.Asked.{Request}
use Rattle.step_maker.specs.Moves.{Came}
use Rattle.step_maker.specs.Plain.{Words}
use Rattle.step_maker.specs.Twins.{Alike}
use Rattle.answer_laws.specs.Alone.{IsAlone}
use Rattle.table_words.specs.OldWords.{old_place}
use Rattle.table_words.specs.declared.old_words.OldWord.TheVariants.{First, Second}
use Rattle.table_law.specs.Lawful.{IsAtRest}
use Rattle.table_law.specs.Plain.{Describes, Plain}
use Rattle.pause_laws.specs.Calls.{HasRoom}
use Rattle.course_laws.specs.Courses.{ClockGoesOn, IsOrderly}
use Rattle.release_laws.specs.Pauses.{IsLeft}
use Rattle.refusal_laws.specs.Repeated.{PausedCalls}
use Rattle.script_law.specs.Shown.{IsShownWord}
use Rattle.script_law.specs.Values.{Solo, Whose}

-- ---- premises on steps
-- none of the steps from v to w found the clock at its last value, or a reference word with its count at the limit
pub record Fair (v w : PortValue) : Type 0 where
  pub clock : ClockGoesOn v w
  pub room : HasRoom v w

-- ---- at a port
-- which machine and domain its vCPU is of
abbrev pub whose : PortValue → Whose
whose v = record { machine = v.post.machine; domain = domain_of v.post.machine v.post.vcpu }

-- but for the frames the words m of machine n are those of x, as vCPU s knows it
pub record ShowsOthers (n : Machine) (s : ℕ) (m : Words) (x : Solo) : Type 0 where
  pub maps : (f : ℕ) → f < n.frames → x.maps f ≡ m (M2p f)
  pub own : (k : ℕ) → IsShownWord k → x.own k ≡ m (Vcpu s k)
  pub privileges : (d : ℕ) → d < length n.page_limit → x.privileges d ≡ m (Priv d)
  pub lives : (d : ℕ) → d < length n.page_limit → x.lives d ≡ m (Life d)

-- no frame has the mark by which an unfinished acquisition keeps it
abbrev pub IsUnkept : Machine → Plain → Type 0
IsUnkept n p = (g : ℕ) → g < n.frames → (p.kinds g).kept ≡ false

-- The vCPU is alone, and the only one; it has nothing in hand; its second old word names no frame; and the words are those of x, but for the frames, of which x has none
-- that is kept.
pub record Stands (v : PortValue) (x : Solo) : Type 0 where
  pub machine : IsMachine v.post.machine
  pub alone : IsAlone v
  pub only : length v.post.machine.vcpu_domain ≡ 1
  pub real : v.post.vcpu < length v.post.machine.vcpu_domain
  pub empty : IsEmptyHand v.holdings
  pub second : told_word v (old_place v.post.vcpu Second) ≡ 0
  pub others : ShowsOthers v.post.machine v.post.vcpu (told_word v) x
  pub unkept : IsUnkept v.post.machine x.frames

-- nothing is left to be settled, and the frames are those of x
pub record Clean (v : PortValue) (x : Solo) : Type 0 where
  pub stands : Stands v x
  pub first : told_word v (old_place v.post.vcpu First) ≡ 0
  pub frames : Describes v.post.machine (told_word v) x.frames

-- What is settled first leaves x: nothing is; or the release of a table is unfinished, and leaves the frames of x.
pub data Owes (v : PortValue) (x : Solo) : Type 0 where
  nothing : Clean v x → Owes v x
  a_release : (f level : ℕ) → Stands v x → IsLeft v.post.machine v f level x.frames → Owes v x

-- and the vCPU has looked: each element but the first of a turn begins behind a call that settles
pub record IsSettled (v : PortValue) : Type 0 where
  pub first : v.holdings.old0 ≡ Some 0
  pub second : v.holdings.old1 ≡ Some 0

-- ---- steps that change nothing of this
-- From v to w words changed in stamps, the clock and the words of flushes alone; and nothing is in hand.
pub record StaysAlike (v w : PortValue) : Type 0 where
  pub came : Came v w
  pub words : Alike (told_word w) (told_word v)
  pub empty : IsEmptyHand w.holdings

-- ---- an acquisition that was paused
-- Frame f was asked as a table of that level for that owner, from words whose frames were those of x, and each call was paused by the gate. Nothing else is unfinished.
pub record KeepsTable (f owner level : ℕ) (v : PortValue) (x : Solo) : Type 0 where
  pub stands : Stands v x
  pub first : told_word v (old_place v.post.vcpu First) ≡ 0
  pub from : PortValue
  pub machine : from.post.machine ≡ v.post.machine
  pub rest : IsAtRest from.post.machine (told_word from)
  pub orderly : IsOrderly from.post.machine (told_word from)
  pub frames : Describes from.post.machine (told_word from) x.frames
  pub calls : PausedCalls f owner level from v

-- A call of that request, of whose steps a guest sees these deeds, changes nothing beside the frames: it destroys no domain, gives no privilege, takes no page, and sets no machine-to-physical
-- word, and no word of vCPU s but the old ones and those of flushes.
pub record IsQuiet (s : ℕ) (r : Request) (ds : List Deed) : Type 0 where
  pub destroys : r.destroys ≡ None
  pub grants : r.grants ≡ None
  pub pages : r.pages ≡ None
  pub maps : (f x : ℕ) → Member (SetsM2p f x) ds → ⊥
  pub own : (k x : ℕ) → Member (SetsWord s k x) ds → ⊥
