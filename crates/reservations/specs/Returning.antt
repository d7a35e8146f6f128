-- Frames given back to the machine: whom the steps serve, their list, and what they leave on a board that tells all words.
use Rattle.std.specs.Prelude.{◌≡◌, ◌≢◌, ℕ, zero, suc, ◌+◌, ◌-◌, ◌^◌, ◌<◌, ◌≤◌, ◌==◌, ◌&&◌, nat_le, nat_lt, max, min, if◌then◌else◌, Bool, true, false, List, [], ◌∷◌, ◌++◌, Option, Some, None, Result, Ok, Err}
use Rattle.xp_words.specs.Machine.{Machine}
use Rattle.xp_words.specs.Places.{number, sizes_of}
use Rattle.xp_words.specs.RefWords.{ref_read, ref_write}
use Rattle.xp_words.specs.declared.place.Place.TheVariants.{Refs}
use Rattle.xp_words.specs.declared.refs.RefWord.{RefWord}
use Rattle.xp_words.specs.declared.refs.RefWord.TheVariants.{Owned}
use Rattle.xp_words.specs.declared.reply.Pause.TheVariants.{Lost}
use Rattle.xp_words.specs.declared.reply.Refusal.{Refusal}
use Rattle.xp_words.specs.declared.reply.Refusal.TheVariants.{NoFrame, WrongOwner}
use Rattle.xp_words.specs.declared.reply.Stop.{Stop}
use Rattle.xp_words.specs.declared.reply.Stop.TheVariants.{Refused, Paused}
use Rattle.xp_board.specs.Told.{PortValue}
use Rattle.xp_board.specs.declared.step.Act.TheVariants.{Cas, Store}
use Rattle.step_maker.specs.Plain.{Leaves, Words, change}
use Rattle.step_maker.specs.Answers.{Deed, Returns, missed, misses}
use Rattle.step_maker.specs.Asked.{Request, of_frame}
use Rattle.step_maker.specs.Visits.{Nothing, Only, Then, Visit, visit}
use Rattle.frame_claims.specs.Found.{Upwards, saw_refs}
use Rattle.frame_words.specs.Freeing.{PutBy}
use Rattle.frame_words.specs.Plain.{put}

-- ---- one frame
-- the word without the mark
abbrev pub cleared_in : ℕ → Option RefWord → ℕ
cleared_in w (Some (Owned o allocated count)) = ref_write (Owned o false count)
cleared_in w _ = w

abbrev pub cleared : ℕ → ℕ
cleared w = cleared_in w (ref_read w)

abbrev pub is_own_allocated : ℕ → Option RefWord → Bool
is_own_allocated owner (Some (Owned o allocated count)) = (o == owner) && allocated
is_own_allocated owner _ = false

-- why that frame is not given back by that owner, where its reference word is w
abbrev pub return_refusal : Machine → ℕ → ℕ → ℕ → Option Refusal
return_refusal n owner f w =
    if nat_lt f n.frames then (if is_own_allocated owner (ref_read w) then None else Some (WrongOwner f w)) else Some (NoFrame f)

abbrev pub return_deeds : Machine → ℕ → Result (Unit {0}) Stop → List Deed
return_deeds n f (Ok done) = Returns f ∷ []
return_deeds n f (Err e) = missed n e

abbrev pub IsReturnStop : Stop → Type 0
IsReturnStop (Refused (NoFrame f)) = Unit {0}
IsReturnStop (Refused (WrongOwner f found)) = Unit {0}
IsReturnStop (Paused (Lost place expected found)) = Unit {0}
IsReturnStop _ = ⊥

-- The mark is taken off by a look at the word and one exchange of it, and its reference given back. Where it may not be there is the look alone; of a frame that
-- the machine has not there is none.
abbrev pub clears_mark : ℕ → ℕ → ℕ → Visit
clears_mark f x y = visit (Refs f) (Cas x (cleared x)) y

abbrev pub Clears : ℕ → ℕ → ℕ → List Visit → Type 0
Clears f x y vs = Then (Only (saw_refs f x)) (Only (clears_mark f x y)) vs

pub data UnreturnedBy (n : Machine) (owner f : ℕ) (r : Refusal) (vs : List Visit) : Type 0 where
  outside : n.frames ≤ f → r ≡ NoFrame f → Nothing vs → UnreturnedBy n owner f r vs
  refused : (x : ℕ) → f < n.frames → return_refusal n owner f x ≡ Some r → Only (saw_refs f x) vs → UnreturnedBy n owner f r vs

abbrev pub ReturnsBy : Machine → ℕ → ℕ → Result (Unit {0}) Stop → List Visit → Type 0
ReturnsBy n owner f (Ok done) vs = (x : ℕ) × (return_refusal n owner f x ≡ None) × Then (Clears f x x) (PutBy f) vs
ReturnsBy n owner f (Err (Refused r)) vs = UnreturnedBy n owner f r vs
ReturnsBy n owner f (Err (Paused (Lost place expected found))) vs =
    (place ≡ number (sizes_of n) (Refs f)) × (return_refusal n owner f expected ≡ None) × (found ≢ expected) × Clears f expected found vs
ReturnsBy n owner f (Err (Paused p)) vs = ⊥

-- on a board that tells all words
abbrev pub returned : ℕ → Words → Words
returned f m = put f (change (Store (cleared (m (Refs f)))) (Refs f) m)

-- ---- the frames of an extent
-- a call that gives back frames of that owner: so many, from that one on
abbrev pub of_returns : ℕ → ℕ → ℕ → Request
of_returns owner size first = record (of_frame 0 owner None) { names = λ g. nat_le first g && nat_lt g (first + size); returns = true }

-- the frame of that number in an extent; no number of a frame is above 2^64 - 1
abbrev pub number_at : ℕ → ℕ → ℕ
number_at first i = min (first + i) (2 ^ 64 - 1)

-- so many frames from that one on, the newest in front
abbrev pub returned_deeds : ℕ → ℕ → List Deed
returned_deeds first zero = []
returned_deeds first (suc k) = Returns (first + k) ∷ returned_deeds first k

-- of the frames with numbers `from` to below `to`, and what was lost
abbrev pub returns_deeds : Machine → ℕ → ℕ → ℕ → Result (Unit {0}) Stop → List Deed
returns_deeds n first from to answer = misses n answer ++ returned_deeds (first + from) (to - from)

-- how many of `size` frames are given back in the end, where it were `from` before
abbrev pub EndsAt : ℕ → ℕ → ℕ → Result (Unit {0}) Stop → Type 0
EndsAt size from to (Ok done) = to ≡ max from size
EndsAt size from to (Err e) = (from ≤ to) × (to < size)

abbrev pub AllReturnBy : Machine → ℕ → ℕ → ℕ → ℕ → List Visit → Type 0
AllReturnBy n owner first from to vs = Upwards (λ i us. ReturnsBy n owner (number_at first i) (Ok tt) us) from to vs

abbrev pub DecreasesBy : Machine → ℕ → ℕ → ℕ → ℕ → Result (Unit {0}) Stop → List Visit → Type 0
DecreasesBy n owner first from to (Ok done) vs = AllReturnBy n owner first from to vs
DecreasesBy n owner first from to (Err e) vs = Then (AllReturnBy n owner first from to) (ReturnsBy n owner (number_at first to) (Err e)) vs

-- ---- on a board that tells all words
-- behind so many of them, from that one on
abbrev pub all_returned : ℕ → ℕ → ℕ → Words → Words
all_returned first from zero m = m
all_returned first from (suc k) m = returned (number_at first (from + k)) (all_returned first from k m)

-- why the one behind them is not given back, if so
abbrev pub next_refusal : Machine → ℕ → ℕ → ℕ → ℕ → Words → Option Refusal
next_refusal n owner first from k m =
    return_refusal n owner (number_at first (from + k)) (all_returned first from k m (Refs (number_at first (from + k))))

abbrev pub EndsPlainly : Option Refusal → Result (Unit {0}) Stop → Type 0
EndsPlainly refusal (Ok done) = Unit {0}
EndsPlainly refusal (Err (Refused x)) = refusal ≡ Some x
EndsPlainly refusal (Err (Paused p)) = ⊥

-- Each of them might be given back, and was; the next one might not, where it is refused; it never pauses.
pub record DecreasesPlainly (n : Machine) (owner first from to : ℕ) (m : Words) (w : PortValue) (answer : Result (Unit {0}) Stop) : Type 0 where
  pub may : (k : ℕ) → k < to - from → next_refusal n owner first from k m ≡ None
  pub leaves : Leaves w (all_returned first from (to - from) m)
  pub ends : EndsPlainly (next_refusal n owner first from (to - from) m) answer
