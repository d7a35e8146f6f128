-- Lists of `memory_op`: extents that are claimed, and frames that are given back.
use Rattle.std.specs.Prelude.{ℕ, zero, suc, ◌+◌, ◌-◌, ◌*◌, ◌/◌, ◌%◌, ◌^◌, ◌==◌, ◌&&◌, ◌||◌, not, nat_le, nat_lt, is_none, if◌then◌else◌, Bool, true, false, List, [], ◌∷◌, length, map, replicate, slice_index, Option, Some, None}
use Rattle.xp_words.specs.Machine.{Machine}
use Rattle.xp_words.specs.RefWords.{bit}
use Rattle.xp_words.specs.declared.reply.Refusal.{Refusal}
use Rattle.xp_words.specs.declared.reply.Refusal.TheVariants.{BadCommand, BadRange, BatchLong, DomainFull, NoFree}
use Rattle.xp_board.specs.Sums.{sum_below}
use Rattle.reservations.specs.Extents.{too_high}
use Rattle.reservations.specs.Returning.{number_at}
use Rattle.reservations.specs.declared.extents.Extent.{Extent}
use Rattle.reservations.specs.declared.extents.Extent.TheVariants.{Increase, Decrease, Populate}
use Rattle.table_law.specs.Alone.{NoFrame, WrongOwner}
use Rattle.table_law.specs.Plain.{Plain, Share, reference_back, with_share}
use Rattle.script_law.specs.Repeats.{all_below, first_of}
use Rattle.script_law.specs.Values.{Solo, Whose, Outcome, Frames, Given, Numbers, did, stopped, then_do, with_frames}

-- ---- a block is claimed
-- the pages of a domain are the frames that it owns
abbrev pub is_owned_by : ℕ → Option Share → Bool
is_owned_by d (Some s) = s.owner == d
is_owned_by d None = false

abbrev pub pages_of : Machine → ℕ → Plain → ℕ
pages_of n d p = sum_below n.frames (λ g. bit (is_owned_by d (p.shares g)))

-- the first aligned block that is wholly free, by its number
abbrev pub first_free : Machine → ℕ → Plain → Option ℕ
first_free n size p = first_of (n.frames / size) 0 (λ b. all_below size (λ j. is_none (p.shares (b * size + j))))

-- what the frames of a block are then: allocated to the domain, all their words 0, their types those that they had; and numbered, where a page number is asked
abbrev pub is_in : ℕ → ℕ → ℕ → Bool
is_in first size g = nat_le first g && nat_lt g (first + size)

abbrev pub numbered : Option ℕ → ℕ → ℕ
numbered None j = 2 ^ 64 - 1
numbered (Some gpfn) j = gpfn + j

abbrev pub with_block : ℕ → ℕ → ℕ → Plain → Plain
with_block d first size p =
    record {
      shares = λ g. if is_in first size g then Some (record { owner = d; allocated = true; count = 1 }) else p.shares g;
      kinds = p.kinds;
      cells = λ g i. if is_in first size g then 0 else p.cells g i;
    }

abbrev pub given : ℕ → ℕ → ℕ → Option ℕ → Solo → Solo
given d first size gpfn s = record s { frames = with_block d first size s.frames; maps = λ g. if is_in first size g then numbered gpfn (g - first) else s.maps g }

-- the log says for which extent of which call the block is, and where it begins
abbrev pub claim_at : ℕ → ℕ → ℕ → ℕ → Option ℕ → Solo → Option ℕ → Outcome
claim_at d size call extent gpfn s None = stopped (Numbers NoFree) s
claim_at d size call extent gpfn s (Some b) = record { refusal = None; value = 0; lines = Given call extent (b * size) ∷ []; left = given d (b * size) size gpfn s }

abbrev pub claim : Whose → ℕ → ℕ → ℕ → Option ℕ → Solo → Outcome
claim w size call extent gpfn s =
    if nat_lt (slice_index w.machine.page_limit w.domain) (pages_of w.machine w.domain s.frames + size) then stopped (Numbers (DomainFull (pages_of w.machine w.domain s.frames))) s
    else claim_at w.domain size call extent gpfn s (first_free w.machine size s.frames)

-- ---- frames are given back
-- An allocated frame of the domain loses its mark, and the reference of that; where it was the last one the frame is free. Its type, its words and its machine-to-physical word stay.
abbrev pub is_allocated_to : ℕ → Option Share → Bool
is_allocated_to d (Some s) = (s.owner == d) && s.allocated
is_allocated_to d None = false

abbrev pub unmarked : ℕ → Option Share → Plain → Plain
unmarked g None p = p
unmarked g (Some s) p = reference_back g (with_share g (record s { allocated = false }) p)

abbrev pub return_frame : Machine → ℕ → ℕ → Solo → Outcome
return_frame n d g s =
    if not (nat_lt g n.frames) then stopped (Frames (NoFrame g)) s
    else if is_allocated_to d (s.frames.shares g) then did (with_frames (unmarked g (s.frames.shares g) s.frames) s)
    else stopped (Frames (WrongOwner g (s.frames.shares g))) s

-- the first k frames of an extent; those before a refused one stay given back
unfoldable pub return_frames : Machine → ℕ → ℕ → ℕ → Solo → Outcome
return_frames n d first zero s = did s
return_frames n d first (suc k) s = then_do (return_frames n d first k s) (return_frame n d (number_at first k))

-- ---- one extent, of 2^order frames
abbrev pub reserve : Whose → ℕ → ℕ → ℕ → Extent → Solo → Outcome
reserve w size call k Increase s = claim w size call k None s
reserve w size call k (Populate gpfn) s = if too_high gpfn then stopped (Numbers BadRange) s else claim w size call k (Some gpfn) s
reserve w size call k (Decrease first) s = return_frames w.machine w.domain first size s

-- ---- which extents: by the low six bits of the command. An increase has one item, which counts its extents; the other two have one item for each.
abbrev pub counted_in : List ℕ → ℕ
counted_in (count ∷ []) = count
counted_in items = 0

abbrev pub count_in : ℕ → List ℕ → ℕ
count_in command items = if command % 64 == 0 then counted_in items else length items

abbrev pub extents_of : ℕ → List ℕ → List Extent
extents_of command items =
    if command % 64 == 0 then replicate (counted_in items) Increase
    else if command % 64 == 1 then map Decrease items
    else map Populate items

-- the bits above say how many extents are done already
abbrev pub done_before : ℕ → ℕ
done_before command = command / 64

-- why the list is refused as a whole
abbrev pub is_known : ℕ → Bool
is_known command = (command % 64 == 0) || ((command % 64 == 1) || (command % 64 == 6))

abbrev pub list_refusal : ℕ → ℕ → List ℕ → Option Refusal
list_refusal command order items =
    if (command % 64 == 0) && not (length items == 1) then Some BadRange
    else if nat_lt 512 (count_in command items) then Some BatchLong
    else if count_in command items == 0 then None
    else if not (is_known command) then Some BadCommand
    else if nat_lt 9 order || nat_lt (count_in command items) (done_before command) then Some BadRange
    else None
