-- Lists of `memory_op`: which extents there are, which steps fit one, how far the next one is, and what is logged of the blocks that were given.
use Rattle.std.specs.Prelude.{◌≡◌, ℕ, ◌/◌, ◌%◌, ◌^◌, ◌<◌, ◌==◌, ◌||◌, ◌&&◌, not, nat_lt, max, if◌then◌else◌, Bool, true, false, List, [], ◌∷◌, ◌++◌, length, slice_get, Option, Some, None, Result, Ok, Err}
use Rattle.xp_words.specs.declared.reply.LogLine.{LogLine}
use Rattle.xp_words.specs.declared.reply.LogLine.TheVariants as lines
use Rattle.xp_words.specs.declared.reply.Refusal.{Refusal}
use Rattle.xp_words.specs.declared.reply.Refusal.TheVariants.{BadCommand, BadRange, BatchLong}
use Rattle.xp_words.specs.declared.reply.Stop.{Stop}
use Rattle.xp_board.specs.Readings.{domain_of}
use Rattle.xp_board.specs.Told.{PortValue}
use Rattle.reservations.specs.Extents.{Reserves}
use Rattle.reservations.specs.declared.extents.Extent.{Extent}
use Rattle.reservations.specs.declared.extents.Extent.TheVariants.{Increase, Decrease, Populate}
use Rattle.vcpu_turn.specs.Lists.{DidItems, IsRefusedWhole, Tried, WorksOn, tried_in}
use Rattle.vcpu_turn.specs.declared.cpu.CallNumber.{CallNumber}

-- ---- which extents
-- The low six bits of a command say what is done, the bits above are the first extent that is still to be done.
abbrev pub deed_of : ℕ → ℕ
deed_of command = command % 64

abbrev pub first_extent : ℕ → ℕ
first_extent command = command / 64

-- an increase has one item, which counts its extents; the other two have one item for each
abbrev pub counted_by : List ℕ → ℕ
counted_by (count ∷ []) = count
counted_by _ = 0

abbrev pub extents_in : ℕ → List ℕ → ℕ
extents_in command items = if deed_of command == 0 then counted_by items else length items

abbrev pub given_back : Option ℕ → Option Extent
given_back (Some first) = Some (Decrease first)
given_back None = None

abbrev pub populated : Option ℕ → Option Extent
populated (Some gpfn) = Some (Populate gpfn)
populated None = None

abbrev pub extent_at : ℕ → List ℕ → ℕ → Option Extent
extent_at command items k =
    if deed_of command == 0 then Some Increase
    else if deed_of command == 1 then given_back (slice_get items k)
    else if deed_of command == 6 then populated (slice_get items k)
    else None

abbrev pub is_memory_command : ℕ → Bool
is_memory_command command = (deed_of command == 0) || (deed_of command == 1) || (deed_of command == 6)

-- whether it gives blocks, of which each has a line in the log
abbrev pub gives_blocks : ℕ → Bool
gives_blocks command = (deed_of command == 0) || (deed_of command == 6)

-- ---- what is refused as a whole, in this order: an increase without one item; more than 512 extents; and of a list that is not empty a command that there is
-- not, an order above 9, or a first extent beyond its end
abbrev pub is_uncounted : ℕ → List ℕ → Bool
is_uncounted command items = (deed_of command == 0) && not (length items == 1)

abbrev pub range_refusal : Bool → Option Refusal
range_refusal true = Some BadRange
range_refusal false = None

abbrev pub refusal_in : ℕ → ℕ → ℕ → Option Refusal
refusal_in command order count =
    if nat_lt 512 count then Some BatchLong
    else if count == 0 then None
    else if not (is_memory_command command) then Some BadCommand
    else range_refusal (nat_lt 9 order || nat_lt count (first_extent command))

abbrev pub mem_refusal : ℕ → ℕ → List ℕ → Option Refusal
mem_refusal command order items = if is_uncounted command items then Some BadRange else refusal_in command order (extents_in command items)

-- ---- one extent
-- the first one of a turn, number `from`, goes on where the last turn left it; each other one begins
abbrev pub place_for : ℕ → ℕ → ℕ → ℕ
place_for from within k = if k == from then within else 0

abbrev pub given_by : Option ℕ → Result (Unit {0}) Stop → Result (Option ℕ) Stop
given_by given (Ok done) = Ok given
given_by given (Err e) = Err e

-- From v to w extent number k of domain d was done, or why not; the gate is not asked within. `given`: the first frame of a block; `left`: how many frames are
-- given back of one that gives back.
pub record ExtentFits (d command order : ℕ) (items : List ℕ) (from within k : ℕ) (v w : PortValue) (asked : List Bool) (answer : Result (Unit {0}) Stop) : Type 0 where
  pub extent : Extent
  pub is : extent_at command items k ≡ Some extent
  pub given : Option ℕ
  pub left : ℕ
  pub reserves : Reserves d (2 ^ order) extent (place_for from within k) v left w (given_by given answer)
  pub no_ask : asked ≡ []

-- ---- the list
abbrev pub begins_in : ℕ → ℕ → ℕ
begins_in command from = max from (first_extent command)

-- Refused as a whole; or there is no extent; or they are done from that one on, which goes on `within` where the last turn left it.
pub data WorksExtents (d command order : ℕ) (items : List ℕ) (v : PortValue) (from : ℕ) : ℕ → PortValue → List Bool → Result (Unit {0}) Stop → Type 0 where
  refused : (to : ℕ) (w : PortValue) (answers : List Bool) (answer : Result (Unit {0}) Stop) (x : Refusal) → mem_refusal command order items ≡ Some x →
      IsRefusedWhole x v to w answers answer → WorksExtents d command order items v from to w answers answer
  none : mem_refusal command order items ≡ None → extents_in command items ≡ 0 → WorksExtents d command order items v from from v [] (Ok tt)
  on : (to within : ℕ) (w : PortValue) (answers : List Bool) (answer : Result (Unit {0}) Stop) → mem_refusal command order items ≡ None → 0 < extents_in command items →
      WorksOn (ExtentFits d command order items (begins_in command from) within) (extents_in command items) (begins_in command from) v to w answers answer →
      WorksExtents d command order items v from to w answers answer

-- those that a turn tried
abbrev pub tried_extents : {d command order : ℕ} {items : List ℕ} {v : PortValue} {from to : ℕ} {w : PortValue} {answers : List Bool} {answer : Result (Unit {0}) Stop} →
    WorksExtents d command order items v from to w answers answer → List Tried
tried_extents (WorksExtents.refused to w answers answer x why whole) = []
tried_extents (WorksExtents.none why empty) = []
tried_extents (WorksExtents.on to within w answers answer why some works) = tried_in works

-- ---- how far the next extent is
abbrev pub left_in : {d command order : ℕ} {items : List ℕ} {at within count from : ℕ} {v : PortValue} {to : ℕ} {w : PortValue} {answers : List Bool} {answer : Result (Unit {0}) Stop} →
    WorksOn (ExtentFits d command order items at within) count from v to w answers answer → ℕ → ℕ
left_in (WorksOn.all_done at) old = old
left_in (WorksOn.last_done k u w answers asked did fit at) old = 0
left_in (WorksOn.due k u w answers asked did fit less) old = 0
left_in (WorksOn.stopped k u w answers asked e did fit less) old = fit.left

-- it went on from there, and is left there
abbrev pub PlacesExtents : {d command order : ℕ} {items : List ℕ} {v : PortValue} {from to : ℕ} {w : PortValue} {answers : List Bool} {answer : Result (Unit {0}) Stop} →
    WorksExtents d command order items v from to w answers answer → ℕ → ℕ → Type 0
PlacesExtents (WorksExtents.refused to w answers answer x why whole) old new = new ≡ old
PlacesExtents (WorksExtents.none why empty) old new = new ≡ old
PlacesExtents (WorksExtents.on to within w answers answer why some works) old new = (within ≡ old) × (new ≡ left_in works old)

-- ---- blocks that were given
-- for which extent of the list, and from which frame on
pub record Block : Type 0 where
  pub extent : ℕ
  pub first : ℕ

abbrev pub block_at : ℕ → Option ℕ → List Block
block_at k (Some first) = record { extent = k; first = first } ∷ []
block_at k None = []

-- in order
abbrev pub gave_did : {d command order : ℕ} {items : List ℕ} {at within count from : ℕ} {v : PortValue} {to : ℕ} {w : PortValue} {answers : List Bool} →
    DidItems (ExtentFits d command order items at within) count from v to w answers → List Block
gave_did DidItems.none = []
gave_did (DidItems.more k u w answers asked did fit less) = gave_did did ++ block_at k fit.given

abbrev pub gave_on : {d command order : ℕ} {items : List ℕ} {at within count from : ℕ} {v : PortValue} {to : ℕ} {w : PortValue} {answers : List Bool} {answer : Result (Unit {0}) Stop} →
    WorksOn (ExtentFits d command order items at within) count from v to w answers answer → List Block
gave_on (WorksOn.all_done at) = []
gave_on (WorksOn.last_done k u w answers asked did fit at) = gave_did did ++ block_at k fit.given
gave_on (WorksOn.due k u w answers asked did fit less) = gave_did did ++ block_at k fit.given
gave_on (WorksOn.stopped k u w answers asked e did fit less) = gave_did did

abbrev pub gave_extents : {d command order : ℕ} {items : List ℕ} {v : PortValue} {from to : ℕ} {w : PortValue} {answers : List Bool} {answer : Result (Unit {0}) Stop} →
    WorksExtents d command order items v from to w answers answer → List Block
gave_extents (WorksExtents.refused to w answers answer x why whole) = []
gave_extents (WorksExtents.none why empty) = []
gave_extents (WorksExtents.on to within w answers answer why some works) = gave_on works

-- their lines, of that call
abbrev pub given_lines : CallNumber → List Block → List LogLine
given_lines number [] = []
given_lines number (b ∷ bs) = lines.Given number.op number.call b.extent b.first ∷ given_lines number bs

-- so many of its elements are done: how many lines they may have made
abbrev pub lines_by : ℕ → ℕ → ℕ
lines_by command done = if gives_blocks command then done else 0

-- From v to w the extents went on, the next one from `within` to `left`, and the log got the lines of the blocks that were given.
pub record ListsExtents (d command order : ℕ) (items : List ℕ) (number : CallNumber) (from within : ℕ) (v : PortValue) (to left : ℕ) (w : PortValue) (log log' : List LogLine) (answers : List Bool) (answer : Result (Unit {0}) Stop) : Type 0 where
  pub works : WorksOn (ExtentFits d command order items from within) (extents_in command items) from v to w answers answer
  pub place : left ≡ left_in works within
  pub lines : log' ≡ log ++ given_lines number (gave_on works)

-- such extents may go on from that port
pub record SuitsExtents (d command order : ℕ) (items : List ℕ) (v : PortValue) : Type 0 where
  pub domain : d ≡ domain_of v.post.machine v.post.vcpu
  pub counted : d < length v.post.machine.page_limit
  pub checked : mem_refusal command order items ≡ None
  pub some : 0 < extents_in command items
