-- The work of one turn on an operation.
use Rattle.std.specs.Prelude.{◌≡◌, ◌⊎◌, ℕ, Bool, List, [], ◌∷◌, ◌++◌, length, Option, Some, None, Result, Ok, Err, All}
use Rattle.xp_words.specs.declared.reply.Refusal.TheVariants as refusals
use Rattle.xp_words.specs.declared.reply.Stop.{Stop}
use Rattle.xp_board.specs.Told.{PortValue}
use Rattle.foreign_map.specs.declared.owners.Owners.{Owners}
use Rattle.xp_words.specs.declared.reply.LogLine.{LogLine}
use Rattle.vcpu_turn.specs.Cpus.{Task, OfDescriptors, OfExt, OfMapping, OfMem, OfPairs, OfRead, OfWrite, awaited_left}
use Rattle.vcpu_turn.specs.Descriptors.{DoesDescriptors}
use Rattle.vcpu_turn.specs.Lists.{IsRefusedWhole, Tried, WorksThrough, tried, tried_through}
use Rattle.vcpu_turn.specs.Mappings.{MapsWord, PausesOldEntry}
use Rattle.vcpu_turn.specs.Pairs.{IsNoWrite, PairFits, PausesRelease, WorksOwned, tried_owned}
use Rattle.vcpu_turn.specs.Extents.{Block, ExtentFits, PlacesExtents, WorksExtents, begins_in, gave_extents, given_lines, tried_extents}
use Rattle.vcpu_turn.specs.Ext.{ExtFits, IsNoRelease, PausesOldBase, PausesUnpin}
use Rattle.vcpu_turn.specs.Accesses.{MakesRead, MakesWrite}
use Rattle.vcpu_turn.specs.declared.cpu.CallNumber.{CallNumber}
use Rattle.vcpu_turn.specs.declared.cpu.Progress.{Progress}

-- the value of what answers none is 0
abbrev pub valued : Result (Unit {0}) Stop → Result ℕ Stop
valued (Ok done) = Ok 0
valued (Err e) = Err e

pub record Valued (P : Result (Unit {0}) Stop → Type 0) (answer : Result ℕ Stop) : Type 0 where
  pub ended : Result (Unit {0}) Stop
  pub works : P ended
  pub answer_is : answer ≡ valued ended

-- The work of one turn on an operation of domain d, of which `from` elements were done before and `to` are then; the next of them goes on with a
-- wait where one is awaited. An operation that is not built is refused.
abbrev pub Works : ℕ → Option Task → Option ℕ → PortValue → ℕ → ℕ → PortValue → List Bool → Result ℕ Stop → Type 0
Works d None awaited v from to w answers answer = IsRefusedWhole refusals.BadCommand v to w answers answer
Works d (Some (OfPairs foreign list)) awaited v from to w answers answer = Valued (λ ended. WorksOwned d foreign list v from to w answers ended) answer
Works d (Some (OfExt list)) awaited v from to w answers answer =
    Valued (λ ended. WorksThrough (ExtFits d list from awaited) (length list) v from to w answers ended) answer
Works d (Some (OfMem command order items)) awaited v from to w answers answer = Valued (λ ended. WorksExtents d command order items v from to w answers ended) answer
Works d (Some (OfMapping foreign va word flags)) awaited v from to w answers answer = Valued (λ ended. MapsWord d foreign va word flags awaited v from to w answers ended) answer
Works d (Some (OfDescriptors tables)) awaited v from to w answers answer = Valued (λ ended. DoesDescriptors tables v to w answers ended) answer
Works d (Some (OfRead user va)) awaited v from to w answers answer = MakesRead user va v to w answers answer
Works d (Some (OfWrite user va val)) awaited v from to w answers answer = Valued (λ ended. MakesWrite user va val v to w answers ended) answer

-- ---- the elements of a list
-- which of them the turn tried: an update by address is one; what asks no gate has none
abbrev pub tried_of : (d : ℕ) (o : Option Task) (awaited : Option ℕ) (v : PortValue) (from to : ℕ) (w : PortValue) (answers : List Bool) (answer : Result ℕ Stop) → Works d o awaited v from to w answers answer → List Tried
tried_of d None awaited v from to w answers answer refused = []
tried_of d (Some (OfPairs foreign list)) awaited v from to w answers answer listed = tried_owned listed.works
tried_of d (Some (OfExt list)) awaited v from to w answers answer listed = tried_through listed.works
tried_of d (Some (OfMem command order items)) awaited v from to w answers answer listed = tried_extents listed.works
tried_of d (Some (OfMapping foreign va word flags)) awaited v from to w answers answer maps = tried 0 v w answers maps.ended ∷ []
tried_of d (Some (OfDescriptors tables)) awaited v from to w answers answer does = []
tried_of d (Some (OfRead user va)) awaited v from to w answers answer reads = []
tried_of d (Some (OfWrite user va val)) awaited v from to w answers answer writes = []

-- an element that was tried went by the steps of its kind
abbrev pub ElementFits : ℕ → Task → ℕ → Option ℕ → Tried → Type 0
ElementFits d (OfPairs foreign list) from awaited t = (o : Owners) × PairFits o list t.number t.before t.behind t.asked t.answer
ElementFits d (OfExt list) from awaited t = ExtFits d list from awaited t.number t.before t.behind t.asked t.answer
ElementFits d (OfMem command order items) from awaited t = (within : ℕ) × ExtentFits d command order items (begins_in command from) within t.number t.before t.behind t.asked t.answer
ElementFits d (OfMapping foreign va word flags) from awaited t = (to : ℕ) × MapsWord d foreign va word flags awaited t.before from to t.behind t.asked t.answer
ElementFits d (OfDescriptors tables) from awaited t = ⊥
ElementFits d (OfRead user va) from awaited t = ⊥
ElementFits d (OfWrite user va val) from awaited t = ⊥

-- one that is done past a yes of the gate, and why it may
abbrev pub PassesYes : Task → Tried → Type 0
PassesYes (OfPairs foreign list) t = PausesRelease list t
PassesYes (OfExt list) t = PausesUnpin list t ⊎ PausesOldBase list t
PassesYes (OfMem command order items) t = ⊥
PassesYes (OfMapping foreign va word flags) t = PausesOldEntry t
PassesYes (OfDescriptors tables) t = ⊥
PassesYes (OfRead user va) t = ⊥
PassesYes (OfWrite user va val) t = ⊥

-- operations that have none such, by their numbers
abbrev pub ReleasesNothing : Option Task → Type 0
ReleasesNothing (Some (OfPairs foreign pairs)) = All IsNoWrite pairs
ReleasesNothing (Some (OfExt list)) = All IsNoRelease list
ReleasesNothing (Some (OfMem command order items)) = Unit {0}
ReleasesNothing (Some (OfMapping foreign va word flags)) = ⊥
ReleasesNothing (Some (OfDescriptors tables)) = Unit {0}
ReleasesNothing (Some (OfRead user va)) = Unit {0}
ReleasesNothing (Some (OfWrite user va val)) = Unit {0}
ReleasesNothing None = Unit {0}

-- ---- how far the vCPU is
-- how far within its next element the operation went on, and is left: an extent that is given back has such a place
abbrev pub IsPlaced : (d : ℕ) (o : Option Task) (awaited : Option ℕ) (v : PortValue) (from to : ℕ) (w : PortValue) (answers : List Bool) (answer : Result ℕ Stop) → Works d o awaited v from to w answers answer → ℕ → ℕ → Type 0
IsPlaced d (Some (OfMem command order items)) awaited v from to w answers answer listed old new = PlacesExtents listed.works old new
IsPlaced d _ awaited v from to w answers answer works old new = new ≡ old

-- the blocks that it was given
abbrev pub gave_of : (d : ℕ) (o : Option Task) (awaited : Option ℕ) (v : PortValue) (from to : ℕ) (w : PortValue) (answers : List Bool) (answer : Result ℕ Stop) → Works d o awaited v from to w answers answer → List Block
gave_of d (Some (OfMem command order items)) awaited v from to w answers answer listed = gave_extents listed.works
gave_of d _ awaited v from to w answers answer works = []

-- The work of a turn on the call, or operation, of that number where the vCPU keeps how far it is: the call stays the one in progress, the place within an element and the wait
-- of one that is paused in it are kept, and each block that is given has its line in the log.
pub record WentOn (d : ℕ) (task : Option Task) (number : CallNumber) (v : PortValue) (from to : Progress) (w : PortValue) (log log' : List LogLine) (answers : List Bool) (answer : Result ℕ Stop) : Type 0 where
  pub works : Works d task from.awaited v from.done to.done w answers answer
  pub calls : to.call ≡ from.call
  pub within : IsPlaced d task from.awaited v from.done to.done w answers answer works from.within to.within
  pub waits : to.awaited ≡ awaited_left task to.done answer
  pub lines : log' ≡ log ++ given_lines number (gave_of d task from.awaited v from.done to.done w answers answer works)
  -- it is no destruction
  pub place : to.place ≡ from.place

-- the extents of the call of that number went on so, which wait for nothing from turn to turn
pub record GoesExtents (d command order : ℕ) (items : List ℕ) (number : CallNumber) (v : PortValue) (from to : Progress) (w : PortValue) (log log' : List LogLine) (answers : List Bool) (answer : Result (Unit {0}) Stop) : Type 0 where
  pub works : WorksExtents d command order items v from.done to.done w answers answer
  pub calls : to.call ≡ from.call
  pub within : PlacesExtents works from.within to.within
  pub awaited : to.awaited ≡ from.awaited
  pub lines : log' ≡ log ++ given_lines number (gave_extents works)
  pub place : to.place ≡ from.place
