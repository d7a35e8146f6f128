-- The elements of `mmu_update`: what each asks for, what a guest sees of it, and what it leaves in hand.
use Rattle.std.specs.Prelude.{◌≡◌, ℕ, ◌/◌, ◌%◌, ◌==◌, ◌++◌, nat_le, if◌then◌else◌, Bool, true, List, [], ◌∷◌, Option, Some, None, Result, Ok, Err}
use Rattle.xp_words.specs.Machine.{Machine}
use Rattle.xp_words.specs.declared.kind.PageType.TheVariants.{Writable}
use Rattle.xp_words.specs.declared.ops.Pair.{Pair}
use Rattle.xp_words.specs.declared.reply.Stop.{Stop}
use Rattle.xp_words.specs.declared.reply.Stop.TheVariants.{Refused, Paused}
use Rattle.xp_words.specs.declared.reply.Pause.TheVariants.{Busy, Due, Flush, Lost}
use Rattle.xp_words.specs.declared.reply.Refusal.TheVariants as refusals
use Rattle.xp_board.specs.Told.{PortValue}
use Rattle.step_maker.specs.Holds.{FlushedHolds}
use Rattle.step_maker.specs.Answers.{Deed, Serves, SetsEntry, Writes, missed}
use Rattle.step_maker.specs.Asked.{Request, of_frame, of_numbers}
use Rattle.foreign_map.specs.declared.owners.Owners.{Owners}
use Rattle.entry_exchange.specs.Asking.{IsHidden, may_rise}
use Rattle.entry_exchange.specs.Words.{word_kept}
use Rattle.m2p_map.specs.Maps as maps
use Rattle.mmu_update.specs.declared.element.Element.{Element}
use Rattle.mmu_update.specs.declared.element.Element.TheVariants.{SetM2p, Write, Misaligned, Unknown}

-- ---- what a pair asks for
-- by the low two bits of the address: 1 sets a machine-to-physical word; 0 and 2 write the word at that address, and 2 keeps the accessed and
-- dirty bits of an entry there
abbrev pub written : Pair → Element
written p = if nat_le 4 (p.ptr % 8) then Misaligned else Write (p.ptr / 4096) (p.ptr / 8 % 512) p.val (p.ptr % 4 == 2)

abbrev pub element_of : Pair → Element
element_of p =
    if p.ptr % 4 == 1 then SetM2p (p.ptr / 4096) p.val
    else if p.ptr % 4 == 3 then Unknown
    else written p

-- A frame of the one domain, or of the other one, there as ordinary memory or as a table whose entry it writes; or the refusal that its numbers
-- alone call for.
abbrev pub update_request : Owners → Element → Result (Unit {0}) Stop → Request
update_request o (SetM2p f w) answer = of_frame f o.frames None
update_request o (Write f i w keep) answer =
    record (of_frame f o.tables (Some Writable)) { pages_of = o.frames; entries = true; index = Some i; new_word = Some w; locks = true; rose = may_rise answer }
update_request o Misaligned answer = of_numbers refusals.BadRange
update_request o Unknown answer = of_numbers refusals.BadCommand

-- ---- what a guest sees
-- The one deed of an element that is done: a store into ordinary memory, or an entry of a table exchanged. One that is not has none, but for
-- exchanges that were lost.
pub data HasUpdateDeeds (n : Machine) : Element → Result (Unit {0}) Stop → List Deed → Type 0 where
  mapped : (f w : ℕ) (answer : Result (Unit {0}) Stop) → HasUpdateDeeds n (SetM2p f w) answer (maps.deeds_of n f w answer)
  stored : (f i w : ℕ) (keep : Bool) → HasUpdateDeeds n (Write f i w keep) (Ok tt) (Writes f i w ∷ [])
  entered : (f i w seen old : ℕ) (keep : Bool) → HasUpdateDeeds n (Write f i w keep) (Ok tt) (SetsEntry f i old (word_kept keep seen w) ∷ [])
  stopped : (f i w : ℕ) (keep : Bool) (e : Stop) (hidden : List Deed) → IsHidden e hidden → HasUpdateDeeds n (Write f i w keep) (Err e) (hidden ++ missed n e)
  misaligned : (answer : Result (Unit {0}) Stop) → HasUpdateDeeds n Misaligned answer []
  unknown : (answer : Result (Unit {0}) Stop) → HasUpdateDeeds n Unknown answer []

abbrev pub ServesUpdate : PortValue → PortValue → Owners → Element → Result (Unit {0}) Stop → Type 0
ServesUpdate v w o e answer = (ds : List Deed) × HasUpdateDeeds v.post.machine e answer ds × Serves v w (update_request o e answer) ds

-- ---- why it is not done
abbrev pub IsMapStop : Stop → Type 0
IsMapStop (Refused (refusals.NoFrame f)) = Unit {0}
IsMapStop (Refused (refusals.WrongOwner f found)) = Unit {0}
IsMapStop (Refused (refusals.CountFull f found)) = Unit {0}
IsMapStop (Paused (Lost place expected found)) = Unit {0}
IsMapStop _ = ⊥

abbrev pub IsWriteStop : Stop → Type 0
IsWriteStop (Refused (refusals.NoFrame f)) = Unit {0}
IsWriteStop (Refused (refusals.WrongOwner f found)) = Unit {0}
IsWriteStop (Refused (refusals.CountFull f found)) = Unit {0}
IsWriteStop (Refused (refusals.OtherType f want found)) = Unit {0}
IsWriteStop (Refused (refusals.Reserved f i entry)) = Unit {0}
IsWriteStop (Refused (refusals.Slot i)) = Unit {0}
IsWriteStop (Refused (refusals.Clock found)) = Unit {0}
IsWriteStop (Paused Due) = Unit {0}
IsWriteStop (Paused (Lost place expected found)) = Unit {0}
IsWriteStop (Paused (Busy f found)) = Unit {0}
IsWriteStop (Paused (Flush vcpu stamp found)) = Unit {0}
IsWriteStop _ = ⊥

abbrev pub IsUpdateStop : Element → Stop → Type 0
IsUpdateStop (SetM2p f w) e = IsMapStop e
IsUpdateStop (Write f i w keep) e = IsWriteStop e
IsUpdateStop Misaligned e = e ≡ Refused refusals.BadRange
IsUpdateStop Unknown e = e ≡ Refused refusals.BadCommand

-- ---- what it leaves in hand
-- nothing; the old words may name frames
abbrev pub LeavesUpdate : PortValue → PortValue → Type 0
LeavesUpdate v w = (a b : Option ℕ) × FlushedHolds v w (record v.holdings { old0 = a; old1 = b })
