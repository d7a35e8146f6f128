-- What the refusals of elements show of words.
use Rattle.std.proofs.Common.{◌≡◌, ℕ, Bool, List, Option, Some, Result, Ok, Err, refl, sym, ◌∙◌, subst}
use Rattle.xp_words.specs.declared.reply.Refusal.{Refusal}
use Rattle.xp_words.specs.declared.reply.Stop.{Stop}
use Rattle.xp_words.specs.declared.reply.Stop.TheVariants.{Refused, Paused}
use Rattle.xp_board.specs.Told.{PortValue}
use Rattle.foreign_map.specs.declared.owners.Owners.{Owners}
use Rattle.mmu_update.specs.Fits.{Updates}
use Rattle.mmu_update.specs.UpdatesAt.{UpdatesAt}
use Rattle.mmu_update.specs.declared.element.Element as pairs
use Rattle.mmuext_ops.specs.declared.element.Element.{Element}
use Rattle.reservations.specs.Extents.{Reserves}
use Rattle.reservations.specs.declared.extents.Extent.{Extent}
use Rattle.script_law.specs.Values.{Frames, IsPinned, IsUnpinned, Numbers, Outcome, Solo, Why}
use Rattle.shown_words.specs.Shown.{ShowsSettled, StandsAlone}
use Rattle.solo_ports.specs.Standing.{Stands}
use Rattle.vcpu_turn.specs.Descriptors.{DescriptorFits, DescriptorTask}
use Rattle.vcpu_turn.specs.Ext.{Performs}
use Rattle.script_laws.specs.Logged.{ShowsFor}

-- the laws of shown_words
pub record ShownLaws : Type 0 where
  pub elements : (v w : PortValue) (d : ℕ) (e : Element) (awaited : Option ℕ) (answers : List Bool) (r : Refusal) → StandsAlone v → Performs d e awaited v w answers (Err (Refused r)) → ShowsSettled r
  pub words : (v w : PortValue) (o : Owners) (e : pairs.Element) (answers : List Bool) (r : Refusal) → StandsAlone v → Updates o e v w answers (Err (Refused r)) → ShowsSettled r
  pub mapped : (v w : PortValue) (o : Owners) (va word : ℕ) (answers : List Bool) (r : Refusal) → StandsAlone v → UpdatesAt o va word v w answers (Err (Refused r)) → ShowsSettled r
  pub descriptors : (v w : PortValue) (t : DescriptorTask) (r : Refusal) → StandsAlone v → DescriptorFits t v w (Err (Refused r)) → ShowsSettled r
  pub extents : (v w : PortValue) (d size : ℕ) (e : Extent) (from to : ℕ) (r : Refusal) → StandsAlone v → Reserves d size e from v to w (Err (Refused r)) → ShowsSettled r

-- a port that stands to a value has nothing in hand
pub stands_alone : (v : PortValue) (s : Solo) → Stands v s → StandsAlone v
stands_alone v s stands = record { alone = stands.alone; only = stands.only; real = stands.real; empty = stands.empty }

pub shows_for : (r : Refusal) (y : Why) → ShowsSettled r → ShowsFor r y
shows_for r (Frames c) shows = shows
shows_for r (IsPinned k) shows = shows
shows_for r (IsUnpinned k) shows = shows
shows_for r (Numbers q) shows = tt

-- what is said of an element that is refused as o is
abbrev pub IsKnown : {A : Type 0} → Outcome → Result A Stop → Type 0
IsKnown o (Err (Refused r)) = (y : Why) → o.refusal ≡ Some y → ShowsFor r y
IsKnown o _ = Unit {0}

pub known : (r : Refusal) (o : Outcome) → ShowsSettled r → IsKnown {A = Unit {0}} o (Err (Refused r))
known r o shows y is = shows_for r y shows

-- one that is refused by its numbers shows no word of a frame
pub known_numbers : (r : Refusal) (q : Refusal) (o : Outcome) → o.refusal ≡ Some (Numbers q) → IsKnown {A = Unit {0}} o (Err (Refused r))
known_numbers r q o by y is = subst (ShowsFor r) (let e : Some (Numbers q) ≡ Some y = sym by ∙ is in let same : Numbers q ≡ y = cc in same) tt

-- where only refusals are to be shown
pub known_by : {A : Type 0} (o : Outcome) (answer : Result A Stop) → ((r : Refusal) → answer ≡ Err (Refused r) → ShowsSettled r) → IsKnown o answer
known_by o (Err (Refused r)) shows = λ y is. shows_for r y (shows r refl)
known_by o (Err (Paused p)) shows = tt
known_by o (Ok a) shows = tt
