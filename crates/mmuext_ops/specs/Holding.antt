-- What is in hand on the way of a pin: a typed reference to a live table, which goes into the pin or is given back.
use Rattle.std.specs.Prelude.{◌≡◌, ◌⊎◌, ℕ, ◌+◌, Bool, true, false, List, [], ◌∷◌, Option, Some, Result, Ok, Err, IfErr}
use Rattle.xp_words.specs.declared.reply.Pause.TheVariants.{Lost}
use Rattle.xp_words.specs.declared.reply.Refusal.TheVariants.{AlreadyPinned}
use Rattle.xp_words.specs.declared.reply.Stop.{Stop}
use Rattle.xp_words.specs.declared.reply.Stop.TheVariants.{Refused, Paused}
use Rattle.xp_board.specs.declared.holdings.Holdings.{Holdings}
use Rattle.xp_board.specs.declared.holdings.OwnerFound.TheVariants as owners
use Rattle.xp_board.specs.Hands.{IsEmptyHand}
use Rattle.xp_board.specs.KindSteps.{live_typed}
use Rattle.xp_board.specs.Told.{PortValue}
use Rattle.step_maker.specs.Holds.{Holds, Rests}
use Rattle.step_maker.specs.Answers.{Deed, Serves, Stops}
use Rattle.step_maker.specs.Asked.{of_back}
use Rattle.partial_state.specs.Levels.{level_type}
use Rattle.level_validate.specs.Unwinding.{own_domain}
use Rattle.mmuext_ops.specs.Course.{GivenUp, PerformsBy, PinEnds}
use Rattle.mmuext_ops.specs.Elements.{HasDeeds, IsElementStop, LeavesElement, ServesElement, StopsElement, of_pin}
use Rattle.mmuext_ops.specs.declared.element.Element.{Element}
use Rattle.mmuext_ops.specs.declared.element.Element.TheVariants.{Pin}
use Rattle.xp_preempt.specs.Gates.{Gate}

-- no typed reference is in hand
abbrev pub untyped_hand : Holdings → Holdings
untyped_hand h = record h { typed = [] }

-- the first old word names the frame
abbrev pub named_old : ℕ → Holdings → Holdings
named_old f h = record h { old0 = Some (f + 1) }

-- All that is in hand is one typed reference to the frame, which is known live as a table of that level, and the own domain's.
pub record HoldsTable (v : PortValue) (f level : ℕ) : Type 0 where
  pub typed : v.holdings.typed ≡ live_typed f (level_type level) (owners.Of (own_domain v)) ∷ []
  pub others : IsEmptyHand (untyped_hand v.holdings)

-- it is gone; or, where no mark of the frame's own is to keep it, the first old word names the frame
abbrev pub GivesTableUp : PortValue → PortValue → ℕ → Bool → Type 0
GivesTableUp v w f true = Holds v w (untyped_hand v.holdings)
GivesTableUp v w f false = Holds v w (untyped_hand v.holdings) ⊎ Holds v w (named_old f (untyped_hand v.holdings))

-- ---- by the answer
-- why a live table is not pinned
abbrev pub IsPinEnd : Stop → Type 0
IsPinEnd (Refused (AlreadyPinned found)) = Unit {0}
IsPinEnd (Paused (Lost place expected found)) = Unit {0}
IsPinEnd _ = ⊥

abbrev pub LeavesTable : PortValue → PortValue → ℕ → Result (Unit {0}) Stop → Type 0
LeavesTable v w f (Ok done) = GivesTableUp v w f true
LeavesTable v w f (Err (Refused x)) = GivesTableUp v w f false
LeavesTable v w f (Err (Paused x)) = GivesTableUp v w f true

-- its steps are those of a pin, whose gate did not say yes
abbrev pub ServesLive : PortValue → PortValue → ℕ → ℕ → Result (Unit {0}) Stop → Type 0
ServesLive v w f level answer = (ds : List Deed) × HasDeeds v.post.machine v.post.vcpu (Pin f level) answer ds × Serves v w (of_pin (own_domain v) f level false) ds

-- A typed reference to a live table is given back: its steps give a reference back, leave that in hand, and are these calls.
pub record GivesUp (v w : PortValue) (f level : ℕ) (kept : Bool) : Type 0 where
  pub serves : Serves v w (of_back f) []
  pub hand : GivesTableUp v w f kept
  pub course : GivenUp v f level kept w

-- A live table is pinned, or its typed reference given back: its steps serve a pin, show why not, leave that in hand, and are these calls.
pub record PinsLive (v w : PortValue) (f level : ℕ) (answer : Result (Unit {0}) Stop) : Type 0 where
  pub serves : ServesLive v w f level answer
  pub stops : IfErr answer (λ e. Stops v w (of_pin (own_domain v) f level false) e)
  pub kinds : IfErr answer IsPinEnd
  pub hand : LeavesTable v w f answer
  pub course : PinEnds v w f level answer

-- ---- a whole element
-- Its steps serve what it asks, and show why it stops; they leave that in hand, and are these calls, whose gate gave these answers.
pub record MeetsElement (v w : PortValue) (d : ℕ) (e : Element) (awaited : Option ℕ) (g h : Gate) (answer : Result (Unit {0}) Stop) : Type 0 where
  pub serves : ServesElement v w d e awaited answer
  pub stops : StopsElement v w d e awaited answer
  pub kinds : IfErr answer (IsElementStop e)
  pub hand : LeavesElement v w e answer
  pub rests : Rests w
  pub course : PerformsBy v w d e awaited g h answer
