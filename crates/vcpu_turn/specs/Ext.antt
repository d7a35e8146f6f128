-- Lists of `mmuext_op`: which steps fit an element, its wait, and what it asks the gate.
use Rattle.std.specs.Prelude.{◌≡◌, ◌≢◌, ◌⊎◌, ℕ, ◌==◌, if◌then◌else◌, Bool, true, List, ◌++◌, slice_get, Option, Some, None, Result, Ok, Err, IfErr}
use Rattle.xp_words.specs.declared.ops.ExtOp.{ExtOp}
use Rattle.xp_words.specs.declared.reply.Refusal.{Refusal}
use Rattle.xp_words.specs.declared.reply.Stop.{Stop}
use Rattle.xp_words.specs.declared.reply.Stop.TheVariants.{Refused, Paused}
use Rattle.xp_board.specs.Readings.{domain_of}
use Rattle.xp_board.specs.Told.{PortValue}
use Rattle.step_maker.specs.Holds.{Rests}
use Rattle.mmuext_ops.specs.Course.{Performed}
use Rattle.mmuext_ops.specs.Elements.{IsElementStop, KnowsAwaited, LeavesElement, ServesElement, StopsElement, awaited_by, ext_element, ext_request}
use Rattle.mmuext_ops.specs.declared.element.Element.{Element}
use Rattle.xp_words.specs.declared.kind.PageType.{PageType}
use Rattle.xp_words.specs.declared.kind.PageType.TheVariants.{L4}
use Rattle.xp_words.specs.declared.reply.Pause.TheVariants.{Due}
use Rattle.xp_preempt.specs.Gates.{ends_yes, yeses}
use Rattle.level_release.specs.Course.{WasReleased}
use Rattle.vcpu_turn.specs.Lists.{Fitting, Tried}
use Rattle.vcpu_turn.specs.Settling.{IsWarm, SettlesFirst}

-- From v to w an element of domain d was done, or why not: its steps serve it, show the cause of a refusal or pause, and leave nothing
-- in hand. `awaited`: the clock value past which it has waited since an earlier turn; behind a wait that is paused the next one is known.
pub record Performs (d : ℕ) (e : Element) (awaited : Option ℕ) (v w : PortValue) (answers : List Bool) (answer : Result (Unit {0}) Stop) : Type 0 where
  pub serves : ServesElement v w d e awaited answer
  pub stops : StopsElement v w d e awaited answer
  pub kinds : IfErr answer (IsElementStop e)
  pub numbers : (x : Refusal) → (ext_request v.post.machine v.post.vcpu d e awaited answer).by_numbers ≡ Some x → answer ≡ Err (Refused x)
  pub hand : LeavesElement v w e answer
  pub rests : Rests w
  pub awaits : KnowsAwaited w (awaited_by e answer)
  pub course : Performed v w d e awaited answers answer

abbrev pub FitsExt : ℕ → Option ℕ → Option ExtOp → PortValue → PortValue → List Bool → Result (Unit {0}) Stop → Type 0
FitsExt d awaited (Some op) v w answers answer = SettlesFirst (Performs d (ext_element op) awaited) v w answers answer
FitsExt d awaited None v w answers answer = ⊥

-- The first element of a turn, number `from`, goes on with a wait; each other one begins with its own.
abbrev pub awaited_for : ℕ → Option ℕ → ℕ → Option ℕ
awaited_for from awaited k = if k == from then awaited else None

-- element number k, for tables of domain d
abbrev pub ExtFits : ℕ → List ExtOp → ℕ → Option ℕ → Fitting
ExtFits d list from awaited k v w answers answer = FitsExt d (awaited_for from awaited k) (slice_get list k) v w answers answer

-- such elements may go on from that port
pub record SuitsExt (d : ℕ) (awaited : Option ℕ) (v : PortValue) : Type 0 where
  pub domain : d ≡ domain_of v.post.machine v.post.vcpu
  pub knows : KnowsAwaited v awaited
  pub warm : IsWarm v

-- ---- what an element asks the gate
-- Command 4 unpins a frame, and 5 and 15 set a base in the place of another one. What they release may be paused by the gate; the element is done all the same.
abbrev pub IsNoRelease : ExtOp → Type 0
IsNoRelease e = (e.command ≢ 4) × (e.command ≢ 5) × (e.command ≢ 15)

-- The element is an unpin that is done, and the gate paused the release of its frame: within the element it said yes at last, and no before.
pub record PausesUnpin (list : List ExtOp) (t : Tried) : Type 0 where
  pub op : ExtOp
  pub at : slice_get list t.number ≡ Some op
  pub unpins : op.command ≡ 4
  pub done : t.answer ≡ Ok tt
  pub unpinned : PortValue
  pub frame : ℕ
  pub kind : PageType
  pub first : List Bool
  pub more : List Bool
  pub released : WasReleased unpinned frame kind t.behind more (Err (Paused Due))
  pub asked : t.asked ≡ more ++ first
  pub early : yeses t.asked ≡ 1
  pub last : ends_yes t.asked ≡ true

-- The element set a base, and the gate paused the release of the table that the base named before: within the element it said yes at last, and no before.
pub record PausesOldBase (list : List ExtOp) (t : Tried) : Type 0 where
  pub op : ExtOp
  pub at : slice_get list t.number ≡ Some op
  pub sets : (op.command ≡ 5) ⊎ (op.command ≡ 15)
  pub done : t.answer ≡ Ok tt
  pub flushed : PortValue
  pub frame : ℕ
  pub first : List Bool
  pub more : List Bool
  pub released : WasReleased flushed frame L4 t.behind more (Err (Paused Due))
  pub asked : t.asked ≡ more ++ first
  pub early : yeses t.asked ≡ 1
  pub last : ends_yes t.asked ≡ true
