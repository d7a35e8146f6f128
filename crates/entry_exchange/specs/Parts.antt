-- The parts of an exchange: what each needs, and what it leaves in hand.
use Rattle.std.specs.Prelude.{◌≡◌, ℕ, ◌+◌, ◌*◌, ◌<◌, ◌≤◌, Bool, false, List, [], ◌∷◌, length, Option, Some, Result, Ok, Err, IfOk, IfErr}
use Rattle.xp_words.specs.Entries.{below, demand_at}
use Rattle.xp_words.specs.Machine.{Machine}
use Rattle.xp_words.specs.declared.entry.Demand.{Demand}
use Rattle.xp_words.specs.declared.entry.Demand.TheVariants as demands
use Rattle.xp_words.specs.declared.reply.Stop.{Stop}
use Rattle.xp_board.specs.declared.holdings.Lock.{Lock}
use Rattle.xp_board.specs.declared.holdings.Reference.{Reference}
use Rattle.xp_board.specs.Hands.{lock_on}
use Rattle.xp_board.specs.Settling.{demand_out}
use Rattle.xp_board.specs.Told.{PortValue}
use Rattle.step_maker.specs.Holds.{Holds, Rests}
use Rattle.step_maker.specs.Moves.{Came}
use Rattle.step_maker.specs.Answers.{Serves, Stops}
use Rattle.step_maker.specs.Asked.{of_back}
use Rattle.entry_locks.specs.Entries.{entry_set, entry_unset}
use Rattle.level_release.specs.Asking.{is_due_answer}
use Rattle.level_release.specs.Holding.{HoldsLive}
use Rattle.level_release.specs.Parking.{HoldsTyped}
use Rattle.partial_state.specs.Levels.{level_type}
use Rattle.entry_exchange.specs.declared.exchanging.EntryUpdate.{EntryUpdate}
use Rattle.foreign_map.specs.declared.owners.Owners.{Owners}
use Rattle.entry_exchange.specs.Asking.{ServesExchange, of_exchange}
use Rattle.entry_exchange.specs.Course.{ExchangesBy, GaveDemand, LeftLock, PutEntry, ReleasedDemand, SawEntry, TookDemand}
use Rattle.entry_exchange.specs.Holding.{HoldsTableLock, LeavesDemand, LeavesExchange, LeavesUnlocked}
use Rattle.entry_exchange.specs.Serving.{ServesGiven, ServesPut, ServesTaken, StopsPut, of_demand, of_given}
use Rattle.level_validate.specs.Acquiring.{IsAcquireStop}
use Rattle.xp_preempt.specs.Gates.{Gate, GatedPast}

-- ---- demands
-- the machine has the frame that it names
abbrev pub IsInside : Machine → Demand → Type 0
IsInside n (demands.Read g) = g < n.frames
IsInside n (demands.Typed g t) = g < n.frames
IsInside n _ = Unit {0}

-- an entry of a table of that level may ask it
abbrev pub IsOfLevel : ℕ → Demand → Type 0
IsOfLevel level demands.Nothing = Unit {0}
IsOfLevel level demands.Bad = ⊥
IsOfLevel level (demands.Read g) = Unit {0}
IsOfLevel level (demands.Typed g t) = t ≡ below (level_type level)

-- ---- what is in hand of a demand
-- an untyped reference to that frame is the newest; no frame is in work
pub record HoldsRef (v : PortValue) (f : ℕ) : Type 0 where
  pub works : v.holdings.works ≡ []
  pub reference : Reference
  pub others : List Reference
  pub refs : v.holdings.refs ≡ reference ∷ others
  pub here : reference.frame ≡ f

-- as it was taken of that owner
abbrev pub HoldsTaken : PortValue → Demand → ℕ → Type 0
HoldsTaken v (demands.Read g) owner = HoldsRef v g
HoldsTaken v (demands.Typed g t) owner = HoldsTyped v g t owner
HoldsTaken v _ owner = Unit {0}

-- as an entry had it
abbrev pub HoldsFreed : PortValue → Demand → Type 0
HoldsFreed v (demands.Read g) = HoldsRef v g
HoldsFreed v (demands.Typed g t) = HoldsLive v g t
HoldsFreed v _ = Unit {0}

-- it is gone; the first old word may have it
abbrev pub LeavesGone : PortValue → PortValue → Demand → Type 0
LeavesGone v w d = (a : Option ℕ) × Holds v w (record (demand_out d v.holdings) { old0 = a })

-- the entry has the new word, or is as it was found
abbrev pub LeavesPut : PortValue → PortValue → ℕ → ℕ → ℕ → Result ℕ Stop → Type 0
LeavesPut v w f i new (Ok old) = Holds v w (entry_set f i new old v.holdings)
LeavesPut v w f i new (Err e) = (found : ℕ) × Holds v w (entry_unset f i found v.holdings)

-- what the old word asks of a table under the own lock is a frame of the machine
abbrev pub WasInside : PortValue → ℕ → ℕ → ℕ → Type 0
WasInside v f i old = (e : Lock) → lock_on f v.holdings.locks ≡ Some e → IsInside v.post.machine (demand_at e.kind i old)

-- ---- the table under the lock, whose entry was seen
pub record HoldsSeen (v : PortValue) (f level owner i word : ℕ) : Type 0 where
  pub holds : HoldsTableLock v f level owner
  pub seen : holds.lock.seen ≡ Some (record { index = i; word = word })

-- behind any port in which the lock was in hand, and from which the entry was seen
abbrev pub BehindLook : PortValue → EntryUpdate → Owners → ℕ → (PortValue → Type 0) → Type 0
BehindLook v x o seen P = (a : PortValue) → HoldsTableLock a x.table x.level o.tables → SawEntry a v x.table x.index seen → P a

-- ---- courses
abbrev pub TakesDemand : PortValue → PortValue → ℕ → ℕ → Demand → Gate → Gate → Result (Unit {0}) Stop → Type 0
TakesDemand v w owner level d g h answer = GatedPast g h (is_due_answer answer) (λ answers. TookDemand owner level v d w answers answer)

-- all that is said of it
pub record DemandTaken (v w : PortValue) (owner level : ℕ) (d : Demand) (g h : Gate) (answer : Result (Unit {0}) Stop) : Type 0 where
  pub came : Came v w
  pub inside : IfOk answer (λ _. IsInside v.post.machine d)
  pub serves : (pages : ℕ) → ServesTaken v w d owner pages answer
  pub stops : (pages : ℕ) → IfErr answer (λ e. Stops v w (of_demand d owner pages (is_due_answer answer)) e)
  pub kinds : IfErr answer IsAcquireStop
  pub hand : LeavesDemand v w d owner answer
  pub course : TakesDemand v w owner level d g h answer

abbrev pub ReleasesDemand : PortValue → PortValue → Demand → Gate → Gate → Type 0
ReleasesDemand v w d g h = GatedPast g h false (λ answers. ReleasedDemand v d w answers)

pub record DemandReleased (v w : PortValue) (d : Demand) (g h : Gate) : Type 0 where
  pub came : Came v w
  pub serves : (owner pages : ℕ) → Serves v w (of_given d owner pages) []
  pub hand : LeavesGone v w d
  pub course : ReleasesDemand v w d g h

pub record DemandGiven (v w : PortValue) (owner level : ℕ) (d : Demand) : Type 0 where
  pub came : Came v w
  pub serves : ServesGiven v w d
  pub hand : LeavesGone v w d
  pub course : GaveDemand owner level v d w

pub record EntryPut (v w : PortValue) (f i seen new : ℕ) (keep : Bool) (answer : Result ℕ Stop) : Type 0 where
  pub came : Came v w
  pub serves : ServesPut v w f i new answer
  pub stops : IfErr answer (StopsPut v w f i seen)
  pub kinds : IfErr answer IsAcquireStop
  pub inside : IfOk answer (WasInside v f i)
  pub hand : LeavesPut v w f i new answer
  pub course : PutEntry v w f i seen new keep answer

-- the own entry lock taken off a table of that level
pub record LockLeft (v w : PortValue) (f level : ℕ) : Type 0 where
  pub came : Came v w
  pub serves : Serves v w (of_back f) []
  pub hand : LeavesUnlocked v w f
  pub course : LeftLock v f level w

-- the exchange behind its look, for a word that asks something else
pub record DemandChanged (v w : PortValue) (x : EntryUpdate) (o : Owners) (seen : ℕ) (g h : Gate) (answer : Result (Unit {0}) Stop) : Type 0 where
  pub came : Came v w
  pub serves : BehindLook v x o seen (λ a. ServesExchange a w x o answer)
  pub stops : BehindLook v x o seen (λ a. IfErr answer (λ e. Stops a w (of_exchange x o answer) e))
  pub kinds : IfErr answer IsAcquireStop
  pub hand : LeavesExchange v w
  pub course : BehindLook v x o seen (λ a. ExchangesBy a w x o g h answer)

-- the exchange as a whole
pub record EntryExchanged (v w : PortValue) (x : EntryUpdate) (o : Owners) (g h : Gate) (answer : Result (Unit {0}) Stop) : Type 0 where
  pub came : Came v w
  pub serves : ServesExchange v w x o answer
  pub stops : IfErr answer (λ e. Stops v w (of_exchange x o answer) e)
  pub kinds : IfErr answer IsAcquireStop
  pub hand : LeavesExchange v w
  pub rests : Rests w
  pub course : ExchangesBy v w x o g h answer
  -- A table of level 1 is not walked: the steps are few, and how many depends on the number of vCPUs alone.
  pub short : x.level ≡ 1 → length w.holdings.steps ≤ length v.holdings.steps + (64 + 3 * length v.post.machine.vcpu_domain)
