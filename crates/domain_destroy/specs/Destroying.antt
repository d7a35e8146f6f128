-- All that is said of a destruction, and of a part of it.
use Rattle.std.specs.Prelude.{◌≡◌, ◌≤◌, ℕ, Bool, List, [], ◌++◌, length, Result, Ok, Err, IfOk, IfErr, IsTrue, true, false, not, None, Some}
use Rattle.xp_words.specs.declared.reply.LogLine.{LogLine}
use Rattle.xp_words.specs.declared.reply.Pause.TheVariants.{Busy}
use Rattle.xp_words.specs.declared.reply.Stop.{Stop}
use Rattle.xp_words.specs.declared.reply.Stop.TheVariants.{Paused}
use Rattle.xp_words.specs.declared.place.Place.{Place}
use Rattle.xp_words.specs.declared.place.Place.TheVariants.{Kind, Refs}
use Rattle.xp_board.specs.LifeSteps.{is_unallocated, is_unkept, is_unpinned}
use Rattle.xp_board.specs.Readings.{is_dying, is_owned_by, owner_of}
use Rattle.xp_board.specs.Told.{PortValue}
use Rattle.xp_board.specs.declared.step.Act.TheVariants.{Load}
use Rattle.xp_board.specs.declared.step.StepKind.TheVariants as kinds
use Rattle.step_maker.specs.Holds.{Rests}
use Rattle.step_maker.specs.Moves.{Came, Met, Moves}
use Rattle.step_maker.specs.Pauses.{LeftAs}
use Rattle.level_release.specs.Settling.{SettledHand}
use Rattle.dead_domains.specs.Buried.{HasBuried}
use Rattle.domain_destroy.specs.Asking.{IsDestroyStop, ServesDestroy, StopsDestroyer}
use Rattle.domain_destroy.specs.Clearing.{GivesMark, SawOwn, TakesMarks}
use Rattle.domain_destroy.specs.Coming.{FoundListed, HasComeTo, lefts_in}
use Rattle.domain_destroy.specs.Course.{Destroys, GoesOn, LeftFrame, ListsFrame, left_lines}
use Rattle.domain_destroy.specs.Emptying.{NamesNone}
use Rattle.domain_destroy.specs.declared.place.DestroyAt.{DestroyAt}
use Rattle.domain_destroy.specs.declared.place.DestroyAt.TheVariants.{Begins, Stops, Empties, Clears, Checks, Lists}

-- ---- a part
-- From v to w a part of the destruction of that domain went so, and ended so. Nothing is in hand behind it, and where it did not stop neither old word names anything.
pub record PartWent {A : Type 0} (v w : PortValue) (d : ℕ) (Course : Type 0) (answer : Result A Stop) : Type 0 where
  pub rests : Rests w
  pub hand : SettledHand v w
  pub clear : IfOk answer (λ _. NamesNone w)
  pub serves : ServesDestroy v w d answer
  pub stops : IfErr answer (λ e. StopsDestroyer v w d e)
  pub kinds : IfErr answer IsDestroyStop
  pub course : Course

-- it went on from a place to a place
abbrev pub PhaseWent : PortValue → PortValue → ℕ → DestroyAt → DestroyAt → List LeftFrame → List Bool → Result (Unit {0}) Stop → Type 0
PhaseWent v w d at to more answers answer = PartWent v w d (GoesOn d v at w to more answers answer) answer

-- ---- the marks of one frame
-- a step between found or left such a word there
abbrev pub LeavesAs : PortValue → PortValue → Place → (ℕ → Bool) → Type 0
LeavesAs v w p test = LeftAs (Met v w) p test

-- The pin or the `kept` mark of a frame that was seen to be the domain's is off, or why not: said of all steps from before that was seen.
pub record TookMarks (v w : PortValue) (f x : ℕ) (answers : List Bool) (answer : Result (Unit {0}) Stop) : Type 0 where
  pub came : Came v w
  pub rests : Rests w
  pub hand : SettledHand v w
  pub clear : IfOk answer (λ _. NamesNone w)
  pub serves : (u : PortValue) (d : ℕ) → SawOwn u v d f x → ServesDestroy u w d answer
  pub stops : (u : PortValue) (d : ℕ) → SawOwn u v d f x → IfErr answer (λ e. StopsDestroyer u w d e)
  pub kinds : IfErr answer IsDestroyStop
  pub unpinned : IfOk answer (λ _. (u : PortValue) (d : ℕ) → SawOwn u v d f x → LeavesAs u w (Kind f) is_unpinned)
  pub unkept : IfOk answer (λ _. (u : PortValue) (d : ℕ) → SawOwn u v d f x → LeavesAs u w (Kind f) is_unkept)
  pub course : TakesMarks f x v w answers answer

-- The allocated mark is off, or the frame another domain's, or why not.
pub record GaveMark (v w : PortValue) (d f : ℕ) (answer : Result Bool Stop) : Type 0 where
  pub part : PartWent v w d (GivesMark d f v w answer) answer
  pub unallocated : IfOk answer (λ given. given ≡ true → LeavesAs v w (Refs f) is_unallocated)
  pub others : IfOk answer (λ given. given ≡ false → LeavesAs v w (Refs f) (λ word. not (is_owned_by d word)))

-- ---- frames that are listed
-- how many of one frame
abbrev pub count_of : Bool → ℕ
count_of true = 1
count_of false = 0

-- One frame was found another's, or was listed; or it is half free. `listed`: its reference word, and what is listed of it.
abbrev pub ListsOne : ℕ → ℕ → ℕ → PortValue → List LogLine → PortValue → List LogLine → Result Bool Stop → Type 0
ListsOne d op f v log w log' (Ok listed) =
    (y : ℕ) × (more : List LeftFrame) × Moves v w (Refs f) Load kinds.Look None y × ListsFrame d f y more × (length more ≡ count_of listed) × (log' ≡ log ++ left_lines op more)
ListsOne d op f v log w log' (Err e) = (y : ℕ) × Moves v w (Refs f) Load kinds.Look None y × (e ≡ Paused (Busy f y)) × (owner_of y ≡ Some d) × IsTrue (is_dying y) × (log' ≡ log)

-- the destruction went on so, and the log got the lines of the frames that were listed
abbrev pub ListsOn : ℕ → ℕ → PortValue → DestroyAt → List LogLine → PortValue → DestroyAt → List LogLine → Result (Unit {0}) Stop → Type 0
ListsOn d op v at log w to log' answer = (more : List LeftFrame) × GoesOn d v at w to more [] answer × (log' ≡ log ++ left_lines op more)

-- ---- the phases, in their order
abbrev pub phase_of : DestroyAt → ℕ
phase_of Begins = 0
phase_of (Stops vcpu) = 1
phase_of (Empties vcpu) = 2
phase_of (Clears frame) = 3
phase_of Checks = 4
phase_of (Lists frame left) = 5

-- how the frames were listed, to the last of the machine where it did not stop
abbrev pub ended_by : {A : Type 0} → Result A Stop → Result (Unit {0}) Stop
ended_by (Ok a) = Ok tt
ended_by (Err e) = Err e

-- All were listed, so many in the whole destruction; or it stopped. The log got their lines.
pub record ListsAll (d op : ℕ) (v : PortValue) (at : DestroyAt) (log : List LogLine) (w : PortValue) (to : DestroyAt) (log' : List LogLine) (answer : Result ℕ Stop) : Type 0 where
  pub more : List LeftFrame
  pub part : PartWent v w d (GoesOn d v at w to more [] (ended_by answer)) answer
  pub lines : log' ≡ log ++ left_lines op more
  pub all : IfOk answer (λ left. (frame : ℕ) × (to ≡ Lists frame left) × (v.post.machine.frames ≤ frame))

-- What is known of the destruction goes with it.
abbrev pub KeepsComing : PortValue → PortValue → ℕ → DestroyAt → DestroyAt → Type 0
KeepsComing v w d at to = (op : ℕ) (log : List LogLine) → HasComeTo v d at op log → HasComeTo w d to op log

-- it has come there, by some operation
abbrev pub HasComeSomehow : PortValue → ℕ → DestroyAt → Type 0
HasComeSomehow v d at = (op : ℕ) × (log : List LogLine) × HasComeTo v d at op log

-- ---- all of it
-- By the steps from v to w, and the log that they leave, the domain is buried: what the destroying vCPU had found before it stored that it is dead. `left`: how many frames the
-- operation lists.
pub record Buries (v w : PortValue) (d op : ℕ) (log : List LogLine) (left : ℕ) : Type 0 where
  pub buried : HasBuried v.post.machine v.post.vcpu d op 0 w.holdings log
  pub now : length v.holdings.steps ≤ length buried.before
  pub since : ℕ
  pub found : FoundListed v.post.machine v.post.vcpu d v.post.machine.frames since buried.then op log
  pub value : left ≡ lefts_in op log

-- From v to w the domain was destroyed, or why not yet, or not at all. The log got a line for each frame that was listed in these steps.
pub record DomainDestroyed (v w : PortValue) (d op : ℕ) (at to : DestroyAt) (log log' : List LogLine) (answers : List Bool) (answer : Result ℕ Stop) : Type 0 where
  pub rests : Rests w
  pub hand : SettledHand v w
  pub serves : ServesDestroy v w d answer
  pub stops : IfErr answer (λ e. StopsDestroyer v w d e)
  pub kinds : IfErr answer IsDestroyStop
  pub more : List LeftFrame
  pub course : Destroys d v at w to more answers answer
  pub lines : log' ≡ log ++ left_lines op more
  pub come : IfErr answer (λ e. HasComeTo w d to op log')
  pub buried : IfOk answer (λ left. Buries v w d op log' left)
