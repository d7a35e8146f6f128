-- A run of one vCPU that comes to the end of its script.
use Rattle.std.specs.Prelude.{◌≡◌, ◌<◌, ℕ, true, List, Some, length, slice_get}
use Rattle.xp_words.specs.Places.{memory, sizes_of}
use Rattle.xp_words.specs.declared.ops.Op.{Op}
use Rattle.xp_words.specs.declared.place.Place.TheVariants.{Clock}
use Rattle.xp_board.specs.Readings.{domain_of, last_clock}
use Rattle.xp_board.specs.Told.{PortValue}
use Rattle.shared_board.specs.Board.{opened_story}
use Rattle.vcpu_runners.specs.Turns.{Processing}
use Rattle.trace_text.specs.declared.trace.Trace.{Trace}
use Rattle.trace_text.specs.declared.trace.TurnRun.{TurnRun}
use Rattle.trace_text.specs.WellFormed.{IsWellFormed}
use Rattle.machine_build.specs.Opening.{opening_at}
use Rattle.xp_preempt.specs.Gates.{Gate}
use Rattle.xp_machine.specs.Ran.{RanTo}
use Rattle.xp_machine.specs.Turns.{Stage, port_on}
use Rattle.script_law.specs.Shown.{solo_in}
use Rattle.script_law.specs.Scripts.{Logged}
use Rattle.script_law.specs.Values.{Solo, Whose}
use Rattle.pause_laws.specs.Calls.{HasRoom}
use Rattle.solo_accesses.specs.Stale.{IsNeverStale}
use Rattle.script_laws.specs.Logged.{IsLogged}
use Rattle.script_laws.specs.Opening.{IsStoppedAt}
use Rattle.script_laws.specs.Turns.{IsLog}

-- the plain value with which the machine of a trace opens, as its first vCPU knows it; and of which domain that is
abbrev pub opening_solo : Trace → Solo
opening_solo t = solo_in (opening_at t) 0

abbrev pub owner_in : Trace → Whose
owner_in t = record { machine = t.layout; domain = domain_of t.layout 0 }

-- the port of that vCPU on the board that opens with these words
abbrev pub first_port : Trace → List ℕ → PortValue
first_port t words = port_on t.layout 0 (opened_story t.layout words)

-- A run of the trace leads to that stage. Its machine has one vCPU, which has this script; and by the turns that the trace lists it comes to the script's end.
pub record FinishesAlone (t : Trace) (gates : List Gate) (script : List Op) (closed : Stage) (last : Processing) : Type 0 where
  pub formed : IsWellFormed t
  pub only : length t.layout.vcpu_domain ≡ 1
  pub script_is : slice_get t.scripts 0 ≡ Some script
  pub ran : RanTo t gates closed
  pub last_is : slice_get ran.works.worked.cpus 0 ≡ Some last
  pub retired : last.retired ≡ true

-- the same trace with other turn lines
abbrev pub with_turns : List TurnRun → Trace → Trace
with_turns us t = record t { turns = us }

-- The run leaves the clock below its last value; none of its steps finds a reference word with its count at the limit, or comes to a word by a translation that a walk would not find.
pub record IsFairRun (t : Trace) (opened : List ℕ) (closed : Stage) : Type 0 where
  pub clock : memory (sizes_of t.layout) closed.board.words Clock < last_clock
  pub room : HasRoom (first_port t opened) (port_on t.layout 0 closed.board)
  pub fresh : IsNeverStale (first_port t opened) (port_on t.layout 0 closed.board)

-- The log of the vCPU is of these answers, line by line, and the closing words show that value.
pub record RunComesTo (t : Trace) (closed : Stage) (last : Processing) (answers : List Logged) (left : Solo) : Type 0 where
  pub last_is : slice_get closed.cpus 0 ≡ Some last
  pub log : IsLog IsLogged last.log answers
  pub words : IsStoppedAt (port_on t.layout 0 closed.board) left

-- There are answers and a value to which both runs come.
pub record ComeToTheSame (t : Trace) (closed : Stage) (last : Processing) (u : Trace) (other : Stage) (ends : Processing) : Type 0 where
  pub answers : List Logged
  pub left : Solo
  pub first : RunComesTo t closed last answers left
  pub second : RunComesTo u other ends answers left
