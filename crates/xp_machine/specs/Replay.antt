-- A whole run of a trace in threads.
use Rattle.std.specs.Prelude.{◌≡◌, ℕ, List, map}
use Rattle.atomic_table.specs.Seated.{TableId}
use Rattle.trace_text.specs.declared.trace.Trace.{Trace}
use Rattle.machine_build.specs.Opening.{IsOpening}
use Rattle.report_text.specs.ReportOf.{report_of}
use Rattle.vcpu_runners.specs.Replayed.{RanInThreads}
use Rattle.vcpu_runners.specs.Turns.{Processing, pending_of}
use Rattle.vcpu_runners.specs.Cpus.{first_cpus}
use Rattle.xp_machine.specs.Ran.{first_gates, log_of}
use Rattle.xp_preempt.specs.Gates.{Gate}

-- Words, gates and vCPUs that a run in threads leaves. From the opening words, with empty hands, each vCPU makes turns in a thread of its own, with the own
-- gate, until it is retired. The order of the turns of different vCPUs, and so the turns that the trace asks for, play no part.
pub record ReplayedTo (t : Trace) (gates : List Gate) (words : List ℕ) (left : List Gate) (cpus : List Processing) : Type 0 where
  pub opened : List ℕ
  pub opening : IsOpening t opened
  pub table : TableId
  -- all steps are one run of legal steps, between any two of which the machine is safe, and the closing words are sound with empty hands
  pub ran : RanInThreads (record { table = table; machine = t.layout; opening = opened }) (first_gates t.layout gates) (first_cpus t.layout t.scripts) words left cpus

-- The text is the report of such words.
pub record ReplayedTrace (t : Trace) (gates : List Gate) (text : List ℕ) : Type 0 where
  pub words : List ℕ
  pub left : List Gate
  pub cpus : List Processing
  pub ran : ReplayedTo t gates words left cpus
  pub report : text ≡ report_of t.layout words (map log_of cpus) (map pending_of cpus)
