-- A whole run of a trace.
use Rattle.std.specs.Prelude.{◌++◌, ◌≡◌, ℕ, List, map, take}
use Rattle.xp_words.specs.declared.reply.LogLine.{LogLine}
use Rattle.trace_text.specs.declared.trace.Trace.{Trace}
use Rattle.machine_build.specs.Opening.{IsOpening}
use Rattle.machine_image.specs.Image.{image_of}
use Rattle.trace_gen.specs.Generated.{generated, generated_machine}
use Rattle.report_text.specs.ReportOf.{report_of}
use Rattle.report_text.specs.SummaryOf.{summary_of}
use Rattle.xp_board.specs.declared.step.Step.{Step}
use Rattle.xp_words.specs.Machine.{Machine}
use Rattle.xp_words.specs.Places.{sizes_of, memory}
use Rattle.xp_board.specs.Safe.{Safe}
use Rattle.xp_board.specs.Sound.{hand_of, SoundWords}
use Rattle.xp_board.specs.Runs as runs
use Rattle.shared_board.specs.Board.{opened_story, state_of}
use Rattle.step_text.specs.Lines.{steps_text_of}
use Rattle.step_text.specs.declared.told.ToldStep.{ToldStep}
use Rattle.told_board.specs.Telling.{told_steps}
use Rattle.vcpu_runners.specs.Turns.{Processing, pending_of}
use Rattle.vcpu_runners.specs.Cpus.{first_cpus}
use Rattle.vcpu_runners.specs.Destroyed.{AreDestroyed}
use Rattle.xp_machine.specs.Cpus.{order}
use Rattle.xp_machine.specs.Turns.{Stage, stage, WorksOff}
use Rattle.xp_preempt.specs.Gates.{Gate}

-- gate v is that of vCPU v, and the further ones are let go
abbrev pub first_gates : Machine → List Gate → List Gate
first_gates n gates = take (sizes_of n).vcpus gates

abbrev pub log_of : Processing → List LogLine
log_of c = c.log

-- the report of the words and of what the vCPUs answered
abbrev pub report_at : Machine → Stage → List ℕ
report_at n s = report_of n s.board.words (map log_of s.cpus) (map pending_of s.cpus)

-- the summary of the same, for so many operations
abbrev pub summary_at : ℕ → Machine → Stage → List ℕ
summary_at operations n s = summary_of operations n s.board.words (map log_of s.cpus)

-- Legal steps lead to this stage. From the opening words, with empty hands, the vCPUs make the turns that the trace asks for, in
-- its order, each with the own gate; then each stops that is not retired.
pub record RanTo (t : Trace) (gates : List Gate) (closed : Stage) : Type 0 where
  pub opened : List ℕ
  pub opening : IsOpening t opened
  pub works : WorksOff t.layout (order t.turns) (stage (opened_story t.layout opened) (first_cpus t.layout t.scripts) (first_gates t.layout gates)) closed
  -- the list of all steps that were made on the board
  pub run : runs.Run t.layout (runs.start t.layout opened) closed.board.log (state_of closed.board)
  -- between any two of these steps, and behind the last, the machine is safe
  pub safe : (newer older : List (ℕ × Step)) (a : runs.State) → closed.board.log ≡ newer ++ older → runs.Run t.layout (runs.start t.layout opened) older a →
      Safe t.layout (memory (sizes_of t.layout) a.words) (hand_of a.hands)
  -- the closing words are sound with empty hands
  pub sound : SoundWords t.layout closed.board.words
  -- what was destroyed left there what it listed, and nothing else
  pub destroyed : AreDestroyed t.layout (memory (sizes_of t.layout) closed.board.words) (hand_of closed.board.hands) closed.cpus

-- The text is the report of the words and the logs at the end of such a run of the trace.
pub record RanTrace (t : Trace) (gates : List Gate) (text : List ℕ) : Type 0 where
  pub closed : Stage
  pub ran : RanTo t gates closed
  pub report : text ≡ report_at t.layout closed

-- a line for each step on the board, in the order in which they were made
abbrev pub steps_at : Machine → Stage → List ℕ
steps_at n s = steps_text_of n (told_steps s.board.opening s.board.log)

-- The text is that report, with a line for each step of the run behind it.
pub record ToldTrace (t : Trace) (gates : List Gate) (text : List ℕ) : Type 0 where
  pub closed : Stage
  pub ran : RanTo t gates closed
  pub told : text ≡ report_at t.layout closed ++ steps_at t.layout closed

-- The bytes are the image of the words at the end of such a run of the trace.
pub record ImagedTrace (t : Trace) (gates : List Gate) (bytes : List ℕ) : Type 0 where
  pub closed : Stage
  pub ran : RanTo t gates closed
  pub image : bytes ≡ image_of t.layout closed.board.words

-- The text is the summary of the words and the logs at the end of such a run of the generated trace of so many operations.
pub record RanGenerated (operations : ℕ) (gates : List Gate) (text : List ℕ) : Type 0 where
  pub closed : Stage
  pub ran : RanTo (generated operations) gates closed
  pub summary : text ≡ summary_at operations generated_machine closed

-- such a run leaves these words and vCPUs
pub record RanToWords (t : Trace) (gates : List Gate) (words : List ℕ) (cpus : List Processing) : Type 0 where
  pub closed : Stage
  pub ran : RanTo t gates closed
  pub words_are : words ≡ closed.board.words
  pub cpus_are : cpus ≡ closed.cpus

-- such a run leaves these words, steps and vCPUs
pub record RanToSteps (t : Trace) (gates : List Gate) (words : List ℕ) (steps : List ToldStep) (cpus : List Processing) : Type 0 where
  pub closed : Stage
  pub ran : RanTo t gates closed
  pub words_are : words ≡ closed.board.words
  pub steps_are : steps ≡ told_steps closed.board.opening closed.board.log
  pub cpus_are : cpus ≡ closed.cpus
