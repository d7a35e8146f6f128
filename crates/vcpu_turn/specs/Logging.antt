-- The answers in the log of a vCPU.
use Rattle.std.specs.Prelude.{ℕ, ◌==◌, if◌then◌else◌, List, sum_by}
use Rattle.xp_words.specs.declared.reply.LogLine.{LogLine}
use Rattle.xp_words.specs.declared.reply.LogLine.TheVariants as lines

-- an operation is answered by the line of its call 0
abbrev pub answers_by : LogLine → ℕ
answers_by (lines.Answer op call reply) = if call == 0 then 1 else 0
answers_by _ = 0

-- how many operations a log answers
abbrev pub answers_in : List LogLine → ℕ
answers_in log = sum_by answers_by log
