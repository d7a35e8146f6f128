-- The text of a summary: how the operations of a run were answered, and how many frames are free.
use Rattle.std.specs.Prelude.{ℕ, ◌+◌, ◌-◌, ◌==◌, ◌&&◌, Bool, false, List, ◌++◌, sum_by, count_by, is_some, is_none, codes, decimal}
use Rattle.xp_words.specs.Machine.{Machine}
use Rattle.xp_words.specs.declared.reply.LogLine.{LogLine}
use Rattle.xp_words.specs.declared.reply.LogLine.TheVariants.{Answer}
use Rattle.report_text.specs.ReportOf.{free_line}

-- the answer of an operation, and not of a call of it, that is no refusal
abbrev pub is_done : LogLine → Bool
is_done (Answer op call reply) = call == 0 && is_none reply.refusal
is_done _ = false

-- the same that is one
abbrev pub is_refused : LogLine → Bool
is_refused (Answer op call reply) = call == 0 && is_some reply.refusal
is_refused _ = false

-- in how many lines of all logs it is so
abbrev pub lines_with : (LogLine → Bool) → List (List LogLine) → ℕ
lines_with test logs = sum_by (count_by test) logs

-- of so many operations these were done, these refused, and all other are pending
unfoldable pub generated_line : ℕ → ℕ → ℕ → List ℕ
generated_line operations done refused =
    codes "generated " ++ (decimal operations ++ (codes " ok " ++ (decimal done ++ (codes " refused " ++ (decimal refused ++ (codes " pending " ++ (decimal (operations - (done + refused)) ++ codes "\n")))))))

-- the summary of so many operations, on a machine with these words, whose vCPUs have these logs
unfoldable pub summary_of : ℕ → Machine → List ℕ → List (List LogLine) → List ℕ
summary_of operations m words logs =
    generated_line operations (lines_with is_done logs) (lines_with is_refused logs) ++ free_line (record { machine = m; words = words })
