-- The log of a vCPU has one answer for each operation that is answered.
use Rattle.std.proofs.Common.{◌≡◌, ℕ, ◌+◌, ◌==◌, if◌then◌else◌, Bool, false, List, [], ◌∷◌, ◌++◌, Option, Some, None, Result, sum_by, refl, sym, ap, ◌∙◌, subst, arith}
use Rattle.std.proofs.lemmas.Bool.Decides.{nat_tests}
use Rattle.std.proofs.lemmas.List.Sums.{sum_by-append, sum_by-cons}
use Rattle.xp_words.specs.declared.ops.Call.{Call}
use Rattle.xp_words.specs.declared.ops.Op.{Op}
use Rattle.xp_words.specs.declared.reply.LogLine.{LogLine}
use Rattle.xp_words.specs.declared.reply.LogLine.TheVariants as lines
use Rattle.xp_words.specs.declared.reply.Reply.{Reply}
use Rattle.xp_words.specs.declared.reply.Stop.{Stop}
use Rattle.xp_board.specs.Told.{PortValue}
use Rattle.domain_destroy.specs.Course.{LeftFrame, left_lines}
use Rattle.vcpu_turn.specs.Calls as calling
use Rattle.vcpu_turn.specs.Calls.{AnsweredCalls, AnswersCall, WentBy, WorksCalls}
use Rattle.vcpu_turn.specs.Cpus.{Job, OfCalls, OfDestroy, OfOne, Processing, Task, after_turn, job_of, next_of, nothing_left}
use Rattle.vcpu_turn.specs.Extents.{Block, given_lines}
use Rattle.vcpu_turn.specs.Turning as turning
use Rattle.vcpu_turn.specs.Turning.{DoesTurn, IsTurn}
use Rattle.vcpu_turn.specs.Working.{WentOn}
use Rattle.vcpu_turn.specs.declared.cpu.CallNumber.{CallNumber}
use Rattle.vcpu_turn.specs.declared.cpu.Progress.{Progress}
use Rattle.vcpu_turn.specs.declared.cpu.TurnEnd.{TurnEnd}
use Rattle.vcpu_turn.specs.declared.cpu.TurnEnd.TheVariants as ends
use Rattle.vcpu_turn.specs.Logging.{answers_by, answers_in}

abbrev Counts : Processing → Type 0
Counts c = answers_in c.log ≡ c.answered

one_more : (log : List LogLine) (op : ℕ) (reply : Reply) → sum_by answers_by (log ++ lines.Answer op 0 reply ∷ []) ≡ sum_by answers_by log + 1
one_more log op reply =
    let all = sum_by-append answers_by log (lines.Answer op 0 reply ∷ []) in
    let one : sum_by answers_by (lines.Answer op 0 reply ∷ []) ≡ 1 = sum_by-cons answers_by (lines.Answer op 0 reply) [] in
    omega (arith, all, one)

-- lines of blocks that were given are none
none_given : (number : CallNumber) (blocks : List Block) → sum_by answers_by (given_lines number blocks) ≡ 0
none_given number [] = refl
none_given number (b ∷ blocks) =
    let all = sum_by-cons answers_by (lines.Given number.op number.call b.extent b.first) (given_lines number blocks) in
    let rest = none_given number blocks in
    omega (arith, all, rest)

given_counts : (log : List LogLine) (number : CallNumber) (blocks : List Block) → sum_by answers_by (log ++ given_lines number blocks) ≡ sum_by answers_by log
given_counts log number blocks =
    let all = sum_by-append answers_by log (given_lines number blocks) in
    let none = none_given number blocks in
    omega (arith, all, none)

went_counts : {d : ℕ} {task : Option Task} {number : CallNumber} {v : PortValue} {from to : Progress} {w : PortValue} {log log' : List LogLine} {answers : List Bool} {answer : Result ℕ Stop} → WentOn d task number v from to w log log' answers answer →
    sum_by answers_by log' ≡ sum_by answers_by log
went_counts {number = number} {log = log} went = ap answers_in went.lines ∙ given_counts log number _

-- nor is the line of a call that is answered
no_answer : (call : ℕ) → ((call + 1) == 0) ≡ false
no_answer call = grind (arith, nat_tests)

call_line : (log : List LogLine) (op call : ℕ) (reply : Reply) → sum_by answers_by (log ++ lines.Answer op (call + 1) reply ∷ []) ≡ sum_by answers_by log
call_line log op call reply =
    let all = sum_by-append answers_by log (lines.Answer op (call + 1) reply ∷ []) in
    let one : sum_by answers_by (lines.Answer op (call + 1) reply ∷ []) ≡ 0 = sum_by-cons answers_by (lines.Answer op (call + 1) reply) [] ∙ ap (λ (b : Bool). (if b then 1 else 0) + 0) (no_answer call) in
    omega (arith, all, one)

call_counts : {d : ℕ} {call : Call} {op : ℕ} {v : PortValue} {from : Progress} {log : List LogLine} {to : Progress} {w : PortValue} {log' : List LogLine} {asked : List Bool} {ended : Result (Unit {0}) Stop} → AnswersCall d call op v from log to w log' asked ended →
    sum_by answers_by log' ≡ sum_by answers_by log
call_counts (calling.AnswersCall.unsettled w early stop settles) = refl
call_counts (calling.AnswersCall.paused to u w log' early asked p settles went) = went_counts went
call_counts {op = op} {from = from} (calling.AnswersCall.answered to u x w log' early asked answer reply settles went replies ends) = call_line log' op from.call reply ∙ went_counts went

answered_counts : {d : ℕ} {calls : List Call} {op : ℕ} {v : PortValue} {from : Progress} {log : List LogLine} {at : Progress} {w : PortValue} {behind : List LogLine} {answers : List Bool} → AnsweredCalls d calls op v from log at w behind answers →
    sum_by answers_by behind ≡ sum_by answers_by log
answered_counts calling.AnsweredCalls.none = refl
answered_counts (calling.AnsweredCalls.more at to u w call before behind answers asked did is next) = call_counts next ∙ answered_counts did

calls_count : {d : ℕ} {calls : List Call} {op : ℕ} {v : PortValue} {from : Progress} {log : List LogLine} {to : Progress} {w : PortValue} {log' : List LogLine} {answers : List Bool} {ended : Result (Unit {0}) Stop} → WorksCalls d calls op v from log to w log' answers ended →
    sum_by answers_by log' ≡ sum_by answers_by log
calls_count (calling.WorksCalls.long above) = refl
calls_count (calling.WorksCalls.all_answered at w behind answers few did all) = answered_counts did
calls_count (calling.WorksCalls.stopped at to u w call before behind answers asked stop few did is stops) = call_counts stops ∙ answered_counts did

-- nor are lines of frames that are left
none_left : (op : ℕ) (xs : List LeftFrame) → sum_by answers_by (left_lines op xs) ≡ 0
none_left op [] = refl
none_left op (x ∷ xs) =
    let all = sum_by-cons answers_by (lines.Left op x.frame x.word) (left_lines op xs) in
    let rest = none_left op xs in
    omega (arith, all, rest)

left_counts : (log log' : List LogLine) (op : ℕ) (more : List LeftFrame) → log' ≡ log ++ left_lines op more → answers_in log' ≡ answers_in log
left_counts log log' op more is =
    let all = sum_by-append answers_by log (left_lines op more) in
    let none = none_left op more in
    ap answers_in is ∙ omega (arith, all, none)

by_counts : (d op : ℕ) (v : PortValue) (from to : Progress) (w : PortValue) (log log' : List LogLine) (answers : List Bool) (answer : Result ℕ Stop) (job : Job) → WentBy d job op v from to w log log' answers answer → answers_in log' ≡ answers_in log
by_counts d op v from to w log log' answers answer (OfOne task) went = went_counts went
by_counts d op v from to w log log' answers answer (OfDestroy x) went = left_counts log log' op went.destroyed.more went.destroyed.lines
by_counts d op v from to w log log' answers answer (OfCalls calls) went = calls_count went.works

after_counts : (c : Processing) (to : Progress) (log : List LogLine) (end : TurnEnd) → answers_in log ≡ answers_in c.log → Counts c → Counts (after_turn c to log end)
after_counts c to log (ends.Answered reply) same counts = let more = one_more log (c.answered + 1) reply in omega (arith, more, same, counts)
after_counts c to log (ends.Paused p) same counts = same ∙ counts
after_counts c to log ends.Retired same counts = counts

going_counts : (c : Processing) (o : Option Op) (v : PortValue) (d : Processing) (w : PortValue) (answers : List Bool) (end : TurnEnd) → DoesTurn c o v d w answers end → Counts c → Counts d
going_counts c o v _ _ _ _ (turning.DoesTurn.unsettled w answers p settles) counts = counts
going_counts c None v _ _ _ _ (turning.DoesTurn.dying life w d end dead dies) counts = subst Counts (sym dies.2) counts
going_counts c (Some op) v _ _ _ _ (turning.DoesTurn.dying life w d end dead dies) counts = subst Counts (sym dies.2) (after_counts c c.at c.log end refl counts)
going_counts c None v _ _ _ _ (turning.DoesTurn.settled u w d early answers end settles retires) counts = subst Counts (sym retires.cpu) counts
going_counts c (Some op) v _ _ _ _ (turning.DoesTurn.settled u w d early answers end settles on) counts =
    subst Counts (sym on.cpu) (after_counts (nothing_left c) on.to on.log end (by_counts c.domain (c.answered + 1) u c.at on.to w c.log on.log answers on.answer (job_of op) on.went) counts)

pub turn_counts : (c d : Processing) (end : TurnEnd) (v w : PortValue) (answers : List Bool) → IsTurn c d end v w answers → answers_in c.log ≡ c.answered → answers_in d.log ≡ d.answered
turn_counts c d end v w answers turn counts = going_counts c (next_of c) turn.begun d turn.worked answers end turn.does counts
