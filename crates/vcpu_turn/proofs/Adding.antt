-- The lines that an operation adds to the log: none of them answers an operation, and a destruction alone lists frames, under its own number.
use Rattle.std.proofs.Common.{◌≡◌, ◌≢◌, ℕ, ◌+◌, ◌<◌, ◌==◌, if◌then◌else◌, Bool, false, List, [], ◌∷◌, ◌++◌, All, Contains, Result, Option, refl, sym, ap, ◌∙◌, subst, inl, inr, arith, append-nil, append_assoc}
use Rattle.std.proofs.lemmas.Bool.Decides.{nat_tests}
use Rattle.std.proofs.lemmas.List.Elements.{All-append, All-cons, All-contains, All-head, All-nil, All-tail, Contains-append_cases}
use Rattle.std.proofs.lemmas.List.Sums.{sum_by-append, sum_by-cons}
use Rattle.xp_words.specs.declared.ops.Call.{Call}
use Rattle.xp_words.specs.declared.reply.LogLine.{LogLine}
use Rattle.xp_words.specs.declared.reply.LogLine.TheVariants as lines
use Rattle.xp_words.specs.declared.reply.Reply.{Reply}
use Rattle.xp_words.specs.declared.reply.Stop.{Stop}
use Rattle.xp_board.specs.Told.{PortValue}
use Rattle.domain_destroy.specs.Coming.{left_by_line, lefts_in}
use Rattle.domain_destroy.specs.Course.{LeftFrame, left_lines}
use Rattle.vcpu_turn.specs.Calls as calling
use Rattle.vcpu_turn.specs.Calls.{AnsweredCalls, AnswersCall, WentBy, WorksCalls}
use Rattle.vcpu_turn.specs.Cpus.{Job, OfCalls, OfDestroy, OfOne, Task}
use Rattle.vcpu_turn.specs.Extents.{Block, given_lines}
use Rattle.vcpu_turn.specs.Working.{WentOn}
use Rattle.vcpu_turn.specs.declared.cpu.CallNumber.{CallNumber}
use Rattle.vcpu_turn.specs.declared.cpu.Progress.{Progress}

-- a line of a call, or of a block that was given
abbrev pub PlainLine : LogLine → Type 0
PlainLine (lines.Answer op call reply) = 0 < call
PlainLine (lines.Left op frame found) = ⊥
PlainLine _ = Unit {0}

-- a line of a frame that operation left
abbrev pub LeftLine : ℕ → LogLine → Type 0
LeftLine op (lines.Left o frame found) = o ≡ op
LeftLine op _ = ⊥

pub record Adds (P : LogLine → Type 0) (log log' : List LogLine) : Type 0 where
  pub more : List LogLine
  pub lines : log' ≡ log ++ more
  pub all : All P more

adds_none : (P : LogLine → Type 0) (log : List LogLine) → Adds P log log
adds_none P log = record { more = []; lines = sym (append-nil log); all = All-nil P }

adds_then : (P : LogLine → Type 0) (a b c : List LogLine) → Adds P a b → Adds P b c → Adds P a c
adds_then P a b c x y =
    record {
      more = x.more ++ y.more;
      lines = y.lines ∙ ap (λ (xs : List LogLine). xs ++ y.more) x.lines ∙ append_assoc a x.more y.more;
      all = All-append P x.more y.more x.all y.all;
    }

-- ---- one task
given_plain : (number : CallNumber) (blocks : List Block) → All PlainLine (given_lines number blocks)
given_plain number [] = All-nil PlainLine
given_plain number (b ∷ blocks) = All-cons PlainLine (lines.Given number.op number.call b.extent b.first) (given_lines number blocks) tt (given_plain number blocks)

pub went_adds : {d : ℕ} {task : Option Task} {number : CallNumber} {v : PortValue} {from to : Progress} {w : PortValue} {log log' : List LogLine} {answers : List Bool} {answer : Result ℕ Stop} → WentOn d task number v from to w log log' answers answer → Adds PlainLine log log'
went_adds {number = number} went = record { more = given_lines number _; lines = went.lines; all = given_plain number _ }

-- ---- calls
call_adds : {d : ℕ} {call : Call} {op : ℕ} {v : PortValue} {from : Progress} {log : List LogLine} {to : Progress} {w : PortValue} {log' : List LogLine} {asked : List Bool} {ended : Result (Unit {0}) Stop} → AnswersCall d call op v from log to w log' asked ended →
    Adds PlainLine log log'
call_adds {log = log} (calling.AnswersCall.unsettled w early stop settles) = adds_none PlainLine log
call_adds (calling.AnswersCall.paused to u w log' early asked p settles went) = went_adds went
call_adds {op = op} {from = from} {log = log} (calling.AnswersCall.answered to u x w log' early asked answer reply settles went replies ends) =
    adds_then PlainLine log log' _ (went_adds went) (record { more = lines.Answer op (from.call + 1) reply ∷ []; lines = refl; all = All-cons PlainLine (lines.Answer op (from.call + 1) reply) [] (omega arith) (All-nil PlainLine) })

answered_add : {d : ℕ} {calls : List Call} {op : ℕ} {v : PortValue} {from : Progress} {log : List LogLine} {at : Progress} {w : PortValue} {behind : List LogLine} {answers : List Bool} → AnsweredCalls d calls op v from log at w behind answers → Adds PlainLine log behind
answered_add {log = log} calling.AnsweredCalls.none = adds_none PlainLine log
answered_add {log = log} (calling.AnsweredCalls.more at to u w call before behind answers asked did is next) = adds_then PlainLine log before behind (answered_add did) (call_adds next)

pub calls_add : {d : ℕ} {calls : List Call} {op : ℕ} {v : PortValue} {from : Progress} {log : List LogLine} {to : Progress} {w : PortValue} {log' : List LogLine} {answers : List Bool} {ended : Result (Unit {0}) Stop} → WorksCalls d calls op v from log to w log' answers ended →
    Adds PlainLine log log'
calls_add {log = log} (calling.WorksCalls.long above) = adds_none PlainLine log
calls_add (calling.WorksCalls.all_answered at w behind answers few did all) = answered_add did
calls_add {log = log} (calling.WorksCalls.stopped at to u w call before behind answers asked stop few did is stops) = adds_then PlainLine log before behind (answered_add did) (call_adds stops)

-- ---- a destruction
left_all : (op : ℕ) (xs : List LeftFrame) → All (LeftLine op) (left_lines op xs)
left_all op [] = All-nil (LeftLine op)
left_all op (x ∷ xs) = All-cons (LeftLine op) (lines.Left op x.frame x.word) (left_lines op xs) refl (left_all op xs)

-- ---- an operation
abbrev pub FitsJob : Job → ℕ → LogLine → Type 0
FitsJob (OfDestroy x) op = LeftLine op
FitsJob job op = PlainLine

pub by_adds : (d op : ℕ) (v : PortValue) (from to : Progress) (w : PortValue) (log log' : List LogLine) (answers : List Bool) (answer : Result ℕ Stop) (job : Job) → WentBy d job op v from to w log log' answers answer → Adds (FitsJob job op) log log'
by_adds d op v from to w log log' answers answer (OfOne task) went = went_adds went
by_adds d op v from to w log log' answers answer (OfCalls calls) went = calls_add went.works
by_adds d op v from to w log log' answers answer (OfDestroy x) went = record { more = left_lines op went.destroyed.more; lines = went.destroyed.lines; all = left_all op went.destroyed.more }

-- ---- frames that are listed
lefts_none : (P : LogLine → Type 0) (k : ℕ) → ((x : LogLine) → P x → left_by_line k x ≡ 0) → (xs : List LogLine) → All P xs → lefts_in k xs ≡ 0
lefts_none P k each [] all = refl
lefts_none P k each (x ∷ xs) all =
    let sum = sum_by-cons (left_by_line k) x xs in
    let one = each x (All-head P x xs all) in
    let rest = lefts_none P k each xs (All-tail P x xs all) in
    omega (arith, sum, one, rest)

lefts_same : (P : LogLine → Type 0) (k : ℕ) → ((x : LogLine) → P x → left_by_line k x ≡ 0) → (log log' : List LogLine) → Adds P log log' → lefts_in k log' ≡ lefts_in k log
lefts_same P k each log log' adds =
    let sum = sum_by-append (left_by_line k) log adds.more in
    let none = lefts_none P k each adds.more adds.all in
    ap (lefts_in k) adds.lines ∙ omega (arith, sum, none)

plain_none : (k : ℕ) (x : LogLine) → PlainLine x → left_by_line k x ≡ 0
plain_none k (lines.Answer op call reply) p = refl
plain_none k (lines.Given op call extent frame) p = refl
plain_none k (lines.Left op frame found) p = absurd p

other_number : (o op k : ℕ) → o ≡ op → op ≢ k → (o == k) ≡ false
other_number o op k is off = grind (arith, nat_tests, is, off)

other_none : (op k : ℕ) → op ≢ k → (x : LogLine) → LeftLine op x → left_by_line k x ≡ 0
other_none op k off (lines.Answer o call reply) p = absurd p
other_none op k off (lines.Given o call extent frame) p = absurd p
other_none op k off (lines.Left o frame found) p = ap (λ (b : Bool). if b then 1 else 0) (other_number o op k p off)

-- an operation that destroys none lists none
pub plain_lefts : (k : ℕ) (log log' : List LogLine) → Adds PlainLine log log' → lefts_in k log' ≡ lefts_in k log
plain_lefts k log log' adds = lefts_same PlainLine k (plain_none k) log log' adds

-- and none lists one under another number
pub other_lefts : (job : Job) (op k : ℕ) → op ≢ k → (log log' : List LogLine) → Adds (FitsJob job op) log log' → lefts_in k log' ≡ lefts_in k log
other_lefts (OfOne task) op k off log log' adds = plain_lefts k log log' adds
other_lefts (OfCalls calls) op k off log log' adds = plain_lefts k log log' adds
other_lefts (OfDestroy x) op k off log log' adds = lefts_same (LeftLine op) k (other_none op k off) log log' adds

-- nor does the line of an answer
pub answer_lefts : (k : ℕ) (log : List LogLine) (op : ℕ) (reply : Reply) → lefts_in k (log ++ lines.Answer op 0 reply ∷ []) ≡ lefts_in k log
answer_lefts k log op reply =
    let sum = sum_by-append (left_by_line k) log (lines.Answer op 0 reply ∷ []) in
    let one : lefts_in k (lines.Answer op 0 reply ∷ []) ≡ 0 = sum_by-cons (left_by_line k) (lines.Answer op 0 reply) [] in
    omega (arith, sum, one)

-- ---- answers
no_answer : (job : Job) (op n : ℕ) (reply : Reply) → FitsJob job op (lines.Answer n 0 reply) → ⊥
no_answer (OfOne task) op n reply fits = omega (arith, fits)
no_answer (OfCalls calls) op n reply fits = omega (arith, fits)
no_answer (OfDestroy x) op n reply fits = fits

pub answer_before : (job : Job) (op : ℕ) (log log' : List LogLine) → Adds (FitsJob job op) log log' → (n : ℕ) (reply : Reply) → Contains log' (lines.Answer n 0 reply) → Contains log (lines.Answer n 0 reply)
answer_before job op log log' adds n reply in_it =
    elim (Contains-append_cases log adds.more (lines.Answer n 0 reply) (subst (λ (xs : List LogLine). Contains xs (lines.Answer n 0 reply)) adds.lines in_it)) [
      | inl before ↦ before
      | inr new ↦ absurd (no_answer job op n reply (All-contains (FitsJob job op) adds.more (lines.Answer n 0 reply) adds.all new))
    ]
