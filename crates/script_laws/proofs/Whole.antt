-- Whole scripts: what the parts of a turn come to, from the laws of elements.
use Rattle.std.proofs.Common.{◌≡◌, ℕ, suc, ◌+◌, ◌<◌, nat_lt, if◌then◌else◌, List, [], ◌∷◌, ◌++◌, length, Option, Some, None, Result, Ok, Err, refl, sym, ap, ◌∙◌, subst, arith}
use Rattle.std.proofs.lemmas.List.{append-nil, append_assoc}
use Rattle.xp_words.specs.declared.ops.Call.{Call}
use Rattle.xp_words.specs.declared.ops.Op.{Op}
use Rattle.xp_words.specs.declared.reply.LogLine.{LogLine}
use Rattle.xp_words.specs.declared.reply.LogLine.TheVariants as lines
use Rattle.xp_words.specs.declared.reply.Refusal.TheVariants.{BatchLong}
use Rattle.xp_words.specs.declared.reply.Reply.{Reply}
use Rattle.xp_words.specs.declared.reply.Stop.{Stop}
use Rattle.xp_words.specs.declared.reply.Stop.TheVariants.{Refused, Paused}
use Rattle.xp_board.specs.Told.{PortValue}
use Rattle.step_maker.specs.Holds.{Rests}
use Rattle.step_maker.specs.Moves.{Came}
use Rattle.course_laws.proofs.Awaiting.{NeitherLostNorBusy}
use Rattle.script_law.specs.Scripts.{Answered, Logged, answered, call_alone, called, calls_in_order, logged_behind, multicall, op_alone, refused}
use Rattle.script_law.specs.Values.{Called, Line, Solo}
use Rattle.solo_pins.proofs.Meaning.{Laws}
use Rattle.solo_ports.specs.Standing.{IsSettled, Stands, whose}
use Rattle.vcpu_turn.specs.Cpus.{Job, OfDestroy, OfOne, Task, begun_at, reply_of, task_in}
use Rattle.vcpu_turn.specs.declared.cpu.Progress.{Progress}
use Rattle.script_laws.specs.Logged.{AreLines, IsLogged}
use Rattle.script_laws.specs.Plain.{PlainScript, answers_by, ends_by}
use Rattle.script_laws.specs.Turns.{IsLog}
use Rattle.script_laws.specs.Turns as turns
use Rattle.script_laws.proofs.Burying.{Dies, dies_work}
use Rattle.script_laws.proofs.Calling.{CallComes, CallLemmas}
use Rattle.script_laws.proofs.Listed.{lines_more}
use Rattle.script_laws.proofs.Moving.{alike_moves, cut_alike, settled_moves, unsettled_moves}
use Rattle.script_laws.proofs.Premises.{FairFrom, fair_back}
use Rattle.script_laws.proofs.Settling.{stands_in}
use Rattle.script_laws.proofs.Tasking.{Elements, Moving, TaskComes, TaskGoing, call_plain, owes_moved, task_begins, task_moved, task_work}
use Rattle.script_laws.proofs.Tasks.{Comes, IsTaskAnswered, Lives, OwesT}
use Rattle.script_laws.proofs.Working.{Answers, Comes as ComesBy, GoingBy, ManyLemmas, ReadyBy, WorkOf, work_by}

-- ---- the plain calls of a multicall
pub all_lines : List (List Line) → List Line
all_lines [] = []
all_lines (x ∷ xs) = x ++ all_lines xs

abbrev pub many : List (List Line) → Solo → Answered
many all last = answered (length all) 0 None (all_lines all) last

module _ (v0 : PortValue) where
  abbrev pub one_call : ℕ → Call → Solo → Answered
  one_call k c s = called (k + 1) (call_alone (whose v0) (k + 1) c s)

  abbrev pub plain_calls : PlainScript Call Solo (List Line) Answered
  plain_calls =
      record {
        answer = λ a. a.lines;
        left = λ a. a.left;
        alone = one_call;
        answers = answers_by (λ a. a.lines) (λ a. a.left) one_call;
        ends = ends_by (λ a. a.left) one_call;
        no_answers = λ k s. refl;
        no_end = λ k s. refl;
        more_answers = λ c cs k s. refl;
        more_ends = λ c cs k s. refl;
      }

  answers_many : (cs : List Call) (k : ℕ) (s : Solo) → length (answers_by (λ (a : Answered). a.lines) (λ a. a.left) one_call cs k s) ≡ length cs
  answers_many [] k s = refl
  answers_many (c ∷ cs) k s = ap suc (answers_many cs (suc k) (one_call k c s).left)

  in_order_many : (cs : List Call) (k : ℕ) (s : Solo) → calls_in_order (whose v0) cs k s ≡ answered (k + length cs) 0 None (all_lines (answers_by (λ (a : Answered). a.lines) (λ a. a.left) one_call cs k s)) (ends_by (λ a. a.left) one_call cs k s)
  unfolding calls_in_order all_lines
  in_order_many [] k s = let none : k ≡ k + 0 = omega arith in ap (λ j. answered j 0 None [] s) none
  in_order_many (c ∷ cs) k s =
      let a = one_call k c s in
      let next : k + 1 ≡ suc k = omega arith in
      let more : suc k + length cs ≡ k + suc (length cs) = omega arith in
      ap (λ j. logged_behind a.lines (calls_in_order (whose v0) cs j a.left)) next
      ∙ (ap (logged_behind a.lines) (in_order_many cs (suc k) a.left)
      ∙ ap (λ j. answered j 0 None (a.lines ++ all_lines (answers_by (λ (a : Answered). a.lines) (λ a. a.left) one_call cs (suc k) a.left)) (ends_by (λ a. a.left) one_call cs (suc k) a.left)) more)

  pub multicall_many : (cs : List Call) (s : Solo) → multicall (whose v0) cs s ≡ (if nat_lt 64 (length cs) then refused BatchLong s else many (plain_calls.answers cs 0 s) (plain_calls.ends cs 0 s))
  multicall_many cs s =
      let none : 0 + length cs ≡ length cs = omega arith in
      ap (λ (a : Answered). if nat_lt 64 (length cs) then refused BatchLong s else a)
      (in_order_many cs 0 s ∙ ap (λ j. answered j 0 None (all_lines (plain_calls.answers cs 0 s)) (plain_calls.ends cs 0 s)) none ∙ ap (λ j. answered j 0 None (all_lines (plain_calls.answers cs 0 s)) (plain_calls.ends cs 0 s)) (sym (answers_many cs 0 s)))

-- ---- the log of a multicall
lines_joined : (xs : List (List Line)) (x : List Line) → all_lines (xs ++ x ∷ []) ≡ all_lines xs ++ x
unfolding all_lines
lines_joined [] x = append-nil x
lines_joined (y ∷ xs) x = ap (λ ls. y ++ ls) (lines_joined xs x) ∙ sym (append_assoc y (all_lines xs) x)

lines_logged : (op : ℕ) (made : List LogLine) (all : List (List Line)) → IsLog (λ n ls a. AreLines op ls a) made all → AreLines op made (all_lines all)
unfolding all_lines
lines_logged op _ _ turns.IsLog.none = tt
lines_logged op _ _ (turns.IsLog.more log made before a logged is) = subst (AreLines op (log ++ made)) (sym (lines_joined before a)) (lines_more op log made (all_lines before) a (lines_logged op log before logged) is)

-- what is logged of an operation
abbrev pub log_of : Answered → Logged
log_of a = record { lines = a.lines; answer = a.answer }

-- ---- what the parts of a turn come to
module _ (l : Laws) (neither : NeitherLostNorBusy) (v0 : PortValue) (real : (whose v0).domain < length v0.post.machine.page_limit) (e : Elements l neither v0) where
  abbrev pub Owed : PortValue → Solo → Type 0
  Owed = OwesT l.stays neither v0

  abbrev pub Left : Option Task → ℕ → ℕ → Progress → List LogLine → PortValue → Answered → Type 0
  Left = TaskGoing l neither v0 real e

  -- where something stands to which it all comes
  pub record Standing (v : PortValue) : Type 0 where
    pub value : Solo
    pub came : Came v0 v
    pub alive : value.lives (whose v0).domain ≡ 0
    pub stands : Stands v value

  pub owed_standing : (v : PortValue) (s : Solo) → Owed v s → Standing v
  owed_standing v s owes = record { value = s; came = owes.ahead.came; alive = owes.ahead.good; stands = stands_in l.stays neither v s owes.owes }

  -- ---- calls
  pub record CallGoing (op : ℕ) (call : Call) (n : ℕ) (at : Progress) (made : List LogLine) (v : PortValue) (a : Answered) : Type 0 where
    pub answer : Answered
    pub is : called n answer ≡ a
    pub left : Left (task_in call) op n at made v answer

  pub record CallReady (op : ℕ) (call : Call) (n : ℕ) (at : Progress) (made : List LogLine) (v : PortValue) (a : Answered) : Type 0 where
    pub going : CallGoing op call n at made v a
    pub rests : Rests v
    pub settled : IsSettled v

  pub call_moved : (op : ℕ) (call : Call) (n : ℕ) (at : Progress) (made : List LogLine) (v w : PortValue) (a : Answered) → Moving l neither v0 real e v w → CallGoing op call n at made v a → CallGoing op call n at made w a
  call_moved op call n at made v w a m g = record { answer = g.answer; is = g.is; left = task_moved l neither v0 real e (task_in call) op n at made v w g.answer m g.left }

  -- its answer is in the log of the multicall
  call_answers : (op n : ℕ) (made : List LogLine) (w : PortValue) (reply : Reply) (b a : Answered) → called n b ≡ a → IsTaskAnswered l.stays neither v0 op made w reply b → AreLines op (made ++ lines.Answer op n reply ∷ []) a.lines × Owed w a.left
  call_answers op n made w reply b a is t =
      subst (λ (y : Answered). AreLines op (made ++ lines.Answer op n reply ∷ []) y.lines × Owed w y.left) is (lines_more op made (lines.Answer op n reply ∷ []) b.lines (Called n b.answer ∷ []) t.lines ((refl, refl, t.replies), tt), t.owes)

  call_comes : (op : ℕ) (calls : List Call) (call : Call) (n : ℕ) (to : Progress) (made : List LogLine) (w : PortValue) (b a : Answered) (r : Result ℕ Stop) → called n b ≡ a → TaskComes l neither v0 real e (task_in call) op n to made w b r →
      CallComes (plain_calls v0) (whose v0).domain op calls (λ n made ls. AreLines op made ls) (FairFrom v0) Owed (CallGoing op) (CallReady op) call n to made w a r
  call_comes op calls call n to made w b a (Ok value) is t = let k = call_answers op n made w (reply_of to.done value None) b a is t in record { logs = k.0; owes = k.1 }
  call_comes op calls call n to made w b a (Err (Refused x)) is t = let k = call_answers op n made w (reply_of to.done 0 (Some x)) b a is t in record { logs = k.0; owes = k.1 }
  call_comes op calls call n to made w b a (Err (Paused p)) is t = record { answer = b; is = is; left = t }

  pub call_lemmas : (op : ℕ) (calls : List Call) → CallLemmas (plain_calls v0) (whose v0).domain op calls (λ n made ls. AreLines op made ls) (FairFrom v0) Owed (CallGoing op) (CallReady op)
  call_lemmas op calls =
      record {
        begins_call = λ call k v s owes.
            record { answer = call_alone (whose v0) (k + 1) call s; is = refl; left = subst (Left (task_in call) op (k + 1) (begun_at k) [] v) (sym (call_plain l neither v0 real e call (k + 1) s)) (task_begins l neither v0 real e (task_in call) op (k + 1) k v s owes) };
        settle = λ call n at made v w a asked stop settles fair g. call_moved op call n at made v w a (unsettled_moves l neither v0 real e v w None asked stop settles) g;
        ready = λ call n at made v w a asked settles fair g. record { going = call_moved op call n at made v w a (settled_moves l neither v0 real e v w None asked settles) g; rests = settles.rests; settled = record { first = settles.clear; second = settles.clear_too } };
        work = λ call at to made log log' v w a asked r went fair g.
            let k = task_work l neither v0 real e (task_in call) op (at.call + 1) at to made log log' v w g.going.answer asked r went fair g.rests g.settled g.going.left in
            (k.0, k.1, call_comes op calls call (at.call + 1) to (made ++ k.0) w g.going.answer a r g.going.is k.2);
        stays = λ call at to log log' v w asked r went. went.calls;
        cut = λ n v w s ends fair owes. owes_moved l neither v0 real e (Lives l.stays neither v0) v w s (alike_moves l neither v0 real e v w (cut_alike v w s n ends.0 (stands_in l.stays neither v s owes.owes) ends.1)) owes;
        back = λ v w came fair. fair_back v0 v w came fair;
      }

  -- ---- operations
  abbrev pub one_op : ℕ → Op → Solo → Answered
  one_op k op s = op_alone (whose v0) op s

  abbrev pub plain_ops : PlainScript Op Solo Logged Answered
  plain_ops =
      record {
        answer = log_of;
        left = λ a. a.left;
        alone = one_op;
        answers = answers_by log_of (λ a. a.left) one_op;
        ends = ends_by (λ a. a.left) one_op;
        no_answers = λ k s. refl;
        no_end = λ k s. refl;
        more_answers = λ op ops k s. refl;
        more_ends = λ op ops k s. refl;
      }

  abbrev pub One : Option Task → ℕ → Progress → List LogLine → PortValue → Answered → Type 0
  One task n at made v a = Left task n 0 at made v a

  pub record OneReady (task : Option Task) (n : ℕ) (at : Progress) (made : List LogLine) (v : PortValue) (a : Answered) : Type 0 where
    pub going : One task n at made v a
    pub rests : Rests v
    pub settled : IsSettled v

  abbrev pub Dying : ℕ → ℕ → Progress → List LogLine → PortValue → Answered → Type 0
  Dying = Dies l neither v0 real e

  pub record DyingReady (x n : ℕ) (at : Progress) (made : List LogLine) (v : PortValue) (a : Answered) : Type 0 where
    pub going : Dying x n at made v a
    pub rests : Rests v
    pub settled : IsSettled v

  abbrev pub GoingOp : Job → ℕ → Progress → List LogLine → PortValue → Answered → Type 0
  GoingOp =
      GoingBy log_of (λ a. a.left) (plain_calls v0) many refused (whose v0).domain IsLogged (λ op n made ls. AreLines op made ls) (FairFrom v0) Owed One OneReady Dying DyingReady CallGoing CallReady call_lemmas

  abbrev pub ReadyOp : Job → ℕ → Progress → List LogLine → PortValue → Answered → Type 0
  ReadyOp =
      ReadyBy log_of (λ a. a.left) (plain_calls v0) many refused (whose v0).domain IsLogged (λ op n made ls. AreLines op made ls) (FairFrom v0) Owed One OneReady Dying DyingReady CallGoing CallReady call_lemmas

  abbrev pub Answers_op : ℕ → List LogLine → Reply → Answered → PortValue → Type 0
  Answers_op = Answers log_of (λ a. a.left) (plain_calls v0) many refused (whose v0).domain IsLogged (λ op n made ls. AreLines op made ls) (FairFrom v0) Owed One OneReady Dying DyingReady CallGoing CallReady call_lemmas

  answers_op : (n : ℕ) (made : List LogLine) (w : PortValue) (reply : Reply) (a : Answered) → IsTaskAnswered l.stays neither v0 n made w reply a → Answers_op n made reply a w
  answers_op n made w reply a t = record { logs = record { before = made; reply = reply; is = refl; lines_are = t.lines; answers = t.replies }; owes = t.owes }

  abbrev pub Comes_op : Job → ℕ → Progress → List LogLine → PortValue → Answered → Result ℕ Stop → Type 0
  Comes_op = ComesBy log_of (λ a. a.left) (plain_calls v0) many refused (whose v0).domain IsLogged (λ op n made ls. AreLines op made ls) (FairFrom v0) Owed One OneReady Dying DyingReady CallGoing CallReady call_lemmas

  abbrev pub WorkOf_op : Job → Type 0
  WorkOf_op = WorkOf log_of (λ a. a.left) (plain_calls v0) many refused (whose v0).domain IsLogged (λ op n made ls. AreLines op made ls) (FairFrom v0) Owed One OneReady Dying DyingReady CallGoing CallReady call_lemmas

  one_comes : (task : Option Task) (n : ℕ) (to : Progress) (made : List LogLine) (w : PortValue) (a : Answered) (r : Result ℕ Stop) → TaskComes l neither v0 real e task n 0 to made w a r → Comes_op (OfOne task) n to made w a r
  one_comes task n to made w a (Ok value) t = answers_op n made w (reply_of to.done value None) a t
  one_comes task n to made w a (Err (Refused x)) t = answers_op n made w (reply_of to.done 0 (Some x)) a t
  one_comes task n to made w a (Err (Paused p)) t = t

  one_work : (task : Option Task) → WorkOf_op (OfOne task)
  one_work task n at to made log log' v w a asked r went fair g =
      let k = task_work l neither v0 real e task n 0 at to made log log' v w a asked r went fair g.rests g.settled g.going in (k.0, k.1, one_comes task n to (made ++ k.0) w a r k.2)

  dying_comes : (x n : ℕ) (to : Progress) (made : List LogLine) (w : PortValue) (a : Answered) (r : Result ℕ Stop) → Comes l.stays neither v0 (λ to made w. Dying x n to made w a) n to made w a r → Comes_op (OfDestroy x) n to made w a r
  dying_comes x n to made w a (Ok value) t = answers_op n made w (reply_of to.done value None) a t
  dying_comes x n to made w a (Err (Refused y)) t = answers_op n made w (reply_of to.done 0 (Some y)) a t
  dying_comes x n to made w a (Err (Paused p)) t = t

  dying_work : (x : ℕ) → WorkOf_op (OfDestroy x)
  dying_work x n at to made log log' v w a asked r went fair g =
      let k = dies_work l neither v0 real e x n at to made log log' v w a asked r went g.going g.rests g.settled in (k.0, k.1, dying_comes x n to (made ++ k.0) w a r k.2)

  many_lemmas : ManyLemmas log_of (λ a. a.left) (plain_calls v0) many refused (whose v0).domain IsLogged (λ op n made ls. AreLines op made ls) (FairFrom v0) Owed One OneReady Dying DyingReady CallGoing CallReady call_lemmas
  many_lemmas =
      record {
        logged = λ n made all last log. record { before = made; reply = reply_of (length all) 0 None; is = refl; lines_are = lines_logged n made all log; answers = record { done = refl; value = refl; refusal = tt } };
        leaves = λ all last. refl;
        refuses = λ n s. record { before = []; reply = reply_of 0 0 (Some BatchLong); is = refl; lines_are = tt; answers = record { done = refl; value = refl; refusal = (refl, tt) } };
        refuses_all = λ s. refl;
      }

  pub all_work : (j : Job) → WorkOf_op j
  all_work = work_by log_of (λ a. a.left) (plain_calls v0) many refused (whose v0).domain IsLogged (λ op n made ls. AreLines op made ls) (FairFrom v0) Owed One OneReady Dying DyingReady CallGoing CallReady call_lemmas many_lemmas one_work dying_work
