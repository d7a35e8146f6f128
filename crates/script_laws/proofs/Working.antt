-- What a turn's work on any operation comes to: from that of single tasks and of destructions, and from what the calls of a multicall come to.
use Rattle.std.proofs.Common.{◌≡◌, ◌⊎◌, ℕ, ◌+◌, ◌<◌, ◌≤◌, nat_lt, if◌then◌else◌, Bool, List, [], ◌∷◌, ◌++◌, length, Option, Some, None, Result, Ok, Err, refl, sym, ◌∙◌, subst, inl, inr, arith}
use Rattle.std.proofs.lemmas.Bool.{cases_Bool}
use Rattle.std.proofs.lemmas.Bool.Decides.{nat_tests}
use Rattle.xp_words.specs.declared.ops.Call.{Call}
use Rattle.xp_words.specs.declared.reply.LogLine.{LogLine}
use Rattle.xp_words.specs.declared.reply.LogLine.TheVariants as lines
use Rattle.xp_words.specs.declared.reply.Refusal.{Refusal}
use Rattle.xp_words.specs.declared.reply.Refusal.TheVariants.{BatchLong}
use Rattle.xp_words.specs.declared.reply.Reply.{Reply}
use Rattle.xp_words.specs.declared.reply.Stop.{Stop}
use Rattle.xp_words.specs.declared.reply.Stop.TheVariants.{Refused, Paused}
use Rattle.xp_board.specs.Told.{PortValue}
use Rattle.vcpu_turn.specs.Calls.{WentBy, WorksCalls}
use Rattle.vcpu_turn.specs.Cpus.{Job, OfCalls, OfDestroy, OfOne, Task, begun, reply_of}
use Rattle.vcpu_turn.specs.Working.{valued}
use Rattle.vcpu_turn.specs.declared.cpu.Progress.{Progress}
use Rattle.vcpu_turn.specs.Calls as calling
use Rattle.script_laws.specs.Plain.{PlainScript}
use Rattle.script_laws.specs.Turns.{IsLog}
use Rattle.script_laws.proofs.Calling.{CallLemmas, CallsCome, StandsCalls, calls_begin, calls_come, calls_moved}
use Rattle.std.proofs.lemmas.List.{append-nil}

-- what is left of a multicall: its calls, of which all answer `all` and leave `last`, and it is the answer `many all last`; or it is too long, and will be refused
module _ {Solo Answer Answered CallAnswer CallAnswered : Type 0} (answer : Answered → Answer) (left : Answered → Solo) (plain : PlainScript Call Solo CallAnswer CallAnswered) (many : List CallAnswer → Solo → Answered) (refused : Refusal → Solo → Answered)
    (d : ℕ) (Logs : ℕ → List LogLine → Answer → Type 0) (CallLogs : ℕ → ℕ → List LogLine → CallAnswer → Type 0) (Fair : PortValue → Type 0) (Owes : PortValue → Solo → Type 0)
    (One OneReady : Option Task → ℕ → Progress → List LogLine → PortValue → Answered → Type 0) (Destroys DestroysReady : ℕ → ℕ → Progress → List LogLine → PortValue → Answered → Type 0) (Calls CallsReady : ℕ → Call → ℕ → Progress → List LogLine → PortValue → CallAnswered → Type 0)
    (call_lemmas : (op : ℕ) (calls : List Call) → CallLemmas plain d op calls (CallLogs op) Fair Owes (Calls op) (CallsReady op)) where
  pub record IsLong (calls : List Call) (made : List LogLine) (v : PortValue) (a : Answered) : Type 0 where
    pub many_calls : 64 < length calls
    pub nothing : made ≡ []
    pub value : Solo
    pub owes : Owes v value
    pub answer_is : a ≡ refused BatchLong value

  pub record IsFew (op : ℕ) (calls : List Call) (at : Progress) (made : List LogLine) (v : PortValue) (a : Answered) : Type 0 where
    pub few : length calls ≤ 64
    pub all : List CallAnswer
    pub last : Solo
    pub stands : StandsCalls plain d op calls (CallLogs op) Fair Owes (Calls op) (CallsReady op) (call_lemmas op calls) all last at v made
    pub answer_is : a ≡ many all last

  -- by what is left of single tasks, and of destructions
  abbrev pub By : (Option Task → ℕ → Progress → List LogLine → PortValue → Answered → Type 0) → (ℕ → ℕ → Progress → List LogLine → PortValue → Answered → Type 0) → Job → ℕ → Progress → List LogLine → PortValue → Answered → Type 0
  By A B (OfOne task) n at made v a = A task n at made v a
  By A B (OfCalls calls) n at made v a = IsLong calls made v a ⊎ IsFew n calls at made v a
  By A B (OfDestroy x) n at made v a = B x n at made v a

  abbrev pub GoingBy : Job → ℕ → Progress → List LogLine → PortValue → Answered → Type 0
  GoingBy j n at made v a = By One Destroys j n at made v a

  -- behind what is settled first: each call of a multicall settles itself
  abbrev pub ReadyBy : Job → ℕ → Progress → List LogLine → PortValue → Answered → Type 0
  ReadyBy j n at made v a = By OneReady DestroysReady j n at made v a

  pub record Answers (n : ℕ) (made : List LogLine) (reply : Reply) (a : Answered) (w : PortValue) : Type 0 where
    pub logs : Logs n (made ++ lines.Answer n 0 reply ∷ []) (answer a)
    pub owes : Owes w (left a)

  abbrev pub Comes : Job → ℕ → Progress → List LogLine → PortValue → Answered → Result ℕ Stop → Type 0
  Comes j n to made w a (Ok value) = Answers n made (reply_of to.done value None) a w
  Comes j n to made w a (Err (Refused x)) = Answers n made (reply_of to.done 0 (Some x)) a w
  Comes j n to made w a (Err (Paused p)) = GoingBy j n to made w a

  abbrev pub WorkOf : Job → Type 0
  WorkOf j = (n : ℕ) (at to : Progress) (made log log' : List LogLine) (v w : PortValue) (a : Answered) (asked : List Bool) (r : Result ℕ Stop) → WentBy d j n v at to w log log' asked r → Fair w → ReadyBy j n at made v a →
      (new : List LogLine) × (log' ≡ log ++ new) × Comes j n to (made ++ new) w a r

  -- the same along steps that keep what is left of tasks, destructions and calls
  pub going_moved : (A : Option Task → ℕ → Progress → List LogLine → PortValue → Answered → Type 0) (B : ℕ → ℕ → Progress → List LogLine → PortValue → Answered → Type 0) (j : Job) (n : ℕ) (at : Progress) (made : List LogLine) (v w : PortValue) (a : Answered) → ((task : Option Task) → One task n at made v a → A task n at made w a) → ((x : ℕ) → Destroys x n at made v a → B x n at made w a) →
      ((call : Call) (own : List LogLine) (b : CallAnswered) → Calls n call (at.call + 1) at own v b → Calls n call (at.call + 1) at own w b) → ((s : Solo) → Owes v s → Owes w s) → GoingBy j n at made v a → By A B j n at made w a
  going_moved A B (OfOne task) n at made v w a one destroys call owes going = one task going
  going_moved A B (OfCalls calls) n at made v w a one destroys call owes (inl f) = inl (record { many_calls = f.many_calls; nothing = f.nothing; value = f.value; owes = owes f.value f.owes; answer_is = f.answer_is })
  going_moved A B (OfCalls calls) n at made v w a one destroys call owes (inr f) =
      inr (record { few = f.few; all = f.all; last = f.last; stands = calls_moved plain d n calls (CallLogs n) Fair Owes (Calls n) (CallsReady n) (call_lemmas n calls) f.all f.last at made v w call owes f.stands; answer_is = f.answer_is })
  going_moved A B (OfDestroy x) n at made v w a one destroys call owes going = destroys x going

  -- a multicall begins
  pub calls_begin_by : (calls : List Call) (n : ℕ) (v : PortValue) (s : Solo) → Owes v s → GoingBy (OfCalls calls) n begun [] v (if nat_lt 64 (length calls) then refused BatchLong s else many (plain.answers calls 0 s) (plain.ends calls 0 s))
  calls_begin_by calls n v s owes =
      elim (cases_Bool (nat_lt 64 (length calls))) [
        | inl long ↦ inl (record { many_calls = grind (arith, nat_tests); nothing = refl; value = s; owes = owes; answer_is = rw long refl })
        | inr few ↦
            inr (record {
              few = grind (arith, nat_tests);
              all = plain.answers calls 0 s;
              last = plain.ends calls 0 s;
              stands = calls_begin plain d n calls (CallLogs n) Fair Owes (Calls n) (CallsReady n) (call_lemmas n calls) (plain.answers calls 0 s) (plain.ends calls 0 s) v s owes refl refl;
              answer_is = rw few refl;
            })
      ]

  -- the answers of all calls, logged, are that of the multicall, whose reply is so; and what `many` and `refused` leave
  pub record ManyLemmas : Type 0 where
    pub logged : (n : ℕ) (made : List LogLine) (all : List CallAnswer) (last : Solo) → IsLog (CallLogs n) made all → Logs n (made ++ lines.Answer n 0 (reply_of (length all) 0 None) ∷ []) (answer (many all last))
    pub leaves : (all : List CallAnswer) (last : Solo) → left (many all last) ≡ last
    pub refuses : (n : ℕ) (s : Solo) → Logs n (lines.Answer n 0 (reply_of 0 0 (Some BatchLong)) ∷ []) (answer (refused BatchLong s))
    pub refuses_all : (s : Solo) → left (refused BatchLong s) ≡ s

  module _ (many_lemmas : ManyLemmas) where
    many_by : (calls : List Call) (n : ℕ) (to : Progress) (made : List LogLine) (v w : PortValue) (a : Answered) (all : List CallAnswer) (last : Solo) (new : List LogLine) (r : Result (Unit {0}) Stop) → length calls ≤ 64 → a ≡ many all last →
        CallsCome plain d n calls (CallLogs n) Fair Owes (Calls n) (CallsReady n) (call_lemmas n calls) all last v to w made new r → Comes (OfCalls calls) n to (made ++ new) w a (valued r)
    many_by calls n to made v w a all last new (Ok done) few is comes =
        record {
          logs = subst (λ b. Logs n ((made ++ new) ++ lines.Answer n 0 (reply_of to.done 0 None) ∷ []) (answer b)) (sym is)
              (subst (λ k. Logs n ((made ++ new) ++ lines.Answer n 0 (reply_of k 0 None) ∷ []) (answer (many all last))) (sym comes.0) (many_lemmas.logged n (made ++ new) all last comes.1));
          owes = subst (λ b. Owes w (left b)) (sym is) (subst (Owes w) (sym (many_lemmas.leaves all last)) comes.2);
        }
    many_by calls n to made v w a all last new (Err (Refused x)) few is comes = absurd (let more = comes.1 in omega arith)
    many_by calls n to made v w a all last new (Err (Paused p)) few is comes = inr (record { few = few; all = all; last = last; stands = comes; answer_is = is })

    few_come : (calls : List Call) (n : ℕ) (at to : Progress) (made log log' : List LogLine) (v w : PortValue) (a : Answered) (asked : List Bool) (r : Result (Unit {0}) Stop) → WorksCalls d calls n v at log to w log' asked r → Fair w → IsFew n calls at made v a →
        (new : List LogLine) × (log' ≡ log ++ new) × Comes (OfCalls calls) n to (made ++ new) w a (valued r)
    few_come calls n at to made log log' v w a asked r works fair f =
        let k = calls_come plain d n calls (CallLogs n) Fair Owes (Calls n) (CallsReady n) (call_lemmas n calls) f.all f.last v at log made to w log' asked r works fair (λ before. f.stands) in
        (k.0, k.1, many_by calls n to made v w a f.all f.last k.0 r f.few f.answer_is k.2)

    long_comes : (calls : List Call) (n : ℕ) (v : PortValue) (at : Progress) (log made : List LogLine) (a : Answered) (to : Progress) (w : PortValue) (log' : List LogLine) (asked : List Bool) (r : Result (Unit {0}) Stop) → WorksCalls d calls n v at log to w log' asked r → IsLong calls made v a →
        (new : List LogLine) × (log' ≡ log ++ new) × Comes (OfCalls calls) n to (made ++ new) w a (valued r)
    long_comes calls n v at log made a _ _ _ _ _ (calling.WorksCalls.long above) f = (
      [],
      sym (append-nil log),
      record {
        logs = subst (λ b. Logs n ((made ++ []) ++ lines.Answer n 0 (reply_of 0 0 (Some BatchLong)) ∷ []) (answer b)) (sym f.answer_is)
            (subst (λ ls. Logs n (ls ++ lines.Answer n 0 (reply_of 0 0 (Some BatchLong)) ∷ []) (answer (refused BatchLong f.value))) (sym (append-nil made ∙ f.nothing)) (many_lemmas.refuses n f.value));
        owes = subst (λ b. Owes v (left b)) (sym f.answer_is) (subst (Owes v) (sym (many_lemmas.refuses_all f.value)) f.owes);
      },
    )
    long_comes calls n v at log made a _ _ _ _ _ (calling.WorksCalls.all_answered to w behind asked few did most) f = absurd (let more = f.many_calls in omega arith)
    long_comes calls n v at log made a _ _ _ _ _ (calling.WorksCalls.stopped on to u w call before behind answers asked stop few did is stops) f = absurd (let more = f.many_calls in omega arith)

    calls_by : (calls : List Call) → WorkOf (OfCalls calls)
    calls_by calls n at to made log log' v w a asked r went fair (inl long) =
        let k = long_comes calls n v at log made a to w log' asked went.ended went.works long in (k.0, k.1, subst (Comes (OfCalls calls) n to (made ++ k.0) w a) (sym went.answer_is) k.2)
    calls_by calls n at to made log log' v w a asked r went fair (inr few) =
        let k = few_come calls n at to made log log' v w a asked went.ended went.works fair few in (k.0, k.1, subst (Comes (OfCalls calls) n to (made ++ k.0) w a) (sym went.answer_is) k.2)

    -- the work on any operation
    pub work_by : ((task : Option Task) → WorkOf (OfOne task)) → ((x : ℕ) → WorkOf (OfDestroy x)) → (j : Job) → WorkOf j
    work_by one destroys (OfOne task) = one task
    work_by one destroys (OfCalls calls) = calls_by calls
    work_by one destroys (OfDestroy x) = destroys x
