-- The calls of a multicall in a turn: each goes as an operation does, and the gate is asked for them alone, and for what is settled.
use Rattle.std.proofs.Common.{◌≡◌, ℕ, ◌+◌, Bool, List, [], ◌++◌, All, length, slice_get, flat_map, Option, Some, None, Result, Ok, Err, refl, sym, subst, ap, ◌∙◌, inl, inr, arith, ◌⊎◌, append-nil, length-append}
use Rattle.std.proofs.lemmas.List.Concat.{flat_map-append}
use Rattle.std.proofs.lemmas.List.Elements.{All-append, All-cons, All-nil}
use Rattle.std.proofs.lemmas.List.Sums.{sum_by-append}
use Rattle.xp_words.specs.declared.ops.Call.{Call}
use Rattle.xp_words.specs.declared.ops.Op.{Op}
use Rattle.xp_words.specs.declared.reply.LogLine.{LogLine}
use Rattle.xp_words.specs.declared.reply.Pause.{Pause}
use Rattle.xp_words.specs.declared.reply.Stop.{Stop}
use Rattle.xp_words.specs.declared.reply.Stop.TheVariants.{Refused, Paused}
use Rattle.xp_board.specs.Told.{PortValue}
use Rattle.vcpu_turn.specs.declared.cpu.Progress.{Progress}
use Rattle.vcpu_turn.specs.declared.cpu.TurnEnd.{TurnEnd}
use Rattle.vcpu_turn.specs.declared.cpu.TurnEnd.TheVariants as ends
use Rattle.vcpu_turn.specs.Asking.{CallGone, CountsCalls, GoesAsOne, asks_of, calls_of, elements_of, elements_tried, gone_answered, gone_by, gone_call, gone_calls, gone_going, tried_going}
use Rattle.vcpu_turn.specs.Asking as asking
use Rattle.vcpu_turn.specs.Calls as calling
use Rattle.vcpu_turn.specs.Calls.{AnsweredCalls, AnswersCall, WentBy, WorksCalls, tried_answered, tried_by, tried_call, tried_calls}
use Rattle.vcpu_turn.specs.Cpus.{Job, OfCalls, OfDestroy, OfOne, Processing, done_at, end_of, job_next, job_of, next_of, task_in}
use Rattle.vcpu_turn.specs.Lists.{Tried}
use Rattle.vcpu_turn.specs.Settling.{Settles}
use Rattle.vcpu_turn.specs.Turning.{DoesTurn, IsTurn}
use Rattle.vcpu_turn.specs.Turning as turning
use Rattle.vcpu_turn.specs.Working.{valued}
use Rattle.vcpu_turn.proofs.Bringing.{brings}

-- ---- each of them
goes_as_one : {d : ℕ} (g : CallGone d) → GoesAsOne d g
goes_as_one {d} g =
    let brought = brings d (task_in g.call) g.from.awaited g.before g.from.done g.to.done g.behind g.asked g.answer g.works in
    record { counts = brought.asks; fits = brought.fits; passes = brought.passes; hears = brought.hears }

pub turn_goes : (c d : Processing) (end : TurnEnd) (v w : PortValue) (answers : List Bool) → (turn : IsTurn c d end v w answers) → All (GoesAsOne c.domain) (calls_of turn)
turn_goes c d end v w answers turn k g less = goes_as_one _

-- ---- which of the multicall
abbrev Stands : {d : ℕ} → List Call → CallGone d → Type 0
Stands calls g = slice_get calls g.from.call ≡ Some g.call

call_stands : {d : ℕ} (calls : List Call) {call : Call} {op : ℕ} {v : PortValue} {from : Progress} {log : List LogLine} {to : Progress} {w : PortValue} {log' : List LogLine} {asked : List Bool} {ended : Result (Unit {0}) Stop} → slice_get calls from.call ≡ Some call →
    (a : AnswersCall d call op v from log to w log' asked ended) → All (Stands calls) (gone_call a)
call_stands calls is (calling.AnswersCall.unsettled w early stop settles) = All-nil (Stands calls)
call_stands calls is (calling.AnswersCall.paused to u w log' early asked p settles went) = All-cons (Stands calls) _ [] is (All-nil (Stands calls))
call_stands calls is (calling.AnswersCall.answered to u x w log' early asked answer reply settles went replies ends) = All-cons (Stands calls) _ [] is (All-nil (Stands calls))

answered_stand : {d : ℕ} {calls : List Call} {op : ℕ} {v : PortValue} {from : Progress} {log : List LogLine} {at : Progress} {w : PortValue} {behind : List LogLine} {answers : List Bool} → (did : AnsweredCalls d calls op v from log at w behind answers) →
    All (Stands calls) (gone_answered did)
answered_stand {calls = calls} calling.AnsweredCalls.none = All-nil (Stands calls)
answered_stand {calls = calls} (calling.AnsweredCalls.more at to u w call before behind answers asked did is next) =
    All-append (Stands calls) (gone_call next) (gone_answered did) (call_stands calls is next) (answered_stand did)

calls_stand : {d : ℕ} {calls : List Call} {op : ℕ} {v : PortValue} {from : Progress} {log : List LogLine} {to : Progress} {w : PortValue} {log' : List LogLine} {answers : List Bool} {ended : Result (Unit {0}) Stop} →
    (works : WorksCalls d calls op v from log to w log' answers ended) → All (Stands calls) (gone_calls works)
calls_stand {calls = calls} (calling.WorksCalls.long above) = All-nil (Stands calls)
calls_stand (calling.WorksCalls.all_answered at w behind answers few did all) = answered_stand did
calls_stand {calls = calls} (calling.WorksCalls.stopped at to u w call before behind answers asked stop few did is stops) =
    All-append (Stands calls) (gone_call stops) (gone_answered did) (call_stands calls is stops) (answered_stand did)

-- ---- how often
one_asks : (early asked : List Bool) → length (asked ++ early) ≡ 0 + (length early + length asked)
one_asks early asked = let sum = length-append asked early in omega (arith, sum)

-- what is in front of the next one was not settled
record CutOff (answers : List Bool) (count : ℕ) (ended : Result (Unit {0}) Stop) : Type 0 where
  from : PortValue
  to : PortValue
  last : List Bool
  pause : Pause
  settles : Settles None from to last (Err (Paused pause))
  ended_is : ended ≡ Err (Paused pause)
  all : length answers ≡ count + length last

unsettled_off : (v w : PortValue) (early : List Bool) (stop : Stop) → Settles None v w early (Err stop) → CutOff early 0 (Err stop)
unsettled_off v w early (Refused r) settles = absurd settles.kinds
unsettled_off v w early (Paused p) settles = record { from = v; to = w; last = early; pause = p; settles = settles; ended_is = refl; all = omega arith }

call_asks : {d : ℕ} {call : Call} {op : ℕ} {v : PortValue} {from : Progress} {log : List LogLine} {to : Progress} {w : PortValue} {log' : List LogLine} {asked : List Bool} {ended : Result (Unit {0}) Stop} → (a : AnswersCall d call op v from log to w log' asked ended) →
    (length asked ≡ asks_of (gone_call a)) ⊎ CutOff asked (asks_of (gone_call a)) ended
call_asks {v = v} (calling.AnswersCall.unsettled w early stop settles) = inr (unsettled_off v w early stop settles)
call_asks (calling.AnswersCall.paused to u w log' early asked p settles went) = inl (one_asks early asked)
call_asks (calling.AnswersCall.answered to u x w log' early asked answer reply settles went replies ends) = inl (one_asks early asked)

more_asks : {d : ℕ} (now before : List (CallGone d)) (asked answers : List Bool) → length asked ≡ asks_of now → length answers ≡ asks_of before → length (asked ++ answers) ≡ asks_of (now ++ before)
more_asks {d} now before asked answers one rest =
    let all : asks_of (now ++ before) ≡ asks_of now + asks_of before = sum_by-append (λ (x : CallGone d). length x.early + length x.asked) now before in
    let sum = length-append asked answers in
    omega (arith, one, rest, all, sum)

answered_asks : {d : ℕ} {calls : List Call} {op : ℕ} {v : PortValue} {from : Progress} {log : List LogLine} {at : Progress} {w : PortValue} {behind : List LogLine} {answers : List Bool} → (did : AnsweredCalls d calls op v from log at w behind answers) →
    length answers ≡ asks_of (gone_answered did)
answered_asks calling.AnsweredCalls.none = refl
answered_asks (calling.AnsweredCalls.more at to u w call before behind answers asked did is next) = elim (call_asks next) [
  | inl one ↦ more_asks (gone_call next) (gone_answered did) asked answers one (answered_asks did)
  | inr off ↦ absurd (let not = off.ended_is in cc)
]

calls_ask : {d : ℕ} {calls : List Call} {op : ℕ} {v : PortValue} {from : Progress} {log : List LogLine} {to : Progress} {w : PortValue} {log' : List LogLine} {answers : List Bool} {ended : Result (Unit {0}) Stop} →
    (works : WorksCalls d calls op v from log to w log' answers ended) → (length answers ≡ asks_of (gone_calls works)) ⊎ CutOff answers (asks_of (gone_calls works)) ended
calls_ask (calling.WorksCalls.long above) = inl refl
calls_ask (calling.WorksCalls.all_answered at w behind answers few did all) = inl (answered_asks did)
calls_ask {d} (calling.WorksCalls.stopped at to u w call before behind answers asked stop few did is stops) = elim (call_asks stops) [
  | inl one ↦ inl (more_asks (gone_call stops) (gone_answered did) asked answers one (answered_asks did))
  | inr off ↦ inr (record {
    from = off.from;
    to = off.to;
    last = off.last;
    pause = off.pause;
    settles = off.settles;
    ended_is = off.ended_is;
    all =
        (let all : asks_of (gone_call stops ++ gone_answered did) ≡ asks_of (gone_call stops) + asks_of (gone_answered did) =
        sum_by-append (λ (x : CallGone d). length x.early + length x.asked) (gone_call stops) (gone_answered did) in
        let sum = length-append asked answers in
        let one = off.all in
        let rest = answered_asks did in
        omega (arith, all, sum, one, rest));
  })
]

-- ---- their elements are those of the turn
call_elements : {d : ℕ} {call : Call} {op : ℕ} {v : PortValue} {from : Progress} {log : List LogLine} {to : Progress} {w : PortValue} {log' : List LogLine} {asked : List Bool} {ended : Result (Unit {0}) Stop} → (a : AnswersCall d call op v from log to w log' asked ended) →
    tried_call a ≡ flat_map elements_of (gone_call a)
call_elements (calling.AnswersCall.unsettled w early stop settles) = refl
call_elements (calling.AnswersCall.paused to u w log' early asked p settles went) = sym (append-nil _)
call_elements (calling.AnswersCall.answered to u x w log' early asked answer reply settles went replies ends) = sym (append-nil _)

more_elements : {d : ℕ} (now before : List (CallGone d)) (xs ys : List Tried) → xs ≡ flat_map elements_of now → ys ≡ flat_map elements_of before → xs ++ ys ≡ flat_map elements_of (now ++ before)
more_elements now before xs ys one rest = rw (one, rest) (sym (flat_map-append elements_of now before))

answered_elements : {d : ℕ} {calls : List Call} {op : ℕ} {v : PortValue} {from : Progress} {log : List LogLine} {at : Progress} {w : PortValue} {behind : List LogLine} {answers : List Bool} → (did : AnsweredCalls d calls op v from log at w behind answers) →
    tried_answered did ≡ flat_map elements_of (gone_answered did)
answered_elements calling.AnsweredCalls.none = refl
answered_elements (calling.AnsweredCalls.more at to u w call before behind answers asked did is next) =
    more_elements (gone_call next) (gone_answered did) (tried_call next) (tried_answered did) (call_elements next) (answered_elements did)

pub calls_elements : {d : ℕ} {calls : List Call} {op : ℕ} {v : PortValue} {from : Progress} {log : List LogLine} {to : Progress} {w : PortValue} {log' : List LogLine} {answers : List Bool} {ended : Result (Unit {0}) Stop} →
    (works : WorksCalls d calls op v from log to w log' answers ended) → tried_calls works ≡ flat_map elements_of (gone_calls works)
calls_elements (calling.WorksCalls.long above) = refl
calls_elements (calling.WorksCalls.all_answered at w behind answers few did all) = answered_elements did
calls_elements (calling.WorksCalls.stopped at to u w call before behind answers asked stop few did is stops) =
    more_elements (gone_call stops) (gone_answered did) (tried_call stops) (tried_answered did) (call_elements stops) (answered_elements did)

-- ---- a turn
paused_end : (to : ℕ) (answer : Result ℕ Stop) (p : Pause) → answer ≡ Err (Paused p) → end_of to answer ≡ ends.Paused p
paused_end to answer p is = ap (end_of to) is

calls_same : (xs ys : List Call) → OfCalls xs ≡ OfCalls ys → xs ≡ ys
calls_same xs ys same = cc

module _ (c : Processing) (calls : List Call) where
  pub record OfMulticall (gone : List (CallGone c.domain)) (items : List Tried) (end : TurnEnd) (answers : List Bool) : Type 0 where
    pub stands : All (λ (g : CallGone c.domain). slice_get calls g.from.call ≡ Some g.call) gone
    pub counts : CountsCalls c.left gone end answers
    pub elements : items ≡ flat_map elements_of gone

  job_calls : (op : ℕ) (job : Job) → job ≡ OfCalls calls → (v : PortValue) (from to : Progress) (w : PortValue) (log log' : List LogLine) (answers : List Bool) (answer : Result ℕ Stop) (end : TurnEnd) → end ≡ end_of to.done answer →
      (u : PortValue) (early : List Bool) → Settles c.left u v early (Ok tt) → (went : WentBy c.domain job op v from to w log log' answers answer) →
      OfMulticall (gone_by c.domain job op v from to w log log' answers answer went) (tried_by c.domain job op v from to w log log' answers answer went) end (answers ++ early)
  job_calls op (OfOne task) is v from to w log log' answers answer end end_is u early settles went = absurd (cc)
  job_calls op (OfDestroy x) is v from to w log log' answers answer end end_is u early settles went = absurd (cc)
  job_calls op (OfCalls these) is v from to w log log' answers answer end end_is u early settles went =
      let sum = length-append answers early in
      record {
        stands = subst (λ (list : List Call). All (Stands list) (gone_calls went.works)) (calls_same these calls is) (calls_stand went.works);
        counts = elim (calls_ask went.works) [
          | inl all ↦ asking.CountsCalls.counted u v early settles (omega (arith, all, sum))
          | inr off ↦ asking.CountsCalls.unsettled u v off.from off.to early off.last off.pause settles off.settles
              (end_is ∙ paused_end to.done answer off.pause (went.answer_is ∙ ap valued off.ended_is)) (let all = off.all in omega (arith, all, sum))
        ];
        elements = calls_elements went.works;
      }

  going_calls : (o : Option Op) → job_next o ≡ OfCalls calls → (v : PortValue) (d : Processing) (w : PortValue) (answers : List Bool) (end : TurnEnd) → (does : DoesTurn c o v d w answers end) → OfMulticall (gone_going does) (tried_going does) end answers
  going_calls o is v _ _ _ _ (turning.DoesTurn.unsettled w answers p settles) = record { stands = All-nil (Stands calls); counts = asking.CountsCalls.settling v w p settles refl refl; elements = refl }
  going_calls None is v _ _ _ _ (turning.DoesTurn.dying life w d end dead dies) = absurd (cc)
  going_calls (Some op) is v _ _ _ _ (turning.DoesTurn.dying life w d end dead dies) =
      record { stands = All-nil (Stands calls); counts = asking.CountsCalls.refused (done_at (job_of op) c.at) c.domain life dies.1 refl refl; elements = refl }
  going_calls None is v _ _ _ _ (turning.DoesTurn.settled u w d early answers end settles retires) = absurd (cc)
  going_calls (Some op) is v _ _ _ _ (turning.DoesTurn.settled u w d early answers end settles on) =
      job_calls (c.answered + 1) (job_of op) is u c.at on.to w c.log on.log answers on.answer end on.end_is v early settles on.went

  pub turn_calls : (d : Processing) (op : Op) (end : TurnEnd) (v w : PortValue) (answers : List Bool) → next_of c ≡ Some op → job_of op ≡ OfCalls calls → (turn : IsTurn c d end v w answers) → OfMulticall (calls_of turn) (elements_tried turn) end answers
  turn_calls d op end v w answers next built turn = going_calls (next_of c) (ap job_next next ∙ built) turn.begun d turn.worked answers end turn.does
