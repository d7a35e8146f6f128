-- The answers of the gate in a turn with a multicall: first to what an earlier turn left, then call by call, and last to what was settled in front of one more call.
use Rattle.std.proofs.Common.{◌≡◌, ℕ, ◌+◌, Bool, false, List, [], ◌∷◌, ◌++◌, All, length, flat_map, Option, Some, None, Result, Ok, Err, refl, sym, ap, ◌∙◌, inl, inr, arith, ◌⊎◌, append-nil, append_assoc, length-append}
use Rattle.std.proofs.lemmas.List.Concat.{flat_map-append}
use Rattle.std.proofs.lemmas.List.Elements.{All-append, All-cons, All-nil, All-tail}
use Rattle.std.proofs.lemmas.List.Sums.{sum_by-cons}
use Rattle.xp_words.specs.declared.ops.Call.{Call}
use Rattle.xp_words.specs.declared.ops.Op.{Op}
use Rattle.xp_words.specs.declared.reply.LogLine.{LogLine}
use Rattle.xp_words.specs.declared.reply.Stop.{Stop}
use Rattle.xp_board.specs.Told.{PortValue}
use Rattle.xp_preempt.specs.Gates.{yeses}
use Rattle.level_release.proofs.Noes.{settled_no}
use Rattle.vcpu_turn.specs.declared.cpu.Progress.{Progress}
use Rattle.vcpu_turn.specs.declared.cpu.TurnEnd.{TurnEnd}
use Rattle.vcpu_turn.specs.Asking.{CallGone, asks_of, calls_of, elements_of, elements_tried, tried_going, tried_next, gone_answered, gone_by, gone_call, gone_calls, gone_going, gone_next}
use Rattle.vcpu_turn.specs.CallAsks.{first_going}
use Rattle.vcpu_turn.specs.Calls as calling
use Rattle.vcpu_turn.specs.Calls.{AnsweredCalls, AnswersCall, WentBy, WorksCalls, tried_by}
use Rattle.vcpu_turn.specs.Cpus.{Job, OfCalls, OfDestroy, OfOne, Processing, job_of, next_of, nothing_left}
use Rattle.vcpu_turn.specs.Lists.{Tried, is_due_answer}
use Rattle.vcpu_turn.specs.Turning as turning
use Rattle.vcpu_turn.specs.Turning.{DoesNext, DoesTurn, IsTurn}
use Rattle.vcpu_turn.proofs.CallTurns.{calls_elements}
use Rattle.vcpu_turn.proofs.CallsBringing.{undue}

-- ---- the answers for calls, the newest first
abbrev pub answers_of : {d : ℕ} → List (CallGone d) → List Bool
answers_of gone = flat_map (λ g. g.asked ++ g.early) gone

pub answers_count : {d : ℕ} (gone : List (CallGone d)) → length (answers_of gone) ≡ asks_of gone
answers_count [] = refl
answers_count (g ∷ gone) =
    let rest = answers_count gone in
    let one = length-append g.asked g.early in
    let all : length (answers_of (g ∷ gone)) ≡ length (g.asked ++ g.early) + length (answers_of gone) = length-append (g.asked ++ g.early) (answers_of gone) in
    let sum : asks_of (g ∷ gone) ≡ length g.early + length g.asked + asks_of gone = sum_by-cons (λ (x : CallGone _). length x.early + length x.asked) g gone in
    omega (arith, rest, one, all, sum)

-- one that is answered is not paused for the gate; of a turn's calls all are but the last one
abbrev pub Undue : {d : ℕ} → CallGone d → Type 0
Undue g = is_due_answer g.answer ≡ false

abbrev pub UndueBehind : {d : ℕ} → List (CallGone d) → Type 0
UndueBehind [] = Unit {0}
UndueBehind (g ∷ earlier) = All Undue earlier

undue_behind : {d : ℕ} (gone : List (CallGone d)) → All Undue gone → UndueBehind gone
undue_behind [] all = tt
undue_behind (g ∷ earlier) all = All-tail Undue g earlier all

-- the answers for these calls, and behind them to what was settled in front of one more
pub record Tells {d : ℕ} (gone : List (CallGone d)) (answers : List Bool) : Type 0 where
  pub last : List Bool
  pub all : answers ≡ last ++ answers_of gone
  pub undue : UndueBehind gone

more_tells : {d : ℕ} (now before : List (CallGone d)) (asked answers : List Bool) → asked ≡ answers_of now → answers ≡ answers_of before → asked ++ answers ≡ answers_of (now ++ before)
more_tells now before asked answers one rest = rw (one, rest) (sym (flat_map-append (λ g. g.asked ++ g.early) now before))

-- ---- calls that are answered
call_answered : {d : ℕ} {call : Call} {op : ℕ} {v : PortValue} {from : Progress} {log : List LogLine} {to : Progress} {w : PortValue} {log' : List LogLine} {asked : List Bool} {ended : Result (Unit {0}) Stop} → ended ≡ Ok tt →
    (a : AnswersCall d call op v from log to w log' asked ended) → (asked ≡ answers_of (gone_call a)) × All Undue (gone_call a)
call_answered ok (calling.AnswersCall.unsettled w early stop settles) = absurd cc
call_answered ok (calling.AnswersCall.paused to u w log' early asked p settles went) = absurd cc
call_answered ok (calling.AnswersCall.answered to u x w log' early asked answer reply settles went replies ends) =
    (sym (append-nil (asked ++ early)), All-cons Undue _ [] (undue to.done answer reply replies) (All-nil Undue))

answered_tell : {d : ℕ} {calls : List Call} {op : ℕ} {v : PortValue} {from : Progress} {log : List LogLine} {at : Progress} {w : PortValue} {behind : List LogLine} {answers : List Bool} → (did : AnsweredCalls d calls op v from log at w behind answers) →
    (answers ≡ answers_of (gone_answered did)) × All Undue (gone_answered did)
answered_tell calling.AnsweredCalls.none = (refl, All-nil Undue)
answered_tell (calling.AnsweredCalls.more at to u w call before behind answers asked did is next) =
    let one = call_answered refl next in
    let rest = answered_tell did in
    (more_tells (gone_call next) (gone_answered did) asked answers one.0 rest.0, All-append Undue (gone_call next) (gone_answered did) one.1 rest.1)

-- ---- and one that is paused behind them
paused_tells : {d : ℕ} {call : Call} {op : ℕ} {v : PortValue} {from : Progress} {log : List LogLine} {to : Progress} {w : PortValue} {log' : List LogLine} {asked : List Bool} {ended : Result (Unit {0}) Stop} (stop : Stop) → ended ≡ Err stop →
    (a : AnswersCall d call op v from log to w log' asked ended) → (before : List (CallGone d)) (answers : List Bool) → answers ≡ answers_of before → All Undue before → Tells (gone_call a ++ before) (asked ++ answers)
paused_tells stop is (calling.AnswersCall.unsettled w early why settles) before answers rest undue = record { last = early; all = ap (λ (xs : List Bool). early ++ xs) rest; undue = undue_behind before undue }
paused_tells stop is (calling.AnswersCall.paused to u w log' early asked p settles went) before answers rest undue =
    record { last = []; all = ap (λ (xs : List Bool). (asked ++ early) ++ xs) rest; undue = undue }
paused_tells stop is (calling.AnswersCall.answered to u x w log' early asked answer reply settles went replies ends) before answers rest undue = absurd cc

calls_tell : {d : ℕ} {calls : List Call} {op : ℕ} {v : PortValue} {from : Progress} {log : List LogLine} {to : Progress} {w : PortValue} {log' : List LogLine} {answers : List Bool} {ended : Result (Unit {0}) Stop} →
    (works : WorksCalls d calls op v from log to w log' answers ended) → Tells (gone_calls works) answers
calls_tell (calling.WorksCalls.long above) = record { last = []; all = refl; undue = tt }
calls_tell (calling.WorksCalls.all_answered at w behind answers few did all) = let told = answered_tell did in record { last = []; all = told.0; undue = undue_behind (gone_answered did) told.1 }
calls_tell (calling.WorksCalls.stopped at to u w call before behind answers asked stop few did is stops) = let told = answered_tell did in paused_tells stop refl stops (gone_answered did) answers told.0 told.1

-- ---- a turn
-- `first`: the answers to what an earlier turn left. Where there is a call behind that, none of them is yes, and the elements of the turn are those of its calls.
pub record TellsAll {d : ℕ} (gone : List (CallGone d)) (items : List Tried) (first answers : List Bool) : Type 0 where
  pub last : List Bool
  pub all : answers ≡ last ++ (answers_of gone ++ first)
  pub undue : UndueBehind gone
  pub behind : (gone ≡ []) ⊎ ((yeses first ≡ 0) × (items ≡ flat_map elements_of gone))

by_elements : (d op : ℕ) (job : Job) (v : PortValue) (from to : Progress) (w : PortValue) (log log' : List LogLine) (answers : List Bool) (answer : Result ℕ Stop) (went : WentBy d job op v from to w log log' answers answer) →
    (gone_by d job op v from to w log log' answers answer went ≡ []) ⊎ (tried_by d job op v from to w log log' answers answer went ≡ flat_map elements_of (gone_by d job op v from to w log log' answers answer went))
by_elements d op (OfOne task) v from to w log log' answers answer went = inl refl
by_elements d op (OfDestroy x) v from to w log log' answers answer went = inl refl
by_elements d op (OfCalls calls) v from to w log log' answers answer went = inr (calls_elements went.works)

next_elements : (c : Processing) (o : Option Op) (c2 : Processing) (v w : PortValue) (answers : List Bool) (end : TurnEnd) → (does : DoesNext c o c2 v w answers end) →
    (gone_next c o c2 v w answers end does ≡ []) ⊎ (tried_next c o c2 v w answers end does ≡ flat_map elements_of (gone_next c o c2 v w answers end does))
next_elements c (Some op) c2 v w answers end on = by_elements c.domain (c.answered + 1) (job_of op) v c.at on.to w c.log on.log answers on.answer on.went
next_elements c None c2 v w answers end retires = inl refl

by_tells : (d op : ℕ) (job : Job) (v : PortValue) (from to : Progress) (w : PortValue) (log log' : List LogLine) (answers : List Bool) (answer : Result ℕ Stop) (went : WentBy d job op v from to w log log' answers answer) →
    Tells (gone_by d job op v from to w log log' answers answer went) answers
by_tells d op (OfOne task) v from to w log log' answers answer went = record { last = answers; all = sym (append-nil answers); undue = tt }
by_tells d op (OfDestroy x) v from to w log log' answers answer went = record { last = answers; all = sym (append-nil answers); undue = tt }
by_tells d op (OfCalls calls) v from to w log log' answers answer went = calls_tell went.works

next_tells : (c : Processing) (o : Option Op) (c2 : Processing) (v w : PortValue) (answers : List Bool) (end : TurnEnd) → (does : DoesNext c o c2 v w answers end) → Tells (gone_next c o c2 v w answers end does) answers
next_tells c (Some op) c2 v w answers end on = by_tells c.domain (c.answered + 1) (job_of op) v c.at on.to w c.log on.log answers on.answer on.went
next_tells c None c2 v w answers end retires = record { last = answers; all = sym (append-nil answers); undue = tt }

going_tells : (c : Processing) (o : Option Op) (v : PortValue) (d : Processing) (w : PortValue) (answers : List Bool) (end : TurnEnd) → (does : DoesTurn c o v d w answers end) → TellsAll (gone_going does) (tried_going does) (first_going does) answers
going_tells c o v _ _ _ _ (turning.DoesTurn.unsettled w answers p settles) = record { last = []; all = refl; undue = tt; behind = inl refl }
going_tells c o v _ _ _ _ (turning.DoesTurn.dying life w d end dead dies) = record { last = []; all = refl; undue = tt; behind = inl refl }
going_tells c o v _ _ _ _ (turning.DoesTurn.settled u w d early answers end settles does) =
    let told = next_tells (nothing_left c) o d u w answers end does in
    record {
      last = told.last;
      all = ap (λ (xs : List Bool). xs ++ early) told.all ∙ append_assoc told.last (answers_of (gone_next (nothing_left c) o d u w answers end does)) early;
      undue = told.undue;
      behind = elim (next_elements (nothing_left c) o d u w answers end does) [
        | inl none ↦ inl none
        | inr elements ↦ inr (settled_no v u early (Ok tt) refl settles.course, elements)
      ];
    }

pub turn_tells : (c d : Processing) (end : TurnEnd) (v w : PortValue) (answers : List Bool) → (turn : IsTurn c d end v w answers) → TellsAll (calls_of turn) (elements_tried turn) (first_going turn.does) answers
turn_tells c d end v w answers turn = going_tells c (next_of c) turn.begun d turn.worked answers end turn.does
