-- The calls of a multicall that go on, with a gate and a log.
use Rattle.std.proofs.Common.{◌≡◌, ℕ, ◌+◌, ◌<◌, ◌≤◌, min, if◌then◌else◌, Bool, true, false, List, [], ◌∷◌, ◌++◌, drop, sum_by, length, slice_get, Option, Some, None, Result, Ok, Err, refl, sym, ap, ◌∙◌, arith, subst}
use Rattle.std.specs.Result.{IsErrAnd}
use Rattle.std.proofs.lemmas.Bool.Decides.{nat_tests}
use Rattle.std.proofs.lemmas.Option.{slice_get_past, slice_get_within}
use Rattle.xp_words.specs.declared.ops.Call.{Call}
use Rattle.xp_words.specs.declared.reply.LogLine.{LogLine}
use Rattle.xp_words.specs.declared.reply.LogLine.TheVariants as lines
use Rattle.xp_words.specs.declared.reply.Pause.{Pause}
use Rattle.xp_words.specs.declared.reply.Refusal.{Refusal}
use Rattle.xp_words.specs.declared.reply.Refusal.TheVariants as refusals
use Rattle.xp_words.specs.declared.reply.Reply.{Reply}
use Rattle.xp_words.specs.declared.reply.Stop.{Stop}
use Rattle.xp_words.specs.declared.reply.Stop.TheVariants.{Refused, Paused}
use Rattle.xp_board.specs.Told.{PortValue}
use Rattle.xp_preempt.specs.Gates.{Gate, GatedPast}
use Rattle.xp_preempt.proofs.Consulting.{past_as, past_none, past_then}
use Rattle.level_release.specs.Asking.{is_due_stop}
use Rattle.vcpu_turn.specs.Calls as calling
use Rattle.vcpu_turn.specs.Calls.{AnsweredCalls, AnswersCall, EndsCall, WorksCalls, replied}
use Rattle.vcpu_turn.specs.Cpus.{IsFewIn, IsFewOf, OfCalls, begun_at, call_behind, elements_in, is_long, lines_made, lines_of_call, made_within, reply_of, room_from, task_called, task_in}
use Rattle.vcpu_turn.specs.Lists.{is_due_answer}
use Rattle.vcpu_turn.specs.Settling.{SettlesTo}
use Rattle.vcpu_turn.specs.Working.{WentOn}
use Rattle.vcpu_turn.specs.declared.cpu.Progress.{Progress}
use Rattle.vcpu_turn.proofs.NextOps.{calls_more}
use Rattle.vcpu_turn.proofs.PassedOn.{is_err}

-- ---- one call
module _ {d op : ℕ} {call : Call} {v : PortValue} {from : Progress} {log : List LogLine} {g h : Gate} {left : Option ℕ} {u : PortValue} where
  pub call_unsettled : (stop : Stop) (answer : Result (Unit {0}) Stop) → IsErrAnd answer (λ x. x ≡ stop) → GatedPast g h (is_due_stop stop) (λ answers. SettlesTo None left v u answers (Err stop)) →
      GatedPast g h (is_due_answer answer) (λ answers. AnswersCall d call op v from log from u log answers answer)
  call_unsettled stop answer is settles = rw (is_err answer stop is) (past_as (λ due. due) (λ answers s. calling.AnswersCall.unsettled u answers stop s.0) settles)

  module _ (settles : GatedPast g h false (λ answers. SettlesTo None left v u answers (Ok tt))) {k : Gate} {to : Progress} {x : PortValue} {log' : List LogLine} where
    pub call_paused : (stop : Stop) (p : Pause) → stop ≡ Paused p → GatedPast h k (is_due_stop stop) (λ answers. WentOn d (task_in call) (call_behind op from.call) u from to x log log' answers (Err stop)) →
        GatedPast g k (is_due_stop (Paused p)) (λ answers. AnswersCall d call op v from log to x log' answers (Err (Paused p)))
    call_paused stop p is went =
        past_then (λ early answers s goes. calling.AnswersCall.paused to u x log' early answers p s.0 goes) settles
        (subst (λ (e : Stop). GatedPast h k (is_due_stop e) (λ answers. WentOn d (task_in call) (call_behind op from.call) u from to x log log' answers (Err e))) is went)

    pub call_answered : (answer : Result ℕ Stop) (reply : Reply) → is_due_answer answer ≡ false → replied to.done answer ≡ Some reply → GatedPast h k (is_due_answer answer) (λ answers. WentOn d (task_in call) (call_behind op from.call) u from to x log log' answers answer) →
        (w : PortValue) → EndsCall (from.call + 1) x w → (log'' : List LogLine) → log'' ≡ log' ++ lines.Answer op (from.call + 1) reply ∷ [] → (at : Progress) → at ≡ begun_at (from.call + 1) →
        GatedPast g k false (λ answers. AnswersCall d call op v from log at w log'' answers (Ok tt))
    call_answered answer reply off is went w ends log'' logged at begins =
        rw (begins, logged)
        (past_as (λ due. off ∙ due) (λ answers goes. goes) (past_then (λ early answers s goes. calling.AnswersCall.answered to u x w log' early answers answer reply s.0 goes is ends) settles went))

    pub call_refused : (stop : Stop) (r : Refusal) → stop ≡ Refused r → GatedPast h k (is_due_stop stop) (λ answers. WentOn d (task_in call) (call_behind op from.call) u from to x log log' answers (Err stop)) →
        (w : PortValue) → EndsCall (from.call + 1) x w → (log'' : List LogLine) → log'' ≡ log' ++ lines.Answer op (from.call + 1) (reply_of to.done 0 (Some r)) ∷ [] → (at : Progress) → at ≡ begun_at (from.call + 1) →
        GatedPast g k false (λ answers. AnswersCall d call op v from log at w log'' answers (Ok tt))
    call_refused stop r is went =
        call_answered (Err (Refused r)) (reply_of to.done 0 (Some r)) refl refl
        (subst (λ (e : Stop). GatedPast h k (is_due_stop e) (λ answers. WentOn d (task_in call) (call_behind op from.call) u from to x log log' answers (Err e))) is went)

-- ---- calls, one behind the other
module _ {d : ℕ} {calls : List Call} {op : ℕ} {v : PortValue} {from : Progress} {log : List LogLine} {at : Progress} {u : PortValue} {behind : List LogLine} {g h : Gate}
    (went : GatedPast g h false (λ answers. AnsweredCalls d calls op v from log at u behind answers)) where
  pub went_all : length calls ≤ 64 → length calls ≤ at.call → GatedPast g h false (λ answers. WorksCalls d calls op v from log (record at { done = at.call }) u behind answers (Ok tt))
  went_all few all = past_as (λ due. due) (λ answers did. calling.WorksCalls.all_answered at u behind answers few did all) went

  module _ (call : Call) (is : slice_get calls at.call ≡ Some call) {k : Gate} {to : Progress} {w : PortValue} {log' : List LogLine} where
    pub went_more : GatedPast h k false (λ answers. AnswersCall d call op u at behind to w log' answers (Ok tt)) → GatedPast g k false (λ answers. AnsweredCalls d calls op v from log to w log' answers)
    went_more next = past_then (λ early answers did goes. calling.AnsweredCalls.more at to u w call behind log' early answers did is goes) went next

    pub went_stopped : length calls ≤ 64 → (stop : Stop) (answer : Result (Unit {0}) Stop) → IsErrAnd answer (λ x. x ≡ stop) → GatedPast h k (is_due_stop stop) (λ answers. AnswersCall d call op u at behind to w log' answers (Err stop)) →
        GatedPast g k (is_due_answer answer) (λ answers. WorksCalls d calls op v from log to w log' answers answer)
    went_stopped few stop answer err next =
        rw (is_err answer stop err) (past_then (λ early answers did goes. calling.WorksCalls.stopped at to u w call behind log' early answers stop few did is goes) went next)

-- a long one
pub went_long : {d : ℕ} {calls : List Call} {op : ℕ} {v : PortValue} {from : Progress} {log : List LogLine} {g : Gate} → 64 < length calls →
    GatedPast g g false (λ answers. WorksCalls d calls op v from log (record from { done = 0; awaited = None }) v log answers (Err (Refused refusals.BatchLong)))
went_long above = past_none refl (calling.WorksCalls.long above)

-- ---- how far the call in progress is, and the room of the log
min_none : (n : ℕ) → min n 0 ≡ 0
min_none n = grind arith

pub few_at : (calls : List Call) (k : ℕ) → IsFewOf (slice_get calls k) 0
few_at calls k = by (slice_get calls k)
  where
    by : (o : Option Call) → IsFewOf o 0
    by None = tt
    by (Some call) = omega arith

pub call_at : (calls : List Call) (at : Progress) (call : Call) → slice_get calls at.call ≡ Some call → IsFewIn (OfCalls calls) at → at.done ≤ elements_in (task_in call)
call_at calls at call is few = subst (λ (o : Option Call). IsFewOf o at.done) is few.1

pub few_past : (calls : List Call) (at to : Progress) (call : Call) → slice_get calls at.call ≡ Some call → to.call ≡ at.call → to.done ≤ elements_in (task_in call) → IsFewIn (OfCalls calls) to
few_past calls at to call is same few =
    let within = slice_get_within calls at.call call is in (omega (arith, within, same), subst (λ (o : Option Call). IsFewOf o to.done) (sym (ap (slice_get calls) same ∙ is)) few)

pub none_past : (calls : List Call) (k done : ℕ) → length calls ≤ k → IsFewOf (slice_get calls k) done
none_past calls k done past = subst (λ (o : Option Call). IsFewOf o done) (sym (slice_get_past calls k past)) tt

long_is : (calls : List Call) → 64 < length calls → is_long calls ≡ true
long_is calls above = grind (arith, nat_tests)

short_is : (calls : List Call) → length calls ≤ 64 → is_long calls ≡ false
short_is calls few = grind (arith, nat_tests)

pub room_long : (calls : List Call) (at to : Progress) (len : ℕ) → 64 < length calls → len + room_from 0 (OfCalls calls) to.call + made_within (OfCalls calls) at ≤ len + room_from 0 (OfCalls calls) at.call + made_within (OfCalls calls) to
room_long calls at to len above =
    by (is_long calls) (long_is calls above)
  where
    by : (b : Bool) → b ≡ true → len + (if b then 0 else sum_by lines_of_call (drop to.call calls)) + (if b then 0 else lines_made (task_called (slice_get calls at.call)) at.done) ≤
        len + (if b then 0 else sum_by lines_of_call (drop at.call calls)) + (if b then 0 else lines_made (task_called (slice_get calls to.call)) to.done)
    by true is = omega arith
    by false is = absurd cc

-- of one that is not long
module _ (calls : List Call) where
  room_is : length calls ≤ 64 → (k : ℕ) → room_from 0 (OfCalls calls) k ≡ sum_by lines_of_call (drop k calls)
  room_is few k = ap (λ (b : Bool). if b then 0 else sum_by lines_of_call (drop k calls)) (short_is calls few)

  made_is : length calls ≤ 64 → (at : Progress) (call : Call) → slice_get calls at.call ≡ Some call → made_within (OfCalls calls) at ≡ lines_made (task_in call) at.done
  made_is few at call is =
      ap (λ (b : Bool). if b then 0 else lines_made (task_called (slice_get calls at.call)) at.done) (short_is calls few) ∙ ap (λ (o : Option Call). lines_made (task_called o) at.done) is

  pub room_at : (from at : Progress) (call : Call) (len0 cap0 : ℕ) → length calls ≤ 64 → slice_get calls at.call ≡ Some call → (len cap : ℕ) → len0 + room_from 0 (OfCalls calls) from.call ≤ cap0 + made_within (OfCalls calls) from →
      len + room_from 0 (OfCalls calls) at.call + made_within (OfCalls calls) from ≤ len0 + room_from 0 (OfCalls calls) from.call + made_within (OfCalls calls) at → cap ≡ cap0 → len + lines_of_call call ≤ cap + lines_made (task_in call) at.done
  room_at from at call len0 cap0 few is len cap first room same =
      let here = room_is few at.call in
      let made = made_is few at call is in
      let all = calls_more calls at.call call is in
      omega (arith, first, room, same, here, made, all)

  -- it was answered
  pub room_more : (from at to : Progress) (call : Call) (len0 len len' : ℕ) → length calls ≤ 64 → slice_get calls at.call ≡ Some call → to ≡ begun_at (at.call + 1) →
      len + room_from 0 (OfCalls calls) at.call + made_within (OfCalls calls) from ≤ len0 + room_from 0 (OfCalls calls) from.call + made_within (OfCalls calls) at → len' + lines_made (task_in call) at.done ≤ len + lines_of_call call →
      len' + room_from 0 (OfCalls calls) to.call + made_within (OfCalls calls) from ≤ len0 + room_from 0 (OfCalls calls) from.call + made_within (OfCalls calls) to
  room_more from at to call len0 len len' few is next room more =
      let here = room_is few at.call in
      let there = room_is few to.call in
      let at_next = ap (λ (p : Progress). sum_by lines_of_call (drop p.call calls)) next in
      let made = made_is few at call is in
      let all = calls_more calls at.call call is in
      omega (arith, room, more, here, there, at_next, made, all)

  -- it is paused
  pub room_stopped : (from at to : Progress) (call : Call) (len0 len len' : ℕ) → length calls ≤ 64 → slice_get calls at.call ≡ Some call → to.call ≡ at.call →
      len + room_from 0 (OfCalls calls) at.call + made_within (OfCalls calls) from ≤ len0 + room_from 0 (OfCalls calls) from.call + made_within (OfCalls calls) at → len' + lines_made (task_in call) at.done ≤ len + lines_made (task_in call) to.done →
      len' + room_from 0 (OfCalls calls) to.call + made_within (OfCalls calls) from ≤ len0 + room_from 0 (OfCalls calls) from.call + made_within (OfCalls calls) to
  room_stopped from at to call len0 len len' few is same room more =
      let here = ap (room_from 0 (OfCalls calls)) same in
      let made = made_is few at call is in
      let made' = made_is few to call (ap (slice_get calls) same ∙ is) in
      omega (arith, room, more, here, made, made')

  -- none is left
  pub room_past : (from at : Progress) (len0 len : ℕ) → length calls ≤ at.call → len + room_from 0 (OfCalls calls) at.call + made_within (OfCalls calls) from ≤ len0 + room_from 0 (OfCalls calls) from.call + made_within (OfCalls calls) at →
      len + room_from 0 (OfCalls calls) at.call + made_within (OfCalls calls) from ≤ len0 + room_from 0 (OfCalls calls) from.call + made_within (OfCalls calls) (record at { done = at.call })
  room_past from at len0 len past room =
      let few = made_past at past in omega (arith, room, few)
    where
      made_past : (p : Progress) → length calls ≤ p.call → made_within (OfCalls calls) p ≡ 0
      made_past p past = by (is_long calls)
        where
          none : lines_made (task_called (slice_get calls p.call)) p.done ≡ 0
          none = ap (λ (o : Option Call). lines_made (task_called o) p.done) (slice_get_past calls p.call past) ∙ min_none p.done

          by : (b : Bool) → (if b then 0 else lines_made (task_called (slice_get calls p.call)) p.done) ≡ 0
          by true = refl
          by false = none
