-- A multicall that goes on from turn to turn comes to what its calls come to at once: from what each call comes to.
use Rattle.std.proofs.Common.{◌≡◌, ℕ, suc, ◌+◌, ◌<◌, ◌≤◌, Bool, List, [], ◌∷◌, ◌++◌, length, Option, Some, None, Result, Ok, Err, refl, sym, ap, ◌∙◌, subst, arith}
use Rattle.std.specs.Prelude.{drop, slice_get}
use Rattle.xp_words.specs.declared.ops.Call.{Call}
use Rattle.xp_words.specs.declared.reply.LogLine.{LogLine}
use Rattle.xp_words.specs.declared.reply.LogLine.TheVariants as lines
use Rattle.xp_words.specs.declared.reply.Refusal.{Refusal}
use Rattle.xp_words.specs.declared.reply.Refusal.TheVariants.{BatchLong}
use Rattle.xp_words.specs.declared.reply.Reply.{Reply}
use Rattle.xp_words.specs.declared.reply.Stop.{Stop}
use Rattle.xp_words.specs.declared.reply.Stop.TheVariants.{Refused, Paused}
use Rattle.xp_board.specs.Told.{PortValue}
use Rattle.step_maker.specs.Moves.{Came}
use Rattle.vcpu_turn.specs.Calls.{AnsweredCalls, AnswersCall, EndsCall, WorksCalls, replied}
use Rattle.vcpu_turn.specs.Cpus.{begun_at, call_behind, reply_of, task_in}
use Rattle.vcpu_turn.specs.Settling.{Settles}
use Rattle.vcpu_turn.specs.Working.{WentOn}
use Rattle.vcpu_turn.specs.declared.cpu.Progress.{Progress}
use Rattle.vcpu_turn.specs.Calls as calling
use Rattle.script_laws.proofs.Steps.{cut_came, went_came}
use Rattle.vcpu_turn.proofs.Hindering.{settles_came}
use Rattle.script_laws.specs.Plain.{PlainScript}
use Rattle.script_laws.specs.Turns.{IsLog}
use Rattle.script_laws.specs.Turns as turns
use Rattle.std.proofs.lemmas.Option.{slice_get_past}
use Rattle.std.proofs.lemmas.List.{append-nil, append_assoc, length-append}
use Rattle.own_cache.proofs.Listing.{opened}
use Rattle.script_laws.proofs.Lists.{appended, none_left}

same_reply : (x y : Reply) → ◌≡◌ {A = Option Reply} (Some x) (Some y) → x ≡ y
same_reply x y e = cc

-- `Logs n made a`: call number n of operation `op` logged these lines, its reply the last, and they are the answer a. `Going call n at made v a`: all that is left of call number n,
-- which has come so far and logged these lines, comes from v to a; `Ready` the same behind what is settled first.
module _ {Solo Answer Answered : Type 0} (plain : PlainScript Call Solo Answer Answered) (d op : ℕ) (calls : List Call) (Logs : ℕ → List LogLine → Answer → Type 0) (Fair : PortValue → Type 0) (Owes : PortValue → Solo → Type 0) (Going Ready : Call → ℕ → Progress → List LogLine → PortValue → Answered → Type 0) where
  pub record CallAnswered (n : ℕ) (made : List LogLine) (reply : Reply) (a : Answered) (w : PortValue) : Type 0 where
    pub logs : Logs n (made ++ lines.Answer op n reply ∷ []) (plain.answer a)
    pub owes : Owes w (plain.left a)

  -- what the work on a call comes to
  abbrev pub CallComes : Call → ℕ → Progress → List LogLine → PortValue → Answered → Result ℕ Stop → Type 0
  CallComes call n to made w a (Ok value) = CallAnswered n made (reply_of to.done value None) a w
  CallComes call n to made w a (Err (Refused x)) = CallAnswered n made (reply_of to.done 0 (Some x)) a w
  CallComes call n to made w a (Err (Paused p)) = Going call n to made w a

  pub record CallLemmas : Type 0 where
    pub begins_call : (call : Call) (k : ℕ) (v : PortValue) (s : Solo) → Owes v s → Going call (k + 1) (begun_at k) [] v (plain.alone k call s)
    pub settle : (call : Call) (n : ℕ) (at : Progress) (made : List LogLine) (v w : PortValue) (a : Answered) (asked : List Bool) (e : Stop) → Settles None v w asked (Err e) → Fair w → Going call n at made v a → Going call n at made w a
    pub ready : (call : Call) (n : ℕ) (at : Progress) (made : List LogLine) (v w : PortValue) (a : Answered) (asked : List Bool) → Settles None v w asked (Ok tt) → Fair w → Going call n at made v a → Ready call n at made w a
    pub work : (call : Call) (at to : Progress) (made log log' : List LogLine) (v w : PortValue) (a : Answered) (asked : List Bool) (r : Result ℕ Stop) → WentOn d (task_in call) (call_behind op at.call) v at to w log log' asked r → Fair w →
        Ready call (at.call + 1) at made v a → (new : List LogLine) × (log' ≡ log ++ new) × CallComes call (at.call + 1) to (made ++ new) w a r
    -- a call that is paused stays the one in progress
    pub stays : (call : Call) (at to : Progress) (log log' : List LogLine) (v w : PortValue) (asked : List Bool) (r : Result ℕ Stop) → WentOn d (task_in call) (call_behind op at.call) v at to w log log' asked r → to.call ≡ at.call
    pub cut : (n : ℕ) (v w : PortValue) (s : Solo) → EndsCall n v w → Fair w → Owes v s → Owes w s
    pub back : (v w : PortValue) → Came v w → Fair w → Fair v

  -- ---- the way back
  module _ (l : CallLemmas) where
    call_back : (call : Call) (u : PortValue) (at : Progress) (log : List LogLine) (to : Progress) (w : PortValue) (log' : List LogLine) (asked : List Bool) (r : Result (Unit {0}) Stop) → AnswersCall d call op u at log to w log' asked r → Fair w → Fair u
    call_back call u at log _ _ _ _ _ (calling.AnswersCall.unsettled w early stop settles) fair = l.back u w (settles_came u w early (Err stop) settles) fair
    call_back call u at log _ _ _ _ _ (calling.AnswersCall.paused to y w log' early asked p settles went) fair = l.back u y (settles_came u y early (Ok tt) settles) (l.back y w (went_came d (task_in call) (call_behind op at.call) y at to w log log' asked (Err (Paused p)) went) fair)
    call_back call u at log _ _ _ _ _ (calling.AnswersCall.answered to y x w log' early asked r reply settles went is ends) fair =
        l.back u y (settles_came u y early (Ok tt) settles) (l.back y x (went_came d (task_in call) (call_behind op at.call) y at to x log log' asked r went) (l.back x w (cut_came (at.call + 1) x w ends) fair))

  -- `all` and `last`: what all calls answer, and leave
  module _ (l : CallLemmas) (all : List Answer) (last : Solo) where
    abbrev pub NextCall : Option Call → List Call → Progress → List LogLine → PortValue → List Answer → Type 0
    NextCall None rest at made v before = (s : Solo) × Owes v s × (made ≡ []) × (before ≡ all) × (s ≡ last)
    NextCall (Some call) rest at made v before =
        (a : Answered) × Going call (at.call + 1) at made v a × (before ++ plain.answer a ∷ plain.answers rest (suc at.call) (plain.left a) ≡ all) × (plain.ends rest (suc at.call) (plain.left a) ≡ last)

    -- what was logged of the multicall: a part is that of the calls that are answered, the rest was logged by the one in progress
    pub record StandsCalls (at : Progress) (v : PortValue) (made : List LogLine) : Type 0 where
      pub before : List Answer
      pub counted : length before ≡ at.call
      pub closed : List LogLine
      pub own : List LogLine
      pub parts : made ≡ closed ++ own
      pub log : IsLog Logs closed before
      pub next : NextCall (slice_get calls at.call) (drop (suc at.call) calls) at own v before

    next_at : (k : ℕ) (o : Option Call) (v : PortValue) (s : Solo) (before : List Answer) → slice_get calls k ≡ o → Owes v s → before ++ plain.answers (drop k calls) k s ≡ all → plain.ends (drop k calls) k s ≡ last → NextCall o (drop (suc k) calls) (begun_at k) [] v before
    next_at k None v s before is owes answers left =
        let none = none_left calls k is in (
          s,
          owes,
          refl,
          sym (append-nil before) ∙ (ap (λ xs. before ++ xs) (sym (ap (λ ys. plain.answers ys k s) none ∙ plain.no_answers k s)) ∙ answers),
          sym (plain.no_end k s) ∙ (sym (ap (λ ys. plain.ends ys k s) none) ∙ left),
        )
    next_at k (Some call) v s before is owes answers left =
        let more = opened calls k call is in (
          plain.alone k call s,
          l.begins_call call k v s owes,
          ap (λ xs. before ++ xs) (sym (ap (λ ys. plain.answers ys k s) more ∙ plain.more_answers call (drop (suc k) calls) k s)) ∙ answers,
          sym (ap (λ ys. plain.ends ys k s) more ∙ plain.more_ends call (drop (suc k) calls) k s) ∙ left,
        )

    -- before the first call
    pub calls_begin : (v : PortValue) (s : Solo) → Owes v s → plain.answers calls 0 s ≡ all → plain.ends calls 0 s ≡ last → StandsCalls (begun_at 0) v []
    calls_begin v s owes answers left =
        record {
          before = [];
          counted = refl;
          closed = [];
          own = [];
          parts = refl;
          log = turns.IsLog.none;
          next = next_at 0 (slice_get calls 0) v s [] refl owes answers left;
        }

    -- ---- one call
    call_there : (at : Progress) (v : PortValue) (made : List LogLine) (call : Call) (s : StandsCalls at v made) → slice_get calls at.call ≡ Some call → NextCall (Some call) (drop (suc at.call) calls) at s.own v s.before
    call_there at v made call s is = subst (λ o. NextCall o (drop (suc at.call) calls) at s.own v s.before) is s.next

    answered_by : (r : Result ℕ Stop) (to : Progress) (reply : Reply) (call : Call) (n : ℕ) (made : List LogLine) (x : PortValue) (a : Answered) → replied to.done r ≡ Some reply → CallComes call n to made x a r → CallAnswered n made reply a x
    answered_by (Ok value) to reply call n made x a is comes = subst (λ y. CallAnswered n made y a x) (same_reply (reply_of to.done value None) reply is) comes
    answered_by (Err (Refused z)) to reply call n made x a is comes = subst (λ y. CallAnswered n made y a x) (same_reply (reply_of to.done 0 (Some z)) reply is) comes
    answered_by (Err (Paused p)) to reply call n made x a is comes = absurd cc

    call_stands : (at : Progress) (made new : List LogLine) (call : Call) (before : List Answer) (closed own : List LogLine) (reply : Reply) (a : Answered) (w : PortValue) → length before ≡ at.call → made ≡ closed ++ own → IsLog Logs closed before → CallAnswered (at.call + 1) (own ++ new) reply a w →
        before ++ plain.answer a ∷ plain.answers (drop (suc at.call) calls) (suc at.call) (plain.left a) ≡ all → plain.ends (drop (suc at.call) calls) (suc at.call) (plain.left a) ≡ last →
        StandsCalls (begun_at (at.call + 1)) w (made ++ (new ++ lines.Answer op (at.call + 1) reply ∷ []))
    call_stands at made new call before closed own reply a w counted parts log comes answers left =
        let line = lines.Answer op (at.call + 1) reply in
        let next : suc at.call ≡ at.call + 1 = omega arith in
        record {
          before = before ++ plain.answer a ∷ [];
          counted = length-append before (plain.answer a ∷ []) ∙ ap (λ k. k + 1) counted;
          closed = made ++ (new ++ line ∷ []);
          own = [];
          parts = sym (append-nil (made ++ (new ++ line ∷ [])));
          log = subst (λ ls. IsLog Logs ls (before ++ plain.answer a ∷ []))
              (ap (λ ls. closed ++ ls) (append_assoc own new (line ∷ [])) ∙ (sym (append_assoc closed own (new ++ line ∷ [])) ∙ ap (λ ls. ls ++ (new ++ line ∷ [])) (sym parts)))
              (turns.IsLog.more closed ((own ++ new) ++ line ∷ []) before (plain.answer a) log (subst (λ k. Logs (k + 1) ((own ++ new) ++ line ∷ []) (plain.answer a)) (sym counted) comes.logs));
          next = next_at (at.call + 1) (slice_get calls (at.call + 1)) w (plain.left a) (before ++ plain.answer a ∷ []) refl comes.owes
              (ap (λ k. (before ++ plain.answer a ∷ []) ++ plain.answers (drop k calls) k (plain.left a)) (sym next)
              ∙ (append_assoc before (plain.answer a ∷ []) (plain.answers (drop (suc at.call) calls) (suc at.call) (plain.left a)) ∙ answers))
              (ap (λ k. plain.ends (drop k calls) k (plain.left a)) (sym next) ∙ left);
        }

    -- what the steps of a call add to the log, and where the multicall stands then
    abbrev pub Adds : Progress → PortValue → List LogLine → List LogLine → List LogLine → Type 0
    Adds to w made log log' = (new : List LogLine) × (log' ≡ log ++ new) × StandsCalls to w (made ++ new)

    one_call : (call : Call) (u : PortValue) (at : Progress) (log made : List LogLine) (to : Progress) (w : PortValue) (log' : List LogLine) (asked : List Bool) → AnswersCall d call op u at log to w log' asked (Ok tt) → slice_get calls at.call ≡ Some call → Fair w → (Fair u → StandsCalls at u made) →
        Adds to w made log log'
    one_call call u at log made _ _ _ _ (calling.AnswersCall.answered to y x w log' early asked r reply settles went is ends) there fair stands =
        let fair_x = l.back x w (cut_came (at.call + 1) x w ends) fair in
        let fair_y = l.back y x (went_came d (task_in call) (call_behind op at.call) y at to x log log' asked r went) fair_x in
        let s = stands (l.back u y (settles_came u y early (Ok tt) settles) fair_y) in
        let k = call_there at u made call s there in
        let going = l.ready call (at.call + 1) at s.own u y k.0 early settles fair_y k.1 in
        let done = l.work call at to s.own log log' y x k.0 asked r went fair_x going in
        let comes = answered_by r to reply call (at.call + 1) (s.own ++ done.0) x k.0 is done.2 in (
          done.0 ++ lines.Answer op (at.call + 1) reply ∷ [],
          appended log done.0 log' (lines.Answer op (at.call + 1) reply ∷ []) done.1,
          call_stands at made done.0 call s.before s.closed s.own reply k.0 w s.counted s.parts s.log (record { logs = comes.logs; owes = l.cut (at.call + 1) x w (plain.left k.0) ends fair comes.owes }) k.2 k.3,
        )

    -- ---- those of a turn
    calls_on : (v : PortValue) (from : Progress) (log made : List LogLine) (at : Progress) (w : PortValue) (behind : List LogLine) (asked : List Bool) → AnsweredCalls d calls op v from log at w behind asked → Fair w → (Fair v → StandsCalls from v made) → Adds at w made log behind
    calls_on v from log made _ _ _ _ calling.AnsweredCalls.none fair stands = ([], sym (append-nil log), subst (StandsCalls from v) (sym (append-nil made)) (stands fair))
    calls_on v from log made _ _ _ _ (calling.AnsweredCalls.more at to u w call before behind answers asked did is next) fair stands =
        let first = calls_on v from log made at u before answers did (call_back l call u at before to w behind asked (Ok tt) next fair) stands in
        let then = one_call call u at before (made ++ first.0) to w behind asked next is fair (λ f. first.2) in (
          first.0 ++ then.0,
          then.1 ∙ appended log first.0 before then.0 first.1,
          subst (StandsCalls to w) (append_assoc made first.0 then.0) then.2,
        )

    -- ---- the turn's work on the multicall, which logged `made` before and `new` in it
    abbrev pub CallsCome : PortValue → Progress → PortValue → List LogLine → List LogLine → Result (Unit {0}) Stop → Type 0
    CallsCome v to w made new (Ok done) = (to.done ≡ length all) × IsLog Logs (made ++ new) all × Owes w last
    CallsCome v to w made new (Err (Paused p)) = StandsCalls to w (made ++ new)
    CallsCome v to w made new (Err (Refused x)) = (x ≡ BatchLong) × (64 < length calls) × (w ≡ v) × (new ≡ [])

    all_logged : (at : Progress) (w : PortValue) (made : List LogLine) → length calls ≤ at.call → StandsCalls at w made → (at.call ≡ length all) × IsLog Logs made all × Owes w last
    all_logged at w made most s =
        let k = subst (λ o. NextCall o (drop (suc at.call) calls) at s.own w s.before) (slice_get_past calls at.call most) s.next in (
          sym s.counted ∙ ap (λ ys. length ys) k.3,
          subst (λ ys. IsLog Logs made ys) k.3 (subst (λ ls. IsLog Logs ls s.before) (sym (s.parts ∙ (ap (λ ls. s.closed ++ ls) k.2 ∙ append-nil s.closed))) s.log),
          subst (Owes w) k.4 k.1,
        )

    -- one that is paused
    stands_at : (at to : Progress) (w : PortValue) (made new : List LogLine) (call : Call) (before : List Answer) (closed own : List LogLine) (a : Answered) → to.call ≡ at.call → slice_get calls at.call ≡ Some call → length before ≡ at.call → made ≡ closed ++ own → IsLog Logs closed before → Going call (at.call + 1) to (own ++ new) w a →
        before ++ plain.answer a ∷ plain.answers (drop (suc at.call) calls) (suc at.call) (plain.left a) ≡ all → plain.ends (drop (suc at.call) calls) (suc at.call) (plain.left a) ≡ last → StandsCalls to w (made ++ new)
    stands_at at to w made new call before closed own a same is counted parts log going answers left =
        record {
          before = before;
          counted = counted ∙ sym same;
          closed = closed;
          own = own ++ new;
          parts = appended closed own made new parts;
          log = log;
          next = subst (λ o. NextCall o (drop (suc to.call) calls) to (own ++ new) w before) (sym (ap (λ k. slice_get calls k) same ∙ is)) (
            a,
            subst (λ k. Going call (k + 1) to (own ++ new) w a) (sym same) going,
            subst (λ k. before ++ plain.answer a ∷ plain.answers (drop (suc k) calls) (suc k) (plain.left a) ≡ all) (sym same) answers,
            subst (λ k. plain.ends (drop (suc k) calls) (suc k) (plain.left a) ≡ last) (sym same) left,
          );
        }

    call_stops : (call : Call) (u : PortValue) (at : Progress) (log made : List LogLine) (to : Progress) (w : PortValue) (log' : List LogLine) (asked : List Bool) (stop : Stop) → AnswersCall d call op u at log to w log' asked (Err stop) → slice_get calls at.call ≡ Some call → Fair w → (Fair u → StandsCalls at u made) →
        Adds to w made log log'
    call_stops call u at log made _ _ _ _ _ (calling.AnswersCall.unsettled w early stop settles) there fair stands =
        let s = stands (l.back u w (settles_came u w early (Err stop) settles) fair) in
        let k = call_there at u made call s there in
        let going = l.settle call (at.call + 1) at s.own u w k.0 early stop settles fair k.1 in
        ([], sym (append-nil log), stands_at at at w made [] call s.before s.closed s.own k.0 refl there s.counted s.parts s.log (subst (λ ls. Going call (at.call + 1) at ls w k.0) (sym (append-nil s.own)) going) k.2 k.3)
    call_stops call u at log made _ _ _ _ _ (calling.AnswersCall.paused to y w log' early asked p settles went) there fair stands =
        let fair_y = l.back y w (went_came d (task_in call) (call_behind op at.call) y at to w log log' asked (Err (Paused p)) went) fair in
        let s = stands (l.back u y (settles_came u y early (Ok tt) settles) fair_y) in
        let k = call_there at u made call s there in
        let going = l.ready call (at.call + 1) at s.own u y k.0 early settles fair_y k.1 in
        let done = l.work call at to s.own log log' y w k.0 asked (Err (Paused p)) went fair going in
        (done.0, done.1, stands_at at to w made done.0 call s.before s.closed s.own k.0 (l.stays call at to log log' y w asked (Err (Paused p)) went) there s.counted s.parts s.log done.2 k.2 k.3)

    -- a call is not stopped but by a pause
    never_refused : (call : Call) (u : PortValue) (at : Progress) (log : List LogLine) (to : Progress) (w : PortValue) (log' : List LogLine) (asked : List Bool) (x : Refusal) → AnswersCall d call op u at log to w log' asked (Err (Refused x)) → ⊥
    never_refused call u at log _ _ _ _ _ (calling.AnswersCall.unsettled w early stop settles) = settles.kinds

    pub calls_come : (v : PortValue) (from : Progress) (log made : List LogLine) (to : Progress) (w : PortValue) (log' : List LogLine) (asked : List Bool) (r : Result (Unit {0}) Stop) → WorksCalls d calls op v from log to w log' asked r → Fair w → (Fair v → StandsCalls from v made) →
        (new : List LogLine) × (log' ≡ log ++ new) × CallsCome v to w made new r
    calls_come v from log made _ _ _ _ _ (calling.WorksCalls.long above) fair stands = ([], sym (append-nil log), (refl, above, refl, refl))
    calls_come v from log made _ _ _ _ _ (calling.WorksCalls.all_answered at w behind answers few did most) fair stands =
        let k = calls_on v from log made at w behind answers did fair stands in
        (k.0, k.1, all_logged at w (made ++ k.0) most k.2)
    calls_come v from log made _ _ _ _ _ (calling.WorksCalls.stopped at to u w call before behind answers asked (Refused x) few did is stops) fair stands = absurd (never_refused call u at before to w behind asked x stops)
    calls_come v from log made _ _ _ _ _ (calling.WorksCalls.stopped at to u w call before behind answers asked (Paused p) few did is stops) fair stands =
        let first = calls_on v from log made at u before answers did (call_back l call u at before to w behind asked (Err (Paused p)) stops fair) stands in
        let then = call_stops call u at before (made ++ first.0) to w behind asked (Paused p) stops is fair (λ f. first.2) in (
          first.0 ++ then.0,
          then.1 ∙ appended log first.0 before then.0 first.1,
          subst (StandsCalls to w) (append_assoc made first.0 then.0) then.2,
        )

    -- ---- along steps that keep what is left of calls
    next_moved : (o : Option Call) (rest : List Call) (at : Progress) (made : List LogLine) (v w : PortValue) (before : List Answer) → ((call : Call) (a : Answered) → Going call (at.call + 1) at made v a → Going call (at.call + 1) at made w a) → ((s : Solo) → Owes v s → Owes w s) →
        NextCall o rest at made v before → NextCall o rest at made w before
    next_moved None rest at made v w before f g (s, owes, none, answers, left) = (s, g s owes, none, answers, left)
    next_moved (Some call) rest at made v w before f g (a, going, answers, left) = (a, f call a going, answers, left)

    pub calls_moved : (at : Progress) (made : List LogLine) (v w : PortValue) → ((call : Call) (own : List LogLine) (a : Answered) → Going call (at.call + 1) at own v a → Going call (at.call + 1) at own w a) → ((s : Solo) → Owes v s → Owes w s) → StandsCalls at v made → StandsCalls at w made
    calls_moved at made v w f g s =
        record {
          before = s.before;
          counted = s.counted;
          closed = s.closed;
          own = s.own;
          parts = s.parts;
          log = s.log;
          next = next_moved (slice_get calls at.call) (drop (suc at.call) calls) at s.own v w s.before (λ call a going. f call s.own a going) g s.next;
        }
