-- What a turn adds to the elements that are done by the replies of its vCPU.
use Rattle.std.proofs.Common.{◌≡◌, ◌+◌, ◌<◌, ◌++◌, ◌⊎◌, ℕ, Bool, true, List, [], ◌∷◌, All, Contains, Option, Some, None, Result, Ok, Err, refl, sym, ap, subst, ◌∙◌, inl, inr, arith}
use Rattle.std.specs.Prelude.{slice_get}
use Rattle.std.proofs.lemmas.Bool.{cases_lt}
use Rattle.std.proofs.lemmas.List.Elements.{All-cons, All-contains, All-nil, Contains-append_cases, Contains-push_cases}
use Rattle.xp_words.specs.declared.ops.Call.{Call}
use Rattle.xp_words.specs.declared.ops.Call.TheVariants.{Ext}
use Rattle.xp_words.specs.declared.ops.ExtOp.{ExtOp}
use Rattle.xp_words.specs.declared.ops.Op.{Op}
use Rattle.xp_words.specs.declared.ops.Op.TheVariants as ops
use Rattle.xp_words.specs.declared.ops.Op.TheVariants.{Multi, One}
use Rattle.xp_words.specs.declared.reply.LogLine.{LogLine}
use Rattle.xp_words.specs.declared.reply.LogLine.TheVariants as lines
use Rattle.xp_words.specs.declared.reply.Pause.{Pause}
use Rattle.xp_words.specs.declared.reply.Refusal.TheVariants.{BatchLong, Dying}
use Rattle.xp_words.specs.declared.reply.Reply.{Reply}
use Rattle.xp_words.specs.declared.reply.Stop.{Stop}
use Rattle.xp_words.specs.declared.reply.Stop.TheVariants.{Paused, Refused}
use Rattle.xp_board.specs.Told.{PortValue}
use Rattle.step_maker.specs.Moves.{Came}
use Rattle.step_maker.proofs.Coming.{came_self, came_trans, moves_came}
use Rattle.vcpu_turn.specs.Calls as calling
use Rattle.vcpu_turn.specs.Calls.{AnsweredCalls, AnswersCall, WentBy, WorksCalls, replied}
use Rattle.vcpu_turn.specs.Cpus.{OfCalls, OfDestroy, OfExt, OfOne, Processing, Task, after_turn, begun_at, call_behind, done_at, end_of, job_next, job_of, next_of, nothing_left, reply_of, task_at, task_called, task_in, task_of}
use Rattle.vcpu_turn.specs.Extents.{Block, given_lines}
use Rattle.vcpu_turn.specs.Turning as turning
use Rattle.vcpu_turn.specs.Turning.{DiesNext, DoesNext, DoesTurn, IsTurn}
use Rattle.vcpu_turn.specs.Working.{WentOn, valued}
use Rattle.vcpu_turn.specs.declared.cpu.CallNumber.{CallNumber}
use Rattle.vcpu_turn.specs.declared.cpu.Progress.{Progress}
use Rattle.vcpu_turn.specs.declared.cpu.TurnEnd.{TurnEnd}
use Rattle.vcpu_turn.specs.declared.cpu.TurnEnd.TheVariants as ends
use Rattle.domain_destroy.specs.Course.{LeftFrame, left_lines}
use Rattle.vcpu_turn.proofs.CallsBringing.{went_brings}
use Rattle.vcpu_turn.proofs.Hindering.{settles_came}
use Rattle.vcpu_turn.proofs.TurnSteps.{ends_came}
use Rattle.vcpu_turn.proofs.Turns.{begins_came}
use Rattle.done_elements.specs.Replied.{StandsAt, alone, called}
use Rattle.done_elements.proofs.Elements.{Did, did_on, through}

-- each of the first n elements of the list is such
abbrev pub AreDone : (ExtOp → Type 0) → List ExtOp → ℕ → Type 0
AreDone P list n = (k : ℕ) (e : ExtOp) → k < n → slice_get list k ≡ Some e → P e

-- by the replies of a log; and of what is in progress
abbrev pub AreReplied : (ExtOp → Type 0) → Processing → List LogLine → Type 0
AreReplied P c log = (op call : ℕ) (list : List ExtOp) (reply : Reply) → StandsAt c.script op call list → Contains log (lines.Answer op call reply) → AreDone P list reply.done

abbrev AreBehind : (ExtOp → Type 0) → Option Task → ℕ → Type 0
AreBehind P task n = (list : List ExtOp) → task ≡ Some (OfExt list) → AreDone P list n

pub record Keeps (P : ExtOp → Type 0) (c : Processing) : Type 0 where
  pub old : AreReplied P c c.log
  pub now : AreBehind P (task_at (job_next (next_of c)) c.at.call) c.at.done

pub keeps_more : (P Q : ExtOp → Type 0) (c : Processing) → ((e : ExtOp) → P e → Q e) → Keeps P c → Keeps Q c
keeps_more P Q c goes keeps =
    record {
      old = λ op call list reply stands in_it k e less is. goes e (keeps.old op call list reply stands in_it k e less is);
      now = λ list is k e less at. goes e (keeps.now list is k e less at);
    }

-- ---- lines that answer nothing
abbrev IsNoAnswer : LogLine → Type 0
IsNoAnswer (lines.Answer op call reply) = ⊥
IsNoAnswer _ = Unit {0}

given_all : (number : CallNumber) (blocks : List Block) → All IsNoAnswer (given_lines number blocks)
given_all number [] = All-nil IsNoAnswer
given_all number (b ∷ blocks) = All-cons IsNoAnswer (lines.Given number.op number.call b.extent b.first) (given_lines number blocks) tt (given_all number blocks)

left_all : (op : ℕ) (xs : List LeftFrame) → All IsNoAnswer (left_lines op xs)
left_all op [] = All-nil IsNoAnswer
left_all op (x ∷ xs) = All-cons IsNoAnswer (lines.Left op x.frame x.word) (left_lines op xs) tt (left_all op xs)

none_in : (more : List LogLine) (op call : ℕ) (reply : Reply) → All IsNoAnswer more → Contains more (lines.Answer op call reply) → ⊥
none_in more op call reply all in_it = All-contains IsNoAnswer more (lines.Answer op call reply) all in_it

went_before : {d : ℕ} {task : Option Task} {number : CallNumber} {v : PortValue} {from to : Progress} {w : PortValue} {log log' : List LogLine} {answers : List Bool} {answer : Result ℕ Stop} → WentOn d task number v from to w log log' answers answer →
    (op call : ℕ) (reply : Reply) → Contains log' (lines.Answer op call reply) → Contains log (lines.Answer op call reply)
went_before {number = number} {log = log} went op call reply in_it =
    elim (Contains-append_cases log (given_lines number _) (lines.Answer op call reply) (subst (λ (xs : List LogLine). Contains xs (lines.Answer op call reply)) went.lines in_it)) [
      | inl before ↦ before
      | inr new ↦ absurd (none_in (given_lines number _) op call reply (given_all number _) new)
    ]

-- ---- the elements of one task
went_elements : (P : ExtOp → Type 0) (d : ℕ) (task : Option Task) (number : CallNumber) (v : PortValue) (from to : Progress) (w : PortValue) (log log' : List LogLine) (answers : List Bool) (answer : Result ℕ Stop) → ((e : ExtOp) → Did v w e → P e) →
    AreBehind P task from.done → WentOn d task number v from to w log log' answers answer → AreBehind P task to.done
went_elements P d task number v from to w log log' answers answer did was went list is k e less at =
    elim (cases_lt k from.done) [
      | inl before ↦ was list is k e before at
      | inr later ↦
          (let by = (subst (λ x. WentOn d x number v from to w log log' answers answer) is went).works in
          did e (through d list from.done from.awaited from.done v k e at (omega arith) to.done w answers by.ended by.works less))
    ]

-- ---- calls of a multicall
replied_done : (n : ℕ) (answer : Result ℕ Stop) (reply : Reply) → replied n answer ≡ Some reply → reply.done ≡ n
replied_done n (Ok value) reply is = let same : reply_of n value None ≡ reply = cc in ap (λ (r : Reply). r.done) (sym same)
replied_done n (Err (Refused x)) reply is = let same : reply_of n 0 (Some x) ≡ reply = cc in ap (λ (r : Reply). r.done) (sym same)
replied_done n (Err (Paused p)) reply is = absurd cc

module _ (P : ExtOp → Type 0) (c : Processing) (calls : List Call) (is_multi : slice_get c.script c.answered ≡ Some (Multi calls)) (v : PortValue) where
  -- so it was before, or it was done on the way
  abbrev Q : PortValue → ExtOp → Type 0
  Q u e = P e ⊎ Did v u e

  further : (u w : PortValue) (e : ExtOp) → Came u w → Q u e → Q w e
  further u w e came (inl was) = inl was
  further u w e came (inr did) = inr (did_on v v u w e (came_self v) did came)

  record Calls (u : PortValue) (at : Progress) (log : List LogLine) : Type 0 where
    came : Came v u
    old : AreReplied (Q u) c log
    now : AreBehind (Q u) (task_called (slice_get calls at.call)) at.done

  on_way : (u w : PortValue) (at : Progress) (log : List LogLine) → Came u w → Calls u at log → Calls w at log
  on_way u w at log came k =
      record {
        came = came_trans v u w k.came came;
        old = λ op call list reply stands in_it j e less is. further u w e came (k.old op call list reply stands in_it j e less is);
        now = λ list is j e less here. further u w e came (k.now list is j e less here);
      }

  -- the call that stands next went on
  module _ (call : Call) (at to : Progress) (u x : PortValue) (log log' : List LogLine) (asked : List Bool) (answer : Result ℕ Stop) (stands : slice_get calls at.call ≡ Some call) (k : Calls u at log)
      (went : WentOn c.domain (task_in call) (call_behind (c.answered + 1) at.call) u at to x log log' asked answer) where
    goes : Came u x
    goes = (went_brings went).came

    elements : AreBehind (Q x) (task_in call) to.done
    elements =
        went_elements (Q x) c.domain (task_in call) _ u at to x log log' asked answer (λ e d. inr (did_on v u x x e k.came d (came_self x)))
        (λ list is j e less here. further u x e goes (k.now list (ap task_called stands ∙ is) j e less here)) went

    old_behind : AreReplied (Q x) c log'
    old_behind op number list reply place in_it j e less is = further u x e goes (k.old op number list reply place (went_before went op number reply in_it) j e less is)

    behind : Calls x to log'
    behind =
        record {
          came = came_trans v u x k.came goes;
          old = old_behind;
          now = λ list is. elements list (sym (ap task_called (ap (slice_get calls) went.calls ∙ stands)) ∙ is);
        }

    -- and is answered
    module _ (reply : Reply) (says : replied to.done answer ≡ Some reply) where
      this : (op number : ℕ) (list : List ExtOp) (r : Reply) → StandsAt c.script op number list → lines.Answer (c.answered + 1) (at.call + 1) reply ≡ lines.Answer op number r → AreDone (Q x) list r.done
      this op number list r (alone i same none place) line = absurd (let calls_are : at.call + 1 ≡ number = cc in omega arith)
      this op number list r (called i j those same which place there) line =
          let ops : c.answered + 1 ≡ op = cc in
          let nth : at.call + 1 ≡ number = cc in
          let said : reply ≡ r = cc in
          let here : i ≡ c.answered = omega arith in
          let now_at : j ≡ at.call = omega arith in
          let multi : Multi those ≡ Multi calls = (let e : Some (Multi those) ≡ Some (Multi calls) = sym place ∙ ap (slice_get c.script) here ∙ is_multi in cc) in
          let lists : those ≡ calls = cc in
          let at_call : Some (Ext list) ≡ Some call = sym there ∙ ap (λ xs. slice_get xs j) lists ∙ ap (slice_get calls) now_at ∙ stands in
          let is_ext : Ext list ≡ call = cc in
          subst (AreDone (Q x) list) (sym (replied_done to.done answer reply says) ∙ ap (λ (y : Reply). y.done) said) (elements list (ap task_in (sym is_ext)))

      answered_old : AreReplied (Q x) c (log' ++ lines.Answer (c.answered + 1) (at.call + 1) reply ∷ [])
      answered_old op number list r place in_it =
          elim (Contains-push_cases log' (lines.Answer (c.answered + 1) (at.call + 1) reply) (lines.Answer op number r) in_it) [
            | inl before ↦ old_behind op number list r place before
            | inr same ↦ this op number list r place same
          ]

      answered_call : Calls x (begun_at (at.call + 1)) (log' ++ lines.Answer (c.answered + 1) (at.call + 1) reply ∷ [])
      answered_call = record { came = came_trans v u x k.came goes; old = answered_old; now = λ list is j e less here. absurd (omega arith) }

  call_keeps : (call : Call) (at : Progress) (u : PortValue) (log : List LogLine) (to : Progress) (w : PortValue) (log' : List LogLine) (asked : List Bool) (r : Result (Unit {0}) Stop) → slice_get calls at.call ≡ Some call → Calls u at log →
      AnswersCall c.domain call (c.answered + 1) u at log to w log' asked r → Calls w to log'
  call_keeps call at u log _ _ _ _ _ stands k (calling.AnswersCall.unsettled w early stop settles) = on_way u w at log (settles_came u w early (Err stop) settles) k
  call_keeps call at u log _ _ _ _ _ stands k (calling.AnswersCall.paused to x w log' early asked p settles went) =
      behind call at to x w log log' asked (Err (Paused p)) stands (on_way u x at log (settles_came u x early (Ok tt) settles) k) went
  call_keeps call at u log _ _ _ _ _ stands k (calling.AnswersCall.answered to x y w log' early asked answer reply settles went says ends) =
      on_way y w (begun_at (at.call + 1)) (log' ++ lines.Answer (c.answered + 1) (at.call + 1) reply ∷ []) (moves_came y w _ _ _ _ _ ends.1)
      (answered_call call at to x y log log' asked answer stands (on_way u x at log (settles_came u x early (Ok tt) settles) k) went reply says)

  calls_keep : (from : Progress) (log : List LogLine) (at : Progress) (w : PortValue) (behind : List LogLine) (answers : List Bool) → Calls v from log → AnsweredCalls c.domain calls (c.answered + 1) v from log at w behind answers → Calls w at behind
  calls_keep from log _ _ _ _ k calling.AnsweredCalls.none = k
  calls_keep from log _ _ _ _ k (calling.AnsweredCalls.more at to u w call before behind answers asked did is next) = call_keeps call at u before to w behind asked (Ok tt) is (calls_keep from log at u before answers k did) next

-- ---- the next operation
module _ (P : ExtOp → Type 0) (c : Processing) (to : Progress) (log : List LogLine) (old : AreReplied P c log) where
  answered : (reply : Reply) → ((list : List ExtOp) → next_of c ≡ Some (One (Ext list)) → AreDone P list reply.done) → Keeps P (after_turn c to log (ends.Answered reply))
  answered reply next =
      record {
        old = λ op call list r place in_it. elim (Contains-push_cases log (lines.Answer (c.answered + 1) 0 reply) (lines.Answer op call r) in_it) [
          | inl before ↦ old op call list r place before
          | inr same ↦ this op call list r place same
        ];
        now = λ list at k e less is. absurd (omega arith);
      }
    where
      this : (op call : ℕ) (list : List ExtOp) (r : Reply) → StandsAt c.script op call list → lines.Answer (c.answered + 1) 0 reply ≡ lines.Answer op call r → AreDone P list r.done
      this op call list r (called i j those same which place there) line = absurd (let none : 0 ≡ call = cc in omega arith)
      this op call list r (alone i same none place) line =
          let ops : c.answered + 1 ≡ op = cc in
          let said : reply ≡ r = cc in
          let here : c.answered ≡ i = omega arith in
          subst (λ (y : Reply). AreDone P list y.done) said (next list (ap (slice_get c.script) here ∙ place))

  ended : (answer : Result ℕ Stop) → ((list : List ExtOp) → next_of c ≡ Some (One (Ext list)) → AreDone P list to.done) → ((p : Pause) → answer ≡ Err (Paused p) → AreBehind P (task_at (job_next (next_of c)) to.call) to.done) →
      Keeps P (after_turn c to log (end_of to.done answer))
  ended (Ok value) whole part = answered (reply_of to.done value None) whole
  ended (Err (Refused r)) whole part = answered (reply_of to.done 0 (Some r)) whole
  ended (Err (Paused p)) whole part = record { old = old; now = part p refl }

no_pause : (r : Result (Unit {0}) Stop) (answer : Result ℕ Stop) (p : Pause) → answer ≡ valued r → answer ≡ Err (Paused p) → r ≡ Err (Paused p)
no_pause (Ok done) answer p is paused = absurd (let e : valued (Ok tt) ≡ Err (Paused p) = sym is ∙ paused in cc)
no_pause (Err stop) answer p is paused = let e : valued (Err stop) ≡ Err (Paused p) = sym is ∙ paused in cc

module _ (P : ExtOp → Type 0) (c : Processing) (keeps : Keeps P c) where
  retired : Keeps P (record c { retired = true })
  retired = record { old = keeps.old; now = keeps.now }

  left : (below : Option ℕ) → Keeps P (record c { left = below })
  left below = record { old = keeps.old; now = keeps.now }

  module _ (v w : PortValue) (did : (e : ExtOp) → Did v w e → P e) (to : Progress) (log : List LogLine) (answers : List Bool) (answer : Result ℕ Stop) where
    -- one task
    one_keeps : (task : Option Task) → task_at (job_next (next_of c)) c.at.call ≡ task → ((n : ℕ) → task_at (job_next (next_of c)) n ≡ task) → WentBy c.domain (OfOne task) (c.answered + 1) v c.at to w c.log log answers answer →
        Keeps P (after_turn c to log (end_of to.done answer))
    one_keeps task here each went =
        let done = went_elements P c.domain task _ v c.at to w c.log log answers answer did (λ list is. keeps.now list (here ∙ is)) went in
        ended P c to log (λ op call list reply place in_it. keeps.old op call list reply place (went_before went op call reply in_it)) answer
        (λ list next. done list (sym here ∙ ap (λ o. task_at (job_next o) c.at.call) next)) (λ p paused list is. done list (sym (each to.call) ∙ is))

    -- a multicall
    many_keeps : (calls : List Call) → next_of c ≡ Some (Multi calls) → WentBy c.domain (OfCalls calls) (c.answered + 1) v c.at to w c.log log answers answer → Keeps P (after_turn c to log (end_of to.done answer))
    many_keeps calls next went = by went.ended went.answer_is to w log answers went.works did
      where
        first : Calls P c calls next v v c.at c.log
        first =
            record {
              came = came_self v;
              old = λ op call list reply place in_it k e less is. inl (keeps.old op call list reply place in_it k e less is);
              now = λ list is k e less at. inl (keeps.now list (ap (λ o. task_at (job_next o) c.at.call) next ∙ is) k e less at);
            }

        none_whole : (m : ℕ) (list : List ExtOp) → next_of c ≡ Some (One (Ext list)) → AreDone P list m
        none_whole m list at = absurd (let e : Some (Multi calls) ≡ Some (One (Ext list)) = sym next ∙ at in cc)

        settled : (x : PortValue) (y : Progress) (l : List LogLine) → ((e : ExtOp) → Did v x e → P e) → Calls P c calls next v x y l → AreReplied P c l
        settled x y l says k op call list reply place in_it j e less is = elim (k.old op call list reply place in_it j e less is) [ inl was ↦ was | inr d ↦ says e d ]

        by : (r : Result (Unit {0}) Stop) → answer ≡ valued r → (y : Progress) (x : PortValue) (l : List LogLine) (asked : List Bool) → WorksCalls c.domain calls (c.answered + 1) v c.at c.log y x l asked r → ((e : ExtOp) → Did v x e → P e) → Keeps P (after_turn c y l (end_of y.done answer))
        by _ is _ _ _ _ (calling.WorksCalls.long above) says =
            ended P c (record c.at { done = 0; awaited = None }) c.log keeps.old answer (none_whole 0)
            (λ p paused. absurd (let e : Err (Refused BatchLong) ≡ Err (Paused p) = no_pause (Err (Refused BatchLong)) answer p is paused in cc))
        by _ is _ _ _ _ (calling.WorksCalls.all_answered at x l asked few done all) says =
            ended P c (record at { done = at.call }) l (settled x at l says (calls_keep P c calls next v c.at c.log at x l asked first done)) answer (none_whole at.call)
            (λ p paused. absurd (let e : Ok tt ≡ Err (Paused p) = no_pause (Ok tt) answer p is paused in cc))
        by _ is _ _ _ _ (calling.WorksCalls.stopped at y u x call before l asked more stop few done here stops) says =
            let k = call_keeps P c calls next v call at u before y x l more (Err stop) here (calls_keep P c calls next v c.at c.log at u before asked first done) stops in
            ended P c y l (settled x y l says k) answer (none_whole y.done)
            (λ p paused list task j e less at_it. elim (k.now list (sym (ap (λ o. task_at (job_next o) y.call) next) ∙ task) j e less at_it) [ inl was ↦ was | inr d ↦ says e d ])

    -- a destruction
    destroy_keeps : (x : ℕ) → job_next (next_of c) ≡ OfDestroy x → WentBy c.domain (OfDestroy x) (c.answered + 1) v c.at to w c.log log answers answer → Keeps P (after_turn c to log (end_of to.done answer))
    destroy_keeps x is went =
        ended P c to log
        (λ op call list reply place in_it. keeps.old op call list reply place (elim (Contains-append_cases c.log (left_lines (c.answered + 1) went.destroyed.more) (lines.Answer op call reply) (subst (λ (xs : List LogLine). Contains xs (lines.Answer op call reply)) went.destroyed.lines in_it)) [
          | inl before ↦ before
          | inr new ↦ absurd (none_in (left_lines (c.answered + 1) went.destroyed.more) op call reply (left_all (c.answered + 1) went.destroyed.more) new)
        ]))
        answer (λ list at. absurd (let e : job_next (Some (One (Ext list))) ≡ OfDestroy x = ap job_next (sym at) ∙ is in cc))
        (λ p paused list task. absurd (let e : task_at (OfDestroy x) to.call ≡ Some (OfExt list) = ap (λ j. task_at j to.call) (sym is) ∙ task in cc))

    went_keeps : (op : Op) → next_of c ≡ Some op → WentBy c.domain (job_of op) (c.answered + 1) v c.at to w c.log log answers answer → Keeps P (after_turn c to log (end_of to.done answer))
    went_keeps (Multi calls) next went = many_keeps calls next went
    went_keeps (ops.Destroy x) next went = destroy_keeps x (ap job_next next) went
    went_keeps (One call) next went = one_keeps (task_in call) (ap (λ o. task_at (job_next o) c.at.call) next) (λ n. ap (λ o. task_at (job_next o) n) next) went
    went_keeps op next went = one_keeps (task_of op) (ap (λ o. task_at (job_next o) c.at.call) next) (λ n. ap (λ o. task_at (job_next o) n) next) went

  next_keeps : (v w : PortValue) → ((e : ExtOp) → Did v w e → P e) → (o : Option Op) → o ≡ next_of c → (c' : Processing) (answers : List Bool) (end : TurnEnd) → DoesNext c o c' v w answers end → Keeps P c'
  next_keeps v w did None here c' answers end does = subst (Keeps P) (sym does.cpu) retired
  next_keeps v w did (Some op) here c' answers end does =
      subst (Keeps P) (sym (does.cpu ∙ ap (after_turn c does.to does.log) does.end_is)) (went_keeps v w did does.to does.log answers does.answer op (sym here) does.went)

  dies_keeps : (v w : PortValue) (life : ℕ) (o : Option Op) → o ≡ next_of c → (c' : Processing) (end : TurnEnd) → DiesNext life c o c' v w end → Keeps P c'
  dies_keeps v w life None here c' end dies = subst (Keeps P) (sym dies.2) retired
  dies_keeps v w life (Some op) here c' end dies =
      let next : (list : List ExtOp) → next_of c ≡ Some (One (Ext list)) → AreDone P list (done_at (job_of op) c.at) =
      λ list at. (let is : op ≡ One (Ext list) = (let e : Some op ≡ Some (One (Ext list)) = here ∙ at in cc) in subst (λ x. AreDone P list (done_at (job_of x) c.at)) (sym is) (keeps.now list (ap (λ o. task_at (job_next o) c.at.call) at))) in
      subst (Keeps P) (sym (dies.2 ∙ ap (after_turn c c.at c.log) dies.1)) (answered P c c.at c.log keeps.old (reply_of (done_at (job_of op) c.at) 0 (Some (Dying c.domain life))) next)

-- ---- the whole turn
does_keeps : (P : ExtOp → Type 0) (c : Processing) (o : Option Op) → o ≡ next_of c → (v w : PortValue) (c' : Processing) (answers : List Bool) (end : TurnEnd) → ((e : ExtOp) → Did v w e → P e) → Keeps P c → DoesTurn c o v c' w answers end → Keeps P c'
does_keeps P c o here v _ _ _ _ did keeps (turning.unsettled w answers p settles) = left P c keeps _
does_keeps P c o here v _ _ _ _ did keeps (turning.settled u w c' early answers end settles does) =
    next_keeps P (nothing_left c) (left P c keeps None) u w (λ e d. did e (did_on v u w w e (settles_came v u early (Ok tt) settles) d (came_self w))) o here c' answers end does
does_keeps P c o here v _ _ _ _ did keeps (turning.dying life w c' end dead dies) = dies_keeps P c keeps v w life o here c' end dies

pub turn_keeps : (P : ExtOp → Type 0) (c c' : Processing) (end : TurnEnd) (v w : PortValue) (answers : List Bool) → ((e : ExtOp) → Did v w e → P e) → Keeps P c → IsTurn c c' end v w answers → Keeps P c'
turn_keeps P c c' end v w answers did keeps t =
    does_keeps P c (next_of c) refl t.begun t.worked c' answers end (λ e d. did e (did_on v t.begun t.worked w e (begins_came v t.begun t.begins) d (ends_came end t.worked w t.ends))) keeps t.does
