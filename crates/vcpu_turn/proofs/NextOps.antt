-- The next operation of a vCPU.
use Rattle.std.proofs.Common.{◌≡◌, ℕ, ◌+◌, ◌<◌, ◌≤◌, min, if◌then◌else◌, Bool, true, false, List, [], drop, length, sum_by, get_or, slice_get, Option, Some, None, Result, refl, sym, ap, ◌∙◌, arith, inl, inr, subst}
use Rattle.std.proofs.lemmas.List.Sums.{sum_by-drop_more, sum_by-take-drop}
use Rattle.std.proofs.lemmas.Option.{get_or_from_slice_get, slice_get-get_or, slice_get_cases, slice_get_past, slice_get_within}
use Rattle.xp_words.specs.declared.ops.Call.{Call}
use Rattle.xp_words.specs.declared.ops.Op.{Op}
use Rattle.xp_words.specs.declared.reply.LogLine.{LogLine}
use Rattle.xp_words.specs.declared.reply.Stop.{Stop}
use Rattle.xp_board.specs.Told.{PortValue}
use Rattle.xp_preempt.specs.Gates.{Gate, GatedPast}
use Rattle.xp_preempt.proofs.Consulting.{past_as, past_none}
use Rattle.vcpu_turn.specs.Calls.{WentBy}
use Rattle.domain_destroy.specs.Coming.{seen_to}
use Rattle.vcpu_turn.specs.Cpus.{IsFew, IsFewIn, IsFewOf, IsMade, Job, OfCalls, OfDestroy, OfOne, Processing, begun, is_long, job_next, job_of, lines_ahead, lines_made, lines_of, lines_of_call, made_by, made_next, made_within, next_of, room_from, room_of, task_called, task_in}
use Rattle.vcpu_turn.specs.Lists.{is_due_answer}
use Rattle.vcpu_turn.specs.Turning.{OperationWentOn, NextWentOn}
use Rattle.vcpu_turn.specs.declared.cpu.Progress.{Progress}

pub worked_none : (o : Option Op) (c c' : Processing) (v w : PortValue) (answers : List Bool) → NextWentOn o c c' v w answers None → (o ≡ None) × (c' ≡ c) × (w ≡ v) × (answers ≡ [])
worked_none (Some op) c c' v w answers h = absurd h
worked_none None c c' v w answers h = (refl, h.0, h.1, h.2)

pub record HasWorked (o : Option Op) (c c' : Processing) (v w : PortValue) (answers : List Bool) (answer : Result ℕ Stop) : Type 0 where
  pub op : Op
  pub next : o ≡ Some op
  pub worked : OperationWentOn op c c' v w answers answer

pub worked_some : (o : Option Op) (c c' : Processing) (v w : PortValue) (answers : List Bool) (answer : Result ℕ Stop) → NextWentOn o c c' v w answers (Some answer) → HasWorked o c c' v w answers answer
worked_some (Some op) c c' v w answers answer h = record { op = op; next = refl; worked = h }
worked_some None c c' v w answers answer h = absurd h

-- what stands at a place of a script that was looked up
pub op_found : (script seen : List Op) (k i : ℕ) (op : Op) → seen ≡ script → i ≡ k → i < length seen → op ≡ get_or seen i op → slice_get script k ≡ Some op
op_found script seen k i op same at less is =
    ap (λ (xs : List Op). slice_get xs k) (sym same) ∙ ap (λ (j : ℕ). slice_get seen j) (sym at) ∙ slice_get-get_or seen i op less ∙ ap (λ (o : Op). Some o) (sym is)

pub no_op_found : (script seen : List Op) (k i : ℕ) → seen ≡ script → i ≡ k → length seen ≤ i → slice_get script k ≡ None
no_op_found script seen k i same at past = ap (λ (xs : List Op). slice_get xs k) (sym same) ∙ ap (λ (j : ℕ). slice_get seen j) (sym at) ∙ slice_get_past seen i past

module _ {c seen : Processing} (is : seen ≡ c) (v : PortValue) where
  pub goes_nowhere : {g : Gate} → next_of seen ≡ None → GatedPast g g false (λ answers. NextWentOn (next_of c) c c v v answers None)
  goes_nowhere next = rw (sym is, next) (past_none refl (refl, refl, refl))

  pub goes_on : {g h : Gate} (op : Op) → next_of seen ≡ Some op → (to : Progress) (log : List LogLine) (w : PortValue) (answer : Result ℕ Stop) →
      GatedPast g h (is_due_answer answer) (λ answers. WentBy seen.domain (job_of op) (seen.answered + 1) v seen.at to w seen.log log answers answer) →
      GatedPast g h (is_due_answer answer) (λ answers. NextWentOn (next_of c) c (record seen { at = to; log = log }) v w answers (Some answer))
  goes_on op next to log w answer went = rw (sym is, next) (past_as (λ due. due) (λ answers on. record { went = on; cpu = refl }) went)

-- it is not answered yet
pub more_left : (v w : PortValue) (c c' : Processing) (answers : List Bool) (answer : Result ℕ Stop) → NextWentOn (next_of c) c c' v w answers (Some answer) → c'.answered < length c'.script
more_left v w c c' answers answer worked =
    let h = worked_some (next_of c) c c' v w answers answer worked in
    subst (λ (x : Processing). x.answered < length x.script) (sym h.worked.cpu) (slice_get_within c.script c.answered h.op h.next)

-- as the code sees it, with what is left behind the settling
pub more_seen : (seen c : Processing) → seen ≡ c → (left : Option ℕ) (v w : PortValue) (c' : Processing) (answers : List Bool) (answer : Result ℕ Stop) → NextWentOn (next_of seen) (record seen { left = left }) c' v w answers (Some answer) → c'.answered < length c'.script
more_seen seen c is left v w c' answers answer worked = more_left v w (record seen { left = left }) c' answers answer worked

-- ---- the room of the log
made_few : (done most : ℕ) → min done most ≤ most
made_few done most = grind arith

pub ahead_more : (frames : ℕ) (script : List Op) (answered : ℕ) (op : Op) → slice_get script answered ≡ Some op → lines_ahead frames script answered ≡ lines_of frames op + lines_ahead frames script (answered + 1)
ahead_more frames script answered op at =
    let all = sum_by-drop_more (lines_of frames) script answered op (slice_get_within script answered op at) in
    all ∙ ap (λ (x : Op). lines_of frames x + lines_ahead frames script (answered + 1)) (get_or_from_slice_get script answered op op at)

pub calls_more : (calls : List Call) (answered : ℕ) (call : Call) → slice_get calls answered ≡ Some call → sum_by lines_of_call (drop answered calls) ≡ lines_of_call call + sum_by lines_of_call (drop (answered + 1) calls)
calls_more calls answered call at =
    let all = sum_by-drop_more lines_of_call calls answered call (slice_get_within calls answered call at) in
    all ∙ ap (λ (x : Call). lines_of_call x + sum_by lines_of_call (drop (answered + 1) calls)) (get_or_from_slice_get calls answered call call at)

abbrev pub SeenNoMore : ℕ → Job → Progress → Type 0
SeenNoMore frames (OfDestroy x) at = seen_to at.place ≤ frames
SeenNoMore frames job at = Unit {0}

-- what an operation may still log grows less with each call that is answered
room_less : (frames : ℕ) (job : Job) (answered : ℕ) → room_from frames job answered ≤ room_from frames job 0
room_less frames (OfOne task) answered = omega arith
room_less frames (OfDestroy x) answered = omega arith
room_less frames (OfCalls calls) answered = by (is_long calls)
  where
    by : (long : Bool) → (if long then 0 else sum_by lines_of_call (drop answered calls)) ≤ (if long then 0 else sum_by lines_of_call (drop 0 calls))
    by true = omega arith
    by false = let all = sum_by-take-drop lines_of_call calls answered in omega (arith, all)

-- and the call in progress has made no more lines than it may; so has a destruction that has looked at no more frames than there are
pub made_less : (frames : ℕ) (job : Job) (at : Progress) → SeenNoMore frames job at → made_within job at ≤ room_from frames job at.call
made_less frames (OfOne task) at seen = made_few at.done (room_of task)
made_less frames (OfDestroy x) at seen = seen
made_less frames (OfCalls calls) at seen = by (is_long calls)
  where
    called : (o : Option Call) → slice_get calls at.call ≡ o → lines_made (task_called o) at.done ≤ sum_by lines_of_call (drop at.call calls)
    called None is = omega arith
    called (Some call) is = let all = calls_more calls at.call call is in let few = made_few at.done (room_of (task_in call)) in omega (arith, all, few)

    by : (long : Bool) → (if long then 0 else lines_made (task_called (slice_get calls at.call)) at.done) ≤ (if long then 0 else sum_by lines_of_call (drop at.call calls))
    by true = omega arith
    by false = called (slice_get calls at.call) refl

module _ (frames : ℕ) (script : List Op) (answered len capacity : ℕ) (at : Progress) (room : len + lines_ahead frames script answered ≤ capacity + made_next frames (slice_get script answered) at) where
  module _ (op : Op) (next : slice_get script answered ≡ Some op) where
    room_of_op : len + lines_ahead frames script answered ≤ capacity + made_by frames (job_of op) at
    room_of_op = subst (λ (o : Option Op). len + lines_ahead frames script answered ≤ capacity + made_next frames o at) next room

    pub room_next : len + room_from frames (job_of op) at.call ≤ capacity + made_within (job_of op) at
    room_next = let lines = ahead_more frames script answered op next in let from = room_of_op in let less = room_less frames (job_of op) at.call in omega (arith, lines, from, less)

    -- it went on
    pub room_kept : (len' capacity' : ℕ) (to : Progress) → capacity' ≡ capacity → len' + room_from frames (job_of op) to.call + made_within (job_of op) at ≤ len + room_from frames (job_of op) at.call + made_within (job_of op) to →
        len' + lines_ahead frames script answered ≤ capacity' + made_next frames (slice_get script answered) to
    room_kept len' capacity' to same more =
        let lines = ahead_more frames script answered op next in
        let from = room_of_op in
        let less = room_less frames (job_of op) at.call in
        let less' = room_less frames (job_of op) to.call in
        subst (λ (o : Option Op). len' + lines_ahead frames script answered ≤ capacity' + made_next frames o to) (sym next) (omega (arith, lines, from, less, less', same, more))

    room_op_answered : made_within (job_of op) at ≤ room_from frames (job_of op) at.call → len + 1 + lines_ahead frames script (answered + 1) ≤ capacity
    room_op_answered few =
        let lines = ahead_more frames script answered op next in
        let from = room_of_op in
        let less = room_less frames (job_of op) at.call in
        omega (arith, lines, from, less, few)

  -- there is room for the line of its answer
  pub room_answered : answered < length script → IsMade frames (slice_get script answered) at → len + 1 + lines_ahead frames script (answered + 1) ≤ capacity
  room_answered more made = elim (slice_get_cases script answered).1 [
    | inl (op, less, next, is) ↦ room_op_answered op next (subst (λ (o : Option Op). IsMade frames o at) next made)
    | inr (past, next) ↦ absurd (omega (arith, more, past))
  ]

-- an operation that begins has made none
made_none : (n : ℕ) → min 0 n ≡ 0
made_none n = grind arith

pub made_begun : (frames : ℕ) (o : Option Op) → made_next frames o begun ≡ 0
made_begun frames o = by (job_next o)
  where
    within : (job : Job) → made_within job begun ≡ 0
    within (OfOne task) = made_none (room_of task)
    within (OfDestroy x) = refl
    within (OfCalls calls) = long (is_long calls)
      where
        long : (b : Bool) → (if b then 0 else lines_made (task_called (slice_get calls 0)) 0) ≡ 0
        long true = refl
        long false = made_none (room_of (task_called (slice_get calls 0)))

    by : (job : Job) → made_by frames job begun ≡ 0
    by job = let w = within job in omega (arith, w)

pub few_begun : (o : Option Op) → IsFew o begun
few_begun None = omega arith
few_begun (Some op) = by (job_of op)
  where
    called : (o : Option Call) → IsFewOf o 0
    called None = tt
    called (Some call) = omega arith

    by : (job : Job) → IsFewIn job begun
    by (OfOne task) = omega arith
    by (OfDestroy x) = (refl, omega arith)
    by (OfCalls calls) = (omega arith, called (slice_get calls 0))

pub seen_begun : (frames : ℕ) (job : Job) → SeenNoMore frames job begun
seen_begun frames (OfOne task) = tt
seen_begun frames (OfCalls calls) = tt
seen_begun frames (OfDestroy x) = omega arith
