-- A whole script of one vCPU that is alone comes to the plain one.
use Rattle.std.proofs.Common.{◌≡◌, ◌≢◌, ◌⊎◌, ℕ, suc, ◌+◌, ◌<◌, Bool, true, false, List, [], ◌∷◌, ◌++◌, length, Option, Some, None, Result, Ok, Err, refl, sym, ap, ◌∙◌, subst, inl, inr}
use Rattle.std.specs.Prelude.{drop, slice_get}
use Rattle.xp_words.specs.declared.ops.Call.{Call}
use Rattle.xp_words.specs.declared.ops.ExtOp.{ExtOp}
use Rattle.xp_words.specs.declared.ops.Op.{Op}
use Rattle.xp_words.specs.declared.ops.Op.TheVariants as ops
use Rattle.xp_words.specs.declared.ops.Pair.{Pair}
use Rattle.xp_words.specs.declared.place.Place.TheVariants.{Life}
use Rattle.xp_words.specs.declared.reply.LogLine.{LogLine}
use Rattle.xp_words.specs.declared.reply.Stop.{Stop}
use Rattle.xp_words.specs.declared.reply.Stop.TheVariants.{Refused, Paused}
use Rattle.xp_board.specs.declared.step.Act.TheVariants.{Load}
use Rattle.xp_board.specs.declared.step.StepKind.TheVariants as kinds
use Rattle.xp_board.specs.Told.{Post, PortValue, is_telling}
use Rattle.step_maker.proofs.Coming.{came_post, came_self, moves_came}
use Rattle.step_maker.proofs.Telling.{came_telling, load_tells, told_there}
use Rattle.answer_laws.proofs.Shared.{alone_telling}
use Rattle.course_laws.proofs.Awaiting.{NeitherLostNorBusy}
use Rattle.script_law.specs.Scripts.{Answered, alone_where, live_alone, op_alone, refused, script_alone}
use Rattle.script_law.specs.Values.{Line, Solo}
use Rattle.solo_pins.proofs.Meaning.{Laws}
use Rattle.solo_ports.specs.Standing.{Clean, nothing, whose}
use Rattle.vcpu_turn.specs.Cpus.{Job, OfCalls, OfDestroy, OfOne, OfDescriptors, OfExt, OfMapping, OfMem, OfPairs, OfRead, OfWrite, Processing, Task, begun, job_of, task_in}
use Rattle.vcpu_turn.specs.Descriptors.{TouchLdt}
use Rattle.vcpu_turn.specs.Settling.{Settles}
use Rattle.vcpu_turn.specs.Turning.{Begins}
use Rattle.vcpu_turn.specs.declared.cpu.Progress.{Progress}
use Rattle.script_laws.specs.Logged.{AreLines, IsLogged}
use Rattle.script_laws.specs.Opening.{IsStoppedAt}
use Rattle.script_laws.specs.Turns.{IsLog, Turned}
use Rattle.script_laws.proofs.Burying.{Dies, dies_begins, dies_moved}
use Rattle.script_laws.proofs.Calling.{NextCall}
use Rattle.script_laws.proofs.Listed.{KeptIn}
use Rattle.script_laws.proofs.ExtLaws.{KeepsExt, ext_keeping}
use Rattle.script_laws.proofs.Items.{OwesF}
use Rattle.script_laws.proofs.Moving.{alike_moves, begins_alike, cut_alike, settled_moves, unsettled_moves}
use Rattle.script_laws.proofs.Premises.{FairFrom, fair_back}
use Rattle.script_laws.proofs.Settling.{owes_clean, stands_in}
use Rattle.script_laws.proofs.Showing.{stop_shows}
use Rattle.script_laws.proofs.Tasking.{Elements, Moving, call_plain, owes_moved, task_begins, task_moved}
use Rattle.script_laws.proofs.Tasks.{Lives, MayName, owners_of}
use Rattle.script_laws.proofs.Turning.{Lemmas, WorkComes, script_by}
use Rattle.script_laws.proofs.Whole.{CallGoing, CallReady, Comes_op, Dying, DyingReady, GoingOp, Left, One, OneReady, Owed, ReadyOp, Standing, all_work, call_lemmas, call_moved, log_of, many, multicall_many, plain_calls, plain_ops}
use Rattle.script_laws.proofs.Working.{By, calls_begin_by, going_moved}

module _ (l : Laws) (neither : NeitherLostNorBusy) (v0 : PortValue) (real : (whose v0).domain < length v0.post.machine.page_limit) (e : Elements l neither v0) where
  -- ---- where it stands
  abbrev St : PortValue → Type 0
  St = Standing l neither v0 real e

  owed_at : (v : PortValue) (s : Solo) → Owed l neither v0 real e v s → St v
  owed_at v s owes = record { value = s; came = owes.ahead.came; alive = owes.ahead.good; stands = stands_in l.stays neither v s owes.owes }

  pairs_at : (foreign : ℕ) (list : List Pair) (k : ℕ) (v : PortValue) (t : Solo) → OwesF l.stays neither v0 (MayName l.stays neither v0 foreign) v t ⊎ KeptIn l.stays neither v0 (MayName l.stays neither v0 foreign) list (e.KeepsPair (owners_of l.stays neither v0 foreign)) k v t → St v
  pairs_at foreign list k v t (inl owes) = record { value = t; came = owes.ahead.came; alive = owes.ahead.good.0; stands = stands_in l.stays neither v t owes.owes }
  pairs_at foreign list k v t (inr kept) = record { value = t; came = kept.ahead.came; alive = kept.ahead.good.0; stands = (e.pair_keeping foreign kept.element).stands v t kept.kept }

  ext_at : (list : List ExtOp) (k : ℕ) (v : PortValue) (t : Solo) → Owed l neither v0 real e v t ⊎ KeptIn l.stays neither v0 (Lives l.stays neither v0) list (KeepsExt l neither v0) k v t → St v
  ext_at list k v t (inl owes) = owed_at v t owes
  ext_at list k v t (inr kept) = record { value = t; came = kept.ahead.came; alive = kept.ahead.good; stands = (ext_keeping l neither v0 kept.element).stands v t kept.kept }

  task_at : (task : Option Task) (op call : ℕ) (at : Progress) (made : List LogLine) (v : PortValue) (b : Answered) → Left l neither v0 real e task op call at made v b → St v
  task_at None op call at made v b g = owed_at v g.value g.owes
  task_at (Some (OfPairs foreign list)) op call at made v b (inl g) = owed_at v g.0.value g.0.owes
  task_at (Some (OfPairs foreign list)) op call at made v b (inr g) = pairs_at foreign list at.done v g.stands.0 g.stands.2
  task_at (Some (OfExt list)) op call at made v b (inl g) = owed_at v g.0.value g.0.owes
  task_at (Some (OfExt list)) op call at made v b (inr g) = ext_at list at.done v g.value g.pending
  task_at (Some (OfMem command order items)) op call at made v b (inl g) = owed_at v g.0.value g.0.owes
  task_at (Some (OfMem command order items)) op call at made v b (inr g) = owed_at v g.value g.owes
  task_at (Some (OfMapping foreign va word flags)) op call at made v b g = owed_at v g.value g.owes
  task_at (Some (OfDescriptors t)) op call at made v b g = owed_at v g.value g.owes
  task_at (Some (OfRead user va)) op call at made v b g = owed_at v g.value g.owes
  task_at (Some (OfWrite user va val)) op call at made v b g = owed_at v g.value g.owes

  next_at : (op : ℕ) (calls : List Call) (all : List (List Line)) (last : Solo) (o : Option Call) (rest : List Call) (at : Progress) (made : List LogLine) (v : PortValue) (before : List (List Line)) →
      NextCall (plain_calls v0) (whose v0).domain op calls (λ n made ls. AreLines op made ls) (FairFrom v0) (Owed l neither v0 real e) (CallGoing l neither v0 real e op) (CallReady l neither v0 real e op) (call_lemmas l neither v0 real e op calls) all last o rest at made v before → St v
  next_at op calls all last None rest at made v before next = owed_at v next.0 next.1
  next_at op calls all last (Some call) rest at made v before next = task_at (task_in call) op (at.call + 1) at made v next.1.answer next.1.left

  going_at : (j : Job) (n : ℕ) (at : Progress) (made : List LogLine) (v : PortValue) (a : Answered) → GoingOp l neither v0 real e j n at made v a → St v
  going_at (OfOne task) n at made v a g = task_at task n 0 at made v a g
  going_at (OfCalls calls) n at made v a (inl f) = owed_at v f.value f.owes
  going_at (OfCalls calls) n at made v a (inr f) = next_at n calls f.all f.last (slice_get calls at.call) (drop (suc at.call) calls) at f.stands.own v f.stands.before f.stands.next
  going_at (OfDestroy x) n at made v a g = owed_at v g.value g.owes

  -- ---- along steps
  going_along : (A : Option Task → ℕ → Progress → List LogLine → PortValue → Answered → Type 0) (B : ℕ → ℕ → Progress → List LogLine → PortValue → Answered → Type 0) (j : Job) (n : ℕ) (at : Progress) (made : List LogLine) (v w : PortValue) (a : Answered) → Moving l neither v0 real e v w →
      ((task : Option Task) → Left l neither v0 real e task n 0 at made w a → A task n at made w a) → ((x : ℕ) → Dies l neither v0 real e x n at made w a → B x n at made w a) → GoingOp l neither v0 real e j n at made v a →
      By log_of (λ a. a.left) (plain_calls v0) many refused (whose v0).domain IsLogged (λ op n made ls. AreLines op made ls) (FairFrom v0) (Owed l neither v0 real e) (One l neither v0 real e) (OneReady l neither v0 real e) (Dying l neither v0 real e) (DyingReady l neither v0 real e) (CallGoing l neither v0 real e) (CallReady l neither v0 real e) (call_lemmas l neither v0 real e) A B j n at made w a
  going_along A B j n at made v w a m one dies g =
      going_moved log_of (λ a. a.left) (plain_calls v0) many refused (whose v0).domain IsLogged (λ op n made ls. AreLines op made ls) (FairFrom v0) (Owed l neither v0 real e) (One l neither v0 real e) (OneReady l neither v0 real e) (Dying l neither v0 real e) (DyingReady l neither v0 real e) (CallGoing l neither v0 real e) (CallReady l neither v0 real e) (call_lemmas l neither v0 real e)
      A B j n at made v w a (λ task g. one task (task_moved l neither v0 real e task n 0 at made v w a m g)) (λ x g. dies x (dies_moved l neither v0 real e x n at made v w a m g)) (λ call own b g. call_moved l neither v0 real e n call (at.call + 1) at own v w b m g) (λ s owes. owes_moved l neither v0 real e (Lives l.stays neither v0) v w s m owes) g

  same_along : (j : Job) (n : ℕ) (at : Progress) (made : List LogLine) (v w : PortValue) (a : Answered) → Moving l neither v0 real e v w → GoingOp l neither v0 real e j n at made v a → GoingOp l neither v0 real e j n at made w a
  same_along j n at made v w a m g = going_along (One l neither v0 real e) (Dying l neither v0 real e) j n at made v w a m (λ task g. g) (λ x g. g) g

  -- ---- an operation begins
  alone_is : (op : Op) (s : Solo) → s.lives (whose v0).domain ≡ 0 → op_alone (whose v0) op s ≡ live_alone (whose v0) op s
  alone_is op s alive = ap (alone_where (whose v0) op s) alive

  -- where the own domain lives
  live_begins : (op : Op) (n : ℕ) (v : PortValue) (s : Solo) → Owed l neither v0 real e v s → GoingOp l neither v0 real e (job_of op) n begun [] v (live_alone (whose v0) op s)
  live_begins (ops.One call) n v s owes = subst (Left l neither v0 real e (task_in call) n 0 begun [] v) (sym (call_plain l neither v0 real e call 0 s)) (task_begins l neither v0 real e (task_in call) n 0 0 v s owes)
  live_begins (ops.Multi cs) n v s owes =
      subst (GoingOp l neither v0 real e (OfCalls cs) n begun [] v) (sym (multicall_many v0 cs s))
      (calls_begin_by log_of (λ a. a.left) (plain_calls v0) many refused (whose v0).domain IsLogged (λ op n made ls. AreLines op made ls) (FairFrom v0) (Owed l neither v0 real e) (One l neither v0 real e) (OneReady l neither v0 real e) (Dying l neither v0 real e) (DyingReady l neither v0 real e) (CallGoing l neither v0 real e) (CallReady l neither v0 real e) (call_lemmas l neither v0 real e) cs n v s owes)
  live_begins (ops.Read user va) n v s owes = task_begins l neither v0 real e (Some (OfRead user va)) n 0 0 v s owes
  live_begins (ops.Write user va val) n v s owes = task_begins l neither v0 real e (Some (OfWrite user va val)) n 0 0 v s owes
  live_begins (ops.TouchLdt page) n v s owes = task_begins l neither v0 real e (Some (OfDescriptors (TouchLdt page))) n 0 0 v s owes
  live_begins (ops.Destroy x) n v s owes = dies_begins l neither v0 real e x n v s owes
  live_begins (ops.Grant to over) n v s owes = task_begins l neither v0 real e None n 0 0 v s owes
  live_begins (ops.Revoke to over) n v s owes = task_begins l neither v0 real e None n 0 0 v s owes
  live_begins (ops.Ptwr user va val) n v s owes = task_begins l neither v0 real e None n 0 0 v s owes
  live_begins (ops.Xchg first from to items) n v s owes = task_begins l neither v0 real e None n 0 0 v s owes

  -- ---- the own domain is never found dying
  never_dies : (v u : PortValue) (run found : ℕ) → Begins v u (whose v0).domain run found → found ≢ 0 → St u → ⊥
  never_dies v u run found b dead st =
      let telling = alone_telling u st.stands.alone in
      let came = moves_came b.looked u (Life (whose v0).domain) Load kinds.Look None found b.lives in
      let told : is_telling b.looked ≡ true = sym (came_telling b.looked u came) ∙ telling in
      let here = load_tells b.looked u (Life (whose v0).domain) kinds.Look None found b.lives told (Life (whose v0).domain) in
      let word = told_there b.looked u (Life (whose v0).domain) Load kinds.Look None found b.lives told in
      let low = subst (λ (p : Post). (whose v0).domain < length p.machine.page_limit) (sym (came_post v0 u st.came)) real in
      dead (sym (here ∙ word) ∙ (sym (st.stands.others.lives (whose v0).domain low) ∙ st.alive))

  settle_owes_by : (below : Option ℕ) (v w : PortValue) (s : Solo) (asked : List Bool) (r : Result (Unit {0}) Stop) → Settles below v w asked r → Owed l neither v0 real e v s → Owed l neither v0 real e w s
  settle_owes_by below v w s asked (Ok done) settles owes = owes_moved l neither v0 real e (Lives l.stays neither v0) v w s (settled_moves l neither v0 real e v w below asked settles) owes
  settle_owes_by below v w s asked (Err stop) settles owes = owes_moved l neither v0 real e (Lives l.stays neither v0) v w s (unsettled_moves l neither v0 real e v w below asked stop settles) owes

  -- ---- what the parts of a turn come to
  pub record CleanAt (v : PortValue) (s : Solo) : Type 0 where
    pub owes : Owed l neither v0 real e v s
    pub clean : Clean v s

  abbrev ComesAs : Op → ℕ → Progress → List LogLine → PortValue → Answered → Result ℕ Stop → Type 0
  ComesAs op = WorkComes (plain_ops l neither v0 real e) (whose v0).domain IsLogged (FairFrom v0) (Owed l neither v0 real e) CleanAt IsStoppedAt (λ op. GoingOp l neither v0 real e (job_of op)) (λ op. ReadyOp l neither v0 real e (job_of op)) op

  as_turned : (op : Op) (n : ℕ) (to : Progress) (made : List LogLine) (w : PortValue) (a : Answered) (r : Result ℕ Stop) → Comes_op l neither v0 real e (job_of op) n to made w a r → ComesAs op n to made w a r
  as_turned op n to made w a (Ok value) c = record { logs = c.logs; owes = c.owes }
  as_turned op n to made w a (Err (Refused x)) c = record { logs = c.logs; owes = c.owes }
  as_turned op n to made w a (Err (Paused p)) c = c

  pub script_lemmas : Lemmas (plain_ops l neither v0 real e) (whose v0).domain IsLogged (FairFrom v0) (Owed l neither v0 real e) CleanAt IsStoppedAt (λ op. GoingOp l neither v0 real e (job_of op)) (λ op. ReadyOp l neither v0 real e (job_of op))
  script_lemmas =
      record {
        begins_op = λ op k v s owes. subst (GoingOp l neither v0 real e (job_of op) (k + 1) begun [] v) (sym (alone_is op s owes.ahead.good)) (live_begins op (k + 1) v s owes);
        begin = λ op n at made v w a run found b fair g. let st = going_at (job_of op) n at made v a g in same_along (job_of op) n at made v w a (alike_moves l neither v0 real e v w (begins_alike v w st.value (whose v0).domain run found st.stands b)) g;
        begin_owes = λ v w s run found b fair owes. owes_moved l neither v0 real e (Lives l.stays neither v0) v w s (alike_moves l neither v0 real e v w (begins_alike v w s (whose v0).domain run found (stands_in l.stays neither v s owes.owes) b)) owes;
        settle = λ op n at made below v w a asked stop settles fair g. same_along (job_of op) n at made v w a (unsettled_moves l neither v0 real e v w below asked stop settles) g;
        ready = λ op n at made below v w a asked settles fair g.
            going_along (OneReady l neither v0 real e) (DyingReady l neither v0 real e) (job_of op) n at made v w a (settled_moves l neither v0 real e v w below asked settles) (λ task h. record { going = h; rests = settles.rests; settled = record { first = settles.clear; second = settles.clear_too } })
            (λ x h. record { going = h; rests = settles.rests; settled = record { first = settles.clear; second = settles.clear_too } }) g;
        settle_owes = λ below v w s asked r settles fair owes. settle_owes_by below v w s asked r settles owes;
        clean = λ below v w s asked settles fair owes. record { owes = owes; clean = owes_clean w s settles.rests (record { first = settles.clear; second = settles.clear_too }) owes.owes };
        work = λ op n at to made log log' v w a asked r went fair g. (let k = all_work l neither v0 real e (job_of op) n at to made log log' v w a asked r went fair g in (k.0, k.1, as_turned op n to (made ++ k.0) w a r k.2));
        cut = λ v w s reply end fair owes. owes_moved l neither v0 real e (Lives l.stays neither v0) v w s (alike_moves l neither v0 real e v w (cut_alike v w s 0 end.0 (stands_in l.stays neither v s owes.owes) end.1)) owes;
        stop = λ v w s stop fair c. stop_shows v w s c.clean stop;
        dies = λ op n at made v u w a run found b dead stop fair g. absurd (never_dies v u run found b dead (going_at (job_of op) n at made u a g));
        dies_last = λ v u w s run found b dead stop fair owes. absurd (never_dies v u run found b dead (owed_at u s owes));
        back = λ v w came fair. fair_back v0 v w came fair;
      }

-- ---- the whole
-- the plain script as one list of answers, and what it leaves
module _ (l : Laws) (neither : NeitherLostNorBusy) (v0 : PortValue) (real : (whose v0).domain < length v0.post.machine.page_limit) (e : Elements l neither v0) where
  log_is : (script : List Op) (k : ℕ) (s : Solo) → (script_alone (whose v0) script s).log ≡ (plain_ops l neither v0 real e).answers script k s
  unfolding script_alone
  log_is [] k s = refl
  log_is (op ∷ script) k s = ap (λ ls. log_of (op_alone (whose v0) op s) ∷ ls) (log_is script (suc k) (op_alone (whose v0) op s).left)

  left_is : (script : List Op) (k : ℕ) (s : Solo) → (script_alone (whose v0) script s).left ≡ (plain_ops l neither v0 real e).ends script k s
  unfolding script_alone
  left_is [] k s = refl
  left_is (op ∷ script) k s = left_is script (suc k) (op_alone (whose v0) op s).left

  pub whole_script : (c d : Processing) (w : PortValue) (s : Solo) → Turned c v0 d w → FairFrom v0 w → c.domain ≡ (whose v0).domain → c.log ≡ [] → c.answered ≡ 0 → c.at ≡ begun → c.retired ≡ false → Clean v0 s → s.lives (whose v0).domain ≡ 0 → d.retired ≡ true →
      IsLog IsLogged d.log (script_alone (whose v0) c.script s).log × IsStoppedAt w (script_alone (whose v0) c.script s).left
  whole_script c d w s turned fair of log none at on clean alive retired =
      let owes : Owed l neither v0 real e v0 s = record { ahead = record { came = came_self v0; good = alive }; owes = nothing clean } in
      let k = script_by (plain_ops l neither v0 real e) (whose v0).domain IsLogged (FairFrom v0) (Owed l neither v0 real e) (CleanAt l neither v0 real e) IsStoppedAt (λ op. GoingOp l neither v0 real e (job_of op)) (λ op. ReadyOp l neither v0 real e (job_of op)) (script_lemmas l neither v0 real e)
      c d v0 w s turned fair of log none at on owes retired in
      (subst (IsLog IsLogged d.log) (sym (log_is c.script 0 s)) k.0, subst (IsStoppedAt w) (sym (left_is c.script 0 s)) k.1)
