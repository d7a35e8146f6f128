-- Between turns: the port is still that of the vCPU.
use Rattle.std.proofs.Common.{◌≡◌, ◌≢◌, ◌⊎◌, ℕ, ◌+◌, ◌==◌, not, Bool, true, false, List, Option, Some, None, Result, Ok, Err, IfErr, IsTrue, refl, sym, ap, ◌∙◌, inl, inr, subst, arith}
use Rattle.std.proofs.lemmas.Bool.Decides.{nat_tests}
use Rattle.xp_words.specs.Places.{sizes_of}
use Rattle.xp_words.specs.declared.ops.Op.{Op}
use Rattle.xp_words.specs.declared.ops.Op.TheVariants as ops
use Rattle.xp_words.specs.declared.place.Place.TheVariants.{Life}
use Rattle.xp_words.specs.declared.reply.LogLine.{LogLine}
use Rattle.xp_words.specs.declared.reply.Refusal.TheVariants.{Dying}
use Rattle.xp_words.specs.declared.reply.Stop.{Stop}
use Rattle.xp_words.specs.declared.reply.Stop.TheVariants.{Refused, Paused}
use Rattle.xp_board.specs.Acts.{left_by}
use Rattle.xp_board.specs.Readings.{domain_of}
use Rattle.xp_board.specs.Steps.{some_since}
use Rattle.xp_board.specs.Told.{Post, PortValue, own_run, run_or}
use Rattle.xp_board.specs.declared.step.Act.TheVariants.{Load}
use Rattle.xp_board.specs.declared.step.StepKind.TheVariants as kinds
use Rattle.step_maker.specs.Holds.{Rests}
use Rattle.step_maker.specs.Moves.{Came}
use Rattle.step_maker.proofs.Coming.{came_post, came_trans, moves_came}
use Rattle.step_maker.proofs.Noting.{moves_since}
use Rattle.dead_domains.specs.Buried.{HasBuried}
use Rattle.mmuext_ops.specs.Elements.{KnowsAwaited}
use Rattle.vcpu_turn.specs.Calls.{WentBy}
use Rattle.vcpu_turn.specs.Cpus.{Processing, after_turn, done_at, end_of, job_next, job_of, next_of, reply_of}
use Rattle.vcpu_turn.specs.Destroying.{KeepsBuried, KnowsDying, KnowsPlace, ListsNoneAhead, WentOnDestroying}
use Rattle.vcpu_turn.specs.Turning.{Begins, DiesBy, EndsTurn, Idles, IsOf, IsStop, MakesStop, NextWentOn, Runs}
use Rattle.vcpu_turn.specs.Settling.{IsWarm}
use Rattle.vcpu_turn.specs.declared.cpu.Progress.{Progress}
use Rattle.vcpu_turn.specs.declared.cpu.TurnEnd.{TurnEnd}
use Rattle.vcpu_turn.specs.declared.cpu.TurnEnd.TheVariants as ends
use Rattle.vcpu_turn.proofs.Adding.{Adds, FitsJob, answer_before, by_adds, other_lefts}
use Rattle.vcpu_turn.proofs.Living.{knows_dying_on}
use Rattle.vcpu_turn.proofs.Burying.{BuriesNext, Keeps, buried_more, buried_on, keeps_answered, keeps_but, keeps_on, keeps_retired, place_on}
use Rattle.vcpu_turn.proofs.CallsBringing.{by_came}
use Rattle.vcpu_turn.proofs.Hindering.{same_came}
use Rattle.vcpu_turn.proofs.NextOps.{worked_none, worked_some}
use Rattle.vcpu_turn.proofs.Staying.{knows_on}
use Rattle.vcpu_turn.proofs.Turns.{begins_came}
use Rattle.vcpu_turn.proofs.TurnSteps.{ends_came, stop_came}

runs_on : (w : PortValue) → Rests w → own_run w ≡ 0
runs_on w rests = ap (λ o. run_or w.post.run o) rests.may.running

rests_idles : (w : PortValue) → Rests w → IsWarm w → Idles w
rests_idles w rests warm = record { empty = rests.empty; no_walk = rests.may.no_walk; machine = rests.may.machine; warm = warm }

after_vcpu : (c : Processing) (to : Progress) (log : List LogLine) (answer : Result ℕ Stop) → (after_turn c to log (end_of to.done answer)).vcpu ≡ c.vcpu
after_vcpu c to log (Ok value) = refl
after_vcpu c to log (Err (Refused r)) = refl
after_vcpu c to log (Err (Paused p)) = refl

after_domain : (c : Processing) (to : Progress) (log : List LogLine) (answer : Result ℕ Stop) → (after_turn c to log (end_of to.done answer)).domain ≡ c.domain
after_domain c to log (Ok value) = refl
after_domain c to log (Err (Refused r)) = refl
after_domain c to log (Err (Paused p)) = refl

-- behind the end of its turn it knows what it knew before that
ended_knows : (c : Processing) (to : Progress) (log : List LogLine) (answer : Result ℕ Stop) (v w : PortValue) → EndsTurn (end_of to.done answer) v w → KnowsAwaited v to.awaited → KnowsAwaited w (after_turn c to log (end_of to.done answer)).at.awaited
ended_knows c to log (Ok value) v w ends knows = tt
ended_knows c to log (Err (Refused r)) v w ends knows = tt
ended_knows c to log (Err (Paused p)) v w ends knows = subst (λ (x : PortValue). KnowsAwaited x to.awaited) (sym ends) knows

pub not_both : (b : Bool) → b ≡ true → b ≡ false → ⊥
not_both b on off = cc

after_frames : (c : Processing) (to : Progress) (log : List LogLine) (answer : Result ℕ Stop) → (after_turn c to log (end_of to.done answer)).frames ≡ c.frames
after_frames c to log (Ok value) = refl
after_frames c to log (Err (Refused r)) = refl
after_frames c to log (Err (Paused p)) = refl

-- ---- what it knows of destructions
module _ (v a b w : PortValue) (c : Processing) (to : Progress) (log : List LogLine) (answers : List Bool) (op : Op) (next : next_of c ≡ Some op) (keeps : Keeps v c) (first : Came v a) (behind : Came b w) where
  abbrev Went : Result ℕ Stop → Type 0
  Went answer = WentBy c.domain (job_of op) (c.answered + 1) a c.at to b c.log log answers answer

  -- the log, with what the operation added to it
  abbrev Gone : Processing
  Gone = record c { at = to; log = log }

  module _ (answer : Result ℕ Stop) (went : Went answer) where
    gone_came : Came a w
    gone_came = came_trans a b w (by_came c.domain (c.answered + 1) a c.at to b c.log log answers answer (job_of op) went) behind

    gone_adds : Adds (FitsJob (job_of op) (c.answered + 1)) c.log log
    gone_adds = by_adds c.domain (c.answered + 1) a c.at to b c.log log answers answer (job_of op) went

    gone_ahead : ListsNoneAhead (record c { log = log })
    gone_ahead k more = other_lefts (job_of op) (c.answered + 1) k (λ e. omega (arith, more, e)) c.log log gone_adds ∙ keeps.ahead k more

    gone_buried : KeepsBuried w (record c { log = log })
    gone_buried i x r at in_it unrefused =
        let before = keeps.buried i x r at (answer_before (job_of op) (c.answered + 1) c.log log gone_adds (i + 1) r in_it) unrefused in
        let came = came_trans v a w first gone_came in
        subst (λ (q : Post). HasBuried q.machine q.vcpu x (i + 1) 0 w.holdings log) (sym (came_post v w came))
        (subst (λ (xs : List LogLine). HasBuried v.post.machine v.post.vcpu x (i + 1) 0 w.holdings xs) (sym gone_adds.lines)
        (buried_more v.post.machine v.post.vcpu x (i + 1) 0 w.holdings c.log gone_adds.more (buried_on v.post.machine v.post.vcpu x (i + 1) v w c.log came before)))

  same_op : (x : ℕ) → next_of c ≡ Some (ops.Destroy x) → op ≡ ops.Destroy x
  same_op x is = let e : Some op ≡ Some (ops.Destroy x) = sym next ∙ is in cc

  -- a destruction that ended has buried its domain
  gone_buries : (value : ℕ) → Went (Ok value) → BuriesNext w c log (reply_of to.done value None)
  gone_buries value went x is unrefused =
      let destroyed : WentOnDestroying x (c.answered + 1) a c.at to b c.log log answers (Ok value) =
      subst (λ (o : Op). WentBy c.domain (job_of o) (c.answered + 1) a c.at to b c.log log answers (Ok value)) (same_op x is) went in
      subst (λ (q : Post). HasBuried q.machine q.vcpu x (c.answered + 1) 0 w.holdings log) (sym (came_post a w (gone_came (Ok value) went)))
      (buried_on a.post.machine a.post.vcpu x (c.answered + 1) b w log behind destroyed.destroyed.buried.buried)

  gone_keeps : (answer : Result ℕ Stop) → Went answer → IfErr answer (λ e. KnowsPlace b (job_next (next_of c)) (c.answered + 1) to log) → Keeps w (after_turn Gone to log (end_of to.done answer))
  gone_keeps (Ok value) went place = keeps_answered w Gone to log (reply_of to.done value None) (gone_ahead (Ok value) went) (gone_buried (Ok value) went) (gone_buries value went)
  gone_keeps (Err (Refused r)) went place = keeps_answered w Gone to log (reply_of to.done 0 (Some r)) (gone_ahead (Err (Refused r)) went) (gone_buried (Err (Refused r)) went) (λ x is unrefused. absurd (cc))
  gone_keeps (Err (Paused p)) went place =
      record { place = place_on b w behind (job_next (next_of c)) (c.answered + 1) to log place; ahead = gone_ahead (Err (Paused p)) went; buried = gone_buried (Err (Paused p)) went }

pub keeps_of : (v : PortValue) (c : Processing) → IsOf v c → Keeps v c
keeps_of v c of = record { place = of.place; ahead = of.ahead; buried = of.buried }

-- ---- the whole
module _ (v w : PortValue) (c c1 c2 : Processing) (of : IsOf v c) (post : w.post ≡ v.post) where
  of_now : c2.vcpu ≡ c.vcpu → c2.domain ≡ c.domain → c2.frames ≡ c.frames → Idles w → KnowsAwaited w c2.at.awaited → (c2.retired ≡ false → Runs w ⊎ KnowsDying w c2.domain) → Keeps w c2 → IsOf w c2
  of_now vcpu domain frames idles awaits runs keeps =
      record {
        vcpu = vcpu ∙ of.vcpu ∙ sym (ap (λ (q : Post). q.vcpu) post);
        domain = domain ∙ of.domain ∙ sym (ap (λ (q : Post). domain_of q.machine q.vcpu) post);
        idles = idles;
        awaits = awaits;
        runs = runs;
        frames = frames ∙ of.frames ∙ sym (ap (λ (q : Post). q.machine.frames) post);
        place = keeps.place;
        ahead = keeps.ahead;
        buried = keeps.buried;
      }

  pub of_retired_now : Came v w → c2 ≡ record c { retired = true } → Idles w → IsOf w c2
  of_retired_now came is idles =
      of_now (ap (λ (x : Processing). x.vcpu) is) (ap (λ (x : Processing). x.domain) is) (ap (λ (x : Processing). x.frames) is) idles
      (subst (λ (x : Processing). KnowsAwaited w x.at.awaited) (sym is) (knows_on v w c.at.awaited came of.awaits))
      (λ on. absurd (not_both c2.retired (ap (λ (x : Processing). x.retired) is) on))
      (subst (Keeps w) (sym is) (keeps_retired w c (keeps_on v w c came (keeps_of v c of))))

  pub of_retired : (a b : PortValue) (answers : List Bool) → Came v a → NextWentOn (next_of c) c c1 a b answers None → MakesStop c1 c2 b w → Idles w → IsOf w c2
  of_retired a b answers came worked stop idles =
      let h = worked_none (next_of c) c c1 a b answers worked in
      of_retired_now (came_trans v b w (subst (λ (x : PortValue). Came v x) (sym h.2) came) (moves_came b w _ _ _ _ _ stop.stop.1))
      (stop.cpu ∙ ap (λ (x : Processing). record x { retired = true }) h.1) idles

  pub of_gone_on : (a b : PortValue) (answers : List Bool) (answer : Result ℕ Stop) → Came v a → NextWentOn (next_of c) c c1 a b answers (Some answer) → c2 ≡ after_turn c1 c1.at c1.log (end_of c1.at.done answer) →
      IfErr answer (λ e. KnowsPlace b (job_next (next_of c)) (c.answered + 1) c1.at c1.log) → KnowsAwaited b c1.at.awaited → EndsTurn (end_of c1.at.done answer) b w → Rests b → own_run w ≡ own_run b → Idles w → IsOf w c2
  of_gone_on a b answers answer came worked cpu place awaits ends rests run idles =
      let h = worked_some (next_of c) c c1 a b answers answer worked in
      let is : c2 ≡ after_turn (record c { at = c1.at; log = c1.log }) c1.at c1.log (end_of c1.at.done answer) = cpu ∙ ap (λ (x : Processing). after_turn x c1.at c1.log (end_of c1.at.done answer)) h.worked.cpu in
      of_now (ap (λ (x : Processing). x.vcpu) is ∙ after_vcpu (record c { at = c1.at; log = c1.log }) c1.at c1.log answer)
      (ap (λ (x : Processing). x.domain) is ∙ after_domain (record c { at = c1.at; log = c1.log }) c1.at c1.log answer)
      (ap (λ (x : Processing). x.frames) is ∙ after_frames (record c { at = c1.at; log = c1.log }) c1.at c1.log answer) idles
      (subst (λ (x : Processing). KnowsAwaited w x.at.awaited) (sym cpu) (ended_knows c1 c1.at c1.log answer b w ends awaits))
      (λ on. inl (run ∙ runs_on b rests))
      (subst (Keeps w) (sym is) (gone_keeps v a b w c c1.at c1.log answers h.op h.next (keeps_of v c of) came (ends_came (end_of c1.at.done answer) b w ends) answer h.worked.went place))

-- stopped between its turns
pub of_stopped : (v w : PortValue) (c c2 : Processing) → IsOf v c → w.post ≡ v.post → MakesStop c c2 v w → Idles w → IsOf w c2
of_stopped v w c c2 of post stop idles = of_retired_now v w c c c2 of post (moves_came v w _ _ _ _ _ stop.stop.1) stop.cpu idles

-- whatever is left
pub of_left : (v : PortValue) (c : Processing) (left : Option ℕ) → IsOf v c → IsOf v (record c { left = left })
of_left v c left of = record { vcpu = of.vcpu; domain = of.domain; idles = of.idles; awaits = of.awaits; runs = of.runs; frames = of.frames; place = of.place; ahead = of.ahead; buried = of.buried }

-- as the code sees it
pub of_seen : (v : PortValue) (seen c : Processing) → seen ≡ c → IsOf v c → IsOf v seen
of_seen v seen c is of = subst (λ (x : Processing). IsOf v x) (sym is) of

-- also where nothing of it went on
pub of_unsettled : (v w : PortValue) (c : Processing) (left : Option ℕ) → IsOf v c → w.post ≡ v.post → Came v w → Rests w → IsWarm w → IsOf w (record c { left = left })
of_unsettled v w c left of post came rests warm =
    of_now v w c c (record c { left = left }) of post refl refl refl (rests_idles w rests warm) (knows_on v w c.at.awaited came of.awaits) (λ on. inl (runs_on w rests)) (keeps_but w c left (keeps_on v w c came (keeps_of v c of)))

-- ---- a turn that found the domain dying
module _ (v a w : PortValue) (c c2 : Processing) (of : IsOf v c) (run life : ℕ) (begins : Begins v a c.domain run life) (dead : life ≢ 0) where
  -- the step that found it
  found_dying : KnowsDying a c.domain
  unfolding left_by
  found_dying =
      let same : a.post ≡ begins.looked.post = ap (λ (y : PortValue). y.post) begins.lives.to in
      subst (λ (q : Post). IsTrue (some_since (sizes_of q.machine) 0 (Life c.domain) (λ y. not (y == 0)) a.holdings.steps)) (sym same)
      (moves_since begins.looked a (Life c.domain) Load kinds.Look None life begins.lives 0 (λ y. not (y == 0)) (omega arith) (grind (arith, nat_tests, dead)))

  died : (o : Option Op) (end : TurnEnd) → DiesBy life c o c2 a w end → Idles w → IsOf w c2
  died None end dies idles =
      let last : IsStop dies.0 w = subst (λ (e : TurnEnd). EndsTurn e dies.0 w) dies.1.1 dies.2 in
      let came = came_trans v a w (begins_came v a begins) (came_trans a dies.0 w (same_came a dies.0 dies.1.0) (stop_came dies.0 w last)) in
      of_retired_now v w c c c2 of (came_post v w came) came dies.1.2 idles
  died (Some op) end dies idles =
      let late = came_trans a dies.0 w (stop_came a dies.0 dies.1.0) (ends_came end dies.0 w dies.2) in
      let came = came_trans v a w (begins_came v a begins) late in
      let keeps = keeps_on v w c came (keeps_of v c of) in
      let reply = reply_of (done_at (job_of op) c.at) 0 (Some (Dying c.domain life)) in
      let is : c2 ≡ after_turn c c.at c.log (ends.Answered reply) = dies.1.2 ∙ ap (after_turn c c.at c.log) dies.1.1 in
      of_now v w c c c2 of (came_post v w came) (ap (λ (x : Processing). x.vcpu) is) (ap (λ (x : Processing). x.domain) is) (ap (λ (x : Processing). x.frames) is) idles
      (subst (λ (x : Processing). KnowsAwaited w x.at.awaited) (sym is) tt)
      (λ on. inr (subst (KnowsDying w) (sym (ap (λ (x : Processing). x.domain) is)) (knows_dying_on a w c.domain late found_dying)))
      (subst (Keeps w) (sym is) (keeps_answered w c c.at c.log reply keeps.ahead keeps.buried (λ x next unrefused. absurd (cc))))

  pub of_died : (end : TurnEnd) → DiesBy life c (next_of c) c2 a w end → Idles w → IsOf w c2
  of_died end dies idles = died (next_of c) end dies idles
