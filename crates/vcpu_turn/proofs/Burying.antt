-- What a vCPU knows of destructions stays known behind more steps, and with more lines in its log.
use Rattle.std.proofs.Common.{◌≡◌, ℕ, ◌+◌, true, List, [], ◌∷◌, ◌++◌, slice_get, Option, Some, None, Result, Ok, Err, IfErr, sym, ap, ◌∙◌, subst, inl, inr, arith, append_assoc}
use Rattle.std.proofs.lemmas.List.Elements.{Contains-append_left, Contains-push_cases}
use Rattle.xp_words.specs.Machine.{Machine}
use Rattle.xp_words.specs.declared.ops.Op.TheVariants as ops
use Rattle.xp_words.specs.declared.reply.LogLine.{LogLine}
use Rattle.xp_words.specs.declared.reply.LogLine.TheVariants as lines
use Rattle.xp_words.specs.declared.reply.Reply.{Reply}
use Rattle.xp_words.specs.declared.reply.Stop.{Stop}
use Rattle.xp_board.specs.Told.{Post, PortValue}
use Rattle.xp_board.specs.declared.holdings.Holdings.{Holdings}
use Rattle.xp_board.specs.declared.holdings.Made.{Made}
use Rattle.step_maker.specs.Moves.{Came, Moment, Ran, step_at}
use Rattle.step_maker.proofs.Coming.{came_post}
use Rattle.step_maker.proofs.Noting.{made_now, moves_steps}
use Rattle.dead_domains.specs.Buried.{HasBuried}
use Rattle.dead_domains.specs.Listing.{HasListed}
use Rattle.domain_destroy.specs.Coming.{HasCome, HasComeTo, KnowsAt, lefts_in}
use Rattle.domain_destroy.specs.declared.place.DestroyAt.{DestroyAt}
use Rattle.domain_destroy.specs.declared.place.DestroyAt.TheVariants.{Begins, Stops, Empties, Clears, Checks, Lists}
use Rattle.domain_destroy.proofs.Staying.{found_cleared_stays, found_empty_stays, found_listed_stays, found_stopped_stays}
use Rattle.vcpu_turn.specs.Cpus.{Job, OfCalls, OfDestroy, OfOne, Processing, after_turn, begun, job_next, next_of}
use Rattle.vcpu_turn.specs.Destroying.{KeepsBuried, KnowsPlace, ListsNoneAhead}
use Rattle.vcpu_turn.specs.declared.cpu.Progress.{Progress}
use Rattle.vcpu_turn.specs.declared.cpu.TurnEnd.TheVariants as ends
use Rattle.vcpu_turn.specs.Unhindered.{IsSparingJob}
use Rattle.vcpu_turn.proofs.Adding.{Adds, PlainLine, answer_lefts, plain_lefts}

-- ---- the place
module _ (v w : PortValue) (came : Came v w) (d op : ℕ) (log : List LogLine) where
  knows_on : (n : Machine) (s : ℕ) (at : DestroyAt) → KnowsAt n s d at op log v.holdings → KnowsAt n s d at op log w.holdings
  knows_on n s Begins knows = tt
  knows_on n s (Stops vcpu) knows = found_stopped_stays v w came n s d vcpu knows
  knows_on n s (Empties vcpu) knows = found_empty_stays v w came n s d vcpu knows
  knows_on n s (Clears frame) knows = (knows.0, found_cleared_stays v w came n s d frame knows.0 knows.1)
  knows_on n s Checks knows = (knows.0, found_cleared_stays v w came n s d n.frames knows.0 knows.1)
  knows_on n s (Lists frame left) knows = (knows.0, found_listed_stays v w came n s d frame knows.0 op log knows.1)

  come_on : (at : DestroyAt) → HasComeTo v d at op log → HasComeTo w d at op log
  come_on at come =
      subst (λ (q : Post). HasCome q.machine q.vcpu d at op log w.holdings) (sym (came_post v w came))
      (record { knows = knows_on v.post.machine v.post.vcpu at come.knows; counts = come.counts; few = come.few; inside = come.inside })

pub place_on : (v w : PortValue) → Came v w → (job : Job) (op : ℕ) (at : Progress) (log : List LogLine) → KnowsPlace v job op at log → KnowsPlace w job op at log
place_on v w came (OfOne task) op at log knows = knows
place_on v w came (OfCalls calls) op at log knows = knows
place_on v w came (OfDestroy x) op at log knows = come_on v w came x op log at.place knows

-- an operation that begins has listed none
pub place_begun : (w : PortValue) (job : Job) (op : ℕ) (log : List LogLine) → lefts_in op log ≡ 0 → KnowsPlace w job op begun log
place_begun w (OfOne task) op log none = none
place_begun w (OfCalls calls) op log none = none
place_begun w (OfDestroy x) op log none = record { knows = tt; counts = none; few = omega arith; inside = omega arith }

-- an operation that destroys none lists none
module _ (v w : PortValue) (op : ℕ) (at to : Progress) (log log' : List LogLine) (adds : Adds PlainLine log log') where
  none_listed : (job : Job) → IsSparingJob job → KnowsPlace v job op at log → KnowsPlace w job op to log'
  none_listed (OfOne task) plain knows = plain_lefts op log log' adds ∙ knows
  none_listed (OfCalls calls) plain knows = plain_lefts op log log' adds ∙ knows
  none_listed (OfDestroy x) plain knows = absurd plain

  pub plain_place : (answer : Result ℕ Stop) (job other : Job) → job ≡ other → IsSparingJob other → KnowsPlace v job op at log → IfErr answer (λ e. KnowsPlace w job op to log')
  plain_place (Ok value) job other is plain knows = tt
  plain_place (Err e) job other is plain knows = none_listed job (subst IsSparingJob (sym is) plain) knows

-- ---- a domain that is buried
abbrev StepsMore : Holdings → Holdings → Type 0
StepsMore h g = (more : List Made) × (g.steps ≡ more ++ h.steps)

ran_steps : (v w : PortValue) (ms : List Moment) → Ran v ms w → StepsMore v.holdings w.holdings
ran_steps v w [] ran = ([], ap (λ (y : PortValue). y.holdings.steps) ran)
ran_steps v w (m ∷ ms) ran =
    let before = ran_steps v ran.0 ms ran.1 in
    let made = made_now (step_at ran.0.post.machine m.place m.act m.kind m.mark) m.found in
    (made ∷ before.0, moves_steps ran.0 w m.place m.act m.kind m.mark m.found ran.2.moves ∙ ap (λ (xs : List Made). made ∷ xs) before.1)

came_steps : (v w : PortValue) → Came v w → StepsMore v.holdings w.holdings
unfolding Came
came_steps v w came = ran_steps v w came.0 came.1

module _ (n : Machine) (s d op : ℕ) where
  listed_more : (h : Holdings) (log more : List LogLine) → HasListed n s d h op log → HasListed n s d h op (log ++ more)
  listed_more h log more y =
      record {
        since = y.since;
        stopped = y.stopped;
        frames = λ f real. elim (y.frames f real) [
          | inl others ↦ inl others
          | inr line ↦ inr (record { word = line.word; line = Contains-append_left log more _ line.line; found = line.found; owned = line.owned; counted = line.counted })
        ];
      }

  pub buried_more : (k : ℕ) (h : Holdings) (log more : List LogLine) → HasBuried n s d op k h log → HasBuried n s d op k h (log ++ more)
  buried_more k h log more y =
      record {
        before = y.before;
        step = y.step;
        after = y.after;
        steps = y.steps;
        made = y.made;
        place = y.place;
        act = y.act;
        doomed = y.doomed;
        then = y.then;
        then_is = y.then_is;
        listed = listed_more y.then log more y.listed;
      }

  pub buried_on : (v w : PortValue) (log : List LogLine) → Came v w → HasBuried n s d op 0 v.holdings log → HasBuried n s d op 0 w.holdings log
  buried_on v w log came y =
      let more = came_steps v w came in
      record {
        before = y.before;
        step = y.step;
        after = more.0 ++ y.after;
        steps = more.1 ∙ ap (λ (xs : List Made). more.0 ++ xs) y.steps ∙ sym (append_assoc more.0 y.after (y.step ∷ y.before));
        made = y.made;
        place = y.place;
        act = y.act;
        doomed = y.doomed;
        then = y.then;
        then_is = y.then_is;
        listed = y.listed;
      }

-- ---- between turns
pub record Keeps (v : PortValue) (c : Processing) : Type 0 where
  pub place : KnowsPlace v (job_next (next_of c)) (c.answered + 1) c.at c.log
  pub ahead : ListsNoneAhead c
  pub buried : KeepsBuried v c

buried_then : (v w : PortValue) (c : Processing) → Came v w → KeepsBuried v c → KeepsBuried w c
buried_then v w c came keeps i x reply at in_it unrefused =
    subst (λ (q : Post). HasBuried q.machine q.vcpu x (i + 1) 0 w.holdings c.log) (sym (came_post v w came))
    (buried_on v.post.machine v.post.vcpu x (i + 1) v w c.log came (keeps i x reply at in_it unrefused))

pub keeps_on : (v w : PortValue) (c : Processing) → Came v w → Keeps v c → Keeps w c
keeps_on v w c came k = record { place = place_on v w came (job_next (next_of c)) (c.answered + 1) c.at c.log k.place; ahead = k.ahead; buried = buried_then v w c came k.buried }

-- what is left, and whether it makes turns, is nothing to it
pub keeps_but : (v : PortValue) (c : Processing) (left : Option ℕ) → Keeps v c → Keeps v (record c { left = left })
keeps_but v c left k = record { place = k.place; ahead = k.ahead; buried = k.buried }

pub keeps_retired : (v : PortValue) (c : Processing) → Keeps v c → Keeps v (record c { retired = true })
keeps_retired v c k = record { place = k.place; ahead = k.ahead; buried = k.buried }

-- the next operation is answered, which has buried a domain where it destroyed one and is not refused
abbrev pub BuriesNext : PortValue → Processing → List LogLine → Reply → Type 0
BuriesNext w c log reply = (x : ℕ) → next_of c ≡ Some (ops.Destroy x) → reply.refusal ≡ None → HasBuried w.post.machine w.post.vcpu x (c.answered + 1) 0 w.holdings log

module _ (w : PortValue) (c : Processing) (to : Progress) (log : List LogLine) (reply : Reply) (ahead : ListsNoneAhead (record c { log = log })) (buried : KeepsBuried w (record c { log = log })) (new : BuriesNext w c log reply) where
  abbrev line : LogLine
  line = lines.Answer (c.answered + 1) 0 reply

  answered_buried : KeepsBuried w (after_turn c to log (ends.Answered reply))
  answered_buried i x r at in_it unrefused =
      elim (Contains-push_cases log line (lines.Answer (i + 1) 0 r) in_it) [
        | inl before ↦ buried_more w.post.machine w.post.vcpu x (i + 1) 0 w.holdings log (line ∷ []) (buried i x r at before unrefused)
        | inr same ↦ buried_more w.post.machine w.post.vcpu x (i + 1) 0 w.holdings log (line ∷ []) (this i x r at unrefused same)
      ]
    where
      this : (i x : ℕ) (r : Reply) → slice_get c.script i ≡ Some (ops.Destroy x) → r.refusal ≡ None → line ≡ lines.Answer (i + 1) 0 r → HasBuried w.post.machine w.post.vcpu x (i + 1) 0 w.holdings log
      this i x r at unrefused same =
          let number : c.answered + 1 ≡ i + 1 = cc in
          let said : reply ≡ r = cc in
          let here : c.answered ≡ i = omega (arith, number) in
          subst (λ j. HasBuried w.post.machine w.post.vcpu x j 0 w.holdings log) number
          (new x (ap (slice_get c.script) here ∙ at) (ap (λ (y : Reply). y.refusal) said ∙ unrefused))

  pub keeps_answered : Keeps w (after_turn c to log (ends.Answered reply))
  keeps_answered =
      record {
        place = place_begun w (job_next (slice_get c.script (c.answered + 1))) (c.answered + 1 + 1) (log ++ line ∷ []) (answer_lefts (c.answered + 1 + 1) log (c.answered + 1) reply ∙ ahead (c.answered + 1 + 1) (omega arith));
        ahead = λ op more. answer_lefts op log (c.answered + 1) reply ∙ ahead op (omega (arith, more));
        buried = answered_buried;
      }
