-- A turn that finds its domain dying.
use Rattle.std.proofs.Common.{◌≡◌, ◌≢◌, ℕ, ◌<◌, ◌≤◌, Bool, false, [], List, length, Option, Some, None, refl, sym, ap, ◌∙◌, subst, inl, inr, arith}
use Rattle.std.proofs.lemmas.Option.{slice_get_cases, slice_get_past}
use Rattle.xp_words.specs.declared.ops.Op.{Op}
use Rattle.xp_words.specs.declared.reply.Refusal.TheVariants.{Dying}
use Rattle.xp_words.specs.declared.reply.Reply.{Reply}
use Rattle.xp_board.specs.Told.{PortValue}
use Rattle.xp_preempt.specs.Gates.{Gate, GatedPast}
use Rattle.xp_preempt.proofs.Consulting.{past_none}
use Rattle.vcpu_turn.specs.Cpus.{Job, OfOne, Processing, Task, after_turn, done_at, job_next, job_of, next_of, reply_of}
use Rattle.vcpu_turn.specs.Turning as turning
use Rattle.vcpu_turn.specs.Turning.{Begins, DiesBy, EndsTurn, IsStop, IsTurn, MakesStop, TurnBy, is_due}
use Rattle.vcpu_turn.specs.declared.cpu.TurnEnd.{TurnEnd}
use Rattle.vcpu_turn.specs.declared.cpu.TurnEnd.TheVariants as ends
use Rattle.vcpu_turn.proofs.Turns.{turn_by}

-- ---- by its calls
module _ (life : ℕ) (seen c : Processing) (is : seen ≡ c) (v w : PortValue) (c2 : Processing) where
  as_seen : (end : TurnEnd) (o : Option Op) → next_of seen ≡ o → DiesBy life seen o c2 v w end → DiesBy life c (next_of c) c2 v w end
  as_seen end o next dies = subst (λ (x : Processing). DiesBy life x (next_of x) c2 v w end) is (subst (λ (p : Option Op). DiesBy life seen p c2 v w end) (sym next) dies)

  -- at the script's end
  pub dies_retired : length seen.script ≤ seen.answered → MakesStop seen c2 v w → DiesBy life c (next_of c) c2 v w ends.Retired
  dies_retired past stop = as_seen ends.Retired None (slice_get_past seen.script seen.answered past) (v, (refl, refl, stop.cpu), stop.stop)

  pub dies_refused : seen.answered < length seen.script → (u : PortValue) → IsStop v u → (done : ℕ) → done ≡ done_at (job_next (next_of seen)) seen.at → (reply : Reply) → reply ≡ reply_of done 0 (Some (Dying seen.domain life)) →
      c2 ≡ after_turn c c.at c.log (ends.Answered reply) → EndsTurn (ends.Answered reply) u w → DiesBy life c (next_of c) c2 v w (ends.Answered reply)
  dies_refused more u stop done is_done reply said cpu last = elim (slice_get_cases c.script c.answered).1 [
    | inl (op, less, next, got) ↦
        (let so = is_done ∙ ap (λ (x : Processing). done_at (job_next (next_of x)) x.at) is ∙ ap (λ (p : Option Op). done_at (job_next p) c.at) next in
        subst (λ (p : Option Op). DiesBy life c p c2 v w (ends.Answered reply)) (sym next)
        (u, (stop, ap (λ (r : Reply). ends.Answered r) (said ∙ ap (λ k. reply_of k 0 (Some (Dying seen.domain life))) so ∙ ap (λ (x : Processing). reply_of (done_at (job_of op) c.at) 0 (Some (Dying x.domain life))) is), cpu), last))
    | inr (past, next) ↦ absurd (let here : c.answered < length c.script = subst (λ (x : Processing). x.answered < length x.script) is more in omega (arith, here, past))
  ]

  -- as the code sees it
  pub dies_seen : (end : TurnEnd) → DiesBy life c (next_of c) c2 v w end → DiesBy life seen (next_of seen) c2 v w end
  dies_seen end dies = subst (λ (x : Processing). DiesBy life x (next_of x) c2 v w end) (sym is) dies

-- it is paused for no gate
pub dies_undue : (life : ℕ) (c : Processing) (o : Option Op) (c2 : Processing) (v w : PortValue) (end : TurnEnd) → DiesBy life c o c2 v w end → is_due end ≡ false
dies_undue life c (Some op) c2 v w end dies = ap is_due dies.1.1
dies_undue life c None c2 v w end dies = ap is_due dies.1.1

-- ---- the whole turn
pub seen_dies : {seen c : Processing} → seen ≡ c → {v a : PortValue} → seen.retired ≡ false → {run life : ℕ} → Begins v a seen.domain run life → life ≢ 0 → {g : Gate} (w : PortValue) (c2 : Processing) (end : TurnEnd) → DiesBy life seen (next_of seen) c2 a w end →
    GatedPast g g (is_due end) (λ answers. TurnBy c.retired c c2 end v w answers)
seen_dies {seen} is {a = a} on {run} {life} begins dead w c2 end dies =
    turn_by is on refl
    (past_none (dies_undue life seen (next_of seen) c2 a w end dies)
    (record { begun = a; worked = dies.0; run = run; life = life; begins = begins; does = turning.DoesTurn.dying life dies.0 c2 end dead dies.1; goes = refl; ends = dies.2 }))

-- and so is each turn that finds a life word other than 0
pub dying_refuses : (c d : Processing) (op : Op) (end : TurnEnd) (v w : PortValue) (answers : List Bool) → next_of c ≡ Some op → (turn : IsTurn c d end v w answers) → turn.life ≢ 0 →
    (end ≡ ends.Answered (reply_of (done_at (job_of op) c.at) 0 (Some (Dying c.domain turn.life)))) × (answers ≡ [])
dying_refuses c d op end v w answers next turn dead = going_refuses (next_of c) next turn.begun d turn.worked answers end turn.does turn.run turn.life dead turn.goes
  where
    going_refuses : (o : Option Op) → o ≡ Some op → (v : PortValue) (d : Processing) (w : PortValue) (answers : List Bool) (end : TurnEnd) → (does : turning.DoesTurn c o v d w answers end) → (run life : ℕ) → life ≢ 0 → turning.GoesBy does run life →
        (end ≡ ends.Answered (reply_of (done_at (job_of op) c.at) 0 (Some (Dying c.domain life)))) × (answers ≡ [])
    going_refuses o is v _ _ _ _ (turning.DoesTurn.unsettled w answers p settles) run life dead goes = absurd (dead goes.1)
    going_refuses o is v _ _ _ _ (turning.DoesTurn.settled u w d early answers end settles does) run life dead goes = absurd (dead goes.1)
    going_refuses None is v _ _ _ _ (turning.DoesTurn.dying found w d end off dies) run life dead goes = absurd (cc)
    going_refuses (Some other) is v _ _ _ _ (turning.DoesTurn.dying found w d end off dies) run life dead goes = (
      dies.1 ∙ ap (λ x. ends.Answered (reply_of (done_at (job_of other) c.at) 0 (Some (Dying c.domain x)))) goes
          ∙ ap (λ (p : Option Op). ends.Answered (reply_of (done_at (job_next p) c.at) 0 (Some (Dying c.domain life)))) is,
      refl,
    )

-- of one task, with its elements
pub one_dies : (c : Processing) (op : Op) (task : Option Task) → job_of op ≡ OfOne task → (life : ℕ) (end : TurnEnd) → end ≡ ends.Answered (reply_of (done_at (job_of op) c.at) 0 (Some (Dying c.domain life))) →
    end ≡ ends.Answered (reply_of c.at.done 0 (Some (Dying c.domain life)))
one_dies c op task one life end is = is ∙ ap (λ (job : Job). ends.Answered (reply_of (done_at job c.at) 0 (Some (Dying c.domain life)))) one
