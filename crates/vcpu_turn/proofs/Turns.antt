-- A turn, by the calls that it is made of.
use Rattle.std.proofs.Common.{◌≡◌, ℕ, Bool, true, false, List, ◌++◌, Option, Some, None, Result, Ok, Err, refl, sym, ap, ◌∙◌, subst}
use Rattle.xp_words.specs.declared.reply.Stop.{Stop}
use Rattle.xp_words.specs.declared.reply.Stop.TheVariants.{Refused, Paused}
use Rattle.xp_words.specs.declared.reply.LogLine.{LogLine}
use Rattle.xp_words.specs.declared.reply.Pause.{Pause}
use Rattle.xp_words.specs.declared.reply.Pause.TheVariants.{Due, Lost, Busy, Flush, Alive}
use Rattle.xp_board.specs.Told.{PortValue}
use Rattle.xp_preempt.specs.Gates.{Gate, GatedPast}
use Rattle.xp_preempt.proofs.Consulting.{past_as, past_none, past_then}
use Rattle.step_maker.specs.Moves.{Came}
use Rattle.step_maker.proofs.Coming.{came_trans, came_post, moves_came}
use Rattle.step_maker.specs.Answers.{Serves, misses}
use Rattle.level_release.specs.Asking.{is_due_stop, of_settle}
use Rattle.tlb_walks.proofs.Flushes.{acks_came}
use Rattle.vcpu_turn.specs.Cpus.{Processing, after_turn, end_of, next_of, nothing_left}
use Rattle.vcpu_turn.specs.Lists.{is_due_answer}
use Rattle.vcpu_turn.specs.Turning as turning
use Rattle.vcpu_turn.specs.Turning.{Begins, DoesNext, DoesTurn, EndsTurn, IsTurn, MakesStop, TurnBy, NextWentOn, is_due}
use Rattle.vcpu_turn.specs.Settling.{SettlesTo}
use Rattle.vcpu_turn.specs.declared.cpu.Progress.{Progress}
use Rattle.vcpu_turn.specs.declared.cpu.TurnEnd.{TurnEnd}
use Rattle.vcpu_turn.specs.declared.cpu.TurnEnd.TheVariants as ends
use Rattle.vcpu_turn.proofs.NextOps.{worked_none, worked_some}
use Rattle.vcpu_turn.proofs.Staying.{settled_came}

-- ---- a turn that begins
pub begins_came : {d run life : ℕ} (v w : PortValue) → Begins v w d run life → Came v w
begins_came v w b = came_trans v b.acked w (acks_came v b.acked b.acks) (came_trans b.acked b.looked w (moves_came b.acked b.looked _ _ _ _ _ b.running) (moves_came b.looked w _ _ _ _ _ b.lives))

-- and what is settled
pub settled_behind : (v a b : PortValue) → Came v a → (answer : Result (Unit {0}) Stop) → ((owner pages : ℕ) → Serves a b (of_settle owner pages answer) (misses a.post.machine answer)) → Came v b
settled_behind v a b came answer serves = came_trans v a b came (settled_came a b answer serves)

pub settled_post : (v a b : PortValue) → Came v a → (answer : Result (Unit {0}) Stop) → ((owner pages : ℕ) → Serves a b (of_settle owner pages answer) (misses a.post.machine answer)) → b.post ≡ v.post
settled_post v a b came answer serves = came_post v b (settled_behind v a b came answer serves)

after_same : (c : Processing) (at to : Progress) (l log : List LogLine) (answer : Result ℕ Stop) → after_turn (record c { at = at; log = l }) to log (end_of to.done answer) ≡ after_turn c to log (end_of to.done answer)
after_same c at to l log (Ok ok) = refl
after_same c at to l log (Err (Refused r)) = refl
after_same c at to l log (Err (Paused p)) = refl

-- ---- the whole turn
-- the turn is paused for the gate where its last call is
pub due_paused : (p : Pause) → is_due (ends.Paused p) ≡ is_due_stop (Paused p)
due_paused Due = refl
due_paused (Lost a b c) = refl
due_paused (Busy a b) = refl
due_paused (Flush a b c) = refl
due_paused (Alive a b) = refl

pub due_ended : (to : ℕ) (answer : Result ℕ Stop) → is_due (end_of to answer) ≡ is_due_answer answer
due_ended to (Ok done) = refl
due_ended to (Err (Refused r)) = refl
due_ended to (Err (Paused p)) = due_paused p

pub turn_retired : (c : Processing) (v : PortValue) {g : Gate} → c.retired ≡ true → GatedPast g g false (λ answers. TurnBy c.retired c c ends.Retired v v answers)
turn_retired c v {g} retired = subst (λ b. GatedPast g g false (λ answers. TurnBy b c c ends.Retired v v answers)) (sym retired) (past_none refl (record { end_is = refl; cpu = refl; port = refl; no_ask = refl }))

-- of a vCPU that is not retired, as the code sees it
module _ {seen c : Processing} (is : seen ≡ c) {v : PortValue} (on : seen.retired ≡ false) where
  pub turn_by : {g h : Gate} {c2 : Processing} {w : PortValue} {end : TurnEnd} {due : Bool} → is_due end ≡ due → GatedPast g h due (λ answers. IsTurn seen c2 end v w answers) → GatedPast g h (is_due end) (λ answers. TurnBy c.retired c c2 end v w answers)
  turn_by {g} {h} {c2} {w} {end} same turn =
      subst (λ (x : Processing). GatedPast g h (is_due end) (λ answers. TurnBy x.retired x c2 end v w answers)) is
      (subst (λ b. GatedPast g h (is_due end) (λ answers. TurnBy b seen c2 end v w answers)) (sym on) (past_as (λ due. sym same ∙ due) (λ answers so. so) turn))

  module _ {life run : ℕ} (lives : life ≡ 0) (runs : run ≡ 0) {a : PortValue} (begins : Begins v a seen.domain run life) {b : PortValue} {left : Option ℕ} {g h : Gate} where
    -- settling was all that it did
    pub turn_unsettled : (p : Pause) (stop : Stop) → stop ≡ Paused p → GatedPast g h (is_due_stop stop) (λ answers. SettlesTo seen.left left a b answers (Err stop)) →
        GatedPast g h (is_due (ends.Paused p)) (λ answers. TurnBy c.retired c (record seen { left = left }) (ends.Paused p) v b answers)
    turn_unsettled p stop at settles = turn_by (due_paused p) (past_as (λ due. due) unsettled_to (subst (λ (e : Stop). GatedPast g h (is_due_stop e) (λ answers. SettlesTo seen.left left a b answers (Err e))) at settles))
      where
        unsettled_to : (answers : List Bool) → SettlesTo seen.left left a b answers (Err (Paused p)) → IsTurn seen (record seen { left = left }) (ends.Paused p) v b answers
        unsettled_to answers settles = rw settles.1 (record { begun = a; worked = b; run = run; life = life; begins = begins; does = turning.DoesTurn.unsettled b answers p settles.0; goes = (runs, lives); ends = refl })

    module _ (settles : GatedPast g h false (λ answers. SettlesTo seen.left left a b answers (Ok tt))) (none : left ≡ None) {k : Gate} (x w : PortValue) (c1 c2 : Processing) where
      -- behind what was settled
      behind : (end : TurnEnd) {due : Bool} (o : Option (Result ℕ Stop)) → is_due end ≡ due → ((answers : List Bool) → NextWentOn (next_of seen) (nothing_left seen) c1 b x answers o → DoesNext (nothing_left seen) (next_of seen) c2 b x answers end) → EndsTurn end x w →
          GatedPast h k due (λ answers. NextWentOn (next_of seen) (record seen { left = left }) c1 b x answers o) → GatedPast g k (is_due end) (λ answers. TurnBy c.retired c c2 end v w answers)
      behind end o same does finishes next = turn_by same (past_then whole settles next)
        where
          whole : (early answers : List Bool) → SettlesTo seen.left left a b early (Ok tt) → NextWentOn (next_of seen) (record seen { left = left }) c1 b x answers o → IsTurn seen c2 end v w (answers ++ early)
          whole early answers s goes =
              let went = subst (λ (l : Option ℕ). NextWentOn (next_of seen) (record seen { left = l }) c1 b x answers o) none goes in
              record { begun = a; worked = x; run = run; life = life; begins = begins; does = turning.DoesTurn.settled b x c2 early answers end s.0 (does answers went); goes = (runs, lives); ends = finishes }

      -- at the script's end
      pub turn_retires : GatedPast h k false (λ answers. NextWentOn (next_of seen) (record seen { left = left }) c1 b x answers None) → MakesStop c1 c2 x w → GatedPast g k (is_due ends.Retired) (λ answers. TurnBy c.retired c c2 ends.Retired v w answers)
      turn_retires worked stop = behind ends.Retired None refl does stop.stop worked
        where
          does : (answers : List Bool) → NextWentOn (next_of seen) (nothing_left seen) c1 b x answers None → DoesNext (nothing_left seen) (next_of seen) c2 b x answers ends.Retired
          does answers goes =
              let h = worked_none (next_of seen) (nothing_left seen) c1 b x answers goes in
              subst (λ o. DoesNext (nothing_left seen) o c2 b x answers ends.Retired) (sym h.0)
              (record { no_step = h.2; no_ask = h.3; end_is = refl; cpu = stop.cpu ∙ ap (λ (y : Processing). record y { retired = true }) h.1 })

      -- the next operation went on
      pub turn_goes_on : (answer : Result ℕ Stop) → GatedPast h k (is_due_answer answer) (λ answers. NextWentOn (next_of seen) (record seen { left = left }) c1 b x answers (Some answer)) → c2 ≡ after_turn c1 c1.at c1.log (end_of c1.at.done answer) →
          EndsTurn (end_of c1.at.done answer) x w → GatedPast g k (is_due (end_of c1.at.done answer)) (λ answers. TurnBy c.retired c c2 (end_of c1.at.done answer) v w answers)
      turn_goes_on answer worked cpu finishes = behind (end_of c1.at.done answer) (Some answer) (due_ended c1.at.done answer) does finishes worked
        where
          does : (answers : List Bool) → NextWentOn (next_of seen) (nothing_left seen) c1 b x answers (Some answer) → DoesNext (nothing_left seen) (next_of seen) c2 b x answers (end_of c1.at.done answer)
          does answers goes =
              let h = worked_some (next_of seen) (nothing_left seen) c1 b x answers answer goes in
              subst (λ o. DoesNext (nothing_left seen) o c2 b x answers (end_of c1.at.done answer)) (sym h.next)
              (record {
                to = c1.at;
                log = c1.log;
                answer = answer;
                went = h.worked.went;
                end_is = refl;
                cpu = cpu ∙ ap (λ (y : Processing). after_turn y c1.at c1.log (end_of c1.at.done answer)) h.worked.cpu ∙ after_same (nothing_left seen) c1.at c1.at c1.log c1.log answer;
              })
