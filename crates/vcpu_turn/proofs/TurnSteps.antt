-- A turn as steps of its port, and what pauses it where no other vCPU holds anything.
use Rattle.std.proofs.Common.{◌≡◌, ℕ, ◌+◌, ◌-◌, ◌<◌, Bool, List, length, Option, Some, None, Result, Ok, Err, refl, sym, subst, inl, inr, arith}
use Rattle.std.proofs.lemmas.Option.{slice_get_cases}
use Rattle.xp_words.specs.declared.ops.Op.{Op}
use Rattle.xp_words.specs.declared.reply.Stop.{Stop}
use Rattle.xp_words.specs.declared.reply.Stop.TheVariants.{Refused, Paused}
use Rattle.xp_board.specs.Told.{Post, PortValue}
use Rattle.step_maker.specs.Moves.{Came}
use Rattle.step_maker.proofs.Coming.{came_trans, came_post, moves_came}
use Rattle.answer_laws.specs.Alone.{IsAlone}
use Rattle.vcpu_turn.specs.declared.cpu.TurnEnd.{TurnEnd}
use Rattle.vcpu_turn.specs.declared.cpu.TurnEnd.TheVariants as ends
use Rattle.xp_words.specs.declared.reply.LogLine.{LogLine}
use Rattle.vcpu_turn.specs.declared.cpu.Progress.{Progress}
use Rattle.vcpu_turn.specs.Cpus.{Processing, after_turn, end_of, job_next, job_of, next_of, nothing_left, pending_of}
use Rattle.vcpu_turn.specs.Turning.{DiesNext, DoesNext, EndsTurn, DoesTurn, IsStop, IsTurn}
use Rattle.vcpu_turn.specs.Turning as turning
use Rattle.vcpu_turn.specs.Unhindered.{IsSparingJob, IsUnhindered}
use Rattle.vcpu_turn.proofs.Turns.{begins_came}
use Rattle.vcpu_turn.proofs.Hindering.{AloneStays, NeitherLostNorBusy, NobodyWaitedFor, IsSpared, Spared, same_came, settles_came, settles_spared, spared_on}
use Rattle.vcpu_turn.proofs.CallsBringing.{by_came, by_spared}

-- ---- steps
pub stop_came : (v w : PortValue) → IsStop v w → Came v w
stop_came v w s = moves_came v w _ _ _ _ _ s.1

pub ends_came : (end : TurnEnd) (v w : PortValue) → EndsTurn end v w → Came v w
ends_came (ends.Answered reply) v w e = moves_came v w _ _ _ _ _ e.1
ends_came (ends.Paused p) v w e = same_came v w e
ends_came ends.Retired v w e = stop_came v w e

does_came : (c : Processing) (o : Option Op) (c2 : Processing) (v w : PortValue) (answers : List Bool) (end : TurnEnd) → DoesNext c o c2 v w answers end → Came v w
does_came c (Some op) c2 v w answers end d = by_came c.domain (c.answered + 1) v c.at d.to w c.log d.log answers d.answer (job_of op) d.went
does_came c None c2 v w answers end d = same_came v w d.no_step

pub dies_came : (life : ℕ) (c : Processing) (o : Option Op) (c2 : Processing) (v w : PortValue) (end : TurnEnd) → DiesNext life c o c2 v w end → Came v w
dies_came life c (Some op) c2 v w end dies = stop_came v w dies.0
dies_came life c None c2 v w end dies = same_came v w dies.0

goes_came : (c : Processing) (o : Option Op) (v : PortValue) (c2 : Processing) (w : PortValue) (answers : List Bool) (end : TurnEnd) → DoesTurn c o v c2 w answers end → Came v w
goes_came c o v _ _ _ _ (turning.unsettled w answers p s) = settles_came v w answers (Err (Paused p)) s
goes_came c o v _ _ _ _ (turning.dying life w c2 end dead dies) = dies_came life c o c2 v w end dies
goes_came c o v _ _ _ _ (turning.settled u w c2 early answers end s d) = came_trans v u w (settles_came v u early (Ok tt) s) (does_came (nothing_left c) o c2 u w answers end d)

pub begun_came : (c c2 : Processing) (end : TurnEnd) (v w : PortValue) (answers : List Bool) (t : IsTurn c c2 end v w answers) → Came t.begun w
begun_came c c2 end v w answers t = came_trans t.begun t.worked w (goes_came c (next_of c) t.begun c2 t.worked answers end t.does) (ends_came end t.worked w t.ends)

pub turn_came : (c c2 : Processing) (end : TurnEnd) (v w : PortValue) (answers : List Bool) → IsTurn c c2 end v w answers → Came v w
turn_came c c2 end v w answers t = came_trans v t.begun w (begins_came v t.begun t.begins) (begun_came c c2 end v w answers t)

-- ---- retired vCPUs
-- neither an answer nor a pause retires one
pub after_retired : (c : Processing) (to : Progress) (log : List LogLine) (end : TurnEnd) → (after_turn c to log end).retired ≡ c.retired
after_retired c to log (ends.Answered reply) = refl
after_retired c to log (ends.Paused p) = refl
after_retired c to log ends.Retired = refl

pub none_pending : (c : Processing) → next_of c ≡ None → pending_of c ≡ 0
none_pending c ended =
    elim ((slice_get_cases c.script c.answered).1) [
      | inl here ↦ absurd (let some = here.2 in cc)
      | inr past ↦ (let far = past.0 in omega arith)
    ]

-- ---- pauses
spared_end : (v : PortValue) (to : ℕ) (answer : Result ℕ Stop) → Spared v answer → IsUnhindered v.post.machine (end_of to answer)
spared_end v to (Ok value) s = tt
spared_end v to (Err (Refused x)) s = tt
spared_end v to (Err (Paused x)) s = s

module _ (stays : AloneStays) (neither : NeitherLostNorBusy) (nobody : NobodyWaitedFor) where
  does_spared : (c : Processing) (o : Option Op) → IsSparingJob (job_next o) → (c2 : Processing) (v w : PortValue) (answers : List Bool) (end : TurnEnd) → IsSpared v → DoesNext c o c2 v w answers end → IsUnhindered v.post.machine end
  does_spared c (Some op) none c2 v w answers end s d =
      subst (IsUnhindered v.post.machine) (sym d.end_is)
      (spared_end v d.to.done d.answer (by_spared c.domain (c.answered + 1) v c.at d.to w c.log d.log answers d.answer stays neither nobody (job_of op) none s d.went))
  does_spared c None none c2 v w answers end s d = subst (IsUnhindered v.post.machine) (sym d.end_is) tt

  dies_spared : (life : ℕ) (c : Processing) (o : Option Op) (c2 : Processing) (v w : PortValue) (end : TurnEnd) → DiesNext life c o c2 v w end → IsUnhindered v.post.machine end
  dies_spared life c (Some op) c2 v w end dies = subst (IsUnhindered v.post.machine) (sym dies.1) tt
  dies_spared life c None c2 v w end dies = subst (IsUnhindered v.post.machine) (sym dies.1) tt

  goes_spared : (c : Processing) (o : Option Op) → IsSparingJob (job_next o) → (v : PortValue) (c2 : Processing) (w : PortValue) (answers : List Bool) (end : TurnEnd) → IsSpared v → DoesTurn c o v c2 w answers end → IsUnhindered v.post.machine end
  goes_spared c o none v _ _ _ _ s (turning.dying life w c2 end dead dies) = dies_spared life c o c2 v w end dies
  goes_spared c o none v _ _ _ _ s (turning.unsettled w answers p settles) = settles_spared stays neither nobody v w answers (Err (Paused p)) s settles
  goes_spared c o none v _ _ _ _ s (turning.settled u w c2 early answers end settles d) =
      let came = settles_came v u early (Ok tt) settles in
      subst (λ (q : Post). IsUnhindered q.machine end) (came_post v u came) (does_spared (nothing_left c) o none c2 u w answers end (spared_on stays neither nobody v u came s) d)

  pub turn_unhindered : (v : PortValue) → v.post.vcpu < length v.post.machine.vcpu_domain → (c c2 : Processing) → IsSparingJob (job_next (next_of c)) → (end : TurnEnd) (w : PortValue) (answers : List Bool) → IsAlone v → IsTurn c c2 end v w answers →
      IsUnhindered v.post.machine end
  turn_unhindered v real c c2 none end w answers alone t =
      let came = begins_came v t.begun t.begins in
      subst (λ (q : Post). IsUnhindered q.machine end) (came_post v t.begun came)
      (goes_spared c (next_of c) none t.begun c2 t.worked answers end (spared_on stays neither nobody v t.begun came (record { alone = alone; real = real })) t.does)
