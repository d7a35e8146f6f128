-- What pauses a turn with a destruction, where one thread makes all steps; and any turn.
use Rattle.std.proofs.Common.{◌≡◌, ◌∙◌, ℕ, ◌+◌, ◌<◌, Bool, true, List, length, Option, Some, None, Result, Ok, Err, IfErr, ap, refl, sym, subst}
use Rattle.xp_words.specs.declared.ops.Op.{Op}
use Rattle.xp_words.specs.declared.reply.Pause.{Pause}
use Rattle.xp_words.specs.declared.reply.Pause.TheVariants.{Due, Lost, Busy, Flush, Alive}
use Rattle.xp_words.specs.declared.reply.Stop.{Stop}
use Rattle.xp_words.specs.declared.reply.Stop.TheVariants.{Refused, Paused}
use Rattle.xp_board.specs.Told.{PortValue, is_telling}
use Rattle.step_maker.specs.Answers.{Stops}
use Rattle.step_maker.specs.Asked.{Request}
use Rattle.answer_laws.specs.Alone.{IsAlone}
use Rattle.answer_laws.proofs.Shared.{alone_telling as telling}
use Rattle.level_release.specs.Asking.{IsReleaseEnd, of_settle}
use Rattle.domain_destroy.specs.Asking.{IsDestroyStop, StopsDestroyer, of_domain}
use Rattle.vcpu_turn.specs.Calls.{WentBy}
use Rattle.vcpu_turn.specs.Cpus.{Job, OfCalls, OfDestroy, OfOne, Processing, end_of, job_next, job_of, next_of, nothing_left}
use Rattle.vcpu_turn.specs.Destroying.{WentOnDestroying}
use Rattle.vcpu_turn.specs.Turning.{DiesNext, DoesNext, DoesTurn, IsTurn}
use Rattle.vcpu_turn.specs.Turning as turning
use Rattle.vcpu_turn.specs.Unhindered.{IsSparedBy, IsSparedIn, IsSparingJob, IsUnlost}
use Rattle.vcpu_turn.specs.declared.cpu.TurnEnd.{TurnEnd}
use Rattle.vcpu_turn.specs.declared.cpu.TurnEnd.TheVariants as ends
use Rattle.vcpu_turn.proofs.Hindering.{AloneStays, NeitherLostNorBusy, NobodyWaitedFor, settles_came}
use Rattle.vcpu_turn.proofs.TurnSteps.{turn_unhindered}
use Rattle.vcpu_turn.proofs.Turns.{begins_came}

abbrev pub NothingLost : Type 0
NothingLost = (v w : PortValue) (r : Request) (place e x : ℕ) → is_telling v ≡ true → Stops v w r (Paused (Lost place e x)) → ⊥

module _ (lost : NothingLost) (v w : PortValue) (r : Request) (told : is_telling v ≡ true) where
  stop_unlost : (to : ℕ) (e : Stop) → IsDestroyStop e → Stops v w r e → IsUnlost (end_of to (Err e))
  stop_unlost to (Refused x) kind stops = tt
  stop_unlost to (Paused Due) kind stops = tt
  stop_unlost to (Paused (Lost place e x)) kind stops = lost v w r place e x told stops
  stop_unlost to (Paused (Busy frame x)) kind stops = tt
  stop_unlost to (Paused (Flush vcpu stamp x)) kind stops = absurd kind
  stop_unlost to (Paused (Alive vcpu x)) kind stops = tt

  settle_unlost : (p : Pause) → IsReleaseEnd (Paused p) → Stops v w r (Paused p) → IsUnlost (ends.Paused p)
  settle_unlost Due kind stops = tt
  settle_unlost (Lost place e x) kind stops = lost v w r place e x told stops
  settle_unlost (Busy frame x) kind stops = tt
  settle_unlost (Flush vcpu stamp x) kind stops = absurd kind
  settle_unlost (Alive vcpu x) kind stops = absurd kind

module _ (stays : AloneStays) (lost : NothingLost) where
  destroyed_unlost : (v w : PortValue) (x to : ℕ) (answer : Result ℕ Stop) → IsAlone v → IfErr answer IsDestroyStop → IfErr answer (λ e. Stops v w (of_domain v.post.machine x true) e) → IsUnlost (end_of to answer)
  destroyed_unlost v w x to (Ok value) alone kinds stops = tt
  destroyed_unlost v w x to (Err e) alone kinds stops = stop_unlost lost v w (of_domain v.post.machine x true) (telling v alone) to e kinds stops

  stops_if_yes : (v w : PortValue) (x : ℕ) (answer : Result ℕ Stop) → IfErr answer (λ e. StopsDestroyer v w x e) → IfErr answer (λ e. Stops v w (of_domain v.post.machine x true) e)
  stops_if_yes v w x (Ok value) stops = tt
  stops_if_yes v w x (Err e) stops = stops true (λ due. refl)

  module _ (c : Processing) (op : Op) (x : ℕ) (is : job_of op ≡ OfDestroy x) where
    does_unlost : (c2 : Processing) (v w : PortValue) (answers : List Bool) (end : TurnEnd) → IsAlone v → DoesNext c (Some op) c2 v w answers end → IsUnlost end
    does_unlost c2 v w answers end alone d =
        let went : WentOnDestroying x (c.answered + 1) v c.at d.to w c.log d.log answers d.answer = subst (λ (job : Job). WentBy c.domain job (c.answered + 1) v c.at d.to w c.log d.log answers d.answer) is d.went in
        subst IsUnlost (sym d.end_is) (destroyed_unlost v w x d.to.done d.answer alone went.destroyed.kinds (stops_if_yes v w x d.answer went.destroyed.stops))

  dies_unlost : (life : ℕ) (c : Processing) (o : Option Op) (c2 : Processing) (v w : PortValue) (end : TurnEnd) → DiesNext life c o c2 v w end → IsUnlost end
  dies_unlost life c (Some op) c2 v w end dies = subst IsUnlost (sym dies.1) tt
  dies_unlost life c None c2 v w end dies = subst IsUnlost (sym dies.1) tt

  goes_unlost : (c : Processing) (op : Op) (x : ℕ) → job_of op ≡ OfDestroy x → (v : PortValue) (c2 : Processing) (w : PortValue) (answers : List Bool) (end : TurnEnd) → IsAlone v → DoesTurn c (Some op) v c2 w answers end → IsUnlost end
  goes_unlost c op x is v _ _ _ _ alone (turning.dying life w c2 end dead dies) = dies_unlost life c (Some op) c2 v w end dies
  goes_unlost c op x is v _ _ _ _ alone (turning.unsettled w answers p settles) =
      let paused : Result (Unit {0}) Stop = Err (Paused p) in
      settle_unlost lost v w (of_settle 0 0 paused) (telling v alone) p settles.kinds (settles.stops 0 0)
  goes_unlost c op x is v _ _ _ _ alone (turning.settled u w c2 early answers end settles d) = does_unlost (nothing_left c) op x is c2 u w answers end (stays v u alone (settles_came v u early (Ok tt) settles)) d

module _ (stays : AloneStays) (neither : NeitherLostNorBusy) (nobody : NobodyWaitedFor) (lost : NothingLost) where
  by_next : (v : PortValue) → v.post.vcpu < length v.post.machine.vcpu_domain → (c c2 : Processing) (o : Option Op) (job : Job) → next_of c ≡ o → job_next o ≡ job → (end : TurnEnd) (w : PortValue) (answers : List Bool) → IsAlone v →
      IsTurn c c2 end v w answers → IsSparedBy v.post.machine job end
  by_next v real c c2 o (OfOne task) next is end w answers alone t = turn_unhindered stays neither nobody v real c c2 (subst IsSparingJob (sym is ∙ ap job_next (sym next)) tt) end w answers alone t
  by_next v real c c2 o (OfCalls calls) next is end w answers alone t = turn_unhindered stays neither nobody v real c c2 (subst IsSparingJob (sym is ∙ ap job_next (sym next)) tt) end w answers alone t
  by_next v real c c2 (Some op) (OfDestroy x) next is end w answers alone t =
      goes_unlost stays lost c op x is t.begun c2 t.worked answers end (stays v t.begun alone (begins_came v t.begun t.begins))
      (subst (λ (o : Option Op). DoesTurn c o t.begun c2 t.worked answers end) next t.does)
  by_next v real c c2 None (OfDestroy x) next is end w answers alone t = absurd cc

  pub turn_spared : (v : PortValue) → v.post.vcpu < length v.post.machine.vcpu_domain → (c c2 : Processing) (end : TurnEnd) (w : PortValue) (answers : List Bool) → IsAlone v → IsTurn c c2 end v w answers →
      IsSparedIn v.post.machine (next_of c) end
  turn_spared v real c c2 end w answers alone t = by_next v real c c2 (next_of c) (job_next (next_of c)) refl refl end w answers alone t
