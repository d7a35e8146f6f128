-- An exchange behind its look: what is in hand then, and where both words ask the same.
use Rattle.std.proofs.Common.{◌≡◌, ℕ, ◌<◌, ◌≤◌, true, [], ◌∷◌, None, Some, Result, Ok, Err, IfErr, refl, sym, ap, ◌∙◌, subst}
use Rattle.xp_words.specs.declared.entry.Demand.TheVariants.{Bad}
use Rattle.xp_words.specs.declared.reply.Refusal.TheVariants.{Reserved}
use Rattle.xp_words.specs.declared.reply.Stop.{Stop}
use Rattle.xp_words.specs.declared.reply.Stop.TheVariants.{Refused}
use Rattle.xp_board.specs.declared.holdings.Lock.{Lock}
use Rattle.xp_board.specs.After.{learned_cell, learned_lock}
use Rattle.xp_board.specs.CellSteps.{keeps_demand}
use Rattle.xp_board.specs.Told.{Post, PortValue}
use Rattle.step_maker.specs.Holds.{Holds, MayWork}
use Rattle.step_maker.specs.Moves.{Came}
use Rattle.step_maker.proofs.Coming.{came_post, came_trans, moves_came}
use Rattle.entry_locks.specs.Entries.{MaySwapEntry}
use Rattle.foreign_map.specs.Owning.{MayMapFor}
use Rattle.foreign_map.specs.declared.owners.Owners.{Owners}
use Rattle.entry_exchange.specs.declared.exchanging.EntryUpdate.{EntryUpdate}
use Rattle.entry_exchange.specs.Course.{Exchanged, ExchangesBy, LeftLock, PutEntry, SawEntry, new_demand, old_demand}
use Rattle.entry_exchange.specs.Course as courses
use Rattle.entry_exchange.specs.Holding.{HoldsTableLock, LeavesExchange, LeavesUnlocked, MayLeaveLock}
use Rattle.entry_exchange.specs.Parts.{DemandChanged, EntryExchanged, EntryPut, HoldsSeen, LeavesPut, LockLeft}
use Rattle.entry_exchange.specs.Words.{same_demand, word_kept}
use Rattle.entry_exchange.proofs.ChangingDemand.{undue}
use Rattle.entry_exchange.proofs.ServesDone.{bad_serves, bad_stops, same_serves, unput_serves, unput_stops}
use Rattle.entry_exchange.proofs.Steps.{exchange_short}
use Rattle.xp_preempt.specs.Gates.{Gate}
use Rattle.xp_preempt.proofs.Consulting.{past_none}
use Rattle.step_maker.specs.Answers.{Stops}
use Rattle.level_validate.specs.Acquiring.{IsAcquireStop}
use Rattle.entry_exchange.specs.Asking.{ServesExchange, of_exchange}
use Rattle.xp_words.specs.declared.place.Place.TheVariants.{Cell}
use Rattle.xp_board.specs.declared.step.Act.TheVariants.{Load}
use Rattle.xp_board.specs.declared.step.StepKind.TheVariants as kinds
use Rattle.entry_exchange.proofs.Hands.{Stands, kept_stands, off_stands, unset_stands}
use Rattle.entry_exchange.proofs.Standing.{holds_seen, leaves, leaves_behind, leaves_lock, looked_stands, may_same, may_standing, rests_then, seen_keeps}
use Rattle.entry_exchange.proofs.Staying.{may_map}

module _ {v b : PortValue} (x : EntryUpdate) (o : Owners) {seen : ℕ} (holds : HoldsTableLock v x.table x.level o.tables) (saw : SawEntry v b x.table x.index seen)
    (looked : Holds v b (learned_cell x.table x.index seen v.holdings)) where
  abbrev seen_lock : Lock
  seen_lock = learned_lock x.index seen holds.lock

  abbrev new : ℕ
  new = word_kept x.keep seen x.word

  came_look : Came v b
  came_look = moves_came v b (Cell x.table x.index) Load kinds.Look None seen saw

  behind : Stands v b [] [] (seen_lock ∷ []) v.holdings.old0 v.holdings.old1
  behind = looked_stands v x.table x.level o.tables holds b x.index seen looked

  -- the frames of the machine are the same behind the look
  pub look_frame : x.table < v.post.machine.frames → x.table < b.post.machine.frames
  look_frame inside = subst (λ (p : Post). x.table < p.machine.frames) (sym (came_post v b came_look)) inside

  pub look_may : MayWork v → MayWork b
  look_may may = may_standing v b [] [] (seen_lock ∷ []) v.holdings.old0 v.holdings.old1 behind may

  pub look_maps : MayMapFor v o → MayMapFor b o
  look_maps maps = may_map v b o came_look (ap (λ (q : PortValue). q.holdings.turn) behind) maps

  pub look_old0 : b.holdings.old0 ≡ v.holdings.old0
  look_old0 = ap (λ (q : PortValue). q.holdings.old0) behind

  pub look_old1 : b.holdings.old1 ≡ v.holdings.old1
  look_old1 = ap (λ (q : PortValue). q.holdings.old1) behind

  pub look_leaves : x.table < v.post.machine.frames → MayWork v → 1 ≤ x.level → x.level ≤ 4 → v.holdings.old1 ≡ Some 0 → MayLeaveLock b x.table x.level
  look_leaves = leaves_lock v b [] [] seen_lock v.holdings.old0 v.holdings.old1 behind x.table x.level holds.frame holds.kind holds.others.works

  pub look_seen : HoldsSeen b x.table x.level o.tables x.index seen
  look_seen = holds_seen v x.table x.level o.tables holds b x.index seen looked

  -- the lock goes off
  off_hand : (u w : PortValue) (e : Lock) → e.frame ≡ x.table → Stands v u [] [] (e ∷ []) v.holdings.old0 v.holdings.old1 → LeavesUnlocked u w x.table → LeavesExchange v w
  off_hand u w e at stands off = let out = off_stands v u w x.table [] [] e v.holdings.old0 v.holdings.old1 at stands off in leaves v x.table x.level o.tables holds w v.holdings.old0 out.0 out.1

  -- ---- the end
  ended : {w : PortValue} {g h : Gate} {answer : Result (Unit {0}) Stop} → MayWork v → Came v w → ServesExchange v w x o answer →
      IfErr answer (λ e. Stops v w (of_exchange x o answer) e) → IfErr answer IsAcquireStop →
      LeavesExchange v w → ExchangesBy v w x o g h answer → EntryExchanged v w x o g h answer
  ended {w} {answer = answer} may came serves stops kinds hand by =
      record {
        came = came;
        serves = serves;
        stops = stops;
        kinds = kinds;
        hand = hand;
        rests = rests_then v x.table x.level o.tables holds w may hand;
        course = by;
        short = exchange_short v w x o by.answers answer may.machine by.course;
      }

  -- ---- it asks something else
  pub ended_changed : {w : PortValue} {g h : Gate} {answer : Result (Unit {0}) Stop} → MayWork v → DemandChanged b w x o seen g h answer → EntryExchanged v w x o g h answer
  ended_changed {w} may did =
      let hand = leaves_behind v x.table x.level o.tables holds w b (seen_lock ∷ []) v.holdings.old0 v.holdings.old1 behind did.hand in
      ended may (came_trans v b w came_look did.came) (did.serves v holds saw) (did.stops v holds saw) did.kinds hand (did.course v holds saw)

  module _ {g : Gate} where
    -- ---- the new word asks what it may not
    pub ended_bad : {w : PortValue} → MayWork v → new_demand x seen ≡ Bad → LockLeft b w x.table x.level →
        EntryExchanged v w x o g g (Err (Refused (Reserved x.table x.index new)))
    ended_bad {w} may bad left =
        ended may (came_trans v b w came_look left.came) (bad_serves v b x o seen holds saw w left.serves) (bad_stops v b x o seen holds saw w left.serves bad) tt
        (off_hand b w seen_lock holds.frame behind left.hand)
        (past_none refl (courses.bad b w seen saw bad left.course))

  -- ---- it asks the same
  module _ (same : same_demand (new_demand x seen) (old_demand x seen) ≡ true) where
    keeps : keeps_demand seen_lock x.index new ≡ true
    keeps = seen_keeps seen_lock x.index seen new x.level holds.kind refl ∙ same

    pub may_keep : MaySwapEntry b.post.machine x.table x.index seen new b.holdings
    may_keep = may_same v b seen_lock x.table x.index seen new x.level [] [] v.holdings.old0 v.holdings.old1 behind holds.frame refl keeps

    kept_by : (z : PortValue) (a : Result ℕ Stop) → LeavesPut b z x.table x.index new a → (y : ℕ) × Stands v z [] [] (learned_lock x.index y seen_lock ∷ []) v.holdings.old0 v.holdings.old1
    kept_by z (Ok old) p = (new, kept_stands v b z x.table x.index seen_lock [] [] v.holdings.old0 v.holdings.old1 holds.frame holds.others.works holds.others.claimed behind new old keeps p)
    kept_by z (Err e) p = (p.0, unset_stands v b z x.table x.index seen_lock [] [] v.holdings.old0 v.holdings.old1 holds.frame holds.others.works holds.others.claimed behind p.0 p.1)

    module _ {z : PortValue} {answer : Result ℕ Stop} (put : EntryPut b z x.table x.index seen new x.keep answer) where
      kept : (y : ℕ) × Stands v z [] [] (learned_lock x.index y seen_lock ∷ []) v.holdings.old0 v.holdings.old1
      kept = kept_by z answer put.hand

      abbrev kept_lock : Lock
      kept_lock = learned_lock x.index kept.0 seen_lock

      pub keep_leaves : x.table < v.post.machine.frames → MayWork v → 1 ≤ x.level → x.level ≤ 4 → v.holdings.old1 ≡ Some 0 → MayLeaveLock z x.table x.level
      keep_leaves = leaves_lock v z [] [] kept_lock v.holdings.old0 v.holdings.old1 kept.1 x.table x.level holds.frame holds.kind holds.others.works

      keep_came : (w : PortValue) → LockLeft z w x.table x.level → Came v w
      keep_came w left = came_trans v b w came_look (came_trans b z w put.came left.came)

    module _ {z w : PortValue} {g : Gate} where
      pub ended_same : {old : ℕ} (put : EntryPut b z x.table x.index seen new x.keep (Ok old)) → MayWork v → LockLeft z w x.table x.level →
          EntryExchanged v w x o g g (Ok tt)
      ended_same {old} put may left =
          ended may (keep_came put w left) (same_serves v b x o seen holds saw z w left.serves old put.serves) tt tt (off_hand z w (kept_lock put) holds.frame (kept put).1 left.hand)
          (past_none refl (courses.same b z w seen old saw same put.course left.course))

      pub ended_unput : {stop : Stop} (put : EntryPut b z x.table x.index seen new x.keep (Err stop)) → MayWork v → LockLeft z w x.table x.level →
          EntryExchanged v w x o g g (Err stop)
      ended_unput {stop} put may left =
          ended may (keep_came put w left) (unput_serves v b x o seen holds saw z w left.serves stop put.serves) (unput_stops v b x o seen holds saw z w left.serves stop put.stops) put.kinds
          (off_hand z w (kept_lock put) holds.frame (kept put).1 left.hand) (past_none (undue put.course) (courses.unput b z w seen stop saw same put.course left.course))
