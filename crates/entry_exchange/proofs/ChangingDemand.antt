-- An exchange for a word that asks something else, call by call: what is in hand on the way, and its course.
use Rattle.std.proofs.Common.{◌≡◌, ◌≢◌, ℕ, ◌<◌, ◌≤◌, Bool, false, [], ◌∷◌, length, Option, Some, Ok, Err, refl, sym, ap, ◌∙◌, subst}
use Rattle.xp_words.specs.Entries.{demand_at}
use Rattle.xp_words.specs.declared.entry.Demand.{Demand}
use Rattle.xp_words.specs.declared.entry.Demand.TheVariants.{Bad}
use Rattle.xp_words.specs.declared.reply.Stop.{Stop}
use Rattle.xp_board.specs.declared.holdings.Lock.{Lock}
use Rattle.xp_board.specs.After.{learned_lock}
use Rattle.xp_board.specs.Told.{Post, PortValue}
use Rattle.step_maker.specs.Holds.{MayWork}
use Rattle.entry_locks.specs.Entries.{MaySwapEntry}
use Rattle.flush_words.proofs.Lasting.{came_longer}
use Rattle.foreign_map.specs.Owning.{MayMapFor}
use Rattle.foreign_map.specs.declared.owners.Owners.{Owners}
use Rattle.level_release.specs.Asking.{is_due_answer}
use Rattle.partial_state.specs.Levels.{level_type}
use Rattle.entry_exchange.specs.declared.exchanging.EntryUpdate.{EntryUpdate}
use Rattle.entry_exchange.specs.Course.{ExchangesBy, GaveDemand, LeftLock, PutEntry, SawEntry, new_demand, old_demand}
use Rattle.entry_exchange.specs.Course as courses
use Rattle.entry_exchange.specs.Holding.{LeavesExchange, LeavesUnlocked, MayLeaveLock, owner_at}
use Rattle.entry_exchange.specs.Parts.{DemandChanged, DemandGiven, DemandReleased, DemandTaken, EntryPut, HoldsFreed, HoldsSeen, HoldsTaken, IsInside, IsOfLevel, LeavesGone, LockLeft}
use Rattle.entry_exchange.specs.Words.{same_demand, word_kept}
use Rattle.entry_exchange.proofs.ServesDone.{done_serves, lost_serves, lost_stops, untaken_serves, untaken_stops}
use Rattle.xp_preempt.specs.Gates.{Gate}
use Rattle.xp_preempt.proofs.Consulting.{past_as, past_then}
use Rattle.step_maker.proofs.Coming.{came_trans}
use Rattle.entry_exchange.proofs.Hands.{Stands, changed_stands, gone, is_from, is_taken, lock_here, off_stands, refs_from, refs_of, took_stands, typed_from, typed_of, unset_stands, untaken_stands}
use Rattle.entry_exchange.proofs.Standing.{begins, holds_freed, holds_taken, leaves, leaves_lock, may_change, may_standing, seen_keeps}
use Rattle.entry_exchange.proofs.ServesWords.{fits_level}
use Rattle.entry_exchange.proofs.Staying.{may_map}

-- an entry of a table of that level asks a type of the level below
pub of_level : (level i w : ℕ) (d : Demand) → d ≡ demand_at (level_type level) i w → d ≢ Bad → IsOfLevel level d
of_level level i w d is fits = subst (λ y. IsOfLevel level y) (sym is) (fits_level level i w (λ bad. fits (is ∙ bad)))

-- what is lost is not for the gate
pub undue : {v w : PortValue} {f i seen new : ℕ} {keep : Bool} {e : Stop} → PutEntry v w f i seen new keep (Err e) → is_due_answer {A = Unit {0}} (Err e) ≡ false
undue (courses.lost found off try) = refl

module _ {v : PortValue} (x : EntryUpdate) (o : Owners) {seen : ℕ} (locked : HoldsSeen v x.table x.level o.tables x.index seen) where
  abbrev the_lock : Lock
  the_lock = locked.holds.lock

  abbrev wanted : Demand
  wanted = new_demand x seen

  abbrev owner : ℕ
  owner = owner_at x.level o.tables o.frames

  abbrev new : ℕ
  new = word_kept x.keep seen x.word

  begun : Stands v v [] [] (the_lock ∷ []) v.holdings.old0 v.holdings.old1
  begun = begins v x.table x.level o.tables locked.holds

  fits_it : wanted ≢ Bad → IsOfLevel x.level wanted
  fits_it fits = fits_level x.level x.index new fits

  -- the lock goes off, and what is left stands in the first old word at the most
  off_hand : (u w : PortValue) (e : Lock) (a : Option ℕ) → e.frame ≡ x.table → Stands v u [] [] (e ∷ []) a v.holdings.old1 → LeavesUnlocked u w x.table → LeavesExchange v w
  off_hand u w e a at stands off = let out = off_stands v u w x.table [] [] e a v.holdings.old1 at stands off in leaves v x.table x.level o.tables locked.holds w a out.0 out.1

  -- ---- what the new word asks is not to be had
  module _ {u : PortValue} {g h : Gate} {stop : Stop} (took : DemandTaken v u owner x.level wanted g h (Err stop)) where
    untaken : (a : Option ℕ) × Stands v u [] [] (the_lock ∷ []) a v.holdings.old1
    untaken = untaken_stands v u wanted owner the_lock stop begun took.hand

    pub untaken_leaves : x.table < v.post.machine.frames → MayWork v → 1 ≤ x.level → x.level ≤ 4 → v.holdings.old1 ≡ Some 0 → MayLeaveLock u x.table x.level
    untaken_leaves = leaves_lock v u [] [] the_lock untaken.0 v.holdings.old1 untaken.1 x.table x.level locked.holds.frame locked.holds.kind locked.holds.others.works

    pub untaken_changed : {w : PortValue} → wanted ≢ Bad → same_demand wanted (old_demand x seen) ≡ false → LockLeft u w x.table x.level →
        DemandChanged v w x o seen g h (Err stop)
    untaken_changed {w} fits other left =
        record {
          came = came_trans v u w took.came left.came;
          serves = λ a holds saw. untaken_serves a v x o seen holds saw locked stop wanted refl (fits_it fits) u w left.serves (took.serves o.frames);
          stops = λ a holds saw. untaken_stops a v x o seen holds saw locked stop wanted refl (fits_it fits) u w left.serves took.came (took.stops o.frames);
          kinds = took.kinds;
          hand = off_hand u w the_lock untaken.0 locked.holds.frame untaken.1 left.hand;
          course = λ a holds saw. past_as (λ on. on) (λ xs by. courses.untaken v u w seen xs stop saw other by left.course) took.course;
        }

  -- ---- it is in hand
  module _ {u : PortValue} {g h : Gate} (took : DemandTaken v u owner x.level wanted g h (Ok tt)) where
    taken : Stands v u (refs_of wanted owner) (typed_of wanted owner) (the_lock ∷ []) v.holdings.old0 v.holdings.old1
    taken = took_stands v u wanted owner the_lock begun took.hand

    pub may_put : MayMapFor v o → wanted ≢ Bad → MaySwapEntry u.post.machine x.table x.index seen new u.holdings
    may_put maps fits =
        may_change v u the_lock x.table x.index seen new x.level o wanted v.holdings.old0 v.holdings.old1 taken locked.holds.frame locked.holds.kind locked.holds.owned locked.holds.others.works
        (may_map v u o took.came (ap (λ (q : PortValue). q.holdings.turn) taken) maps) (fits_it fits) locked.seen refl

    -- and given back, where the word is not put there
    module _ {z : PortValue} {stop : Stop} (put : EntryPut u z x.table x.index seen new x.keep (Err stop)) where
      abbrev found_lock : Lock
      found_lock = learned_lock x.index put.hand.0 the_lock

      unput : Stands v z (refs_of wanted owner) (typed_of wanted owner) (found_lock ∷ []) v.holdings.old0 v.holdings.old1
      unput =
          unset_stands v u z x.table x.index the_lock (refs_of wanted owner)
          (typed_of wanted owner) v.holdings.old0 v.holdings.old1 locked.holds.frame locked.holds.others.works locked.holds.others.claimed taken put.hand.0 put.hand.1

      pub unput_taken : HoldsTaken z wanted owner
      unput_taken = holds_taken v z wanted owner (found_lock ∷ []) v.holdings.old0 v.holdings.old1 locked.holds.others.works locked.holds.others.looking unput

      module _ {p : PortValue} (gave : DemandGiven z p owner x.level wanted) where
        given : (c : Option ℕ) × Stands v p [] [] (found_lock ∷ []) c v.holdings.old1
        given = gone v z (refs_of wanted owner) (typed_of wanted owner) (found_lock ∷ []) v.holdings.old0 v.holdings.old1 unput p wanted (is_taken wanted owner) gave.hand

        pub given_leaves : x.table < v.post.machine.frames → MayWork v → 1 ≤ x.level → x.level ≤ 4 → v.holdings.old1 ≡ Some 0 → MayLeaveLock p x.table x.level
        given_leaves = leaves_lock v p [] [] found_lock given.0 v.holdings.old1 given.1 x.table x.level locked.holds.frame locked.holds.kind locked.holds.others.works

        pub lost_changed : {w : PortValue} → wanted ≢ Bad → same_demand wanted (old_demand x seen) ≡ false → LockLeft p w x.table x.level →
            DemandChanged v w x o seen g h (Err stop)
        lost_changed {w} fits other left =
            record {
              came = came_trans v u w took.came (came_trans u z w put.came (came_trans z p w gave.came left.came));
              serves = λ a holds saw. lost_serves a v x o seen holds saw locked wanted refl (fits_it fits) u z took.came
                  (took.serves o.frames) put.came stop p w put.course left.serves put.serves gave.serves;
              stops = λ a holds saw. lost_stops a v x o seen holds saw locked wanted refl (fits_it fits) u z took.came
                  (took.serves o.frames) put.came stop p w put.course left.serves put.stops gave.came;
              kinds = put.kinds;
              hand = off_hand p w found_lock given.0 locked.holds.frame given.1 left.hand;
              course = λ a holds saw. past_as (λ on. sym (undue put.course) ∙ on) (λ xs by. courses.lost v u z p w seen xs stop saw other by put.course gave.course left.course) took.course;
            }

    -- or goes into the entry
    module _ {z : PortValue} {old : ℕ} (other : same_demand wanted (old_demand x seen) ≡ false) (put : EntryPut u z x.table x.index seen new x.keep (Ok old)) where
      abbrev freed : Demand
      freed = demand_at the_lock.kind x.index old

      was : freed ≡ old_demand x old
      was = ap (λ t. demand_at t x.index old) locked.holds.kind

      abbrev since : ℕ
      since = length u.holdings.steps

      abbrev new_lock : Lock
      new_lock = learned_lock x.index new the_lock

      put_there : Stands v z (refs_from freed since) (typed_from freed since) (new_lock ∷ []) v.holdings.old0 v.holdings.old1
      put_there =
          changed_stands v u z x.table x.index the_lock wanted owner v.holdings.old0 v.holdings.old1 locked.holds.frame locked.holds.others.works locked.holds.others.claimed taken new old
          (seen_keeps the_lock x.index seen new x.level locked.holds.kind locked.seen ∙ other) (ap (λ t. demand_at t x.index new) locked.holds.kind) put.hand

      pub put_leaves : x.table < v.post.machine.frames → MayWork v → 1 ≤ x.level → x.level ≤ 4 → v.holdings.old1 ≡ Some 0 → MayLeaveLock z x.table x.level
      put_leaves =
          leaves_lock v z (refs_from freed since) (typed_from freed since) new_lock v.holdings.old0 v.holdings.old1 put_there x.table x.level locked.holds.frame locked.holds.kind locked.holds.others.works

      module _ {p : PortValue} (left : LockLeft z p x.table x.level) where
        unlocked : (c : Option ℕ) × Stands v p (refs_from freed since) (typed_from freed since) [] v.holdings.old0 c
        unlocked = off_stands v z p x.table (refs_from freed since) (typed_from freed since) new_lock v.holdings.old0 v.holdings.old1 locked.holds.frame put_there left.hand

        pub off_may : MayWork v → MayWork p
        off_may may = may_standing v p (refs_from freed since) (typed_from freed since) [] v.holdings.old0 unlocked.0 unlocked.1 may

        pub off_old0 : p.holdings.old0 ≡ v.holdings.old0
        off_old0 = ap (λ (q : PortValue). q.holdings.old0) unlocked.1

        pub off_inside : IsInside p.post.machine (old_demand x old)
        off_inside =
            subst (λ (q : Post). IsInside q.machine (old_demand x old)) (ap (λ (q : PortValue). q.post) taken ∙ sym (ap (λ (q : PortValue). q.post) unlocked.1))
            (subst (λ y. IsInside u.post.machine y) was (put.inside the_lock (lock_here v u z x.table x.index the_lock (refs_of wanted owner) (typed_of wanted owner) v.holdings.old0 v.holdings.old1 locked.holds.frame locked.holds.others.works locked.holds.others.claimed taken)))

        pub off_freed : HoldsFreed p (old_demand x old)
        off_freed =
            subst (λ y. HoldsFreed p y) was
            (holds_freed v p freed since [] v.holdings.old0 unlocked.0 locked.holds.others.works locked.holds.others.looking (came_longer u p (came_trans u z p put.came left.came)) unlocked.1)

        pub done_changed : {w : PortValue} {k : Gate} → wanted ≢ Bad → DemandReleased p w (old_demand x old) h k → DemandChanged v w x o seen g k (Ok tt)
        done_changed {w} fits freeing =
            let end = gone v p (refs_from freed since) (typed_from freed since) [] v.holdings.old0 unlocked.0 unlocked.1 w freed (is_from freed since)
            (subst (λ y. LeavesGone p w y) (sym was) freeing.hand) in
            record {
              came = came_trans v u w took.came (came_trans u z w put.came (came_trans z p w left.came freeing.came));
              serves =
                  λ a holds saw. done_serves a v x o seen holds saw locked wanted refl (fits_it fits) u z took.came
                  (took.serves o.frames) put.came old p w put.course took.hand left.serves freeing.came put.serves
                  (freeing.serves o.tables o.frames);
              stops = λ a holds saw. tt;
              kinds = tt;
              hand = leaves v x.table x.level o.tables locked.holds w end.0 unlocked.0 end.1;
              course = λ a holds saw. past_then (λ xs ys by more. courses.done v u z p w seen old xs ys saw other by put.course left.course more) took.course freeing.course;
            }
