-- The reference to the frame of a word: taken; not to be had; or given back, where the frame cannot be locked.
use Rattle.std.proofs.Common.{◌≡◌, ℕ, ◌<◌, Bool, [], None, Ok, Err, sym, ap, ◌∙◌, subst}
use Rattle.xp_words.specs.declared.reply.Stop.{Stop}
use Rattle.xp_board.specs.Told.{PortValue}
use Rattle.step_maker.specs.Holds.{Holds, Same, quiet}
use Rattle.step_maker.specs.Answers.{Serves, missed}
use Rattle.step_maker.specs.Asked.{of_back, of_frame}
use Rattle.step_maker.proofs.Piecing.{serves_came}
use Rattle.entry_locks.specs.Locks.{IsLockStop, LeavesLocked, of_lock}
use Rattle.entry_locks.specs.declared.locking.Locked.{Locked}
use Rattle.entry_locks.specs.declared.locking.Locked.TheVariants.{Table, Other}
use Rattle.foreign_map.specs.declared.owners.Owners.{Owners}
use Rattle.frame_words.specs.Freeing.{gave}
use Rattle.frame_words.specs.Refs.{IsRefStop, MayPut, took}
use Rattle.frame_types.proofs.Waiting.{err_gives}
use Rattle.table_entries.specs.Acquiring.{GaveRef, GotRef}
use Rattle.mmu_update.specs.Course as courses
use Rattle.mmu_update.specs.Course.{TriedLock}
use Rattle.mmu_update.specs.Elements.{stopped}
use Rattle.mmu_update.specs.Fits.{Updates}
use Rattle.mmu_update.specs.Writing.{MayBeginElement, Ordinary, Referred, UnderLock}
use Rattle.mmu_update.specs.declared.element.Element.TheVariants.{Write}
use Rattle.mmu_update.proofs.Holding.{given_up, leaves_rests, leaves_same, lent_by, no_work}
use Rattle.entry_exchange.proofs.Taking.{hides_none}
use Rattle.mmu_update.proofs.WriteKinds.{lock_kinds, ref_kinds}
use Rattle.mmu_update.proofs.Asking.{write_covers}
use Rattle.mmu_update.proofs.Serving.{referred_serves, referred_stops, unlocked_serves, unlocked_stops}

-- ---- it is not to be had
pub unreferred : {b w : PortValue} {o : Owners} {f i word : ℕ} {keep : Bool} {e : Stop} → MayBeginElement b o → Serves b w (of_frame f o.tables None) (missed b.post.machine e) → IsRefStop e →
    Same b w → GotRef b w f o.tables (Err e) →
    Updates o (Write f i word keep) b w [] (Err e)
unreferred {b} {w} {o} {f} {i} {word} {keep} {e} begins serves kind same got =
    let hand = leaves_same b w (ap quiet same) in
    record {
      serves = (missed b.post.machine e, stopped f i word keep e [] (hides_none e), referred_serves (write_covers o f i word keep (Err e)) b w (missed b.post.machine e) serves);
      stops = referred_stops (write_covers o f i word keep (Err e)) b w e got.stops;
      kinds = ref_kinds e kind;
      numbers = λ x is. absurd cc;
      hand = hand;
      rests = leaves_rests b w begins.rests hand;
      course = courses.unreferred w e got;
    }

-- ---- it was taken
pub referred_by : {b u : PortValue} {o : Owners} {f g : ℕ} → (g ≡ f) × (g < b.post.machine.frames) → MayBeginElement b o → GotRef b u f o.tables (Ok g) → Serves b u (of_frame f o.tables None) [] →
    Holds b u (took g o.tables b.holdings) →
    Referred b u o g
referred_by {b} {u} {o} {f} {g} at begins got serves hand =
    record {
      begins = begins;
      frame = at.1;
      got = subst (λ k. GotRef b u k o.tables (Ok g)) (sym at.0) got;
      serves = subst (λ k. Serves b u (of_frame k o.tables None) []) (sym at.0) serves;
      hand = hand;
    }

-- ---- the frame cannot be locked, and it is given back
module _ {b u : PortValue} {o : Owners} {f : ℕ} (y : PortValue) (r : Referred b u o f) (same : Same u y) where
  pub may_put : MayPut f y.holdings
  may_put = err_gives u y f o.tables (lent_by b u f o.tables r.begins.rests r.hand) (no_work b u f o.tables r.begins.rests r.hand) same

  pub unlocked : {w : PortValue} {i word : ℕ} {keep : Bool} {e : Stop} → Holds y w (gave f y.holdings) → Serves u y (of_lock f o.tables) (missed u.post.machine e) → IsLockStop e →
      TriedLock u y f o.tables (Err e) → Serves y w (of_back f) [] →
      GaveRef y w f → Updates o (Write f i word keep) b w [] (Err e)
  unlocked {w} {i} {word} {keep} {e} gives lock kind tried back gone =
      let hand = given_up b y f o.tables r.begins.rests (same ∙ r.hand) w (ap quiet gives) in
      record {
        serves = unlocked_serves o f i word keep e b u y r.serves w lock back;
        stops = unlocked_stops (write_covers o f i word keep (Err e)) b u y r.serves w e (lock_kinds e kind).2 tried.stops (serves_came y w (of_back f) [] back);
        kinds = (lock_kinds e kind).0;
        numbers = λ x is. absurd cc;
        hand = hand;
        rests = leaves_rests b w r.begins.rests hand;
        course = courses.unlocked u y w e r.got tried gone;
      }

-- ---- it was looked at
module _ {b u y : PortValue} {o : Owners} {f : ℕ} {k : Locked} (r : Referred b u o f) (serves : Serves u y (of_lock f o.tables) []) (tried : TriedLock u y f o.tables (Ok k))
    (hand : LeavesLocked u y f o.tables (Ok k)) where
  abbrev pub under_lock : {level word : ℕ} → k ≡ Table level word → UnderLock b y o f level
  under_lock {level} {word} is =
      record { at = u; found = word; referred = r; tried = subst (λ j. TriedLock u y f o.tables (Ok j)) is tried; serves = serves; holds = subst (λ j. LeavesLocked u y f o.tables (Ok j)) is hand }

  abbrev pub ordinary : {word : ℕ} → k ≡ Other word → Ordinary b y o f
  ordinary {word} is = record {
    at = u;
    found = word;
    referred = r;
    tried = subst (λ j. TriedLock u y f o.tables (Ok j)) is tried;
    serves = serves;
    same = subst (λ j. LeavesLocked u y f o.tables (Ok j)) is hand;
  }
