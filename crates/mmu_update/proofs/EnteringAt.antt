-- The table to which an address led: its entry is exchanged, or why not; and the same from before the loads on.
use Rattle.std.proofs.Common.{◌≡◌, ◌≢◌, ℕ, zero, suc, ◌==◌, ◌&&◌, ◌||◌, not, nat_lt, Bool, true, false, [], None, Result, Ok, Err, IsTrue, refl, sym, ap, ◌∙◌, subst, inr, arith}
use Rattle.std.proofs.lemmas.Bool.Decides.{nat_tests}
use Rattle.xp_words.specs.KindWords.{kind_fields}
use Rattle.xp_words.specs.PageTypes.{is_table}
use Rattle.xp_words.specs.declared.kind.PageType.{PageType}
use Rattle.xp_words.specs.declared.kind.PageType.TheVariants as types
use Rattle.xp_words.specs.declared.place.Place.TheVariants.{Kind}
use Rattle.xp_words.specs.declared.reply.Refusal.TheVariants as refusals
use Rattle.xp_words.specs.declared.reply.Stop.{Stop}
use Rattle.xp_words.specs.declared.reply.Stop.TheVariants.{Refused}
use Rattle.xp_board.specs.Readings.{is_live_as, is_type}
use Rattle.xp_board.specs.Told.{PortValue}
use Rattle.step_maker.specs.Holds.{Holds, Same, quiet}
use Rattle.step_maker.specs.Moves.{Came, Met}
use Rattle.step_maker.specs.Answers.{Serves, Stops, missed}
use Rattle.step_maker.specs.Asked.{of_back, of_frame}
use Rattle.step_maker.specs.Finding.{FoundAt}
use Rattle.step_maker.specs.Visits.{Does}
use Rattle.step_maker.proofs.Changing.{found_after, found_before}
use Rattle.step_maker.proofs.Piecing.{serves_came}
use Rattle.entry_exchange.specs.Asking as exchanges
use Rattle.entry_exchange.specs.Parts.{EntryExchanged, LockLeft}
use Rattle.entry_exchange.proofs.Taking.{hides_none}
use Rattle.entry_locks.specs.Locks.{IsLockStop, is_lockable, is_worked_on, of_lock}
use Rattle.entry_locks.specs.declared.locking.Locked.TheVariants.{Other}
use Rattle.foreign_map.specs.declared.owners.Owners.{Owners}
use Rattle.frame_words.specs.Freeing.{gave}
use Rattle.frame_words.specs.Refs.{IsRefStop}
use Rattle.partial_state.specs.Levels.{level_type}
use Rattle.table_entries.specs.Acquiring.{GaveRef, GotRef}
use Rattle.tlb_walks.specs.Addresses.{index_of}
use Rattle.mmu_update.specs.Addresses as ways
use Rattle.mmu_update.specs.Addresses.{IsAtStop, of_at}
use Rattle.mmu_update.specs.Course.{TriedLock, entry_update}
use Rattle.mmu_update.specs.Elements.{IsWriteStop}
use Rattle.mmu_update.specs.UpdatesAt.{EntersAt, EntersAtBy}
use Rattle.mmu_update.specs.Writing.{MayBeginElement, Ordinary, Referred, UnderLock}
use Rattle.mmu_update.proofs.Asking.{at_covers}
use Rattle.mmu_update.proofs.Entering.{exchanged_shows, exchanged_stops, found_first, locked_there}
use Rattle.mmu_update.proofs.Holding.{given_up, leaves_rests, leaves_same}
use Rattle.mmu_update.proofs.Locking as locks
use Rattle.mmu_update.proofs.Locking.{before, each_stop, exchanged_hand, unlocked_hand}
use Rattle.mmu_update.proofs.Serving.{back_behind, referred_serves, referred_stops, unlocked_by, unlocked_stops}
use Rattle.mmu_update.proofs.WriteKinds.{lock_kinds, ref_kinds, write_kinds}
use Rattle.xp_preempt.specs.Gates.{Gate}
use Rattle.xp_preempt.proofs.Consulting.{past_as}

at_kind : (e : Stop) → IsWriteStop e → IsAtStop e
at_kind (Refused refusals.NonCanonical) is = absurd is
at_kind (Refused (refusals.NotMapped level entry)) is = absurd is
at_kind _ is = is

-- ---- the reference is not to be had
pub at_unreferred : {b w : PortValue} {o : Owners} {va table word : ℕ} {e : Stop} → MayBeginElement b o → Serves b w (of_frame table o.tables None) (missed b.post.machine e) → IsRefStop e → Same b w →
    GotRef b w table o.tables (Err e) → EntersAt o va table word b w [] (Err e)
at_unreferred {b} {w} {o} {va} {table} {word} {e} begins serves kind same got =
    let hand = leaves_same b w (ap quiet same) in
    record {
      serves = (missed b.post.machine e, exchanges.stopped e [] (hides_none e), referred_serves (at_covers o va table word (Err e)) b w (missed b.post.machine e) serves);
      stops = referred_stops (at_covers o va table word (Err e)) b w e got.stops;
      kinds = at_kind e (ref_kinds e kind);
      hand = hand;
      rests = leaves_rests b w begins.rests hand;
      course = ways.unreferred w e got;
    }

-- ---- no live table of level 1, by its kind word
off_by : (b : Bool) → not (b && false) ≡ true
off_by true = refl
off_by false = refl

live_by : (v p l some none : Bool) → (some ≡ false → none ≡ true) → (v && (not l && some)) ≡ false → ((not v && (not p && l)) || ((v && l) || (v && none))) ≡ false → v ≡ false
live_by false p l some none one free unworked = refl
live_by true p true some none one free unworked = absurd cc
live_by true p false true none one free unworked = absurd cc
live_by true p false false none one free unworked = absurd (let on = one refl in cc)

one_of : (n : ℕ) → nat_lt 0 n ≡ false → (n == 0) ≡ true
one_of n off = grind (arith, nat_tests)

no_table_by : (t : PageType) (v p l : Bool) (n : ℕ) → ((is_table t && v) && (not l && nat_lt 0 n)) ≡ false → (is_table t && ((not v && (not p && l)) || ((v && l) || (v && (n == 0))))) ≡ false → not (v && is_type t types.L1) ≡ true
no_table_by types.L1 v p l n free unworked = let dead : v ≡ false = live_by v p l (nat_lt 0 n) (n == 0) (one_of n) free unworked in rw dead refl
no_table_by types.None v p l n free unworked = off_by v
no_table_by types.L2 v p l n free unworked = off_by v
no_table_by types.L3 v p l n free unworked = off_by v
no_table_by types.L4 v p l n free unworked = off_by v
no_table_by types.Desc v p l n free unworked = off_by v
no_table_by types.Writable v p l n free unworked = off_by v

no_table : (x : ℕ) → is_lockable (kind_fields x) ≡ false → is_worked_on (kind_fields x) ≡ false → IsTrue (not (is_live_as types.L1 x))
no_table x free unworked = let k = kind_fields x in no_table_by k.kind k.validated k.partial k.locked k.number free unworked

other_level : (b : Bool) (level : ℕ) → level ≢ 1 → not (b && is_type (level_type level) types.L1) ≡ true
other_level true zero other = refl
other_level true (suc zero) other = absurd (other refl)
other_level true (suc (suc zero)) other = refl
other_level true (suc (suc (suc zero))) other = refl
other_level true (suc (suc (suc (suc l)))) other = refl
other_level false level other = refl

-- a frame that is none is refused
other_stops : (b w : PortValue) (o : Owners) (va table word found : ℕ) → FoundAt (Met b w) (Kind table) found → IsTrue (not (is_live_as types.L1 found)) →
    Stops b w (of_at o va table word (Err (Refused (refusals.OtherType table types.L1 found)))) (Refused (refusals.OtherType table types.L1 found))
unfolding Stops
other_stops b w o va table word found there off = inr ((at_covers o va table word (Err (Refused (refusals.OtherType table types.L1 found)))).names, (index_of va 1, refl), there, refl, refl, off)

-- ---- it cannot be locked, or is no live table: the reference is given back
module _ {b u : PortValue} {o : Owners} {table : ℕ} (y : PortValue) (r : Referred b u o table) (same : Same u y) {w : PortValue} (gives : Holds y w (gave table y.holdings)) (back : Serves y w (of_back table) [])
    (gone : GaveRef y w table) where
  pub at_unlocked : {va word : ℕ} {e : Stop} → Serves u y (of_lock table o.tables) (missed u.post.machine e) → IsLockStop e → TriedLock u y table o.tables (Err e) → EntersAt o va table word b w [] (Err e)
  at_unlocked {va} {word} {e} lock kind tried =
      let hand = given_up b y table o.tables r.begins.rests (same ∙ r.hand) w (ap quiet gives) in
      let covers = at_covers o va table word (Err e) in
      record {
        serves = (missed b.post.machine e, exchanges.stopped e [] (hides_none e), unlocked_by covers b u y r.serves w e lock back);
        stops = unlocked_stops covers b u y r.serves w e (lock_kinds e kind).2 tried.stops (serves_came y w (of_back table) [] back);
        kinds = at_kind e (lock_kinds e kind).0;
        hand = hand;
        rests = leaves_rests b w r.begins.rests hand;
        course = ways.unlocked u y w e r.got tried gone;
      }

  module _ {found : ℕ} (lock : Serves u y (of_lock table o.tables) []) (tried : TriedLock u y table o.tables (Ok (Other found))) where
    looked : FoundAt (Met b w) (Kind table) found × IsTrue (not (is_live_as types.L1 found))
    unfolding Does
    looked =
        let by = tried.found.2 in (
          found_before b y w _ _ (serves_came y w (of_back table) [] back)
              (found_after b u y _ _ (serves_came b u (of_frame table o.tables None) [] r.serves) (found_first u y tried.found.0 _ _ tried.found.1 by.2)),
          no_table found by.0 by.1,
        )

    pub at_other : {va word : ℕ} → EntersAt o va table word b w [] (Err (Refused (refusals.OtherType table types.L1 found)))
    at_other {va} {word} =
        let e = Refused (refusals.OtherType table types.L1 found) in
        let hand = given_up b y table o.tables r.begins.rests (same ∙ r.hand) w (ap quiet gives) in
        record {
          serves = ([], exchanges.stopped e [] refl, unlocked_by (at_covers o va table word (Err e)) b u y r.serves w e lock back);
          stops = other_stops b w o va table word found looked.0 looked.1;
          kinds = tt;
          hand = hand;
          rests = leaves_rests b w r.begins.rests hand;
          course = ways.other u y w found r.got tried gone;
        }

pub at_ordinary : {b y w : PortValue} {o : Owners} {table va word : ℕ} (a : Ordinary b y o table) → Holds y w (gave table y.holdings) → Serves y w (of_back table) [] → GaveRef y w table →
    EntersAt o va table word b w [] (Err (Refused (refusals.OtherType table types.L1 a.found)))
at_ordinary {b} {y} a gives back gone = at_other y a.referred a.same gives back gone a.serves a.tried

-- ---- a table under the own lock
module _ {b y : PortValue} {o : Owners} {table level : ℕ} (a : UnderLock b y o table level) where
  locked_stops : (w : PortValue) (va word : ℕ) → level ≢ 1 → Came y w → Stops b w (of_at o va table word (Err (Refused (refusals.OtherType table types.L1 a.found)))) (Refused (refusals.OtherType table types.L1 a.found))
  locked_stops w va word other later =
      let there = locked_there table level a.found a.at y a.tried.found in
      other_stops b w o va table word a.found (found_before b y w _ _ later (found_after b a.at y _ _ (locks.first a) there.0))
      (subst (λ t. IsTrue (not ((kind_fields a.found).validated && is_type t types.L1))) (sym there.2) (other_level (kind_fields a.found).validated level other))

  -- of another level: the lock is taken off again
  pub at_level : {w : PortValue} {va word : ℕ} → level ≢ 1 → LockLeft y w table level → EntersAt o va table word b w [] (Err (Refused (refusals.OtherType table types.L1 a.found)))
  at_level {w} {va} {word} other left =
      let e = Refused (refusals.OtherType table types.L1 a.found) in
      let covers = at_covers o va table word (Err e) in
      let hand = unlocked_hand a w left.hand in
      record {
        serves = ([], exchanges.stopped e [] refl, back_behind covers b y [] (before a covers) w left.serves);
        stops = locked_stops w va word other left.came;
        kinds = tt;
        hand = hand;
        rests = leaves_rests b w (locks.rests_b a) hand;
        course = ways.level a.at y w level a.found a.referred.got a.tried other left.course;
      }

-- of level 1: its entry is exchanged
pub at_exchanged : {b y w : PortValue} {o : Owners} {table va i word : ℕ} (a : UnderLock b y o table 1) {g h : Gate} {answer : Result (Unit {0}) Stop} → i ≡ index_of va 1 →
    EntryExchanged y w (entry_update table 1 i word false) o g h answer → EntersAtBy b w o va table word g h answer
at_exchanged {b} {y} {w} {o} {table} {va} {i} {word} a {g} {h} {answer} here exchange =
    let did = subst (λ k. EntryExchanged y w (entry_update table 1 k word false) o g h answer) here exchange in
    let covers = at_covers o va table word answer in
    let shows = exchanged_shows covers 1 false b y w (before a covers) did.serves in
    past_as (λ on. on) (λ xs by. record {
      serves = (did.serves.0, shows.0, shows.1);
      stops = each_stop _ _ (λ e z. exchanged_stops covers 1 false b y w (before a covers) e (locks.rests_b a) (locks.no_refs a) z) answer did.stops;
      kinds = each_stop _ _ at_kind answer (write_kinds answer did.kinds);
      hand = exchanged_hand a w did.hand;
      rests = did.rests;
      course = ways.exchanged a.at y w a.found xs answer a.referred.got a.tried by;
    }) did.course
