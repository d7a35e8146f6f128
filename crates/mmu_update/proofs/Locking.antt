-- A table under the own lock, from before the reference on: what is in hand, and all of the write of its entry.
use Rattle.std.proofs.Common.{◌≡◌, ℕ, ◌+◌, if◌then◌else◌, Bool, true, false, List, [], ◌∷◌, None, Some, Result, Ok, Err, IfErr, refl, sym, ap, ◌∙◌, inl, inr}
use Rattle.xp_words.specs.Entries.{is_slot}
use Rattle.xp_words.specs.declared.reply.Refusal.TheVariants as refusals
use Rattle.xp_words.specs.declared.reply.Stop.{Stop}
use Rattle.xp_words.specs.declared.reply.Stop.TheVariants.{Refused}
use Rattle.xp_board.specs.declared.holdings.Lock.{Lock}
use Rattle.xp_board.specs.declared.holdings.Reference.{Reference}
use Rattle.xp_board.specs.Hands.{lock_on, without_lock, without_ref}
use Rattle.xp_board.specs.Lists.{first_by}
use Rattle.xp_board.specs.Told.{PortValue}
use Rattle.xp_board.proofs.Sums.{when_eq}
use Rattle.step_maker.specs.Holds.{Holds, Rests, quiet, still}
use Rattle.step_maker.specs.Moves.{Came}
use Rattle.step_maker.proofs.Coming.{came_trans}
use Rattle.step_maker.specs.Answers.{Serves}
use Rattle.step_maker.specs.Asked.{Request, of_frame}
use Rattle.step_maker.proofs.Piecing.{serves_came}
use Rattle.entry_exchange.specs.Holding.{HoldsLockOf, HoldsTableLock, LeavesExchange, LeavesUnlocked}
use Rattle.entry_exchange.specs.Parts.{EntryExchanged, LockLeft}
use Rattle.entry_locks.specs.Locks.{of_lock}
use Rattle.foreign_map.specs.Owning.{MayMapFor}
use Rattle.foreign_map.specs.declared.owners.Owners.{Owners}
use Rattle.frame_words.proofs.Putting.{without_newest}
use Rattle.partial_state.specs.Levels.{level_type}
use Rattle.mmu_update.specs.Course as courses
use Rattle.mmu_update.specs.Course.{entry_update}
use Rattle.mmu_update.specs.Elements.{LeavesUpdate, stopped}
use Rattle.mmu_update.specs.Fits.{Updates}
use Rattle.mmu_update.specs.Writing.{UnderLock, WritesBy}
use Rattle.mmu_update.specs.declared.element.Element.TheVariants.{Write}
use Rattle.mmu_update.proofs.Entering.{exchanged_serves, exchanged_stops, slot_stops}
use Rattle.entry_exchange.proofs.Staying.{may_map}
use Rattle.mmu_update.proofs.Holding.{leaves_rests, ref_gone}
use Rattle.mmu_update.proofs.WriteKinds.{write_kinds}
use Rattle.mmu_update.proofs.Asking.{Covers, write_covers}
use Rattle.mmu_update.proofs.Serving.{back_behind, locked_serves}
use Rattle.xp_preempt.specs.Gates.{Gate}
use Rattle.xp_preempt.proofs.Consulting.{past_as}

-- what holds of each stop holds of the one that is answered
pub each_stop : (P Q : Stop → Type 0) → ((e : Stop) → P e → Q e) → (answer : Result (Unit {0}) Stop) → IfErr answer P → IfErr answer Q
each_stop P Q more (Ok done) is = tt
each_stop P Q more (Err e) is = more e is

module _ {b y : PortValue} {o : Owners} {f level : ℕ} (a : UnderLock b y o f level) where
  pub rests_b : Rests b
  rests_b = a.referred.begins.rests

  abbrev lock : Lock
  lock = a.holds.lock

  pub first : Came b a.at
  first = serves_came b a.at (of_frame f o.tables None) [] a.referred.serves

  locked_hand : Holds b y (record b.holdings { locks = lock ∷ b.holdings.locks })
  locked_hand =
      a.holds.hand ∙ ap (λ (q : PortValue). still (record q { holdings = record q.holdings { refs = without_ref f q.holdings.refs; locks = lock ∷ q.holdings.locks } })) a.referred.hand
      ∙ ap (λ (rs : List Reference). still (record b { holdings = record b.holdings { refs = rs; locks = lock ∷ b.holdings.locks } })) (ref_gone b a.at f o.tables rests_b a.referred.hand)

  pub no_refs : y.holdings.refs ≡ []
  no_refs = ap (λ (q : PortValue). q.holdings.refs) locked_hand ∙ rests_b.empty.refs

  pub holds_table : HoldsTableLock y f level o.tables
  holds_table =
      record {
        lock = lock;
        locks = ap (λ (q : PortValue). q.holdings.locks) locked_hand ∙ ap (λ (ls : List Lock). lock ∷ ls) rests_b.empty.locks;
        frame = a.holds.is.frame;
        kind = a.holds.is.kind;
        owned = a.holds.is.owned;
        others = record {
          refs = no_refs;
          typed = ap (λ (q : PortValue). q.holdings.typed) locked_hand ∙ rests_b.empty.typed;
          works = ap (λ (q : PortValue). q.holdings.works) locked_hand ∙ rests_b.empty.works;
          locks = refl;
          ending = ap (λ (q : PortValue). q.holdings.ending) locked_hand ∙ rests_b.empty.ending;
          claimed = ap (λ (q : PortValue). q.holdings.claimed) locked_hand ∙ rests_b.empty.claimed;
          raised = ap (λ (q : PortValue). q.holdings.raised) locked_hand ∙ rests_b.empty.raised;
          credits = ap (λ (q : PortValue). q.holdings.credits) locked_hand ∙ rests_b.empty.credits;
          looking = ap (λ (q : PortValue). q.holdings.looking) locked_hand ∙ rests_b.empty.looking;
        };
      }

  pub holds_lock : HoldsLockOf y f level
  unfolding first_by
  holds_lock =
      record {
        lock = lock;
        here = ap (λ (q : PortValue). lock_on f q.holdings.locks) locked_hand ∙ ap (λ c. if c then Some lock else first_by (λ (e : Lock). e.frame) f b.holdings.locks) (when_eq lock.frame f a.holds.is.frame);
        kind = a.holds.is.kind;
      }

  pub maps_still : MayMapFor y o
  maps_still =
      may_map b y o (came_trans b a.at y first (serves_came a.at y (of_lock f o.tables) [] a.serves)) (ap (λ (q : PortValue). q.holdings.turn) locked_hand) a.referred.begins.maps

  module _ {r : Request} {i word : ℕ} {answer : Result (Unit {0}) Stop} (covers : Covers r o f i word answer) where
    pub before : Serves b y r []
    before = locked_serves covers b a.at y [] a.referred.serves a.serves

  -- ---- a slot that is Xen's: the lock is gone
  pub unlocked_hand : (w : PortValue) → LeavesUnlocked y w f → LeavesUpdate b w
  unlocked_hand w (inl gone) = (
    b.holdings.old0,
    b.holdings.old1,
    ap quiet gone ∙ ap (λ (q : PortValue). quiet (record q { holdings = record q.holdings { locks = without_lock f q.holdings.locks } })) locked_hand
        ∙ ap (λ (ls : List Lock). quiet (record b { holdings = record b.holdings { locks = ls } })) (without_newest (λ (e : Lock). e.frame) f lock b.holdings.locks a.holds.is.frame),
  )
  unlocked_hand w (inr gone) = (
    b.holdings.old0,
    Some (f + 1),
    ap quiet gone ∙ ap (λ (q : PortValue). quiet (record q { holdings = record q.holdings { locks = without_lock f q.holdings.locks; old1 = Some (f + 1) } })) locked_hand
        ∙ ap (λ (ls : List Lock). quiet (record b { holdings = record b.holdings { locks = ls; old1 = Some (f + 1) } })) (without_newest (λ (e : Lock). e.frame) f lock b.holdings.locks a.holds.is.frame),
  )

  pub slot_updates : {w : PortValue} {i word : ℕ} {keep : Bool} → is_slot (level_type level) i ≡ true → LockLeft y w f level → Updates o (Write f i word keep) b w [] (Err (Refused (refusals.Slot i)))
  slot_updates {w} {i} {word} {keep} on left =
      let e = Refused (refusals.Slot i) in
      let hand = unlocked_hand w left.hand in
      record {
        serves = ([], stopped f i word keep e [] refl, back_behind (write_covers o f i word keep (Err e)) b y [] (before (write_covers o f i word keep (Err e))) w left.serves);
        stops = slot_stops o f level i word a.found keep b a.at y a.tried.found w first left.came on;
        kinds = tt;
        numbers = λ x is. absurd cc;
        hand = hand;
        rests = leaves_rests b w rests_b hand;
        course = courses.slot a.at y w level a.found a.referred.got a.tried on left.course;
      }

  -- ---- an entry that is the guest's
  pub exchanged_hand : (w : PortValue) → LeavesExchange y w → LeavesUpdate b w
  exchanged_hand w (c, d, leaves) = (
    c,
    d,
    leaves ∙ ap (λ (q : PortValue). quiet (record q { holdings = record q.holdings { locks = []; old0 = c; old1 = d } })) locked_hand
        ∙ ap (λ (ls : List Lock). quiet (record b { holdings = record b.holdings { locks = ls; old0 = c; old1 = d } })) (sym rests_b.empty.locks),
  )

  pub exchanged_writes : {w : PortValue} {i word : ℕ} {keep : Bool} {g h : Gate} {answer : Result (Unit {0}) Stop} → is_slot (level_type level) i ≡ false →
      EntryExchanged y w (entry_update f level i word keep) o g h answer → WritesBy b w o f i word keep g h answer
  exchanged_writes {w} {i} {word} {keep} {answer = answer} off did =
      past_as (λ on. on) (λ xs by. record {
        serves = exchanged_serves o f level i word keep answer b y w (before (write_covers o f i word keep answer)) did.serves;
        stops = each_stop _ _ (λ e z. exchanged_stops (write_covers o f i word keep answer) level keep b y w (before (write_covers o f i word keep answer)) e rests_b no_refs z) answer did.stops;
        kinds = write_kinds answer did.kinds;
        numbers = λ x is. absurd cc;
        hand = exchanged_hand w did.hand;
        rests = did.rests;
        course = courses.exchanged a.at y w level a.found xs answer a.referred.got a.tried off by;
      }) did.course
