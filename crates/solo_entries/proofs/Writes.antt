-- A write, from a port at which nothing is left to be settled, comes to its plain meaning, where it is not paused.
use Rattle.solo_entries.specs.Exchanges.{ComesSo, HasTwoTypeCounts, now}
use Rattle.std.proofs.Common.{◌≡◌, ◌⊎◌, ◌≤◌, ◌<◌, ℕ, zero, suc, ◌&&◌, nat_lt, if◌then◌else◌, Bool, true, false, List, length, Result, Ok, Err, IsTrue, refl, sym, ap, ◌∙◌, subst, arith, not, inl, inr}
use Rattle.std.proofs.lemmas.Bool.{and_parts}
use Rattle.xp_words.specs.Entries.{is_slot}
use Rattle.xp_words.specs.Machine.{IsMachine, Machine}
use Rattle.xp_words.specs.PageTypes.{is_table, type_number}
use Rattle.xp_words.specs.declared.reply.Pause.TheVariants as pauses
use Rattle.xp_words.specs.declared.reply.Refusal.TheVariants as refusals
use Rattle.xp_words.specs.declared.reply.Stop.{Stop}
use Rattle.xp_words.specs.declared.reply.Stop.TheVariants.{Refused, Paused}
use Rattle.xp_board.specs.KindSteps.{locked_kind}
use Rattle.xp_board.specs.Told.{Post, PortValue, is_telling, told_word}
use Rattle.step_maker.specs.Moves.{Came}
use Rattle.step_maker.proofs.Coming.{came_post, met_after, same_machine}
use Rattle.step_maker.proofs.Telling.{came_telling}
use Rattle.answer_laws.proofs.Shared.{alone_telling}
use Rattle.entry_exchange.specs.Course.{Exchanged, LeftLock}
use Rattle.entry_exchange.specs.Holding.{owner_at}
use Rattle.entry_exchange.specs.Words.{word_kept}
use Rattle.entry_exchange.specs.declared.exchanging.EntryUpdate.{EntryUpdate}
use Rattle.entry_locks.specs.Locks.{of_lock, is_lockable}
use Rattle.entry_locks.specs.declared.locking.Locked.TheVariants.{Table}
use Rattle.exchange_laws.specs.Plain.{exchanged_plain, place_in}
use Rattle.exchange_laws.proofs.Unlocking.{lock_came}
use Rattle.foreign_map.specs.declared.owners.Owners.{Owners}
use Rattle.mmu_update.specs.Course.{TriedLock, entry_update}
use Rattle.partial_state.specs.Levels.{level_type}
use Rattle.partial_state.proofs.LevelFacts.{level_type-number}
use Rattle.table_entries.specs.Acquiring.{GotRef}
use Rattle.table_entries.proofs.Shared.{ref_came}
use Rattle.table_words.specs.OldWords.{old_place}
use Rattle.table_words.specs.declared.old_words.OldWord.TheVariants.{First, Second}
use Rattle.table_law.specs.Alone.{fine, take_reference}
use Rattle.table_law.specs.Lawful.{IsAtRest}
use Rattle.table_law.specs.Plain.{Describes, Plain, raised_share, with_share}
use Rattle.course_laws.specs.Courses.{ClockGoesOn}
use Rattle.course_laws.proofs.Extras.{described_same}
use Rattle.script_law.specs.Frames.{exchange_at, under_lock, write_by, write_entry, write_memory, write_word}
use Rattle.script_law.specs.Values.{Numbers, Outcome, Solo, behind, did, looked_by, stopped, with_frames}
use Rattle.solo_ports.specs.Coming.{ComesUnpaused}
use Rattle.solo_ports.specs.Standing.{Clean, IsUnkept, Owes}
use Rattle.solo_ports.proofs.Resting.{clean_rests}
use Rattle.solo_ports.proofs.Unkept.{unkept_kind}
use Rattle.solo_entries.proofs.Holding.{off}
use Rattle.solo_entries.proofs.Known.{Known}
use Rattle.solo_entries.proofs.Locking.{at_y, calm_y, can_lock, came_y, held_y, kind_is, lends, lock_goes, lock_leaves, off_again}
use Rattle.solo_entries.proofs.Mapping.{fine_by, unlooked}
use Rattle.solo_entries.proofs.Olds.{keeps_then, locked_keeps, ref_keeps, three_five, three_four, two_five, two_four}
use Rattle.solo_entries.proofs.Standing.{KeepsOthers, owes_same}
use Rattle.solo_entries.proofs.Stopping.{IsNotLost}
use Rattle.solo_entries.proofs.Unkept.{unkept_exchanged}
use Rattle.solo_entries.proofs.Writing.{ComesBesideSecond, PausedExchange, exchange_ends, outcome_comes, owes_left}

-- the gate paused it: behind the lock of a live table the acquisition of the table that the new word asked was paused, and the lock taken off
pub record PausedWrite (v w : PortValue) (o : Owners) (f i word : ℕ) (keep : Bool) (answers : List Bool) (r : Result (Unit {0}) Stop) : Type 0 where
  pub referred : PortValue
  pub held : PortValue
  pub level : ℕ
  pub found : ℕ
  pub ref : GotRef v referred f o.tables (Ok f)
  pub lock : TriedLock referred held f o.tables (Ok (Table level found))
  pub low : 1 ≤ level
  pub high : level ≤ 4
  pub open_slot : is_slot (level_type level) i ≡ false
  pub paused : PausedExchange held w (entry_update f level i word keep) o answers r

-- ---- levels
low_by : (level : ℕ) → IsTrue (is_table (level_type level)) → 1 ≤ level
low_by zero is = absurd cc
low_by (suc l) is = omega arith

module _ (k : Known) (v w : PortValue) (x : Solo) (o : Owners) (f i word : ℕ) (keep : Bool) (clean : Clean v x) (goes : ClockGoesOn v w) (others : KeepsOthers v w x) where
  abbrev n : Machine
  n = v.post.machine

  abbrev p : Plain
  p = x.frames

  telling : is_telling v ≡ true
  telling = alone_telling v clean.stands.alone

  -- ---- the reference is not to be had
  pub unreferred : (e : Stop) → GotRef v w f o.tables (Err e) → ComesUnpaused w (write_word n o f i word keep x) (Err e)
  unreferred (Refused z) ref =
      unlooked k v w x clean o.tables f z (λ s. write_by n o f i word keep s (s.frames.kinds f)) (ref.plain telling).0 (owes_same k v w x clean others.came (ref.plain telling).1 others.rests)
  unreferred (Paused z) ref = absurd (ref.plain telling)

  -- ---- the frame is in nobody else's hands
  pub unlocked : (u y : PortValue) (e : Stop) → GotRef v u f o.tables (Ok f) → TriedLock u y f o.tables (Err e) → ⊥
  unlocked u y (Paused (pauses.Busy g z)) ref lock = k.neither u y (of_lock f o.tables) (pauses.Busy g z) (k.stays v u clean.stands.alone (ref_came v u f o.tables (Ok f) ref)) refl lock.stops
  unlocked u y (Paused _) ref lock = lock.plain (came_telling v u (ref_came v u f o.tables (Ok f) ref) ∙ telling)
  unlocked u y (Refused z) ref lock = lock.plain (came_telling v u (ref_came v u f o.tables (Ok f) ref) ∙ telling)

  -- ---- a live table
  module _ (u y : PortValue) (level found : ℕ) (ref : GotRef v u f o.tables (Ok f)) (lock : TriedLock u y f o.tables (Ok (Table level found))) where
    abbrev calm : IsAtRest v.post.machine (told_word v)
    calm = clean_rests v x clean

    abbrev more : Plain
    more = with_share f (raised_share (lends k v u y x.frames o.tables f level found clean.stands.machine clean.stands.alone (clean_rests v x clean) clean.frames ref lock).share) x.frames

    abbrev q : Plain
    q = under_lock f more

    takes : take_reference n o.tables f p ≡ fine more
    takes = (lends k v u y p o.tables f level found clean.stands.machine clean.stands.alone calm clean.frames ref lock).is

    pub lockable : is_lockable (p.kinds f) ≡ true
    lockable = can_lock k v u y p o.tables f level found clean.stands.machine clean.stands.alone calm clean.frames ref lock

    pub typed : (p.kinds f).kind ≡ level_type level
    typed = kind_is k v u y p o.tables f level found clean.stands.machine clean.stands.alone calm clean.frames ref lock

    held : HasTwoTypeCounts f q
    held = held_y k v u y p o.tables f level found clean.stands.machine clean.stands.alone calm clean.frames ref lock

    described : Describes n (told_word y) q
    described = at_y k v u y p o.tables f level found clean.stands.machine clean.stands.alone calm clean.frames ref lock

    to_y : Came v y
    to_y = came_y k v u y p o.tables f level found clean.stands.machine clean.stands.alone calm clean.frames ref lock

    pub low : 1 ≤ level
    low = low_by level (subst (λ t. IsTrue (is_table t)) typed (and_parts (is_table (p.kinds f).kind) (p.kinds f).validated (and_parts (is_table (p.kinds f).kind && (p.kinds f).validated) (not (p.kinds f).locked && nat_lt 0 (p.kinds f).number) lockable).0).0)

    keeps_first : told_word y (old_place y.post.vcpu First) ≡ 0
    keeps_first =
        let a = keeps_then v.post.vcpu 2 two_four two_five (ref_keeps v.post.vcpu 2 two_four two_five v u f o.tables (Ok f) ref) (locked_keeps v.post.vcpu 2 two_four two_five u y f o.tables (Ok (Table level found)) lock) telling in
        subst (λ (j : Post). told_word y (old_place j.vcpu First) ≡ 0) (sym (came_post v y to_y)) (a.same ∙ clean.first)

    keeps_second : told_word y (old_place v.post.vcpu Second) ≡ told_word v (old_place v.post.vcpu Second)
    keeps_second =
        (keeps_then v.post.vcpu 3 three_four three_five (ref_keeps v.post.vcpu 3 three_four three_five v u f o.tables (Ok f) ref) (locked_keeps v.post.vcpu 3 three_four three_five u y f o.tables (Ok (Table level found)) lock) telling).same

    -- what the write is then
    abbrev pub here : Bool → Outcome
    here b = if b then stopped (Numbers (refusals.Slot i)) x else write_entry n o f i word keep x

    pub is_here : write_word n o f i word keep x ≡ here (is_slot (level_type level) i)
    is_here =
        ap (λ t. looked_by t x (λ s. write_by n o f i word keep s (s.frames.kinds f))) (fine_by k v y x clean o.tables f (ref.plain telling).0)
        ∙ (ap (λ b. if b then here (is_slot (p.kinds f).kind i) else write_memory n o.tables f i word x) lockable ∙ ap (λ t. here (is_slot t i)) typed)

    -- ---- the lock goes off again, and nothing is changed
    machine_y : y.post.machine ≡ n
    machine_y = same_machine v y to_y

    telling_y : is_telling y ≡ true
    telling_y = came_telling v y to_y ∙ telling

    off_first : LeftLock y f level w → told_word w (old_place w.post.vcpu First) ≡ 0
    off_first gone =
        subst (λ (j : Post). told_word w (old_place j.vcpu First) ≡ 0) (sym (came_post y w (lock_came y w f level gone)))
        (lock_leaves n y w f level q machine_y telling_y described held gone (old_place y.post.vcpu First) refl (λ e. cc) ∙ keeps_first)

    off_second : LeftLock y f level w → told_word w (old_place v.post.vcpu Second) ≡ told_word v (old_place v.post.vcpu Second)
    off_second gone = lock_leaves n y w f level q machine_y telling_y described held gone (old_place v.post.vcpu Second) refl (λ e. cc) ∙ keeps_second

    off_frames : LeftLock y f level w → Describes n (told_word w) p
    off_frames gone =
        described_same n (told_word w) (off f q) p (off_again k v u y p o.tables f level found clean.stands.machine clean.stands.alone calm clean.frames ref lock)
        (lock_goes n y w f level q machine_y telling_y described held low gone)

    pub slot_left : LeftLock y f level w → Owes w x
    slot_left gone = owes_left k v w x clean.stands others (off_second gone) p clean.stands.unkept (now (off_first gone) (off_frames gone))

    -- ---- its entry is exchanged
    abbrev t : EntryUpdate
    t = entry_update f level i word keep

    inside : f < n.frames
    inside = (lends k v u y p o.tables f level found clean.stands.machine clean.stands.alone calm clean.frames ref lock).inside

    unkept_q : IsUnkept n q
    unkept_q = unkept_kind n f (locked_kind (p.kinds f)) more (clean.stands.unkept f inside) clean.stands.unkept

    module _ (high : level ≤ 4) where
      entry_is : write_entry n o f i word keep x ≡ behind (with_frames more x) (exchanged_plain n t o q) did
      entry_is =
          ap (λ a. behind x a (λ s. exchange_at n o (type_number (s.frames.kinds f).kind) f i word keep s)) takes
          ∙ ap (λ l. exchange_at n o l f i word keep (with_frames more x)) (ap type_number typed ∙ level_type-number level low high)

      entry_ends : (answers : List Bool) (answer : Result (Unit {0}) Stop) → IsNotLost answer → Exchanged y t o w answers answer → PausedExchange y w t o answers answer ⊎ ComesBesideSecond y.post.machine y w (exchanged_plain y.post.machine t o q) answer
      entry_ends answers answer unlost went =
          exchange_ends k y w t o q (subst IsMachine (sym machine_y) clean.stands.machine) (k.stays v y clean.stands.alone to_y) (subst (λ (j : Machine). length j.vcpu_domain ≡ 1) (sym machine_y) clean.stands.only)
          (subst (λ (j : Machine). IsAtRest j (told_word y)) (sym machine_y) (calm_y k v u y p o.tables f level found clean.stands.machine clean.stands.alone calm clean.frames ref lock)) keeps_first
          (subst (λ (j : Machine). Describes j (told_word y) q) (sym machine_y) described) held low high (λ m met at. goes m (met_after v y w m to_y met) at) answers answer unlost went

      ends_second : told_word w (old_place y.post.vcpu Second) ≡ told_word y (old_place y.post.vcpu Second) → told_word w (old_place v.post.vcpu Second) ≡ told_word v (old_place v.post.vcpu Second)
      ends_second same = subst (λ (j : Post). told_word w (old_place j.vcpu Second) ≡ told_word y (old_place j.vcpu Second)) (came_post v y to_y) same ∙ keeps_second

      ends_so : (answer : Result (Unit {0}) Stop) → ComesBesideSecond y.post.machine y w (exchanged_plain y.post.machine t o q) answer → ComesUnpaused w (write_entry n o f i word keep x) answer
      ends_so answer c =
          subst (λ a. ComesUnpaused w a answer) (sym entry_is)
          (outcome_comes k v w x clean.stands others (ends_second c.second) (exchanged_plain n t o q) more answer
          (unkept_exchanged n (owner_at level o.tables o.frames) (place_in t) (word_kept keep (p.cells f i) word) q unkept_q)
          (subst (λ (j : Machine). ComesSo j w (exchanged_plain j t o q) answer) machine_y c.comes))

      pub entry_comes : (answers : List Bool) (answer : Result (Unit {0}) Stop) → Exchanged y (entry_update f level i word keep) o w answers answer → IsNotLost answer →
          PausedExchange y w (entry_update f level i word keep) o answers answer ⊎ ComesUnpaused w (write_entry n o f i word keep x) answer
      entry_comes answers answer went unlost = elim (entry_ends answers answer unlost went) [
        | inl paused ↦ inl paused
        | inr c ↦ inr (ends_so answer c)
      ]
