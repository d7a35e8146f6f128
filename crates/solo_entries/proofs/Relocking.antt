-- The lock of a live table goes off, and is taken again: the words are then those that were there.
use Rattle.solo_entries.specs.Kept.{IsUnlockedTable}
use Rattle.solo_entries.proofs.Lasting.{IsLockedIn}
use Rattle.solo_entries.proofs.Standing.{is_counting, put_same}
use Rattle.std.proofs.Common.{◌≡◌, ◌≢◌, ◌<◌, ◌≤◌, ℕ, ◌+◌, ◌-◌, ◌%◌, ◌^◌, ◌==◌, ◌&&◌, not, nat_lt, nat_le, if◌then◌else◌, Bool, true, false, Some, None, Ok, Err, refl, sym, ap, ◌∙◌, subst, arith, inl, inr, ◌⊎◌}
use Rattle.std.proofs.lemmas.Bool.{and_parts}
use Rattle.std.proofs.lemmas.Bool.Decides.{nat_tests}
use Rattle.xp_words.specs.KindWords.{kind_fields, kind_write}
use Rattle.xp_words.specs.Machine.{Machine}
use Rattle.xp_words.specs.PageTypes.{is_table}
use Rattle.xp_words.specs.RefWords.{ref_read, ref_write}
use Rattle.xp_words.specs.declared.kind.KindWord.{KindWord}
use Rattle.xp_words.specs.declared.place.Place.{Place}
use Rattle.xp_words.specs.declared.place.Place.TheVariants.{Kind, Refs}
use Rattle.xp_words.specs.declared.refs.RefWord.TheVariants.{Owned}
use Rattle.xp_words.specs.declared.reply.Refusal.{Refusal}
use Rattle.xp_words.specs.declared.reply.Refusal.TheVariants as refusals
use Rattle.xp_words.specs.declared.reply.Stop.{Stop}
use Rattle.xp_words.specs.declared.reply.Stop.TheVariants.{Paused, Refused}
use Rattle.xp_words.proofs.RefLaws.{ref_write-read}
use Rattle.xp_board.specs.Acts.{left_by}
use Rattle.xp_board.specs.KindSteps.{locked_kind, unlocked_down}
use Rattle.xp_board.specs.Readings.{kind_at, owner_of, ref_count}
use Rattle.xp_board.specs.RefSteps.{one_down, owner_number}
use Rattle.xp_board.specs.Told.{PortValue, is_telling, told_word}
use Rattle.xp_board.specs.declared.step.Act.{Act}
use Rattle.xp_board.specs.declared.step.Act.TheVariants.{Add, Store}
use Rattle.xp_board.proofs.KindForms.{fields_unlocked}
use Rattle.xp_board.proofs.PlaceTests.{is_same-other, is_same-refl, same_or_other}
use Rattle.xp_board.proofs.RefWords.{owned_says, read_small}
use Rattle.step_maker.specs.Answers.{Stops}
use Rattle.step_maker.specs.Asked.{of_frame}
use Rattle.step_maker.specs.Plain.{Words, change}
use Rattle.step_maker.specs.Twins.{Alike, IsAlikeKind, IsAlikeRef}
use Rattle.step_maker.proofs.Alikes.{alike_store, alike_trans, same_alike}
use Rattle.step_maker.proofs.Coming.{moves_came}
use Rattle.step_maker.proofs.Telling.{came_telling, told_elsewhere, told_here, told_there}
use Rattle.answer_laws.specs.Alone.{IsAlone}
use Rattle.answer_laws.proofs.Shared.{alone_telling}
use Rattle.entry_exchange.specs.Course as course
use Rattle.entry_exchange.specs.Course.{LeftLock}
use Rattle.entry_locks.specs.Locks.{is_lockable, Unlocks}
use Rattle.entry_locks.specs.Plain.{with_lock}
use Rattle.entry_locks.specs.declared.locking.Locked.TheVariants.{Other, Table}
use Rattle.exchange_laws.proofs.Unlocking.{without_lock}
use Rattle.frame_words.specs.Plain.{got, lowered, one_more, refer, refer_by, set_free}
use Rattle.kind_words.proofs.KindFacts.{IsKindFound, kind_found}
use Rattle.mmu_update.specs.Course.{TriedLock}
use Rattle.partial_state.specs.Levels.{level_type}
use Rattle.partial_state.proofs.LevelFacts.{level_type-table}
use Rattle.table_entries.specs.Acquiring.{GaveRef, GotRef}
use Rattle.table_entries.proofs.Shared.{ref_came}
use Rattle.table_law.specs.Plain.{Share, share_in, share_of}
use Rattle.table_law.proofs.Describing.{owns_word}
use Rattle.table_twins.proofs.Sharing.{lower_word, share_owned}
use Rattle.course_laws.specs.Courses.{IsOrderly}
use Rattle.course_laws.proofs.Awaiting.{alone_orderly}
use Rattle.pause_laws.specs.Calls.{HasRoom}
use Rattle.pause_laws.proofs.Repeating.{full_word}

-- ---- one word changes
changed_here : (a : Act) (p : Place) (m : Words) → change a p m p ≡ left_by a (m p)
changed_here a p m = ap (λ b. if b then left_by a (m p) else m p) (is_same-refl p)

changed_there : (a : Act) (p q : Place) (m : Words) → q ≢ p → change a p m q ≡ m q
changed_there a p q m off = ap (λ b. if b then left_by a (m p) else m q) (is_same-other q p off)

-- ---- a reference more, and the lock on
module _ (f : ℕ) (m : Words) where
  abbrev raised : ℕ
  raised = one_more (m (Refs f)) (ref_read (m (Refs f)))

  got_there : (q : Place) → q ≢ Refs f → got f m q ≡ m q
  got_there q off = changed_there (Store raised) (Refs f) q m off

  abbrev mark : ℕ
  mark = kind_write (locked_kind (kind_at (got f m) f))

  again_kind : with_lock f (got f m) (Kind f) ≡ kind_write (locked_kind (kind_at m f))
  unfolding left_by
  again_kind = changed_here (Store mark) (Kind f) (got f m) ∙ ap (λ x. kind_write (locked_kind (kind_fields x))) (got_there (Kind f) (λ e. cc))

  again_refs : with_lock f (got f m) (Refs f) ≡ raised
  unfolding left_by
  again_refs = changed_there (Store mark) (Kind f) (Refs f) (got f m) (λ e. cc) ∙ changed_here (Store raised) (Refs f) m

  again_there : (q : Place) → q ≢ Kind f → q ≢ Refs f → with_lock f (got f m) q ≡ m q
  again_there q kind refs = changed_there (Store mark) (Kind f) q (got f m) kind ∙ got_there q refs

-- ---- the lock goes off: the kind word with a type count less and not locked, and the reference word with a reference less
lock_back : (k : KindWord) → k.locked ≡ true → 2 ≤ k.number → locked_kind (without_lock k) ≡ k
lock_back k on some =
    let e : k.number - 1 + 1 ≡ k.number = omega arith in
    ap (λ c. record k { locked = true; number = c }) e ∙ ap (λ b. record k { locked = b }) (sym on)

raise_back : (w o c : ℕ) (a : Bool) → 1 < c → ref_read w ≡ Some (Owned o a c) → ref_write (Owned o a (c - 1 + 1)) ≡ w
raise_back w o c a more e =
    let same : c - 1 + 1 ≡ c = omega arith in
    ap (λ i. ref_write (Owned o a i)) same ∙ (ref_write-read w (Owned o a c) (read_small w (Owned o a c) e) e).1

-- the words m of a locked table, and l with the lock off
module _ (n : Machine) (f owner level : ℕ) (m l : Words) (low : 1 ≤ level) (locked : IsLockedIn n f owner level m) (orderly : IsOrderly n m) (written : kind_write (kind_at m f) ≡ m (Kind f))
    (kind : kind_at l f ≡ without_lock (kind_at m f)) (refs : l (Refs f) ≡ (m (Refs f) + one_down) % 2 ^ 64) (there : (q : Place) → q ≢ Kind f → q ≢ Refs f → l q ≡ m q) where
  abbrev s : Share
  s = locked.share

  reads : ref_read (m (Refs f)) ≡ Some (Owned s.owner s.allocated s.count)
  reads = share_owned (m (Refs f)) (ref_read (m (Refs f))) s locked.held

  several : 1 < s.count
  several =
      let most = orderly.counted f locked.inside locked.table.live in
      let many = locked.table.several in
      let count = (owns_word (m (Refs f)) s locked.held).count in
      omega (arith, most, many, count)

  lower : ref_read (l (Refs f)) ≡ Some (Owned s.owner s.allocated (s.count - 1))
  lower = ap ref_read refs ∙ lower_word (m (Refs f)) s.owner s.count s.allocated several reads

  refs_back : with_lock f (got f l) (Refs f) ≡ m (Refs f)
  refs_back = again_refs f l ∙ ap (one_more (l (Refs f))) lower ∙ raise_back (m (Refs f)) s.owner s.count s.allocated several reads

  kind_back : with_lock f (got f l) (Kind f) ≡ m (Kind f)
  kind_back = again_kind f l ∙ ap (λ k. kind_write (locked_kind k)) kind ∙ ap kind_write (lock_back (kind_at m f) locked.table.locked locked.table.several) ∙ written

  by_place : (q : Place) → (q ≡ Kind f) ⊎ (q ≢ Kind f) → (q ≡ Refs f) ⊎ (q ≢ Refs f) → with_lock f (got f l) q ≡ m q
  by_place q (inl e) r = ap (with_lock f (got f l)) e ∙ kind_back ∙ ap m (sym e)
  by_place q (inr k) (inl e) = ap (with_lock f (got f l)) e ∙ refs_back ∙ ap m (sym e)
  by_place q (inr k) (inr r) = again_there f l q k r ∙ there q k r

  lockable_there : is_lockable (without_lock (kind_at m f)) ≡ true
  lockable_there =
      let k = kind_at m f in
      let table : is_table k.kind ≡ true = ap is_table locked.table.kind ∙ level_type-table level low in
      let live = locked.table.live in
      let some = locked.table.several in
      grind (arith, nat_tests)

  pub unlocked_from : IsUnlockedTable n f owner level l m
  unlocked_from =
      record {
        inside = locked.inside;
        share = record { owner = s.owner; allocated = s.allocated; count = s.count - 1 };
        held = ap share_in lower;
        owns = locked.owns;
        lockable = ap is_lockable kind ∙ lockable_there;
        typed = ap (λ (k : KindWord). k.kind) kind ∙ locked.table.kind;
        with_lock_on = same_alike (with_lock f (got f l)) m (λ q. by_place q (same_or_other q (Kind f)) (same_or_other q (Refs f)));
      }

-- it is not the last type count that goes off
module _ (z : PortValue) (f owner level : ℕ) (alone : IsAlone z) (locked : IsLockedIn z.post.machine f owner level (told_word z)) where
  telling_z : is_telling z ≡ true
  telling_z = alone_telling z alone

  last_off : (u : PortValue) → Unlocks z u f true → ⊥
  last_off u a =
      let word = told_there z u _ _ _ _ _ a.unlocks.step telling_z in
      let one : ((kind_fields a.found).number == 1) ≡ true = sym a.counts in
      let many : 2 ≤ (kind_fields a.found).number = subst (λ x. 2 ≤ (kind_fields x).number) word locked.table.several in
      grind (arith, nat_tests)

  module _ (u w : PortValue) (a : Unlocks z u f false) (gave : GaveRef u w f) where
    word : told_word z (Kind f) ≡ a.found
    word = told_there z u _ _ _ _ _ a.unlocks.step telling_z

    telling_u : is_telling u ≡ true
    telling_u = came_telling z u (moves_came z u _ _ _ _ _ a.unlocks.step) ∙ telling_z

    u_there : (q : Place) → q ≢ Kind f → told_word u q ≡ told_word z q
    u_there q off = told_elsewhere z u _ _ _ _ _ a.unlocks.step q off

    orderly_z : IsOrderly z.post.machine (told_word z)
    orderly_z = alone_orderly z alone

    more : (ref_count (told_word u (Refs f)) == 1) ≡ false
    more =
        let most = orderly_z.counted f locked.inside locked.table.live in
        let many = locked.table.several in
        let same = ap ref_count (u_there (Refs f) (λ e. cc)) in
        grind (arith, nat_tests)

    w_there : (q : Place) → told_word w q ≡ lowered f (told_word u) q
    w_there q = gave.plain telling_u q ∙ ap (λ b. (if b then set_free f (owner_number (owner_of (told_word u (Refs f)))) (lowered f (told_word u)) else lowered f (told_word u)) q) more

    refs_w : told_word w (Refs f) ≡ (told_word z (Refs f) + one_down) % 2 ^ 64
    unfolding left_by
    refs_w = w_there (Refs f) ∙ changed_here (Add one_down) (Refs f) (told_word u) ∙ ap (λ x. (x + one_down) % 2 ^ 64) (u_there (Refs f) (λ e. cc))

    kind_w : told_word w (Kind f) ≡ (a.found + unlocked_down) % 2 ^ 64
    unfolding left_by
    kind_w = w_there (Kind f) ∙ changed_there (Add one_down) (Refs f) (Kind f) (told_word u) (λ e. cc) ∙ told_here z u _ _ _ _ _ a.unlocks.step telling_z

    is_kind_word : IsKindFound z.post.machine a.found
    is_kind_word = kind_found z.post.machine z.post.vcpu z.holdings f a.found locked.inside a.unlocks.step.finds

    fields_w : kind_at (told_word w) f ≡ without_lock (kind_at (told_word z) f)
    fields_w = ap kind_fields kind_w ∙ fields_unlocked a.found is_kind_word.small a.unlocks.counted a.unlocks.locked ∙ ap (λ x. without_lock (kind_fields x)) (sym word)

    written_z : kind_write (kind_at (told_word z) f) ≡ told_word z (Kind f)
    written_z = ap (λ x. kind_write (kind_fields x)) word ∙ ap kind_write is_kind_word.fields ∙ sym is_kind_word.written ∙ sym word

    rest_w : (q : Place) → q ≢ Kind f → q ≢ Refs f → told_word w q ≡ told_word z q
    rest_w q kind refs = w_there q ∙ changed_there (Add one_down) (Refs f) q (told_word u) refs ∙ u_there q kind

    unlocked_w : 1 ≤ level → IsUnlockedTable z.post.machine f owner level (told_word w) (told_word z)
    unlocked_w low = unlocked_from z.post.machine f owner level (told_word z) (told_word w) low locked orderly_z written_z fields_w refs_w rest_w

    calm_w : (x : Place) → is_counting x ≡ false → x ≢ Kind f → told_word w x ≡ told_word z x
    calm_w x calm apart = gave.plain telling_u x ∙ put_same f (told_word u) x calm ∙ u_there x apart

-- with a reference more and the lock on with_lock_on the words would be as they were
pub unlocked_behind : (z w : PortValue) (f owner level : ℕ) → IsAlone z → 1 ≤ level → IsLockedIn z.post.machine f owner level (told_word z) → LeftLock z f level w → IsUnlockedTable z.post.machine f owner level (told_word w) (told_word z)
unlocked_behind z w f owner level alone low locked (course.shared u _ a gave) = unlocked_w z f owner level alone locked u w a gave low
unlocked_behind z w f owner level alone low locked (course.last u y _ found a store names) = absurd (last_off z f owner level alone locked u a)

-- and words that are no counts stay
pub unlocked_words : (z w : PortValue) (f owner level : ℕ) → IsAlone z → IsLockedIn z.post.machine f owner level (told_word z) → LeftLock z f level w → (x : Place) → is_counting x ≡ false → x ≢ Kind f → told_word w x ≡ told_word z x
unlocked_words z w f owner level alone locked (course.shared u _ a gave) x calm apart = calm_w z f owner level alone locked u w a gave x calm apart
unlocked_words z w f owner level alone locked (course.last u y _ found a store names) x calm apart = absurd (last_off z f owner level alone locked u a)

-- ---- along words that are alike
lockable_live : (k : KindWord) → is_lockable k ≡ true → k.validated ≡ true
lockable_live k can = (and_parts (is_table k.kind) k.validated (and_parts (is_table k.kind && k.validated) (not k.locked && nat_lt 0 k.number) can).0).1

-- words of an owned frame, and kind words of a live one, are then the same
same_refs : (x y : ℕ) (s : Share) → share_of y ≡ Some s → IsAlikeRef x y → x ≡ y
same_refs x y s held (inl e) = e
same_refs x y s held (inr both) = let owned = (owned_says y s.owner s.allocated s.count (share_owned y (ref_read y) s held)).free in let free = both.1 in absurd cc

same_kind : (x y : ℕ) → is_lockable (kind_fields y) ≡ true → (x ≡ y) ⊎ IsAlikeKind (kind_fields x) (kind_fields y) → x ≡ y
same_kind x y can (inl e) = e
same_kind x y can (inr a) = let live = lockable_live (kind_fields y) can in let dead = ap (λ (k : KindWord). k.validated) a.1 ∙ a.0 in absurd cc

got_alike : (f : ℕ) (m l : Words) → m (Refs f) ≡ l (Refs f) → Alike m l → Alike (got f m) (got f l)
got_alike f m l same alike = subst (λ x. Alike (change (Store (one_more x (ref_read x))) (Refs f) m) (got f l)) (sym same) (alike_store (one_more (l (Refs f)) (ref_read (l (Refs f)))) (Refs f) m l alike)

lock_alike : (f : ℕ) (m l : Words) → m (Kind f) ≡ l (Kind f) → Alike m l → Alike (with_lock f m) (with_lock f l)
lock_alike f m l same alike =
    subst (λ x. Alike (change (Store (kind_write (locked_kind (kind_fields x)))) (Kind f) m) (with_lock f l)) (sym same) (alike_store (kind_write (locked_kind (kind_at l f))) (Kind f) m l alike)

pub unlocked_alike : (n : Machine) (f owner level : ℕ) (m' m l : Words) → Alike m' m → IsUnlockedTable n f owner level m l → IsUnlockedTable n f owner level m' l
unlocked_alike n f owner level m' m l alike is =
    let refs : m' (Refs f) ≡ m (Refs f) = same_refs (m' (Refs f)) (m (Refs f)) is.share is.held (alike (Refs f)) in
    let kind : m' (Kind f) ≡ m (Kind f) = same_kind (m' (Kind f)) (m (Kind f)) is.lockable (alike (Kind f)) in
    let marked : got f m' (Kind f) ≡ got f m (Kind f) = got_there f m' (Kind f) (λ e. cc) ∙ kind ∙ sym (got_there f m (Kind f) (λ e. cc)) in
    record {
      inside = is.inside;
      share = is.share;
      held = ap share_of refs ∙ is.held;
      owns = is.owns;
      lockable = ap (λ x. is_lockable (kind_fields x)) kind ∙ is.lockable;
      typed = ap (λ x. (kind_fields x).kind) kind ∙ is.typed;
      with_lock_on = alike_trans (with_lock f (got f m')) (with_lock f (got f m)) l (lock_alike f (got f m') (got f m) marked (got_alike f m' m refs alike)) is.with_lock_on;
    }

-- ---- it is locked with_lock_on
module _ (v : PortValue) (f owner level : ℕ) (l : Words) (alone : IsAlone v) (is : IsUnlockedTable v.post.machine f owner level (told_word v) l) where
  telling_v : is_telling v ≡ true
  telling_v = alone_telling v alone

  module _ (u : PortValue) (ref : GotRef v u f owner (Ok f)) where
    referred_u : is_telling u ≡ true
    referred_u = came_telling v u (ref_came v u f owner (Ok f) ref) ∙ telling_v

    leaves_u : (q : Place) → told_word u q ≡ got f (told_word v) q
    leaves_u = (ref.plain telling_v).1

    kind_u : told_word u (Kind f) ≡ told_word v (Kind f)
    kind_u = leaves_u (Kind f) ∙ got_there f (told_word v) (Kind f) (λ e. cc)

    locked_u : (y : PortValue) (level' found : ℕ) → TriedLock u y f owner (Ok (Table level' found)) → Alike (told_word y) l × (level_type level' ≡ level_type level)
    locked_u y level' found lock =
        let marks = lock.plain referred_u in
        let m = told_word v in (
          alike_trans (told_word y) (with_lock f (got f m)) l
              (alike_trans (told_word y) (with_lock f (told_word u)) (with_lock f (got f m)) (same_alike (told_word y) (with_lock f (told_word u)) marks.3) (lock_alike f (told_word u) (got f m) (leaves_u (Kind f)) (same_alike (told_word u) (got f m) leaves_u)))
              is.with_lock_on,
          sym marks.2 ∙ ap (λ x. (kind_fields x).kind) (marks.0 ∙ kind_u) ∙ is.typed,
        )

    other_u : (y : PortValue) (found : ℕ) → TriedLock u y f owner (Ok (Other found)) → ⊥
    other_u y found lock =
        let marks = lock.plain referred_u in
        let can = ap (λ x. is_lockable (kind_fields x)) (marks.0 ∙ kind_u) ∙ is.lockable in
        let not_so = marks.1 in
        cc

pub relocked : (v u y : PortValue) (f owner level level' found : ℕ) (l : Words) → IsAlone v → IsUnlockedTable v.post.machine f owner level (told_word v) l → GotRef v u f owner (Ok f) → TriedLock u y f owner (Ok (Table level' found)) →
    Alike (told_word y) l × (level_type level' ≡ level_type level)
relocked v u y f owner level level' found l alone is ref lock = locked_u v f owner level l alone is u ref y level' found lock

pub never_other : (v u y : PortValue) (f owner level found : ℕ) (l : Words) → IsAlone v → IsUnlockedTable v.post.machine f owner level (told_word v) l → GotRef v u f owner (Ok f) → TriedLock u y f owner (Ok (Other found)) → ⊥
never_other v u y f owner level found l alone is ref lock = other_u v f owner level l alone is u ref y found lock

-- ---- a reference to it is refused only for its count
-- a call that finds room is not refused for a count at its limit
never_full : (v w : PortValue) (f owner g x : ℕ) → HasRoom v w → Stops v w (of_frame f owner None) (Refused (refusals.CountFull g x)) → ⊥
unfolding Stops
never_full v w f owner g x room why =
    let at = why.4 in
    let low = room at.moment g at.was at.place in
    let full = full_word why.0 v.post.machine.limit x (ref_read x) refl why.5 in
    let found : ref_count at.moment.found ≡ ref_count x = ap ref_count at.word in
    omega arith

by_owner : (f w : ℕ) (y : Refusal) (b k : Bool) → b ≡ true → (if b then (if k then Some (refusals.CountFull f w) else None) else Some (refusals.WrongOwner f w)) ≡ Some y → y ≡ refusals.CountFull f w
by_owner f w y true true on is = cc
by_owner f w y true false on is = absurd cc
by_owner f w y false k on is = absurd cc

only_full : (n : Machine) (owner f w : ℕ) (s : Share) (y : Refusal) → f < n.frames → share_of w ≡ Some s → s.owner ≡ owner → refer n owner f w ≡ Some y → y ≡ refusals.CountFull f w
only_full n owner f w s y inside held owns is =
    let there : nat_lt f n.frames ≡ true = grind (arith, nat_tests) in
    let own : (s.owner == owner) ≡ true = grind (arith, nat_tests) in
    let reads = share_owned w (ref_read w) s held in
    by_owner f w y (s.owner == owner) (nat_le n.limit s.count) own
    (sym (ap (refer_by n.limit owner f w) reads) ∙ (sym (ap (λ b. if b then refer_by n.limit owner f w (ref_read w) else Some (refusals.NoFrame f)) there) ∙ is))

pub never_unreferred : (v w : PortValue) (f owner level : ℕ) (l : Words) (stop : Stop) → IsAlone v → IsUnlockedTable v.post.machine f owner level (told_word v) l → GotRef v w f owner (Err stop) → HasRoom v w → ⊥
never_unreferred v w f owner level l (Paused x) alone is ref room = ref.plain (alone_telling v alone)
never_unreferred v w f owner level l (Refused y) alone is ref room =
    let full = only_full v.post.machine owner f (told_word v (Refs f)) is.share y is.inside is.held is.owns (ref.plain (alone_telling v alone)).0 in
    never_full v w f owner f (told_word v (Refs f)) room (subst (λ r. Stops v w (of_frame f owner None) (Refused r)) full ref.stops)
