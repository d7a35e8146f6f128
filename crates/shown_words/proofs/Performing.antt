-- An element that is refused for an owner shows a word that is not of a frame that is just being given back, where none was before.
use Rattle.std.proofs.Common.{◌≡◌, ℕ, Bool, true, false, List, Option, Some, None, Result, Ok, Err, refl, sym, ap, ◌∙◌, subst}
use Rattle.xp_words.specs.Machine.{IsMachine}
use Rattle.xp_words.specs.declared.place.Place.TheVariants.{Clock, Kind}
use Rattle.xp_words.specs.declared.reply.Refusal.{Refusal}
use Rattle.xp_words.specs.declared.reply.Refusal.TheVariants.{WrongOwner}
use Rattle.xp_words.specs.declared.reply.Stop.{Stop}
use Rattle.xp_words.specs.declared.reply.Stop.TheVariants.{Refused}
use Rattle.xp_board.specs.Readings.{is_dying}
use Rattle.xp_board.specs.Told.{Post, PortValue, is_telling, told_word}
use Rattle.xp_board.specs.declared.step.StepKind.TheVariants as kinds
use Rattle.step_maker.specs.Reasons.{Those, Whose}
use Rattle.step_maker.specs.Visits.{Does, Visit, visits}
use Rattle.step_maker.proofs.Coming.{same_machine}
use Rattle.step_maker.proofs.Telling.{came_telling}
use Rattle.flush_words.specs.Flushing.{FlushedBy, none, once}
use Rattle.flush_waits.specs.Listing.{LooksAt, Slow, WaitsInOrder, barred, behind, idle, late, own_flushed, own_late, own_spent, unmeant}
use Rattle.flush_waits.specs.Listing as waits
use Rattle.flush_waits.specs.Waiting.{meant}
use Rattle.table_entries.specs.Acquiring.{Acquired, GaveRef, GotRef}
use Rattle.level_validate.specs.Unwinding.{own_domain}
use Rattle.table_bases.specs.Asking.{user_frame}
use Rattle.table_bases.specs.Course as bases
use Rattle.table_bases.specs.Course.{SetsBase}
use Rattle.table_bases.specs.declared.words.Base.{Base}
use Rattle.table_bases.specs.declared.words.Base.TheVariants.{Kernel, User}
use Rattle.desc_pages.specs.Ldt.{SetsLdt}
use Rattle.whole_pages.specs.Whole.{ClearsPage, CopiesPage}
use Rattle.mmuext_ops.specs.Course as course
use Rattle.mmuext_ops.specs.Course.{FlushedLocal, Performed, PinEnds, Pinned, SawKind, Unpinned, WaitedForVcpus, stamp_for}
use Rattle.mmuext_ops.specs.declared.element.Element.{Element}
use Rattle.mmuext_ops.specs.declared.element.Element.TheVariants.{ClearPage, CopyPage, FlushLocal, FlushVcpus, Invalidate, NewBase, NewUserBase, Pin, SetLdt, Unknown, Unpin}
use Rattle.shown_words.specs.Shown.{NoneDies}
use Rattle.shown_words.proofs.Base.{Settling, gave_settling, had_settling, look_settling, ref_shows, settling_then}

abbrev pub AcquiredShows : Type 0
AcquiredShows =
    (v : PortValue) (f owner level : ℕ) (w : PortValue) (answers : List Bool) (g x : ℕ) → IsMachine v.post.machine → is_telling v ≡ true → NoneDies (told_word v) →
    Acquired v f owner level w answers (Err (Refused (WrongOwner g x))) → is_dying x ≡ false

abbrev pub LdtShows : Type 0
LdtShows =
    (v : PortValue) (address entries : ℕ) (w : PortValue) (g x : ℕ) → IsMachine v.post.machine → is_telling v ≡ true → NoneDies (told_word v) →
    SetsLdt v address entries w (Err (Refused (WrongOwner g x))) → is_dying x ≡ false

abbrev pub ClearedShows : Type 0
ClearedShows =
    (v : PortValue) (d f : ℕ) (w : PortValue) (g x : ℕ) → IsMachine v.post.machine → is_telling v ≡ true → NoneDies (told_word v) →
    ClearsPage v d f w (Err (Refused (WrongOwner g x))) → is_dying x ≡ false

abbrev pub CopiedShows : Type 0
CopiedShows =
    (v : PortValue) (d to from : ℕ) (words : List ℕ) (w : PortValue) (g x : ℕ) → IsMachine v.post.machine → is_telling v ≡ true → NoneDies (told_word v) →
    CopiesPage v d to from words w (Err (Refused (WrongOwner g x))) → is_dying x ≡ false

-- ---- a wait is never refused for an owner, nor is a flush
module _ (g x : ℕ) where
  abbrev Ends : Result (Unit {0}) Stop → Type 0
  Ends answer = answer ≡ Err (Refused (WrongOwner g x))

  stopped_so : (stop : Stop) → Ends (Err stop) → stop ≡ Refused (WrongOwner g x)
  stopped_so stop is = ap (λ r. stop_of r) is
    where
      stop_of : Result (Unit {0}) Stop → Stop
      stop_of (Ok done) = stop
      stop_of (Err other) = other

  flush_unowned : (s : ℕ) (vs : List Visit) (r : Result (Unit {0}) Refusal) → FlushedBy s r vs → r ≡ Err (WrongOwner g x) → ⊥
  flush_unowned s _ _ none is = absurd cc
  flush_unowned s _ _ (once clock found to before off left) is = absurd cc

  looks_unowned : (q : Post) (whose : Whose) (stamp u : ℕ) (vs : List Visit) (r : Result (Option ℕ) Refusal) → LooksAt q whose stamp u vs r → r ≡ Err (WrongOwner g x) → ⊥
  looks_unowned q whose stamp u vs _ (unmeant means a b c) is = absurd cc
  looks_unowned q whose stamp u vs _ (idle y a b c) is = absurd cc
  looks_unowned q whose stamp u vs _ (late y a b c) is = absurd cc
  looks_unowned q whose stamp u vs _ (barred y a b c) is = absurd cc
  looks_unowned q whose stamp u vs _ (behind y z a b c) is = absurd cc
  looks_unowned q whose stamp u vs _ (own_late y a b c) is = absurd cc
  looks_unowned q whose stamp u vs _ (own_flushed y a b c) is = absurd cc
  looks_unowned q whose stamp u vs _ (own_spent y r a b c) is = flush_unowned u c.after (Err r) c.next (ap (λ o. flushed_for o) is)
    where
      flushed_for : Result (Option ℕ) Refusal → Result (Unit {0}) Refusal
      flushed_for (Ok o) = Ok tt
      flushed_for (Err y) = Err y

  waits_unowned : (q : Post) (whose : Whose) (stamp n : ℕ) (vs : List Visit) (r : Result (Option Slow) Refusal) → WaitsInOrder q whose stamp vs n r → r ≡ Err (WrongOwner g x) → ⊥
  waits_unowned q whose stamp _ vs _ (waits.WaitsInOrder.none us a) is = absurd cc
  waits_unowned q whose stamp _ vs _ (waits.WaitsInOrder.more u first standing before now us a b c) is = absurd cc
  waits_unowned q whose stamp _ vs _ (waits.WaitsInOrder.spent u first r before now us a b c) is = looks_unowned q whose stamp u now (Err r) b (ap (λ o. looked_for o) is)
    where
      looked_for : Result (Option Slow) Refusal → Result (Option ℕ) Refusal
      looked_for (Ok o) = Ok None
      looked_for (Err y) = Err y

  waited_unowned : (v w : PortValue) (mask : ℕ) (awaited : Option ℕ) (answers : List Bool) → WaitedForVcpus v w mask awaited answers (Err (Refused (WrongOwner g x))) → ⊥
  unfolding Does
  waited_unowned v w mask awaited answers a =
      let found = a.waits.2 in
      waits_unowned v.post (Those (meant v.post.machine v.post.vcpu mask)) (stamp_for awaited a.clock) found.0 (visits a.waits.0) (Err (WrongOwner g x)) found.1 refl

  local_unowned : (v w : PortValue) (answers : List Bool) (answer : Result (Unit {0}) Stop) → FlushedLocal v w answers answer → Ends answer → ⊥
  local_unowned v w _ _ (course.FlushedLocal.flushed a b) is = absurd cc
  local_unowned v w _ _ (course.FlushedLocal.spent a b) is = absurd cc

  ends_unowned : (v w : PortValue) (f level : ℕ) (answer : Result (Unit {0}) Stop) → PinEnds v w f level answer → Ends answer → ⊥
  ends_unowned v w f level _ (course.PinEnds.pinned u y a b c) is = absurd cc
  ends_unowned v w f level _ (course.PinEnds.seen u y a b c) is = absurd cc
  ends_unowned v w f level _ (course.PinEnds.raced u y z found a b c d e h) is = absurd cc
  ends_unowned v w f level _ (course.PinEnds.lost u y z found a b c d e h) is = absurd cc

-- ---- calls that acquire or look
module _ (acquired : AcquiredShows) (ldt : LdtShows) (cleared : ClearedShows) (copied : CopiedShows) where
  -- an acquisition behind calls that let no frame die
  acquired_behind : (v a : PortValue) (f owner level : ℕ) (w : PortValue) (answers : List Bool) (stop : Stop) (g x : ℕ) → IsMachine v.post.machine → is_telling v ≡ true → NoneDies (told_word v) →
      Settling v a → Acquired a f owner level w answers (Err stop) → Ends g x (Err stop) → is_dying x ≡ false
  acquired_behind v a f owner level w answers stop g x machine telling n settling takes is =
      acquired a f owner level w answers g x (subst IsMachine (sym (same_machine v a settling.came)) machine) (came_telling v a settling.came ∙ telling) (settling.none machine telling n)
      (subst (λ s. Acquired a f owner level w answers (Err s)) (stopped_so g x stop is) takes)

  referred : (v w : PortValue) (f d : ℕ) (stop : Stop) (g x : ℕ) → is_telling v ≡ true → NoneDies (told_word v) → GotRef v w f d (Err stop) → Ends g x (Err stop) → is_dying x ≡ false
  referred v w f d stop g x telling n a is = ref_shows v w f d g x (subst (λ s. GotRef v w f d (Err s)) (stopped_so g x stop is) a) telling n

  -- a frame that was looked at under a reference of its own
  looked_settling : (v a b c : PortValue) (f d x : ℕ) → GotRef v a f d (Ok f) → SawKind a b f x → GaveRef b c f → Settling v c
  looked_settling v a b c f d x got saw gave =
      settling_then v b c (settling_then v a b (had_settling v a f d f got) (look_settling a b (Kind f) kinds.Look None x saw)) (gave_settling b c f gave)

  pinned_shows : (v w : PortValue) (d f level : ℕ) (answers : List Bool) (answer : Result (Unit {0}) Stop) (g x : ℕ) → IsMachine v.post.machine → is_telling v ≡ true → NoneDies (told_word v) →
      Pinned v w d f level answers answer → Ends g x answer → is_dying x ≡ false
  pinned_shows v w d f level _ _ g x machine telling n (course.Pinned.unreferred stop a) is = referred v w f d stop g x telling n a is
  pinned_shows v w d f level _ _ g x machine telling n (course.Pinned.pinned_before a b y got saw gave same) is = absurd cc
  pinned_shows v w d f level _ _ g x machine telling n (course.Pinned.refused a b c y answers stop got saw gave other takes) is =
      acquired_behind v c f d level w answers stop g x machine telling n (looked_settling v a b c f d y got saw gave) takes is
  pinned_shows v w d f level _ _ g x machine telling n (course.Pinned.acquired a b c e y answers answer got saw gave other takes ends) is = absurd (ends_unowned g x e w f level answer ends is)

  unpinned_shows : (v w : PortValue) (d f : ℕ) (answers : List Bool) (answer : Result (Unit {0}) Stop) (g x : ℕ) → is_telling v ≡ true → NoneDies (told_word v) →
      Unpinned v w d f answers answer → Ends g x answer → is_dying x ≡ false
  unpinned_shows v w d f _ _ g x telling n (course.Unpinned.unreferred stop a) is = referred v w f d stop g x telling n a is
  unpinned_shows v w d f _ _ g x telling n (course.Unpinned.unpinned_before a b y c e h i) is = absurd cc
  unpinned_shows v w d f _ _ g x telling n (course.Unpinned.raced a b c y found e h i j k l m) is = absurd cc
  unpinned_shows v w d f _ _ g x telling n (course.Unpinned.lost a b c y found e h i j k l m) is = absurd cc
  unpinned_shows v w d f _ _ g x telling n (course.Unpinned.released a b c e y answers answer h i j k l m o) is = absurd cc

  base_shows : (v w : PortValue) (base : Base) (new : Option ℕ) (answers : List Bool) (answer : Result (Unit {0}) Stop) (g x : ℕ) → IsMachine v.post.machine → is_telling v ≡ true → NoneDies (told_word v) →
      SetsBase v w base new answers answer → Ends g x answer → is_dying x ≡ false
  base_shows v w base _ _ _ g x machine telling n (bases.SetsBase.spent new saw) is = absurd cc
  base_shows v w base _ _ _ g x machine telling n (bases.SetsBase.unacquired a f clock answers stop saw off takes) is =
      acquired_behind v a f (own_domain v) 4 w answers stop g x machine telling n (look_settling v a Clock kinds.Look None clock saw) takes is
  base_shows v w base _ _ _ g x machine telling n (bases.SetsBase.installed a b clock new answers more saw off top installs) is = absurd cc

  -- ---- the whole
  pub performed_shows : (v w : PortValue) (d : ℕ) (e : Element) (awaited : Option ℕ) (answers : List Bool) (g x : ℕ) → IsMachine v.post.machine → is_telling v ≡ true → NoneDies (told_word v) →
      Performed v w d e awaited answers (Err (Refused (WrongOwner g x))) → is_dying x ≡ false
  performed_shows v w d (Pin f level) awaited answers g x machine telling n a = pinned_shows v w d f level answers (Err (Refused (WrongOwner g x))) g x machine telling n a refl
  performed_shows v w d (Unpin f) awaited answers g x machine telling n a = unpinned_shows v w d f answers (Err (Refused (WrongOwner g x))) g x telling n a refl
  performed_shows v w d (NewBase f) awaited answers g x machine telling n a = base_shows v w Kernel (Some f) answers (Err (Refused (WrongOwner g x))) g x machine telling n a refl
  performed_shows v w d (NewUserBase f) awaited answers g x machine telling n a = base_shows v w User (user_frame f) answers (Err (Refused (WrongOwner g x))) g x machine telling n a refl
  performed_shows v w d FlushLocal awaited answers g x machine telling n a = absurd (local_unowned g x v w answers (Err (Refused (WrongOwner g x))) a refl)
  performed_shows v w d (Invalidate va) awaited answers g x machine telling n a = absurd (let e = a.done in cc)
  performed_shows v w d (FlushVcpus mask) awaited answers g x machine telling n a = absurd (waited_unowned g x v w mask awaited answers a)
  performed_shows v w d (SetLdt address entries) awaited answers g x machine telling n a = ldt v address entries w g x machine telling n a.1
  performed_shows v w d (ClearPage f) awaited answers g x machine telling n a = cleared v d f w g x machine telling n a.1
  performed_shows v w d (CopyPage to from) awaited answers g x machine telling n a = copied v d to from a.1.0 w g x machine telling n a.1.1
  performed_shows v w d Unknown awaited answers g x machine telling n a = absurd (let e = a.2 in cc)
