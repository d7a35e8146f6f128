-- The words of a frame that waits for a flush which is not to be had, and how it is left.
use Rattle.std.proofs.Common.{◌≡◌, ℕ, ◌<◌, ◌^◌, ◌==◌, ◌||◌, not, if◌then◌else◌, Bool, true, false, IsTrue, refl, sym, ap, ◌∙◌, subst, arith, inr, ◌+◌, [], ◌∷◌, List, None, Some, Ok, Err}
use Rattle.xp_words.specs.KindWords.{kind_fields, kind_write}
use Rattle.xp_words.specs.PageTypes.{is_none, type_number, is_table}
use Rattle.xp_words.specs.declared.kind.KindWord.{KindWord}
use Rattle.xp_words.specs.declared.kind.PageType.{PageType}
use Rattle.xp_words.specs.declared.place.Place.{Place}
use Rattle.xp_words.specs.declared.place.Place.TheVariants.{Kind, Refs, Clock}
use Rattle.xp_words.specs.declared.reply.Stop.{Stop}
use Rattle.xp_board.specs.declared.holdings.Work.{Work}
use Rattle.xp_board.specs.declared.step.Act.TheVariants.{Store, Load}
use Rattle.xp_board.specs.Acts.{left_by}
use Rattle.xp_board.specs.Readings.{is_free}
use Rattle.xp_board.specs.Steps.{is_same}
use Rattle.xp_board.proofs.PlaceTests.{same_place}
use Rattle.step_maker.specs.Plain.{Words, change, Leaves}
use Rattle.step_maker.specs.Twins.{Alike, IsAlike, IsAlikeKind}
use Rattle.frame_words.specs.Plain.{put, stamp_now}
use Rattle.frame_words.proofs.Alike.{put_alike, stamp_low}
use Rattle.kind_words.specs.Kinds.{dead_kind, partial_kind}
use Rattle.kind_words.proofs.KindWriting.{dead_is, fields_write, marked_is}
use Rattle.frame_types.specs.Plain.{IsTakenBy, is_own, less_kept, set_kind, taken, taken_by, type_waits, waits_by, work_by, TakesPlainly, is_read_first, is_refused}
use Rattle.frame_types.specs.Standing.{standing_of}
use Rattle.frame_types.specs.declared.standing.Standing.{Standing}
use Rattle.frame_types.specs.declared.taking.Taken.TheVariants.{Waiting}
use Rattle.table_entries.specs.Plain.{IsTakenOf, is_own_of, kind_of, left_dead, left_partial, left_shared, TypesPlainly, WaitsPlainly}
use Rattle.xp_words.specs.Entries.{below}
use Rattle.xp_words.specs.Places.{sizes_of}
use Rattle.xp_words.specs.declared.entry.Demand.TheVariants.{Typed}
use Rattle.xp_words.specs.declared.reply.Stop.TheVariants.{Refused, Paused}
use Rattle.xp_board.specs.declared.holdings.Liveness.TheVariants.{Since}
use Rattle.xp_board.specs.declared.step.Mark.TheVariants.{Record}
use Rattle.xp_board.specs.Knowledge.{knows_partial}
use Rattle.xp_board.specs.Marks.{leaves_unsettled}
use Rattle.xp_board.specs.Told.{Post, PortValue, is_telling, told_word}
use Rattle.step_maker.specs.Holds.{FlushedHolds, Holds}
use Rattle.step_maker.specs.Moves.{Came, Moves}
use Rattle.step_maker.proofs.Coming.{came_post, came_trans}
use Rattle.step_maker.proofs.Telling.{came_telling}
use Rattle.step_maker.specs.Asked.{of_frame}
use Rattle.step_maker.specs.Visits.{Visit, Does, Then}
use Rattle.step_maker.proofs.Piecing.{serves_came}
use Rattle.step_maker.proofs.Visiting.{does_as, does_then}
use Rattle.flush_waits.specs.Waiting.{IsWait}
use Rattle.frame_types.specs.Found.{DeadBy, SharedBy, StoresKind, TakesOf}
use Rattle.frame_types.specs.Leaving.{GivesBack, IsWaiting, KeepsType, ServesType, StaysTyped, WaitsFrom}
use Rattle.frame_types.specs.Taking.{working_typed}
use Rattle.table_words.specs.Entries.{Records, RecordsNext, entry_recorded}
use Rattle.table_words.proofs.EntryHands.{unsettled_for}
use Rattle.table_entries.specs.Asking.{ShowsEntered}
use Rattle.table_entries.specs.Between.{EntryLeftWaiting, Meets, TakesNext}
use Rattle.table_entries.specs.Found.{EntersFound, LeftAfter, LeftBy, TypedBy}
use Rattle.table_entries.specs.Tops.{LookedAnd, as_it_was}
use Rattle.table_entries.specs.declared.entries.Entered.TheVariants.{Unsettled}
use Rattle.table_entries.proofs.Finding.{does_record}
use Rattle.table_entries.proofs.HandLists.{asks_below}
use Rattle.table_entries.proofs.HandReady.{gave_up, typed_from, typed_hand, typed_records}
use Rattle.table_entries.proofs.NextWays.{had_asks, had_found, had_goes, had_plain, had_some, takes_next}
use Rattle.table_entries.proofs.PiecesEntering.{enters_left, enters_unsettled}
use Rattle.table_entries.proofs.Twins.{load_keeps, told_all}
use Rattle.frame_types.specs.declared.standing.Standing.TheVariants as stands
use Rattle.xp_words.specs.declared.kind.PageType.TheVariants as types
use Rattle.xp_words.specs.declared.reply.Pause.TheVariants as pauses
use Rattle.xp_words.specs.declared.reply.Refusal.TheVariants as refusals
use Rattle.xp_board.specs.declared.step.StepKind.TheVariants as kinds

-- Words alike but for what stands at one place, where alike words are stored at both.
pub alike_over : (p : Place) (x y z : ℕ) (m u : Words) → IsAlike p y z → Alike u (change (Store x) p m) → Alike (change (Store y) p u) (change (Store z) p m)
unfolding left_by
alike_over p x y z m u at all q = by_place (is_same q p) refl (all q)
  where
    by_place : (b : Bool) → is_same q p ≡ b → IsAlike q (u q) (if b then x else m q) → IsAlike q (if b then y else u q) (if b then z else m q)
    by_place true on a = subst (λ r. IsAlike r y z) (sym (same_place q p on)) at
    by_place false off a = a

-- ---- words of one kind but for the stamp
module _ (t : PageType) (typed : IsTrue (not (is_none t))) (x y : ℕ) (low : x < 2 ^ 36) (less : y < 2 ^ 36) where
  pub dead_stamps : IsAlikeKind (kind_fields (kind_write (dead_kind t true x))) (kind_fields (kind_write (dead_kind t true y)))
  dead_stamps = rw (fields_write (dead_kind t true x) (dead_is t typed true x low), fields_write (dead_kind t true y) (dead_is t typed true y less)) (refl, refl)

  pub partial_stamps : IsTrue (not (type_number t == 5) || false) → IsAlikeKind (kind_fields (kind_write (partial_kind t false true 0 x))) (kind_fields (kind_write (partial_kind t false true 0 y)))
  partial_stamps mark =
      rw (fields_write (partial_kind t false true 0 x) (marked_is t typed false x mark low), fields_write (partial_kind t false true 0 y) (marked_is t typed false y mark less)) (refl, refl)

-- a stamp has 36 bits
pub late_stamp : (e : Work) (stamp : ℕ) → (kind_fields e.word).number ≡ stamp → stamp < 2 ^ 36
unfolding kind_fields
late_stamp e stamp is = omega (arith, is)

-- ---- a frame that was taken so
-- the word that is stored over its kind word
over_work : (g : ℕ) (t : PageType) (k : KindWord) (s : Standing) (own : Bool) (stamp : ℕ) (stop : Stop) (m u : Words) → IsTakenBy t k s (Waiting own stamp stop) → Alike u (taken_by g t k s (Waiting own stamp stop) m) → (l j : KindWord) →
    IsAlikeKind (kind_fields (kind_write l)) (kind_fields (kind_write j)) → Alike (set_kind g l u) (set_kind g j (less_kept g k s m))
over_work g t k stands.Counted own stamp stop m u way all l j at = absurd (let e = way in cc)
over_work g t k stands.Dead own stamp stop m u way all l j at = alike_over (Kind g) (kind_write (work_by k t stands.Dead)) (kind_write l) (kind_write j) (less_kept g k stands.Dead m) u (inr at) all
over_work g t k stands.Partial own stamp stop m u way all l j at = alike_over (Kind g) (kind_write (work_by k t stands.Partial)) (kind_write l) (kind_write j) (less_kept g k stands.Partial m) u (inr at) all
over_work g t k stands.Other own stamp stop m u way all l j at = absurd (let e = way.0 in cc)
over_work g t k stands.Busy own stamp stop m u way all l j at = absurd (let e = way.0 in cc)

-- it waits, and its type count is the own one or not
waits_own : (t : PageType) (k : KindWord) (s : Standing) (own : Bool) (stamp : ℕ) (stop : Stop) → IsTakenBy t k s (Waiting own stamp stop) → (waits_by k t s ≡ true) × (own ≡ is_own k s)
waits_own t k stands.Counted own stamp stop way = absurd (let e = way in cc)
waits_own t k stands.Dead own stamp stop way = way
waits_own t k stands.Partial own stamp stop way = way
waits_own t k stands.Other own stamp stop way = way
waits_own t k stands.Busy own stamp stop way = way

-- where it is another holder's, the frame had no mark of its own
unkept : (g : ℕ) (k : KindWord) (s : Standing) (m : Words) → is_own k s ≡ false → less_kept g k s m ≡ m
unkept g k stands.Partial m off = ap (λ b. if b then put g m else m) off
unkept g k stands.Counted m off = refl
unkept g k stands.Dead m off = refl
unkept g k stands.Other m off = refl
unkept g k stands.Busy m off = refl

module _ (g : ℕ) (t : PageType) (typed : IsTrue (not (is_none t))) (mark : IsTrue (not (type_number t == 5) || false)) (own : Bool) (stamp : ℕ) (low : stamp < 2 ^ 36) (stop : Stop) (m u : Words)
    (way : IsTakenOf m g t (Waiting own stamp stop)) (all : Alike u (taken g t (Waiting own stamp stop) m)) where
  pub waits_there : (type_waits t (m (Kind g)) ≡ true) × (own ≡ is_own_of m g t)
  waits_there = waits_own t (kind_of m g) (standing_of (kind_of m g) t) own stamp stop way.1

  stored : (l j : KindWord) → IsAlikeKind (kind_fields (kind_write l)) (kind_fields (kind_write j)) → Alike (set_kind g l u) (set_kind g j (less_kept g (kind_of m g) (standing_of (kind_of m g) t) m))
  stored = over_work g t (kind_of m g) (standing_of (kind_of m g) t) own stamp stop m u way.1 all

  pub partial_left : Alike (set_kind g (partial_kind t false true 0 stamp) u) (left_partial g t m)
  partial_left = stored (partial_kind t false true 0 stamp) (partial_kind t false true 0 0) (partial_stamps t typed stamp 0 low (omega arith) mark)

  pub dead_left : is_free (u (Refs g)) ≡ false → Alike (put g (set_kind g (dead_kind t true (stamp_now u)) u)) (left_dead g t m)
  dead_left owned =
      put_alike g (set_kind g (dead_kind t true (stamp_now u)) u) (set_kind g (dead_kind t true 0) (less_kept g (kind_of m g) (standing_of (kind_of m g) t) m)) owned
      (stored (dead_kind t true (stamp_now u)) (dead_kind t true 0) (dead_stamps t typed (stamp_now u) 0 (stamp_low _) (omega arith)))

  pub shared_left : own ≡ false → is_free (u (Refs g)) ≡ false → Alike (put g (set_kind g (partial_kind t false true 0 stamp) u)) (left_shared g t m)
  shared_left off owned =
      put_alike g (set_kind g (partial_kind t false true 0 stamp) u) (set_kind g (partial_kind t false true 0 0) m) owned
      (subst (λ (n : Words). Alike (set_kind g (partial_kind t false true 0 stamp) u) (set_kind g (partial_kind t false true 0 0) n)) (unkept g (kind_of m g) (standing_of (kind_of m g) t) m (sym waits_there.1 ∙ off)) partial_left)

-- ---- The next entry asks a frame that waits for a flush which is not to be had: how it is left, and all that the call ensures then.
-- no entry asks a descriptor page
not_desc : (t : PageType) → (type_number (below t) == 5) ≡ false
not_desc types.None = refl
not_desc types.L1 = refl
not_desc types.L2 = refl
not_desc types.L3 = refl
not_desc types.L4 = refl
not_desc types.Desc = refl
not_desc types.Writable = refl

not_or : (b c : Bool) → b ≡ false → c ≡ false → (b || c) ≡ false
not_or b c x y = ap (λ k. k || c) x ∙ y

-- whether the type count is the own one
pub own_is_not : (own b : Bool) → not own ≡ b → own ≡ not b
own_is_not true b is = ap (λ k. not k) is
own_is_not false b is = ap (λ k. not k) is

told_alike : (w : PortValue) (m n : Words) → Leaves w m → Alike m n → Alike (told_word w) n
told_alike w m n leaves alike = subst (λ (l : Words). Alike l n) (sym (told_all w m leaves)) alike

-- ---- by why it waits
-- the type count is another holder's
shared_by : (w : PortValue) (m : Words) (g : ℕ) (t : PageType) (e : Stop) → IsWait e → type_waits t (m (Kind g)) ≡ true → is_own_of m g t ≡ false → Alike (told_word w) (left_shared g t m) → TypesPlainly w m g t (Err e)
shared_by w m g t (Refused (refusals.Clock x)) wait waits own words = (waits, subst (λ b. WaitsPlainly w m g t b) (sym own) words)
shared_by w m g t (Paused (pauses.Flush v stamp x)) wait waits own words = (waits, own, words)
shared_by w m g t (Refused _) wait waits own words = absurd wait
shared_by w m g t (Paused _) wait waits own words = absurd wait

-- the clock is at its last value
dead_by : (w : PortValue) (m : Words) (g : ℕ) (t : PageType) (e : Stop) → IsWait e → is_refused e ≡ true → is_read_first t ≡ false → type_waits t (m (Kind g)) ≡ true → is_own_of m g t ≡ true → Alike (told_word w) (left_dead g t m) → TypesPlainly w m g t (Err e)
dead_by w m g t (Refused (refusals.Clock x)) wait is plain waits own words = (waits, subst (λ b. WaitsPlainly w m g t b) (sym own) (plain, words))
dead_by w m g t (Refused _) wait is plain waits own words = absurd wait
dead_by w m g t (Paused _) wait is plain waits own words = absurd (let k = is in cc)

waits_typed : (q : Post) (g owner : ℕ) (t : PageType) (f i : ℕ) (e : Stop) → IsWait e → (vs : List Visit) → LeftAfter q g owner t e vs → TypedBy q g owner t f i (Err e) vs
waits_typed q g owner t f i (Refused (refusals.Clock x)) is vs a = a
waits_typed q g owner t f i (Paused (pauses.Flush v stamp x)) is vs a = a
waits_typed q g owner t f i _ is vs a = absurd is

left_dead_by : (g : ℕ) (t : PageType) (stamp : ℕ) (e : Stop) (vs : List Visit) → is_refused e ≡ true → is_read_first t ≡ false → DeadBy g t vs → LeftBy g t true stamp e vs
left_dead_by g t stamp (Refused r) vs is plain dead = (plain, dead)
left_dead_by g t stamp (Paused r) vs is plain dead = absurd (let k = is in cc)

module _ {b v : PortValue} {f i owner : ℕ} {t : PageType} {g : ℕ} {want : PageType} {own : Bool} {stamp : ℕ} {stop : Stop} (late : EntryLeftWaiting b v f i owner t g want own stamp stop) where
  no_desc : (type_number want == 5) ≡ false
  no_desc = subst (λ k. (type_number k == 5) ≡ false) (sym (asks_below t i late.had.word g want late.had.asks)) (not_desc t)

  pub has_entries : IsTrue (not (type_number want == 5))
  has_entries = ap (λ k. not k) no_desc

  mark : IsTrue (not (type_number want == 5) || false)
  mark = ap (λ k. not k || false) no_desc

  waits_from : (mine : Bool) → own ≡ mine → WaitsFrom late.x v g owner want mine stamp
  waits_from mine is =
      subst (λ m. WaitsFrom late.x v g owner want m stamp) is
      (record { waits = late.taken.takes.hand; lent = record { others = late.had.u.holdings.refs; refs = ap (λ (q : PortValue). q.holdings.refs) late.had.lent } })

  pub is_waiting : (mine : Bool) → own ≡ mine → IsWaiting v g want mine stamp
  is_waiting mine is = (late.x, owner, waits_from mine is)

  came_x : Came late.x v
  came_x = serves_came late.x v (of_frame g owner (Some want)) [] late.taken.takes.serves

  -- ---- its words, on a board that tells them
  low : stamp < 2 ^ 36
  low = late_stamp late.taken.takes.hand.work stamp late.taken.takes.hand.stamped

  reads_none : is_table want ≡ false → is_read_first want ≡ false
  reads_none plain = not_or (is_table want) (type_number want == 5) plain no_desc

  module _ (telling : is_telling late.x ≡ true) where
    waiting : TakesPlainly late.x v g want (Ok (Waiting own stamp stop))
    waiting = late.taken.plain telling

    way : IsTakenOf (told_word late.x) g want (Waiting own stamp stop)
    way = (waiting.0, waiting.1)

    on_v : is_telling v ≡ true
    on_v = came_telling late.x v came_x ∙ telling

    waits_is : (type_waits want (told_word late.x (Kind g)) ≡ true) × (own ≡ is_own_of (told_word late.x) g want)
    waits_is = waits_there g want (had_some late.had) mark own stamp low stop (told_word late.x) (told_word v) way waiting.2

  -- ---- the reference is given back
  module _ (w : PortValue) (mine : Bool) (is : own ≡ mine) (serves : ServesType v w g want) (gives : GivesBack v w g want mine) where
    left_meets : (pages : ℕ) → Meets b w f i owner pages (λ a. ShowsEntered b w owner pages t a) (Err stop)
    left_meets pages = enters_left g want (had_goes late.had pages) (had_asks late.had pages) v stop late.taken.takes.waits.0 late.taken.takes.serves late.taken.takes.waits.1 w serves

    left_found : Does v w (λ vs. LeftBy g want own stamp stop vs) → EntersFound b w f i t owner (Err stop)
    left_found left =
        had_found late.had w (Err stop)
        (does_as late.x w _ (λ vs. TypedBy late.x.post g owner want f i (Err stop) vs) (λ vs steps. waits_typed late.x.post g owner want f i stop late.taken.takes.waits.0 vs (record { own = own; stamp = stamp; steps = steps }))
        (does_then late.x v w (λ ts. TakesOf late.x.post g owner want (Waiting own stamp stop) ts) (λ vs. LeftBy g want own stamp stop vs) late.taken.found left))

    left_hand : LookedAnd b w f i as_it_was
    left_hand = gave_up late.had.looks.looks owner late.had.asks late.x late.had.lent w (gives late.x owner stamp (waits_from mine is))

  -- as another holder left it
  pub next_shared : {w : PortValue} → own ≡ false → ServesType v w g want → GivesBack v w g want false → Does v w (λ vs. SharedBy g want stamp vs) →
      (is_telling v ≡ true → Leaves w (put g (set_kind g (partial_kind want false true 0 stamp) (told_word v)))) → (is_telling v ≡ true → is_free (told_word v (Refs g)) ≡ false) → TakesNext b w f i owner t (Err stop)
  next_shared {w} is serves gives left leaves owned =
      takes_next (left_meets w false is serves gives) (left_found w false is serves gives (subst (λ o. Does v w (λ vs. LeftBy g want o stamp stop vs)) (sym is) left)) (left_hand w false is serves gives)
      (had_plain late.had w (Err stop)
      (λ telling.
      shared_by w (told_word late.x) g want stop late.taken.takes.waits.0 (waits_is telling).0 (sym (waits_is telling).1 ∙ is)
      (told_alike w _ (left_shared g want (told_word late.x)) (leaves (on_v telling))
      (shared_left g want (had_some late.had) mark own stamp low stop (told_word late.x) (told_word v) (way telling) (waiting telling).2 is (owned (on_v telling))))))

  -- dead
  pub next_dead : {w : PortValue} → own ≡ true → is_refused stop ≡ true → is_table want ≡ false → ServesType v w g want → GivesBack v w g want true → Does v w (λ vs. DeadBy g want vs) →
      (is_telling v ≡ true → Leaves w (put g (set_kind g (dead_kind want true (stamp_now (told_word v))) (told_word v)))) → (is_telling v ≡ true → is_free (told_word v (Refs g)) ≡ false) → TakesNext b w f i owner t (Err stop)
  next_dead {w} is refused plain serves gives left leaves owned =
      takes_next (left_meets w true is serves gives)
      (left_found w true is serves gives
      (subst (λ o. Does v w (λ vs. LeftBy g want o stamp stop vs)) (sym is) (does_as v w (λ vs. DeadBy g want vs) (λ vs. LeftBy g want true stamp stop vs) (λ vs dead. left_dead_by g want stamp stop vs refused (reads_none plain) dead) left)))
      (left_hand w true is serves gives)
      (had_plain late.had w (Err stop)
      (λ telling.
      dead_by w (told_word late.x) g want stop late.taken.takes.waits.0 refused (reads_none plain) (waits_is telling).0 (sym (waits_is telling).1 ∙ is)
      (told_alike w _ (left_dead g want (told_word late.x)) (leaves (on_v telling))
      (dead_left g want (had_some late.had) mark own stamp low stop (told_word late.x) (told_word v) (way telling) (waiting telling).2 (owned (on_v telling))))))

  -- ---- it stayed partial, under the type count of the entry, which is recorded
  module _ {y : PortValue} (is : own ≡ true) (came : Came v y) (keeps : KeepsType v y g want) (partial : IsTrue (knows_partial (sizes_of v.post.machine) g want y.holdings)) where
    stays : StaysTyped late.x y g owner want
    stays = keeps late.x owner stamp (waits_from true is)

    came_all : Came late.had.u y
    came_all = came_trans late.had.u late.x y (serves_came late.had.u late.x (of_frame g owner None) [] late.had.refers) (came_trans late.x v y came_x came)

    typed_now : FlushedHolds late.had.u y (record late.had.u.holdings { typed = working_typed g owner want stays.since ∷ late.had.u.holdings.typed })
    typed_now = typed_from late.had.looks.looks owner late.had.asks late.x late.had.lent y (working_typed g owner want stays.since) stays.hand

    is_partial : IsTrue (knows_partial (sizes_of y.post.machine) g want y.holdings)
    is_partial = subst (λ (p : Post). IsTrue (knows_partial (sizes_of p.machine) g want y.holdings)) (sym (came_post v y came)) partial

    pub unsettled_records : RecordsNext y.post.machine f (i + 1) y.holdings
    unsettled_records = typed_records late.had.looks y g want (Since stays.since) typed_now came_all late.had.asks (inr is_partial)

    pub next_unsettled : {w : PortValue} {clock : ℕ} → (is_refused stop ≡ true → is_read_first want ≡ true) → ServesType v y g want → Does v y (λ vs. StoresKind g (partial_kind want false true 0 stamp) vs) →
        (is_telling v ≡ true → Leaves y (set_kind g (partial_kind want false true 0 stamp) (told_word v))) → Moves y w Clock Load kinds.Look (Some (Record f (i + 1))) clock → Holds y w (entry_recorded y.post.machine f y.holdings) →
        TakesNext b w f i owner t (Ok (Unsettled stop))
    next_unsettled {w} {clock} first serves left leaves moves holds =
        let lasts = leaves_unsettled (sizes_of y.post.machine) y.holdings (Typed g want) in
        takes_next
        (λ pages.
        enters_unsettled g want (had_goes late.had pages) (had_asks late.had pages) v stop late.taken.takes.waits.0 late.taken.takes.serves late.taken.takes.waits.1 y serves t moves)
        (had_found late.had w (Ok (Unsettled stop))
        (does_as late.x w _ (λ vs. TypedBy late.x.post g owner want f i (Ok (Unsettled stop)) vs)
        (λ vs steps.
        record { stamp = stamp; first = first; steps = subst (λ o. Then (λ ts. TakesOf late.x.post g owner want (Waiting o stamp stop) ts) (Then (λ ls. StoresKind g (partial_kind want false true 0 stamp) ls) (λ rs. Records f (i + 1) rs)) vs) is steps })
        (does_then late.x v w (λ ts. TakesOf late.x.post g owner want (Waiting own stamp stop) ts) _ late.taken.found
        (does_then v y w (λ vs. StoresKind g (partial_kind want false true 0 stamp) vs) (λ vs. Records f (i + 1) vs) left (does_record y w f (i + 1) clock moves)))))
        (unsettled_for lasts late.had.word y.holdings, (late.had.word, typed_hand late.had.looks y g want (Since stays.since) typed_now came_all late.had.asks (inr is_partial) w lasts refl holds))
        (had_plain late.had w (Ok (Unsettled stop))
        (λ telling. (
          (waits_is telling).0,
          sym (waits_is telling).1 ∙ is,
          first,
          told_alike w _ (left_partial g want (told_word late.x)) (λ q. ap (λ (m : Words). m q) (load_keeps moves (came_telling v y came ∙ on_v telling)) ∙ leaves (on_v telling) q)
              (partial_left g want (had_some late.had) mark own stamp low stop (told_word late.x) (told_word v) (way telling) (waiting telling).2),
        )))
