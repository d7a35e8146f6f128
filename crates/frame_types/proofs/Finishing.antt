-- A frame in the own works that is made live, or loses its mark.
use Rattle.std.proofs.Common.{◌≡◌, ◌≢◌, ℕ, ◌+◌, not, if◌then◌else◌, Bool, true, false, List, ◌∷◌, length, Some, None, IsTrue, refl, sym, ap, ◌∙◌, subst, arith, lit<}
use Rattle.xp_words.specs.declared.kind.KindWord.{KindWord}
use Rattle.xp_words.specs.declared.kind.PageType.{PageType}
use Rattle.xp_words.specs.declared.kind.PageType.TheVariants as types
use Rattle.xp_words.specs.declared.place.Place.TheVariants.{Kind}
use Rattle.xp_words.specs.KindWords.{is_kind, kind_fields, kind_write}
use Rattle.xp_words.specs.PageTypes.{is_none, is_table}
use Rattle.xp_board.specs.declared.step.Act.TheVariants.{Store}
use Rattle.xp_board.specs.declared.step.StepKind.TheVariants as kinds
use Rattle.xp_board.specs.declared.holdings.Holdings.{Holdings}
use Rattle.xp_board.specs.declared.holdings.TypedReference.{TypedReference}
use Rattle.xp_board.specs.declared.holdings.Work.{Work}
use Rattle.xp_board.specs.declared.holdings.OwnerFound.{OwnerFound}
use Rattle.xp_board.specs.declared.holdings.OwnerFound.TheVariants as owners
use Rattle.xp_board.specs.Hands.{without_ref, without_typed, work_on, without_work, changed_work}
use Rattle.xp_board.specs.KindSteps.{live_typed}
use Rattle.xp_board.specs.Lists.{changed_by}
use Rattle.xp_board.specs.Readings.{is_work}
use Rattle.xp_board.specs.Told.{PortValue}
use Rattle.xp_board.proofs.Sums.{when_eq}
use Rattle.step_maker.specs.Holds.{FlushedHolds, Holds, MayWork, quiet}
use Rattle.step_maker.specs.Moves.{Moves}
use Rattle.step_maker.specs.Answers.{Deed, Serves}
use Rattle.step_maker.specs.Asked.{of_frame}
use Rattle.kind_words.specs.Kinds.{IsWholeWork, MayLeave, left, live_kind, unmarked_kind, work_kind}
use Rattle.kind_words.proofs.KindHands.{plain_whole}
use Rattle.kind_words.proofs.KindWriting.{fields_write, live_is}
use Rattle.kind_words.proofs.Leaving.{may_leave_live, left_live, may_leave_shared, left_shared, may_leave_unmarked, left_unmarked, without_newest}
use Rattle.flush_words.proofs.Lasting.{moves_longer}
use Rattle.flush_waits.specs.Waiting.{IsFlushed}
use Rattle.frame_types.specs.Plain.{is_read_first}
use Rattle.frame_types.specs.Taking.{Enters, IsWorking, WorksFrom, typed_as, working, working_typed}
use Rattle.frame_types.proofs.Entering.{entered_works, entered_here, entered_fields, entered_past, own_typed, own_held, own_owner, shared_lent, shared_aside, lent_held, lent_owner}
use Rattle.frame_types.proofs.Serving.{store_serves}

no_table : (t : PageType) → is_read_first t ≡ false → is_table t ≡ false
no_table t off = grind arith

no_descriptors : (t : PageType) → is_read_first t ≡ false → t ≢ types.Desc
no_descriptors t off is = absurd (let e = subst (λ y. is_read_first y ≡ false) is off in cc)

pub no_memory : (t : PageType) → is_read_first t ≡ true → t ≢ types.Writable
no_memory t on is = absurd (let e = subst (λ y. is_read_first y ≡ true) is on in cc)

module _ (b v : PortValue) (f owner : ℕ) (want : PageType) (marked : Bool) (stamp progress : ℕ) (own : Bool) (e : Enters b v f owner want marked stamp progress own) where
  here : work_on f v.holdings.works ≡ Some e.work
  here = entered_here b v f owner want marked stamp progress own e

  fields : kind_fields e.work.word ≡ work_kind want marked stamp
  fields = entered_fields b v f owner want marked stamp progress own e

  in_work : IsTrue (is_work (kind_fields e.work.word))
  in_work = ap (λ (k : KindWord). is_work k) fields

  of_kind : (kind_fields e.work.word).kind ≡ want
  of_kind = ap (λ (k : KindWord). k.kind) fields

  of_mark : (kind_fields e.work.word).unflushed ≡ marked
  of_mark = ap (λ (k : KindWord). k.unflushed) fields

  whole : is_read_first want ≡ false → (marked ≡ true → IsFlushed v.post.machine f v.holdings) → IsWholeWork v.post.machine f want v.holdings e.work
  whole plain past =
      plain_whole v.post.machine f want v.holdings e.work (no_table want plain) (no_descriptors want plain) in_work of_kind
      (λ on. entered_past b v f owner want marked stamp progress own e (past (sym of_mark ∙ on)))

  no_works : without_work f v.holdings.works ≡ b.holdings.works
  no_works = without_newest (λ (y : Work). y.frame) f e.work b.holdings.works v.holdings.works e.frame (entered_works b v f owner want marked stamp progress own e)

  -- ---- live, with the own type count
  module _ (mine : own ≡ true) (wanted : IsTrue (not (is_none want))) where
    own_leaves : MayWork v → is_read_first want ≡ false → (marked ≡ true → IsFlushed v.post.machine f v.holdings) → MayLeave v f (live_kind want 1)
    own_leaves may plain past = may_leave_live v f want e.work here wanted may (whole plain past) (own_held b v f owner want marked stamp progress own e mine)

    typed : TypedReference
    typed = working_typed f owner want e.since

    no_typed : without_typed f v.holdings.typed ≡ b.holdings.typed
    unfolding typed
    no_typed = without_newest (λ (y : TypedReference). y.frame) f typed b.holdings.typed v.holdings.typed refl (own_typed b v f owner want marked stamp progress own e mine)

    own_live : (w : PortValue) → Holds v w (left v f (live_kind want 1)) → FlushedHolds b w (typed_as f owner want b.holdings)
    own_live w holds =
        ap quiet holds ∙ ap (λ k. quiet (record v { holdings = k })) (left_live v f want e.work here wanted)
        ∙ ap (λ (o : OwnerFound). quiet (record v { holdings = record v.holdings { typed = live_typed f want o ∷ without_typed f v.holdings.typed; works = without_work f v.holdings.works } })) (own_owner b v f owner want marked stamp progress own e mine)
        ∙ ap (λ xs. quiet (record v { holdings = record v.holdings { typed = live_typed f want (owners.Of owner) ∷ xs; works = without_work f v.holdings.works } })) no_typed
        ∙ ap (λ ys. quiet (record v { holdings = record v.holdings { typed = live_typed f want (owners.Of owner) ∷ b.holdings.typed; works = ys } })) no_works
        ∙ ap (λ (q : PortValue). quiet (record q { holdings = record q.holdings { typed = live_typed f want (owners.Of owner) ∷ b.holdings.typed; works = b.holdings.works } })) e.hand
        ∙ ap (λ (o : Bool). quiet (record b { holdings = record (working f owner want o e.work e.since b.holdings) { typed = live_typed f want (owners.Of owner) ∷ b.holdings.typed; works = b.holdings.works } })) mine

  -- ---- live, with a second type count
  module _ (shared : own ≡ false) (wanted : IsTrue (not (is_none want))) where
    shared_leaves : MayWork v → is_read_first want ≡ false → (marked ≡ true → IsFlushed v.post.machine f v.holdings) → MayLeave v f (live_kind want 2)
    shared_leaves may plain past =
        may_leave_shared v f want e.work here wanted may (whole plain past) (shared_aside b v f owner want marked stamp progress own e shared) (lent_held f owner v.holdings (shared_lent b v f owner want marked stamp progress own e shared))

    shared_live : (w : PortValue) → Holds v w (left v f (live_kind want 2)) → FlushedHolds b w (typed_as f owner want b.holdings)
    shared_live w holds =
        ap quiet holds ∙ ap (λ k. quiet (record v { holdings = k })) (left_shared v f want e.work here wanted)
        ∙ ap (λ (o : OwnerFound). quiet (record v { holdings = record v.holdings { refs = without_ref f v.holdings.refs; typed = live_typed f want o ∷ v.holdings.typed; works = without_work f v.holdings.works } }))
        (lent_owner f owner v.holdings (shared_lent b v f owner want marked stamp progress own e shared))
        ∙ ap (λ ys. quiet (record v { holdings = record v.holdings { refs = without_ref f v.holdings.refs; typed = live_typed f want (owners.Of owner) ∷ v.holdings.typed; works = ys } })) no_works
        ∙ ap (λ (q : PortValue). quiet (record q { holdings = record q.holdings { refs = without_ref f q.holdings.refs; typed = live_typed f want (owners.Of owner) ∷ q.holdings.typed; works = b.holdings.works } })) e.hand
        ∙ ap (λ (o : Bool). quiet (record b { holdings = record (working f owner want o e.work e.since b.holdings) { refs = without_ref f (working f owner want o e.work e.since b.holdings).refs; typed = live_typed f want (owners.Of owner) ∷ (working f owner want o e.work e.since b.holdings).typed; works = b.holdings.works } })) shared

-- the word with which it is left: live, by the count
module _ (b v : PortValue) (f owner : ℕ) (want : PageType) (marked : Bool) (stamp progress : ℕ) (l : KindWord) (n : ℕ) (wanted : IsTrue (not (is_none want))) (is : l ≡ live_kind want n) where
  pub live_leaves : (own : Bool) → Enters b v f owner want marked stamp progress own → n ≡ (if own then 1 else 2) → MayWork v → is_read_first want ≡ false → (marked ≡ true → IsFlushed v.post.machine f v.holdings) → MayLeave v f l
  live_leaves true e count may plain past = rw (is, count) (own_leaves b v f owner want marked stamp progress true e refl wanted may plain past)
  live_leaves false e count may plain past = rw (is, count) (shared_leaves b v f owner want marked stamp progress false e refl wanted may plain past)

  pub live_hand : (own : Bool) → Enters b v f owner want marked stamp progress own → n ≡ (if own then 1 else 2) → (w : PortValue) → Holds v w (left v f l) → FlushedHolds b w (typed_as f owner want b.holdings)
  live_hand true e count w holds =
      own_live b v f owner want marked stamp progress true e refl wanted w (subst (λ k. Holds v w (left v f k)) (is ∙ ap (live_kind want) count) holds)
  live_hand false e count w holds =
      shared_live b v f owner want marked stamp progress false e refl wanted w (subst (λ k. Holds v w (left v f k)) (is ∙ ap (live_kind want) count) holds)

-- ---- in work without its mark
pub changed_newest : (f : ℕ) (change : Work → Work) (e : Work) (xs ys : List Work) → e.frame ≡ f → ys ≡ e ∷ xs → changed_work f change ys ≡ change e ∷ xs
unfolding changed_by
changed_newest f change e xs ys frame is = ap (λ zs. changed_work f change zs) is ∙ rw (when_eq e.frame f frame) refl

working_again : (f owner : ℕ) (want : PageType) (own : Bool) (x y : Work) (since : ℕ) (h : Holdings) → record (working f owner want own x since h) { works = y ∷ h.works } ≡ working f owner want own y since h
working_again f owner want true x y since h = refl
working_again f owner want false x y since h = refl

unmarked_again : (want : PageType) (stamp : ℕ) (k : KindWord) → k ≡ work_kind want true stamp → unmarked_kind k ≡ work_kind want false 0
unmarked_again want stamp k is = rw is refl

module _ (b v : PortValue) (f owner : ℕ) (want : PageType) (stamp progress : ℕ) (own : Bool) (e : Enters b v f owner want true stamp progress own) where
  unmarked_is : unmarked_kind (kind_fields e.work.word) ≡ work_kind want false 0
  unmarked_is = unmarked_again want stamp (kind_fields e.work.word) (fields b v f owner want true stamp progress own e)

  spelled : IsTrue (is_kind (kind_fields e.work.word))
  spelled = subst (λ k. IsTrue (is_kind k)) (sym (fields b v f owner want true stamp progress own e)) e.spelled

  pub unmarked_leaves : IsFlushed v.post.machine f v.holdings → (l : KindWord) → l ≡ work_kind want false 0 → MayLeave v f l
  unmarked_leaves past l is =
      subst (λ k. MayLeave v f k) (unmarked_is ∙ sym is)
      (may_leave_unmarked v f e.work (here b v f owner want true stamp progress own e) spelled (in_work b v f owner want true stamp progress own e) (of_mark b v f owner want true stamp progress own e)
      (entered_past b v f owner want true stamp progress own e past))

  module _ (w : PortValue) (l : KindWord) (is : l ≡ work_kind want false 0) (found : ℕ) (store : Moves v w (Kind f) (Store (kind_write l)) kinds.Kind None found) (holds : Holds v w (left v f l)) (wanted : IsTrue (is_kind l)) where
    item : Work
    item = record e.work { word = kind_write (work_kind want false 0); unmarked = length v.holdings.steps + 1 }

    item_fields : kind_fields item.word ≡ work_kind want false 0
    unfolding item
    item_fields = fields_write (work_kind want false 0) (subst (λ k. IsTrue (is_kind k)) is wanted)

    item_hand : FlushedHolds b w (working f owner want own item e.since b.holdings)
    unfolding item
    item_hand =
        ap quiet holds ∙ ap (λ k. quiet (record v { holdings = left v f k })) (is ∙ sym unmarked_is)
        ∙ ap (λ k. quiet (record v { holdings = k })) (left_unmarked v f e.work (here b v f owner want true stamp progress own e) spelled (in_work b v f owner want true stamp progress own e))
        ∙ ap (λ ys. quiet (record v { holdings = record v.holdings { works = ys } }))
        (changed_newest f (λ y. record y { word = kind_write (unmarked_kind (kind_fields e.work.word)); unmarked = length v.holdings.steps + 1 }) e.work b.holdings.works v.holdings.works e.frame (entered_works b v f owner want true stamp progress own e)
        ∙ ap (λ k. record e.work { word = kind_write k; unmarked = length v.holdings.steps + 1 } ∷ b.holdings.works) unmarked_is)
        ∙ ap (λ (q : PortValue). quiet (record q { holdings = record q.holdings { works = item ∷ b.holdings.works } })) e.hand
        ∙ ap (λ k. quiet (record b { holdings = k })) (working_again f owner want own e.work item e.since b.holdings)

    pub unmarked_works : WorksFrom b w f owner want progress own
    unfolding item
    unmarked_works =
        let more = moves_longer v w (Kind f) (Store (kind_write l)) kinds.Kind None found store in
        let earlier = e.earlier in
        let taken = e.taken in
        record {
          work = item;
          works = record {
            since = e.since;
            taken = omega (arith, more, taken);
            frame = e.frame;
            in_work = ap (λ (k : KindWord). is_work k) item_fields;
            kind = ap (λ (k : KindWord). k.kind) item_fields;
            earlier = omega (arith, more, earlier);
            aside = e.aside;
            hand = item_hand;
          };
          recorded = e.recorded;
          settled = e.settled;
          unmarked = ap (λ (k : KindWord). k.unflushed) item_fields;
          unfixed = e.unfixed;
          whose = e.whose;
          bare = e.bare;
        }

-- one that has none stays as it is
pub entered_working : (b v : PortValue) (f owner : ℕ) (want : PageType) (marked : Bool) (stamp progress : ℕ) (own : Bool) (e : Enters b v f owner want marked stamp progress own) → IsWorking b v f owner want own e.work
entered_working b v f owner want marked stamp progress own e =
    record {
      since = e.since;
      taken = e.taken;
      frame = e.frame;
      in_work = in_work b v f owner want marked stamp progress own e;
      kind = of_kind b v f owner want marked stamp progress own e;
      earlier = e.earlier;
      aside = e.aside;
      hand = e.hand;
    }

pub plain_works : (b v : PortValue) (f owner : ℕ) (want : PageType) (stamp progress : ℕ) (own : Bool) → Enters b v f owner want false stamp progress own → WorksFrom b v f owner want progress own
plain_works b v f owner want stamp progress own e =
    record {
      work = e.work;
      works = entered_working b v f owner want false stamp progress own e;
      recorded = e.recorded;
      settled = e.settled;
      unmarked = of_mark b v f owner want false stamp progress own e;
      unfixed = e.unfixed;
      whose = e.whose;
      bare = e.bare;
    }

-- ---- its steps serve the type that is asked
pub left_serves : (u b v w : PortValue) (f owner : ℕ) (want : PageType) (marked : Bool) (stamp progress : ℕ) (own : Bool) → Enters b v f owner want marked stamp progress own → (l : KindWord) → IsTrue (is_kind l) → l.kind ≡ want →
    (found : ℕ) → Moves v w (Kind f) (Store (kind_write l)) kinds.Kind None found → (ds : List Deed) → Serves u v (of_frame f owner (Some want)) ds → Serves u w (of_frame f owner (Some want)) ds
left_serves u b v w f owner want marked stamp progress own e l is kind found store ds before =
    store_serves u v w f owner want ds before e.work l found (here b v f owner want marked stamp progress own e) (in_work b v f owner want marked stamp progress own e) (of_kind b v f owner want marked stamp progress own e) is kind store

-- the words of frames that are left so
pub live_spelled : (want : PageType) (own : Bool) → IsTrue (not (is_none want)) → IsTrue (is_kind (live_kind want (if own then 1 else 2)))
live_spelled want true wanted = live_is want wanted 1 (lit< tt)
live_spelled want false wanted = live_is want wanted 2 (lit< tt)
