-- The hand in which a frame waits, and the hand after it is left.
use Rattle.std.proofs.Common.{◌≡◌, ℕ, ◌<◌, ◌^◌, ◌==◌, ◌||◌, not, Bool, true, false, ◌∷◌, Some, None, IsTrue, refl, sym, ap, ◌∙◌, subst, inl}
use Rattle.xp_words.specs.declared.kind.PageType.{PageType}
use Rattle.xp_words.specs.declared.place.Place.{Place}
use Rattle.xp_words.specs.declared.place.Place.TheVariants.{Clock, Kind}
use Rattle.xp_words.specs.KindWords.{is_kind, kind_write}
use Rattle.xp_words.specs.PageTypes.{type_number}
use Rattle.xp_words.specs.Places.{sizes_of}
use Rattle.xp_board.specs.declared.holdings.OwnerFound.{OwnerFound}
use Rattle.xp_board.specs.declared.holdings.OwnerFound.TheVariants as owners
use Rattle.xp_board.specs.declared.holdings.Reference.{Reference}
use Rattle.xp_board.specs.declared.holdings.TypedReference.{TypedReference}
use Rattle.xp_board.specs.declared.holdings.Work.{Work}
use Rattle.xp_board.specs.declared.step.Act.TheVariants.{Load, Store}
use Rattle.xp_board.specs.declared.step.StepKind.TheVariants as kinds
use Rattle.xp_board.specs.Acts.{left_by}
use Rattle.xp_board.specs.Hands.{refs_to, typed_owner, typed_to, without_ref, without_typed, without_work, work_on}
use Rattle.xp_board.specs.Knowledge.{knows_partial}
use Rattle.xp_board.specs.Readings.{is_partial_as}
use Rattle.xp_board.specs.Told.{Finds, PortValue}
use Rattle.xp_board.proofs.Returned.{same_type}
use Rattle.xp_board.proofs.ListCounts.{newest_held}
use Rattle.step_maker.specs.Holds.{FlushedHolds, FlushedSame, Holds, Same, quiet}
use Rattle.step_maker.specs.Moves.{Moves}
use Rattle.frame_words.specs.Freeing.{gave}
use Rattle.frame_words.specs.Refs.{MayPut}
use Rattle.kind_words.specs.Kinds.{MayLeave, dead_kind, left, partial_kind}
use Rattle.kind_words.proofs.KindFacts.{clock_is_small, out_of_works}
use Rattle.kind_words.proofs.KindHands.{apart_spares, clock_since, typed_held, work_here}
use Rattle.kind_words.proofs.Leaving.{left_dead, left_partial, may_keep, may_leave_dead, may_leave_marked, without_newest}
use Rattle.kind_words.proofs.KindWriting.{fields_write}
use Rattle.kind_words.proofs.Knowing.{partial_by_step}
use Rattle.frame_types.specs.Leaving.{StaysTyped, WaitsFrom, unsettled_typed}
use Rattle.frame_types.specs.Taking.{working, working_typed}
use Rattle.frame_types.proofs.Entering.{lent_held, typed_owned, working_works}

pub or_true : (b : Bool) → IsTrue (b || true)
or_true true = refl
or_true false = refl

-- ---- what is known partial
partial_as : (want : PageType) (n : ℕ) → IsTrue (is_kind (partial_kind want false true 0 n)) → is_partial_as want (kind_write (partial_kind want false true 0 n)) ≡ true
partial_as want n is = rw (fields_write (partial_kind want false true 0 n) is) (same_type want)

module _ (b v : PortValue) (f owner : ℕ) (want : PageType) (own : Bool) (stamp : ℕ) (w : WaitsFrom b v f owner want own stamp) where
  abbrev e : Work
  e = w.waits.work

  works_are : v.holdings.works ≡ e ∷ b.holdings.works
  works_are = ap (λ (q : PortValue). q.holdings.works) w.waits.works.hand ∙ working_works f owner want own e w.waits.works.since b.holdings

  pub here : work_on f v.holdings.works ≡ Some e
  here = work_here f e b.holdings.works v.holdings.works w.waits.works.frame works_are

  pub no_works : without_work f v.holdings.works ≡ b.holdings.works
  no_works = without_newest (λ (y : Work). y.frame) f e b.holdings.works v.holdings.works w.waits.works.frame works_are

  -- ---- partial
  pub partial_may : IsTrue (not (type_number want == 5) || false) → MayLeave v f (partial_kind want false true 0 stamp)
  partial_may page =
      subst (λ n. MayLeave v f (partial_kind want false true 0 n)) w.waits.stamped
      (may_leave_marked v f want e here w.waits.typed w.waits.works.kind false (λ k. absurd cc) w.waits.works.in_work w.waits.marked w.waits.none page)

  pub partial_back : (d : PortValue) (n : ℕ) → IsTrue (is_kind (partial_kind want false true 0 n)) → Holds v d (left v f (partial_kind want false true 0 n)) →
      FlushedHolds b d (record (working f owner want own e w.waits.works.since b.holdings) { works = b.holdings.works })
  partial_back d n is left_so =
      ap quiet left_so ∙ ap (λ k. quiet (record v { holdings = k })) (left_partial v f want e here true 0 n w.waits.works.in_work is)
      ∙ ap (λ ys. quiet (record v { holdings = record v.holdings { works = ys } })) no_works ∙ ap (λ (q : PortValue). quiet (record q { holdings = record q.holdings { works = b.holdings.works } })) w.waits.works.hand

  -- it is in no other work
  pub alone : (a : PortValue) (p : Place) (x : ℕ) → a.holdings.works ≡ v.holdings.works → Finds a.post.machine a.post.vcpu a.holdings p x → work_on f b.holdings.works ≡ None
  alone a p x same finds = ap (λ ys. work_on f ys) (sym no_works ∙ ap (λ ys. without_work f ys) (sym same)) ∙ out_of_works a.post.machine a.post.vcpu a.holdings p x finds f

-- ---- the untyped reference is still in hand
module _ (b v : PortValue) (f owner : ℕ) (want : PageType) (stamp : ℕ) (w : WaitsFrom b v f owner want false stamp) where
  pub shared_back : (d : PortValue) (n : ℕ) → IsTrue (is_kind (partial_kind want false true 0 n)) → Holds v d (left v f (partial_kind want false true 0 n)) → FlushedSame b d
  shared_back d n is left_so = partial_back b v f owner want false stamp w d n is left_so

  pub shared_gives : (d : PortValue) → FlushedSame b d → work_on f b.holdings.works ≡ None → MayPut f d.holdings
  shared_gives d back none =
      record {
        held = subst (λ rs. 0 < refs_to f rs) (sym (ap (λ (q : PortValue). q.holdings.refs) back)) (lent_held f owner b.holdings w.lent);
        spares = apart_spares f d.holdings (ap (λ (q : PortValue). work_on f q.holdings.works) back ∙ none);
      }

  pub shared_gone : (d x : PortValue) → FlushedSame b d → Holds d x (gave f d.holdings) → FlushedHolds b x (gave f b.holdings)
  shared_gone d x back put = ap quiet put ∙ ap (λ (q : PortValue). quiet (record q { holdings = gave f q.holdings })) back

-- ---- the type count is in hand
module _ (b v : PortValue) (f owner : ℕ) (want : PageType) (stamp : ℕ) (w : WaitsFrom b v f owner want true stamp) where
  abbrev typed : TypedReference
  typed = working_typed f owner want w.waits.works.since

  pub own_typed : v.holdings.typed ≡ typed ∷ b.holdings.typed
  own_typed = ap (λ (q : PortValue). q.holdings.typed) w.waits.works.hand

  pub own_held : 0 < typed_to f v.holdings.typed
  own_held = subst (λ xs. 0 < typed_to f xs) (sym own_typed) (typed_held f typed b.holdings.typed refl)

  pub own_owner : typed_owner f v.holdings ≡ owners.Of owner
  own_owner = typed_owned f owner typed b.holdings.typed v.holdings own_typed refl refl

  pub no_typed : without_typed f v.holdings.typed ≡ b.holdings.typed
  no_typed = without_newest (λ (y : TypedReference). y.frame) f typed b.holdings.typed v.holdings.typed refl own_typed

  -- and stays there
  module _ (d : PortValue) (n : ℕ) (is : IsTrue (is_kind (partial_kind want false true 0 n))) (left_so : Holds v d (left v f (partial_kind want false true 0 n))) where
    stays_hand : FlushedHolds b d (unsettled_typed f owner want w.waits.works.since b.holdings)
    stays_hand = partial_back b v f owner want true stamp w d n is left_so

    pub stays_typed : d.holdings.typed ≡ typed ∷ b.holdings.typed
    stays_typed = ap (λ (q : PortValue). q.holdings.typed) stays_hand

    pub unsettled_hand : StaysTyped b d f owner want
    unsettled_hand =
        record {
          since = w.waits.works.since;
          hand = stays_hand;
          held = subst (λ xs. 0 < typed_to f xs) (sym stays_typed) (typed_held f typed b.holdings.typed refl);
          owned = typed_owned f owner typed b.holdings.typed d.holdings stays_typed refl refl;
        }

    -- the frame is known partial by it
    pub stays_known : (x : ℕ) → Moves v d (Kind f) (Store (kind_write (partial_kind want false true 0 n))) kinds.Kind None x → IsTrue (knows_partial (sizes_of v.post.machine) f want d.holdings)
    unfolding left_by
    stays_known x store =
        partial_by_step v d f want (Store (kind_write (partial_kind want false true 0 n))) kinds.Kind None x store typed b.holdings.typed w.waits.works.since stays_typed refl refl w.waits.works.taken (partial_as want n is)

  -- it goes into the `kept` mark of the frame, which is of the own domain
  pub kept_may : MayLeave v f (partial_kind want true true 0 stamp)
  kept_may =
      subst (λ n. MayLeave v f (partial_kind want true true 0 n)) w.waits.stamped
      (may_leave_marked v f want w.waits.work (here b v f owner want true stamp w) w.waits.typed w.waits.works.kind true (λ k. may_keep f w.waits.work v.holdings owner w.waits.works.in_work own_held own_owner) w.waits.works.in_work
      w.waits.marked w.waits.none (or_true (not (type_number want == 5))))

  -- dead with its mark, and a clock value that was found then
  module _ (a : PortValue) (clock : ℕ) (look : Moves v a Clock Load kinds.Look None clock) (same : Same v a) where
    pub at_a : work_on f a.holdings.works ≡ Some (w.waits.work)
    at_a = ap (λ (q : PortValue). work_on f q.holdings.works) same ∙ here b v f owner want true stamp w

    pub small : clock < 2 ^ 36
    small = clock_is_small v.post.machine v.post.vcpu v.holdings clock look.finds

    pub dead_may : MayLeave a f (dead_kind want true clock)
    dead_may =
        may_leave_dead a f want w.waits.work at_a w.waits.typed true clock w.waits.works.kind w.waits.none (inl (sym w.waits.marked)) small (clock_since v a clock w.waits.work.since look w.waits.works.earlier)
        (λ work. subst (λ xs. 0 < typed_to f xs) (sym (ap (λ (q : PortValue). q.holdings.typed) same)) own_held)

    abbrev back_ref : Reference
    back_ref = record { frame = f; owner = owners.Of owner }

    pub dead_back : (d : PortValue) → Holds a d (left a f (dead_kind want true clock)) → FlushedHolds b d (record b.holdings { refs = back_ref ∷ without_ref f b.holdings.refs })
    dead_back d left_so =
        ap quiet left_so ∙ ap (λ k. quiet (record a { holdings = k })) (left_dead a f want w.waits.work at_a w.waits.typed true clock small w.waits.works.in_work)
        ∙ ap (λ (q : PortValue). quiet (record q { holdings = record q.holdings { refs = record { frame = f; owner = typed_owner f a.holdings } ∷ q.holdings.refs; typed = without_typed f q.holdings.typed; works = without_work f q.holdings.works } })) same
        ∙ ap (λ (o : OwnerFound). quiet (record v { holdings = record v.holdings { refs = record { frame = f; owner = o } ∷ v.holdings.refs; typed = without_typed f v.holdings.typed; works = without_work f v.holdings.works } }))
        (typed_owned f owner typed b.holdings.typed a.holdings (ap (λ (q : PortValue). q.holdings.typed) same ∙ own_typed) refl refl)
        ∙ ap (λ xs. quiet (record v { holdings = record v.holdings { refs = back_ref ∷ v.holdings.refs; typed = xs; works = without_work f v.holdings.works } })) no_typed
        ∙ ap (λ ys. quiet (record v { holdings = record v.holdings { refs = back_ref ∷ v.holdings.refs; typed = b.holdings.typed; works = ys } })) (no_works b v f owner want true stamp w)
        ∙ ap (λ (q : PortValue). quiet (record q { holdings = record q.holdings { refs = back_ref ∷ q.holdings.refs; typed = b.holdings.typed; works = b.holdings.works } })) w.waits.works.hand

    pub dead_gives : (d : PortValue) → FlushedHolds b d (record b.holdings { refs = back_ref ∷ without_ref f b.holdings.refs }) → work_on f b.holdings.works ≡ None → MayPut f d.holdings
    dead_gives d back none =
        record {
          held = subst (λ rs. 0 < refs_to f rs) (sym (ap (λ (q : PortValue). q.holdings.refs) back)) (newest_held f back_ref (without_ref f b.holdings.refs) refl);
          spares = apart_spares f d.holdings (ap (λ (q : PortValue). work_on f q.holdings.works) back ∙ none);
        }

    pub dead_gone : (d x : PortValue) → FlushedHolds b d (record b.holdings { refs = back_ref ∷ without_ref f b.holdings.refs }) → Holds d x (gave f d.holdings) → FlushedHolds b x (gave f b.holdings)
    dead_gone d x back put =
        ap quiet put ∙ ap (λ (q : PortValue). quiet (record q { holdings = gave f q.holdings })) back
        ∙ ap (λ rs. quiet (record b { holdings = record b.holdings { refs = rs } })) (without_newest (λ (y : Reference). y.frame) f back_ref (without_ref f b.holdings.refs) _ refl refl)
