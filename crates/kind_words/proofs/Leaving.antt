-- The words with which a frame of the own works may be left, and the hand after each.
use Rattle.std.proofs.Common.{◌≡◌, ◌≢◌, ℕ, ◌+◌, ◌^◌, ◌<◌, ◌≤◌, ◌==◌, ◌||◌, ◌⊎◌, not, if◌then◌else◌, Bool, true, false, List, [], ◌∷◌, length, Some, IsTrue, refl, sym, ap, ◌∙◌, subst, arith, lit<, inl, inr}
use Rattle.std.proofs.lemmas.Bool.{cases_eq}
use Rattle.std.proofs.lemmas.Bool.Decides.{nat_tests}
use Rattle.xp_words.specs.Machine.{Machine}
use Rattle.xp_words.specs.declared.kind.KindWord.{KindWord}
use Rattle.xp_words.specs.declared.kind.PageType.{PageType}
use Rattle.xp_words.specs.declared.place.Place.TheVariants.{Clock}
use Rattle.xp_words.specs.KindWords.{is_kind, kind_fields, kind_write}
use Rattle.xp_words.specs.PageTypes.{is_none, is_table, type_number}
use Rattle.xp_words.specs.Places.{sizes_of}
use Rattle.xp_words.proofs.Shared.{eq_false as when_ne}
use Rattle.xp_board.specs.declared.holdings.Work.{Work}
use Rattle.xp_board.specs.declared.holdings.Holdings.{Holdings}
use Rattle.xp_board.specs.declared.holdings.TypedReference.{TypedReference}
use Rattle.xp_board.specs.declared.holdings.OwnerFound.{OwnerFound}
use Rattle.xp_board.specs.declared.holdings.OwnerFound.TheVariants as owners
use Rattle.xp_board.specs.declared.holdings.Liveness.TheVariants as lives
use Rattle.xp_board.specs.Flushes.{IsPastFlush}
use Rattle.xp_board.specs.Hands.{refs_to, without_ref, typed_to, without_typed, work_on, without_work, changed_work, ref_owner, typed_owner}
use Rattle.xp_board.specs.Lists.{first_by, without_by, changed_by}
use Rattle.xp_board.specs.KindSteps.{Form, Live, Partial, InWork, Dead, form_of, after_form, after_kind_store, live_typed, looking_at, KeepsKept, MayKeep, MayUnmark, AllowsForm, put_partial, as_typed, kept_owner}
use Rattle.xp_board.specs.Readings.{is_work, is_closing, domain_of}
use Rattle.xp_board.specs.Steps.{some_since}
use Rattle.xp_board.specs.Told.{PortValue}
use Rattle.xp_board.proofs.KindReadings.{work_alone, closing_alone, work_unlive}
use Rattle.xp_board.proofs.Sums.{when_eq}
use Rattle.step_maker.specs.Holds.{MayWork}
use Rattle.kind_words.specs.Kinds.{MayLeave, left, IsWholeWork, live_kind, partial_kind, unmarked_kind, dead_kind}
use Rattle.kind_words.proofs.KindWriting.{fields_write, live_is, marked_is, partial_is, unmarked_is, dead_is, live_fits, unlive_fits}

work_form : (l : KindWord) → IsTrue (is_work l) → form_of l ≡ InWork
work_form l work = grind (arith, nat_tests)

-- what stands in the work e is left with the word l
pub left_is : (v : PortValue) (f : ℕ) (e : Work) (l : KindWord) (r : Form) → work_on f v.holdings.works ≡ Some e → IsTrue (is_kind l) → form_of l ≡ r →
    left v f l ≡ after_form r v.post.machine v.post.vcpu f e l (kind_write l) v.holdings
left_is v f e l r here is form =
    ap (λ o. after_kind_store v.post.machine v.post.vcpu f (kind_write l) o v.holdings) here
    ∙ ap (λ y. after_form (form_of y) v.post.machine v.post.vcpu f e y (kind_write l) v.holdings) (fields_write l is)
    ∙ ap (λ y. after_form y v.post.machine v.post.vcpu f e l (kind_write l) v.holdings) form

module _ (v : PortValue) (f : ℕ) (want : PageType) (e : Work) (here : work_on f v.holdings.works ≡ Some e) (typed : IsTrue (not (is_none want))) where
  -- ---- live
  -- the type count is in hand
  pub may_leave_live : MayWork v → IsWholeWork v.post.machine f want v.holdings e → 0 < typed_to f v.holdings.typed → MayLeave v f (live_kind want 1)
  may_leave_live may whole held =
      let some = may.machine.some_count in
      record {
        is = live_is want typed 1 (lit< tt);
        fits = live_fits v.post.machine want 1 (omega (arith, some));
        work = e;
        here = here;
        may = record {
          work = whole.work;
          kind = sym whole.kind;
          unpinned = refl;
          unlocked = refl;
          past = whole.past;
          table = whole.table;
          descriptors = whole.descriptors;
          counts = inl (refl, held);
        };
      }

  pub left_live : left v f (live_kind want 1) ≡ record v.holdings { typed = live_typed f want (typed_owner f v.holdings) ∷ without_typed f v.holdings.typed; works = without_work f v.holdings.works }
  left_live = left_is v f e (live_kind want 1) Live here (live_is want typed 1 (lit< tt)) refl

  -- the type count is another holder's, and an untyped reference in hand becomes a second one
  pub may_leave_shared : MayWork v → IsWholeWork v.post.machine f want v.holdings e → typed_to f v.holdings.typed ≡ 0 → 0 < refs_to f v.holdings.refs → MayLeave v f (live_kind want 2)
  may_leave_shared may whole untyped held =
      record {
        is = live_is want typed 2 (lit< tt);
        fits = live_fits v.post.machine want 2 may.machine.some_count;
        work = e;
        here = here;
        may = record {
          work = whole.work;
          kind = sym whole.kind;
          unpinned = refl;
          unlocked = refl;
          past = whole.past;
          table = whole.table;
          descriptors = whole.descriptors;
          counts = inr (refl, untyped, held);
        };
      }

  pub left_shared : left v f (live_kind want 2)
      ≡ record v.holdings { refs = without_ref f v.holdings.refs; typed = live_typed f want (ref_owner f v.holdings) ∷ v.holdings.typed; works = without_work f v.holdings.works }
  left_shared = left_is v f e (live_kind want 2) Live here (live_is want typed 2 (lit< tt)) refl

  -- ---- dead
  -- nothing is recorded; the mark stays, or goes off past the flush; the stamp was found since
  pub may_leave_dead : (unflushed : Bool) (stamp : ℕ) → (kind_fields e.word).kind ≡ want → e.recorded ≡ 0 → (unflushed ≡ (kind_fields e.word).unflushed) ⊎ ((unflushed ≡ false) × IsPastFlush v.post.machine v.holdings e) →
      stamp < 2 ^ 36 → IsTrue (some_since (sizes_of v.post.machine) e.since Clock (λ w. w == stamp) v.holdings.steps) → (IsTrue (is_work (kind_fields e.word)) → 0 < typed_to f v.holdings.typed) →
      MayLeave v f (dead_kind want unflushed stamp)
  may_leave_dead unflushed stamp kind none mark small since counts =
      record {
        is = dead_is want typed unflushed stamp small;
        fits = unlive_fits v.post.machine (dead_kind want unflushed stamp) refl;
        work = e;
        here = here;
        may = record { kind = sym kind; none = none; mark = mark; stamp = since; counts = counts };
      }

  -- from work its type count becomes an untyped reference
  pub left_dead : (unflushed : Bool) (stamp : ℕ) → stamp < 2 ^ 36 → IsTrue (is_work (kind_fields e.word)) →
      left v f (dead_kind want unflushed stamp)
      ≡ record v.holdings { refs = record { frame = f; owner = typed_owner f v.holdings } ∷ v.holdings.refs; typed = without_typed f v.holdings.typed; works = without_work f v.holdings.works }
  left_dead unflushed stamp small working = left_is v f e (dead_kind want unflushed stamp) Dead here (dead_is want typed unflushed stamp small) refl ∙ rw working refl

  pub left_dead_closing : (unflushed : Bool) (stamp : ℕ) → stamp < 2 ^ 36 → IsTrue (is_closing (kind_fields e.word)) →
      left v f (dead_kind want unflushed stamp) ≡ record v.holdings { works = without_work f v.holdings.works }
  left_dead_closing unflushed stamp small closing =
      let idle = closing_alone (kind_fields e.word) closing in
      left_is v f e (dead_kind want unflushed stamp) Dead here (dead_is want typed unflushed stamp small) refl ∙ rw idle refl

-- ---- partial
pub number_small : (w : ℕ) → (kind_fields w).number < 2 ^ 36
unfolding kind_fields
number_small w = omega arith

owner_if : (b t : Bool) (a o : OwnerFound) → b ≡ t → (if b then a else o) ≡ (if t then a else o)
owner_if b t a o is = rw is refl

-- the reference that goes into a `kept` mark: from work the type count, from closing an untyped one
pub may_keep : (f : ℕ) (e : Work) (h : Holdings) (owner : ℕ) → IsTrue (is_work (kind_fields e.word)) → 0 < typed_to f h.typed → typed_owner f h ≡ owners.Of owner → MayKeep f e h
may_keep f e h owner working held known =
    record {
      in_hand = λ work. held;
      owner = owner;
      known = owner_if (is_closing (kind_fields e.word)) false (ref_owner f h) (typed_owner f h) (work_alone (kind_fields e.word) working) ∙ known;
    }

pub may_keep_closing : (f : ℕ) (e : Work) (h : Holdings) (owner : ℕ) → IsTrue (is_closing (kind_fields e.word)) → ref_owner f h ≡ owners.Of owner → MayKeep f e h
may_keep_closing f e h owner closing known =
    record {
      in_hand = λ work. absurd (let idle = closing_alone (kind_fields e.word) closing in cc);
      owner = owner;
      known = owner_if (is_closing (kind_fields e.word)) true (ref_owner f h) (typed_owner f h) closing ∙ known;
    }

mark_gone : (n : Machine) (e : Work) (l : KindWord) (h : Holdings) → l.unflushed ≡ false → ((kind_fields e.word).unflushed ≡ false) ⊎ (((kind_fields e.word).unflushed ≡ true) × IsPastFlush n h e) → KeepsKept n e l h
mark_gone n e l h off (inl plain) = inl (off ∙ sym plain, λ on. absurd (cc))
mark_gone n e l h off (inr past) = inr (past.0, off, past.1)

module _ (v : PortValue) (f : ℕ) (want : PageType) (e : Work) (here : work_on f v.holdings.works ≡ Some e) (typed : IsTrue (not (is_none want))) (kind : (kind_fields e.word).kind ≡ want) (kept : Bool)
    (keeps : kept ≡ true → MayKeep f e v.holdings) where
  -- a marked frame, with its stamp
  pub may_leave_marked : IsTrue (is_work (kind_fields e.word)) → (kind_fields e.word).unflushed ≡ true → e.recorded ≡ 0 → IsTrue (not (type_number want == 5) || kept) →
      MayLeave v f (partial_kind want kept true 0 (kind_fields e.word).number)
  may_leave_marked working marked none descriptors =
      record {
        is = marked_is want typed kept (kind_fields e.word).number descriptors (number_small e.word);
        fits = unlive_fits v.post.machine (partial_kind want kept true 0 (kind_fields e.word).number) refl;
        work = e;
        here = here;
        may = record {
          kind = sym kind;
          progress = sym none;
          mark = inl (sym marked, λ on. refl);
          kept = keeps;
          closing = λ closing. absurd (let off = work_alone (kind_fields e.word) working in cc);
        };
      }

  -- a table that is not marked, or past its flush, with what is recorded
  pub may_leave_partial : IsTrue (is_table want) → e.recorded ≤ 512 → ((kind_fields e.word).unflushed ≡ false) ⊎ (((kind_fields e.word).unflushed ≡ true) × IsPastFlush v.post.machine v.holdings e) →
      (IsTrue (is_closing (kind_fields e.word)) → 0 < refs_to f v.holdings.refs) → MayLeave v f (partial_kind want kept false e.recorded 0)
  may_leave_partial table few mark closing =
      record {
        is = partial_is want typed kept e.recorded table few;
        fits = unlive_fits v.post.machine (partial_kind want kept false e.recorded 0) refl;
        work = e;
        here = here;
        may = record {
          kind = sym kind;
          progress = refl;
          mark = mark_gone v.post.machine e (partial_kind want kept false e.recorded 0) v.holdings refl mark;
          kept = keeps;
          closing = closing;
        };
      }

-- ---- in work without its mark
pub may_leave_unmarked : (v : PortValue) (f : ℕ) (e : Work) → work_on f v.holdings.works ≡ Some e → IsTrue (is_kind (kind_fields e.word)) → IsTrue (is_work (kind_fields e.word)) → (kind_fields e.word).unflushed ≡ true →
    IsPastFlush v.post.machine v.holdings e → MayLeave v f (unmarked_kind (kind_fields e.word))
may_leave_unmarked v f e here is working marked past =
    let k = kind_fields e.word in
    let may : MayUnmark v.post.machine e (unmarked_kind k) v.holdings = record { work = working; marked = marked; past = past; left = refl } in
    record {
      is = unmarked_is k is working;
      fits = unlive_fits v.post.machine (unmarked_kind k) (work_unlive k working);
      work = e;
      here = here;
      may = subst (λ r. AllowsForm r v.post.machine f e (unmarked_kind k) v.holdings) (sym (work_form (unmarked_kind k) working)) may;
    }

pub left_unmarked : (v : PortValue) (f : ℕ) (e : Work) → work_on f v.holdings.works ≡ Some e → IsTrue (is_kind (kind_fields e.word)) → IsTrue (is_work (kind_fields e.word)) →
    left v f (unmarked_kind (kind_fields e.word))
    ≡ record v.holdings { works = changed_work f (λ y. record y { word = kind_write (unmarked_kind (kind_fields e.word)); unmarked = length v.holdings.steps + 1 }) v.holdings.works }
left_unmarked v f e here is working =
    let k = kind_fields e.word in left_is v f e (unmarked_kind k) InWork here (unmarked_is k is working) (work_form (unmarked_kind k) working)

-- the work as it stands then
pub changed_here : (f : ℕ) (change : Work → Work) (e : Work) (xs : List Work) → ((y : Work) → (change y).frame ≡ y.frame) → work_on f xs ≡ Some e → work_on f (changed_work f change xs) ≡ Some (change e)
unfolding first_by changed_by
changed_here f change e [] same here = absurd (cc)
changed_here f change e (x ∷ xs) same here =
    elim (cases_eq x.frame f) [
      | inl at ↦
          let is : x ≡ e = (let k : Some x ≡ Some e = rw (when_eq x.frame f at) at here in cc) in
          rw (when_eq x.frame f at, when_eq (change x).frame f (same x ∙ at)) (ap (λ y. Some (change y)) is)
      | inr off ↦ rw (when_ne x.frame f off, when_ne x.frame f off) (changed_here f change e xs same (rw (when_ne x.frame f off) at here))
    ]

-- ---- the hand of a vCPU that left a frame partial
-- what came into a list last goes out again
pub without_newest : {A : Type 0} (key : A → ℕ) (f : ℕ) (x : A) (xs ys : List A) → key x ≡ f → ys ≡ x ∷ xs → without_by key f ys ≡ xs
unfolding without_by
without_newest key f x xs ys is e = ap (λ zs. without_by key f zs) e ∙ ap (λ b. if b then xs else x ∷ without_by key f xs) (when_eq (key x) f is)

abbrev partial_after : PortValue → ℕ → PageType → Bool → Bool → ℕ → ℕ → OwnerFound → Holdings → Holdings
partial_after v f want kept u p n owner h = put_partial v.post.machine v.post.vcpu f (partial_kind want kept u p n) (kind_write (partial_kind want kept u p n)) owner h

own_looking : (n : Machine) (s f new : ℕ) (h : Holdings) → looking_at n s f new (owners.Of (domain_of n s)) h ≡ h.looking
own_looking n s f new h = rw (when_eq (domain_of n s) (domain_of n s) refl) refl

other_looking : (n : Machine) (s f new o : ℕ) (h : Holdings) → o ≢ domain_of n s → looking_at n s f new (owners.Of o) h ≡ record { frame = f; owner = o; word = new } ∷ h.looking
other_looking n s f new o h off = rw (when_ne o (domain_of n s) off) refl

module _ (v : PortValue) (f : ℕ) (want : PageType) (e : Work) (here : work_on f v.holdings.works ≡ Some e) (u : Bool) (p n : ℕ) where
  partial_left : (kept : Bool) → IsTrue (is_kind (partial_kind want kept u p n)) → left v f (partial_kind want kept u p n) ≡ partial_after v f want kept u p n (kept_owner f e v.holdings) (as_typed f e v.holdings)
  partial_left kept is = left_is v f e (partial_kind want kept u p n) Partial here is refl

  -- from work the type count stays in hand
  module _ (working : IsTrue (is_work (kind_fields e.word))) where
    from_work : (kept : Bool) → partial_after v f want kept u p n (kept_owner f e v.holdings) (as_typed f e v.holdings) ≡ partial_after v f want kept u p n (typed_owner f v.holdings) v.holdings
    from_work kept = let off = work_alone (kind_fields e.word) working in rw off refl

    pub left_partial : IsTrue (is_kind (partial_kind want false u p n)) → left v f (partial_kind want false u p n) ≡ record v.holdings { works = without_work f v.holdings.works }
    left_partial is = partial_left false is ∙ from_work false

    -- or goes into the `kept` mark: of a frame of the own domain
    pub left_kept : IsTrue (is_kind (partial_kind want true u p n)) → typed_owner f v.holdings ≡ owners.Of (domain_of v.post.machine v.post.vcpu) →
        left v f (partial_kind want true u p n) ≡ record v.holdings { typed = without_typed f v.holdings.typed; works = without_work f v.holdings.works }
    left_kept is known =
        partial_left true is ∙ from_work true ∙ ap (λ o. partial_after v f want true u p n o v.holdings) known
        ∙ ap (λ xs. record v.holdings { typed = without_typed f v.holdings.typed; works = without_work f v.holdings.works; looking = xs }) (own_looking v.post.machine v.post.vcpu f _ v.holdings)

    -- or of another one, at whose life the vCPU then looks
    pub left_kept_other : (o : ℕ) → IsTrue (is_kind (partial_kind want true u p n)) → typed_owner f v.holdings ≡ owners.Of o → o ≢ domain_of v.post.machine v.post.vcpu →
        left v f (partial_kind want true u p n)
        ≡ record v.holdings { typed = without_typed f v.holdings.typed; works = without_work f v.holdings.works; looking = record { frame = f; owner = o; word = kind_write (partial_kind want true u p n) } ∷ v.holdings.looking }
    left_kept_other o is known off =
        partial_left true is ∙ from_work true ∙ ap (λ y. partial_after v f want true u p n y v.holdings) known
        ∙ ap (λ xs. record v.holdings { typed = without_typed f v.holdings.typed; works = without_work f v.holdings.works; looking = xs }) (other_looking v.post.machine v.post.vcpu f _ o v.holdings off)

  -- from closing an untyped reference becomes the type count, and stays in hand
  module _ (closing : IsTrue (is_closing (kind_fields e.word))) where
    abbrev new_count : TypedReference
    new_count = record { frame = f; kind = Some (kind_fields e.word).kind; owner = ref_owner f v.holdings; live = lives.Since (length v.holdings.steps) }

    abbrev given : Holdings
    given = record v.holdings { refs = without_ref f v.holdings.refs; typed = new_count ∷ v.holdings.typed }

    from_closing : (kept : Bool) → partial_after v f want kept u p n (kept_owner f e v.holdings) (as_typed f e v.holdings) ≡ partial_after v f want kept u p n (ref_owner f v.holdings) given
    from_closing kept = rw closing refl

    pub left_partial_closing : IsTrue (is_kind (partial_kind want false u p n)) →
        left v f (partial_kind want false u p n)
        ≡ record v.holdings {
          refs = without_ref f v.holdings.refs;
          typed = record { frame = f; kind = Some (kind_fields e.word).kind; owner = ref_owner f v.holdings; live = lives.Since (length v.holdings.steps) } ∷ v.holdings.typed;
          works = without_work f v.holdings.works;
        }
    left_partial_closing is = partial_left false is ∙ from_closing false

    given_typed : without_typed f given.typed ≡ v.holdings.typed
    given_typed = without_newest (λ (y : TypedReference). y.frame) f new_count v.holdings.typed given.typed refl refl

    -- or goes into the `kept` mark
    pub left_kept_closing : IsTrue (is_kind (partial_kind want true u p n)) → ref_owner f v.holdings ≡ owners.Of (domain_of v.post.machine v.post.vcpu) →
        left v f (partial_kind want true u p n) ≡ record v.holdings { refs = without_ref f v.holdings.refs; works = without_work f v.holdings.works }
    left_kept_closing is known =
        partial_left true is ∙ from_closing true ∙ ap (λ o. partial_after v f want true u p n o given) known
        ∙ ap (λ xs. record given { typed = without_typed f given.typed; works = without_work f v.holdings.works; looking = xs }) (own_looking v.post.machine v.post.vcpu f _ given)
        ∙ ap (λ xs. record given { typed = xs; works = without_work f v.holdings.works }) given_typed

    pub left_kept_closing_other : (o : ℕ) → IsTrue (is_kind (partial_kind want true u p n)) → ref_owner f v.holdings ≡ owners.Of o → o ≢ domain_of v.post.machine v.post.vcpu →
        left v f (partial_kind want true u p n)
        ≡ record v.holdings { refs = without_ref f v.holdings.refs; works = without_work f v.holdings.works; looking = record { frame = f; owner = o; word = kind_write (partial_kind want true u p n) } ∷ v.holdings.looking }
    left_kept_closing_other o is known off =
        partial_left true is ∙ from_closing true ∙ ap (λ y. partial_after v f want true u p n y given) known
        ∙ ap (λ xs. record given { typed = without_typed f given.typed; works = without_work f v.holdings.works; looking = xs }) (other_looking v.post.machine v.post.vcpu f _ o given off)
        ∙ ap (λ xs. record given { typed = xs; works = without_work f v.holdings.works; looking = record { frame = f; owner = o; word = kind_write (partial_kind want true u p n) } ∷ v.holdings.looking }) given_typed
