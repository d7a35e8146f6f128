-- A frame that came into the own works, and the reference under which it came.
use Rattle.std.proofs.Common.{◌≡◌, ℕ, ◌<◌, ◌==◌, ◌&&◌, ◌⊎◌, not, Bool, true, false, List, ◌∷◌, Some, IsTrue, refl, sym, ap, ◌∙◌, subst, arith, inl, inr}
use Rattle.std.proofs.lemmas.Bool.{or_left}
use Rattle.std.proofs.lemmas.Bool.Decides.{nat_tests}
use Rattle.xp_words.specs.declared.kind.KindWord.{KindWord}
use Rattle.xp_words.specs.declared.kind.PageType.{PageType}
use Rattle.xp_words.specs.KindWords.{is_kind, kind_fields, has_form}
use Rattle.xp_words.specs.PageTypes.{is_none}
use Rattle.xp_words.specs.Places.{Sizes}
use Rattle.xp_board.specs.declared.holdings.Made.{Made}
use Rattle.xp_board.specs.declared.holdings.Holdings.{Holdings}
use Rattle.xp_board.specs.declared.holdings.Reference.{Reference}
use Rattle.xp_board.specs.declared.holdings.TypedReference.{TypedReference}
use Rattle.xp_board.specs.declared.holdings.Work.{Work}
use Rattle.xp_board.specs.declared.holdings.OwnerFound.TheVariants as owners
use Rattle.xp_board.specs.Flushes.{IsPastFlush}
use Rattle.xp_board.specs.Hands.{refs_to, ref_to, without_ref, typed_to, typed_on, work_on, ref_owner, typed_owner, owner_by, owner_by_typed, owner_from}
use Rattle.xp_board.specs.Knowledge.{knows_owner, tells_owner}
use Rattle.xp_board.specs.Lists.{some_of}
use Rattle.xp_board.specs.Told.{PortValue}
use Rattle.xp_board.proofs.ListCounts.{first_by-cons_here, times_by-cons_here}
use Rattle.step_maker.specs.Holds.{FlushedSame}
use Rattle.step_maker.specs.Moves.{Came}
use Rattle.kind_words.proofs.KindHands.{typed_held, work_here}
use Rattle.kind_words.proofs.KindWriting.{fields_write}
use Rattle.flush_words.proofs.Lasting.{came_longer}
use Rattle.flush_waits.specs.Waiting.{IsMarked, IsFlushed}
use Rattle.kind_words.specs.Kinds.{work_kind}
use Rattle.frame_types.specs.Taking.{LentBy, Enters, working, working_typed}

-- ---- the reference that is lent
pub lent_owner : (f owner : ℕ) (h : Holdings) → LentBy f owner h → ref_owner f h ≡ owners.Of owner
lent_owner f owner h a =
    ap (λ o. owner_by o (owner_from h)) (ap (λ rs. ref_to f rs) a.refs ∙ first_by-cons_here (λ (y : Reference). y.frame) f (record { frame = f; owner = owners.Of owner }) a.others refl)

pub lent_held : (f owner : ℕ) (h : Holdings) → LentBy f owner h → 0 < refs_to f h.refs
lent_held f owner h a =
    let more = times_by-cons_here (λ (y : Reference). y.frame) f (record { frame = f; owner = owners.Of owner }) a.others refl in
    subst (λ rs. 0 < refs_to f rs) (sym a.refs) (omega (arith, more))

owned_here : (z : Sizes) (steps : List Made) (f owner : ℕ) → ((f == f) && tells_owner z steps f owner (owners.Of owner)) ≡ true
owned_here z steps f owner = grind (arith, nat_tests)

pub lent_known : (z : Sizes) (f owner : ℕ) (h : Holdings) → LentBy f owner h → IsTrue (knows_owner z f owner h)
unfolding knows_owner some_of
lent_known z f owner h a = rw a.refs (or_left _ _ (or_left _ _ (owned_here z h.steps f owner)))

pub typed_owned : (f owner : ℕ) (e : TypedReference) (xs : List TypedReference) (h : Holdings) → h.typed ≡ e ∷ xs → e.frame ≡ f → e.owner ≡ owners.Of owner → typed_owner f h ≡ owners.Of owner
typed_owned f owner e xs h typed frame owned =
    ap (λ o. owner_by_typed o (owner_from h)) (ap (λ ys. typed_on f ys) typed ∙ first_by-cons_here (λ (y : TypedReference). y.frame) f e xs frame) ∙ owned

-- ---- the hand
pub working_works : (f owner : ℕ) (want : PageType) (own : Bool) (e : Work) (since : ℕ) (h : Holdings) → (working f owner want own e since h).works ≡ e ∷ h.works
working_works f owner want true e since h = refl
working_works f owner want false e since h = refl

module _ (b v : PortValue) (f owner : ℕ) (want : PageType) (marked : Bool) (stamp progress : ℕ) (own : Bool) (e : Enters b v f owner want marked stamp progress own) where
  pub entered_works : v.holdings.works ≡ e.work ∷ b.holdings.works
  entered_works = ap (λ (q : PortValue). q.holdings.works) e.hand ∙ working_works f owner want own e.work e.since b.holdings

  pub entered_here : work_on f v.holdings.works ≡ Some e.work
  entered_here = work_here f e.work b.holdings.works v.holdings.works e.frame entered_works

  pub entered_fields : kind_fields e.work.word ≡ work_kind want marked stamp
  entered_fields = ap (λ y. kind_fields y) e.word ∙ fields_write (work_kind want marked stamp) e.spelled

  abbrev typed : TypedReference
  typed = working_typed f owner want e.since

  module _ (mine : own ≡ true) where
    own_hand : working f owner want own e.work e.since b.holdings ≡ record b.holdings { refs = without_ref f b.holdings.refs; typed = typed ∷ b.holdings.typed; works = e.work ∷ b.holdings.works }
    own_hand = rw mine refl

    pub own_typed : v.holdings.typed ≡ typed ∷ b.holdings.typed
    own_typed = ap (λ (q : PortValue). q.holdings.typed) e.hand ∙ ap (λ (k : Holdings). k.typed) own_hand

    pub own_held : 0 < typed_to f v.holdings.typed
    own_held = subst (λ xs. 0 < typed_to f xs) (sym own_typed) (typed_held f typed b.holdings.typed refl)

    pub own_owner : typed_owner f v.holdings ≡ owners.Of owner
    own_owner = typed_owned f owner typed b.holdings.typed v.holdings own_typed refl refl

  module _ (shared : own ≡ false) where
    shared_hand : working f owner want own e.work e.since b.holdings ≡ record b.holdings { works = e.work ∷ b.holdings.works }
    shared_hand = rw shared refl

    pub shared_refs : v.holdings.refs ≡ b.holdings.refs
    shared_refs = ap (λ (q : PortValue). q.holdings.refs) e.hand ∙ ap (λ (k : Holdings). k.refs) shared_hand

    pub shared_lent : LentBy f owner v.holdings
    shared_lent = let lent = e.lent in record { others = lent.others; refs = shared_refs ∙ lent.refs }

    pub shared_typed : v.holdings.typed ≡ b.holdings.typed
    shared_typed = ap (λ (q : PortValue). q.holdings.typed) e.hand ∙ ap (λ (k : Holdings). k.typed) shared_hand

    pub shared_aside : typed_to f v.holdings.typed ≡ 0
    shared_aside = ap (λ xs. typed_to f xs) shared_typed ∙ e.aside

-- the frame stays there while translations are flushed
pub entered_after : (b v w : PortValue) (f owner : ℕ) (want : PageType) (marked : Bool) (stamp progress : ℕ) (own : Bool) → Enters b v f owner want marked stamp progress own → Came v w → FlushedSame v w →
    Enters b w f owner want marked stamp progress own
entered_after b v w f owner want marked stamp progress own e came same =
    let more = came_longer v w came in
    let earlier = e.earlier in
    let taken = e.taken in
    record {
      work = e.work;
      since = e.since;
      taken = omega (arith, more, taken);
      frame = e.frame;
      word = e.word;
      spelled = e.spelled;
      recorded = e.recorded;
      settled = e.settled;
      none = e.none;
      unfixed = e.unfixed;
      bare = e.bare;
      earlier = omega (arith, more, earlier);
      whose = e.whose;
      hand = same ∙ e.hand;
      lent = e.lent;
      aside = e.aside;
    }

-- ---- what the wait for its flush asks, and gives
known_by : (b v : PortValue) (f owner : ℕ) (want : PageType) (marked : Bool) (stamp progress : ℕ) (own : Bool) → Enters b v f owner want marked stamp progress own →
    ((0 < refs_to f v.holdings.refs) × (ref_owner f v.holdings ≡ owners.Of owner)) ⊎ ((0 < typed_to f v.holdings.typed) × (typed_owner f v.holdings ≡ owners.Of owner))
known_by b v f owner want marked stamp progress true e = inr (own_held b v f owner want marked stamp progress true e refl, own_owner b v f owner want marked stamp progress true e refl)
known_by b v f owner want marked stamp progress false e =
    let lent = shared_lent b v f owner want marked stamp progress false e refl in inl (lent_held f owner v.holdings lent, lent_owner f owner v.holdings lent)

pub entered_marked : (b v : PortValue) (f owner : ℕ) (want : PageType) (stamp progress : ℕ) (own : Bool) → Enters b v f owner want true stamp progress own → IsMarked f owner stamp v.holdings
entered_marked b v f owner want stamp progress own e =
    let fields = entered_fields b v f owner want true stamp progress own e in
    record {
      work = e.work;
      here = entered_here b v f owner want true stamp progress own e;
      marked = ap (λ (k : KindWord). k.unflushed) fields;
      stamped = ap (λ (k : KindWord). k.number) fields;
      known = known_by b v f owner want true stamp progress own e;
    }

same_work : (x y : Work) → Some x ≡ Some y → x ≡ y
same_work x y e = cc

pub entered_past : (b v : PortValue) (f owner : ℕ) (want : PageType) (marked : Bool) (stamp progress : ℕ) (own : Bool) (e : Enters b v f owner want marked stamp progress own) → IsFlushed v.post.machine f v.holdings →
    IsPastFlush v.post.machine v.holdings e.work
entered_past b v f owner want marked stamp progress own e flushed =
    subst (λ y. IsPastFlush v.post.machine v.holdings y) (same_work flushed.work e.work (sym flushed.here ∙ entered_here b v f owner want marked stamp progress own e)) flushed.past

-- it has a type
pub work_typed : (want : PageType) (marked : Bool) (stamp : ℕ) → IsTrue (is_kind (work_kind want marked stamp)) → IsTrue (not (is_none want))
unfolding has_form
work_typed want marked stamp is = grind (arith, nat_tests)

pub work_spelled : (want : PageType) → IsTrue (not (is_none want)) → IsTrue (is_kind (work_kind want false 0))
unfolding has_form
work_spelled want wanted = grind (arith, nat_tests)
