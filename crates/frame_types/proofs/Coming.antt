-- A frame comes into the own works, or is counted: the hand after the exchange.
use Rattle.std.proofs.Common.{◌≡◌, ◌⊎◌, ℕ, ◌<◌, ◌≤◌, ◌==◌, ◌||◌, not, if◌then◌else◌, Bool, true, false, List, [], ◌∷◌, length, Some, None, IsTrue, refl, sym, ap, ◌∙◌, subst, arith, inl, inr}
use Rattle.xp_words.specs.Machine.{IsMachine}
use Rattle.xp_words.specs.declared.kind.KindWord.{KindWord}
use Rattle.xp_words.specs.declared.kind.PageType.{PageType}
use Rattle.xp_words.specs.declared.place.Place.TheVariants.{Kind}
use Rattle.std.proofs.lemmas.Bool.Decides.{nat_tests}
use Rattle.xp_words.specs.KindWords.{has_form, is_kind, kind_read, kind_write}
use Rattle.xp_words.specs.PageTypes.{is_none, type_number}
use Rattle.xp_board.specs.declared.step.StepKind.TheVariants as kinds
use Rattle.xp_board.specs.declared.holdings.Holdings.{Holdings}
use Rattle.xp_board.specs.declared.holdings.Liveness.TheVariants as lives
use Rattle.xp_board.specs.declared.holdings.Looking.{Looking}
use Rattle.xp_board.specs.declared.holdings.OwnerFound.{OwnerFound}
use Rattle.xp_board.specs.declared.holdings.OwnerFound.TheVariants as owners
use Rattle.xp_board.specs.declared.holdings.Work.{Work}
use Rattle.xp_board.specs.Hands.{refs_to, without_ref, typed_to, ref_owner}
use Rattle.xp_board.specs.KindSteps.{begun_kind, is_stale, live_typed, new_work, raised_kind, resumed_kind, still_looking, unsettled_from}
use Rattle.xp_board.specs.Lists.{kept_of}
use Rattle.xp_board.specs.Readings.{is_dead, is_live, is_partial, is_work}
use Rattle.xp_board.specs.Told.{PortValue, Post}
use Rattle.xp_board.proofs.KindForms.{fields_of, PartialForm, partial_form}
use Rattle.xp_board.proofs.KindReadings.{partial_parts, resumed_in_work}
use Rattle.xp_board.proofs.Shared.{dead_unlive}
use Rattle.step_maker.specs.Holds.{FlushedHolds, Holds, MayWork, Same, quiet, still}
use Rattle.step_maker.specs.Moves.{Moves}
use Rattle.frame_words.specs.Freeing.{gave}
use Rattle.frame_words.specs.Refs.{MayPut}
use Rattle.kind_words.specs.Kinds.{begun_work, counted_type, looked_at, resumed_work, work_kind}
use Rattle.kind_words.proofs.KindFacts.{dead_apart, known_live, partial_apart, type_is_below}
use Rattle.kind_words.proofs.KindHands.{resumed_kept, resumed_unkept, resumed_fields, work_here, work_spares}
use Rattle.kind_words.proofs.KindWriting.{begun_is, raised_is, resumed_is}
use Rattle.flush_words.proofs.Lasting.{moves_longer}
use Rattle.frame_types.specs.Taking.{Enters, Looked, LentBy, progress_of, stamp_by, typed_as, working}
use Rattle.frame_types.proofs.Classing.{IsCounted, IsParted, dead_unparted}
use Rattle.frame_types.proofs.Left.{or_true}
use Rattle.frame_types.proofs.Entering.{lent_held, lent_owner}

-- a frame that is not live is none that the vCPU knows live
untyped_by : (count : ℕ) (K : Type 0) → (count ≡ 0) ⊎ K → (K → ⊥) → count ≡ 0
untyped_by count K (inl none) off = none
untyped_by count K (inr known) off = absurd (off known)

partial_unlive : (k : KindWord) → IsTrue (is_partial k) → IsTrue (is_live k) → ⊥
partial_unlive k partial live = grind (arith, nat_tests)

none_looking : (f w : ℕ) (xs : List Looking) → xs ≡ [] → still_looking f w xs ≡ []
unfolding kept_of
none_looking f w xs none = ap (λ ys. still_looking f w ys) none

-- ---- what comes into work
-- a descriptor page is partial with its `kept` mark alone
unkept_type : (k : KindWord) → IsTrue (is_kind k) → IsTrue (is_partial k) → k.kept ≡ false → IsTrue (not (type_number k.kind == 5) || false)
unfolding has_form
unkept_type k is partial unkept = grind (arith, nat_tests)

-- and has nothing recorded
page_bare : (k : KindWord) → IsTrue (is_kind k) → IsTrue (is_partial k) → type_number k.kind ≡ 5 → k.progress ≡ 0
unfolding has_form
page_bare k is partial five = grind (arith, nat_tests)

none_unsettled : (progress : ℕ) (h : Holdings) → progress ≡ 0 → unsettled_from progress h ≡ None
none_unsettled progress h zero = rw zero refl

module _ (b v : PortValue) (f owner : ℕ) (want : PageType) (word : ℕ) (l : Looked b v f owner want word) where
  same_refs : v.holdings.refs ≡ b.holdings.refs
  same_refs = ap (λ (q : PortValue). q.holdings.refs) l.same

  lent : LentBy f owner v.holdings
  lent = let here = l.lent in record { others = here.others; refs = same_refs ∙ here.refs }

  pub looked_held : 0 < refs_to f v.holdings.refs
  looked_held = lent_held f owner v.holdings lent

  owned : ref_owner f v.holdings ≡ owners.Of owner
  owned = lent_owner f owner v.holdings lent

  looking : (w : ℕ) → still_looking f w v.holdings.looking ≡ b.holdings.looking
  looking w = none_looking f w v.holdings.looking (ap (λ (q : PortValue). q.holdings.looking) l.same ∙ l.looked) ∙ sym l.looked

  pub looked_low : (k : KindWord) → kind_read word ≡ Some k → IsCounted k want → k.number < v.post.machine.limit
  looked_low k read is =
      subst (λ (q : PortValue). k.number < q.post.machine.limit) (sym l.same)
      (type_is_below b.post.machine b.post.vcpu b.holdings f word k l.frame l.look.finds (fields_of word k read) is.live (lent_held f owner b.holdings l.lent))

  -- an exchange that was lost leaves all as it was
  pub lost_same : (w : PortValue) (found : ℕ) → Holds v w (looked_at f found v.holdings) → Same b w
  lost_same w found holds =
      holds ∙ ap (λ xs. still (record v { holdings = record v.holdings { looking = xs } })) (looking found) ∙ ap (λ (q : PortValue). still (record q { holdings = record q.holdings { looking = b.holdings.looking } })) l.same

  -- counted
  pub counted_hand : (k : KindWord) (w : PortValue) → k.kind ≡ want → Holds v w (counted_type f k v.holdings) → FlushedHolds b w (typed_as f owner want b.holdings)
  counted_hand k w kind holds =
      ap quiet holds
      ∙ ap (λ xs. quiet (record v { holdings = record v.holdings { looking = xs; refs = without_ref f v.holdings.refs; typed = live_typed f k.kind (ref_owner f v.holdings) ∷ v.holdings.typed } })) (looking (kind_write (raised_kind k)))
      ∙ ap (λ (o : OwnerFound). quiet (record v { holdings = record v.holdings { looking = b.holdings.looking; refs = without_ref f v.holdings.refs; typed = live_typed f k.kind o ∷ v.holdings.typed } })) owned
      ∙ ap (λ t. quiet (record v { holdings = record v.holdings { looking = b.holdings.looking; refs = without_ref f v.holdings.refs; typed = live_typed f t (owners.Of owner) ∷ v.holdings.typed } })) kind
      ∙ ap (λ (q : PortValue). quiet (record q { holdings = record q.holdings { looking = b.holdings.looking; refs = without_ref f q.holdings.refs; typed = live_typed f want (owners.Of owner) ∷ q.holdings.typed } })) l.same

  -- ---- from dead to work
  module _ (k : KindWord) (read : kind_read word ≡ Some k) (is : IsTrue (is_kind k)) (dead : IsTrue (is_dead k)) (wanted : IsTrue (not (is_none want))) (w : PortValue) (a : _) (found : ℕ)
      (change : Moves v w (Kind f) a kinds.Kind None found) (holds : Holds v w (begun_work f k want v.holdings)) where
    begun : Work
    begun = new_work f (kind_write (begun_kind k want)) 0 None v.holdings

    begun_hand : FlushedHolds b w (working f owner want true begun (length v.holdings.steps) b.holdings)
    unfolding begun
    begun_hand =
        let since = length v.holdings.steps in
        ap quiet holds
        ∙ ap (λ xs. quiet (record v { holdings = record v.holdings { looking = xs; refs = without_ref f v.holdings.refs; typed = record { frame = f; kind = Some want; owner = ref_owner f v.holdings; live = lives.Since since } ∷ v.holdings.typed; works = begun ∷ v.holdings.works } })) (looking (kind_write (begun_kind k want)))
        ∙ ap (λ (o : OwnerFound). quiet (record v { holdings = record v.holdings { looking = b.holdings.looking; refs = without_ref f v.holdings.refs; typed = record { frame = f; kind = Some want; owner = o; live = lives.Since since } ∷ v.holdings.typed; works = begun ∷ v.holdings.works } })) owned
        ∙ ap (λ (q : PortValue). quiet (record q { holdings = record q.holdings { looking = b.holdings.looking; refs = without_ref f q.holdings.refs; typed = record { frame = f; kind = Some want; owner = owners.Of owner; live = lives.Since since } ∷ q.holdings.typed; works = begun ∷ q.holdings.works } })) l.same

    pub begun_enters : Enters b w f owner want (is_stale k want) (stamp_by (is_stale k want) k) (progress_of k) true
    unfolding begun
    begun_enters =
        let more = moves_longer v w (Kind f) a kinds.Kind None found change in
        let none : progress_of k ≡ 0 = ap (λ y. if y then k.progress else 0) (dead_unparted k dead) in
        record {
          work = begun;
          since = length v.holdings.steps;
          taken = omega (arith, more);
          frame = refl;
          word = refl;
          spelled = begun_is k want is dead wanted;
          recorded = sym none;
          settled = λ zero. refl;
          none = λ on. none;
          unfixed = refl;
          bare = λ five. none;
          earlier = omega (arith, more);
          whose = or_true (not (type_number want == 5));
          hand = begun_hand;
          lent = l.lent;
          aside = untyped_by (typed_to f b.holdings.typed) _ (l.aside (dead_apart b.post.machine b.post.vcpu b.holdings f word k l.look.finds (fields_of word k read) dead))
              (λ knows. dead_unlive k dead (known_live b.post.machine b.post.vcpu b.holdings f word k l.look.finds (fields_of word k read) want knows).0);
        }

-- ---- from partial to work again
by_number : (u : Bool) (k : KindWord) → (u ≡ false → k.number ≡ 0) → k.number ≡ stamp_by u k
by_number true k none = refl
by_number false k none = none refl

work_again : (k : KindWord) (want : PageType) → k.kind ≡ want → k.pinned ≡ false → k.validated ≡ false → k.number ≡ stamp_by k.unflushed k → resumed_kind k ≡ work_kind want k.unflushed (stamp_by k.unflushed k)
work_again k want kind pinned unlive number =
    ap (λ t. record (resumed_kind k) { kind = t }) kind ∙ ap (λ p. record (resumed_kind k) { kind = want; pinned = p }) pinned
    ∙ ap (λ p. record (resumed_kind k) { kind = want; pinned = false; validated = p }) unlive
    ∙ ap (λ n. record (resumed_kind k) { kind = want; pinned = false; validated = false; number = n }) number

module _ (b v : PortValue) (f owner : ℕ) (want : PageType) (word : ℕ) (l : Looked b v f owner want word) (k : KindWord) (read : kind_read word ≡ Some k) (is : IsTrue (is_kind k)) (parted : IsParted k want) (w : PortValue) (a : _) (found : ℕ)
    (change : Moves v w (Kind f) a kinds.Kind None found) (holds : Holds v w (resumed_work f k v.holdings)) where
  form : PartialForm k
  form = partial_form word k read (partial_parts k parted.partial).0 (partial_parts k parted.partial).1

  pub again : resumed_kind k ≡ work_kind want k.unflushed (stamp_by k.unflushed k)
  again = work_again k want parted.kind form.unpinned (partial_parts k parted.partial).0 (by_number k.unflushed k form.number)

  item : Work
  item = new_work f (kind_write (resumed_kind k)) k.progress (unsettled_from k.progress v.holdings) v.holdings

  parted_progress : k.progress ≡ progress_of k
  parted_progress = ap (λ y. if y then k.progress else 0) (sym (partial_parts k parted.partial).1)

  no_typed : typed_to f b.holdings.typed ≡ 0
  no_typed =
      untyped_by (typed_to f b.holdings.typed) _ (l.aside (partial_apart b.post.machine b.post.vcpu b.holdings f word k l.look.finds (fields_of word k read) parted.partial))
      (λ knows. partial_unlive k parted.partial (known_live b.post.machine b.post.vcpu b.holdings f word k l.look.finds (fields_of word k read) want knows).0)

  -- with the reference of its mark: the one in hand is one too many
  module _ (kept : k.kept ≡ true) where
    kept_hand : quiet w ≡ quiet (record b { holdings = record b.holdings { typed = record { frame = f; kind = Some want; owner = owners.Of owner; live = lives.Since (length v.holdings.steps) } ∷ b.holdings.typed; works = item ∷ b.holdings.works } })
    unfolding item
    kept_hand =
        let since = length v.holdings.steps in
        ap quiet holds ∙ ap (λ h. quiet (record v { holdings = h })) (resumed_kept f k v.holdings kept)
        ∙ ap (λ xs. quiet (record v { holdings = record v.holdings { looking = xs; typed = record { frame = f; kind = Some k.kind; owner = ref_owner f v.holdings; live = lives.Since since } ∷ v.holdings.typed; works = item ∷ v.holdings.works } })) (looking b v f owner want word l (kind_write (resumed_kind k)))
        ∙ ap (λ t. quiet (record v { holdings = record v.holdings { looking = b.holdings.looking; typed = record { frame = f; kind = Some t; owner = ref_owner f v.holdings; live = lives.Since since } ∷ v.holdings.typed; works = item ∷ v.holdings.works } })) parted.kind
        ∙ ap (λ (o : OwnerFound). quiet (record v { holdings = record v.holdings { looking = b.holdings.looking; typed = record { frame = f; kind = Some want; owner = o; live = lives.Since since } ∷ v.holdings.typed; works = item ∷ v.holdings.works } })) (owned b v f owner want word l)
        ∙ ap (λ (q : PortValue). quiet (record q { holdings = record q.holdings { looking = b.holdings.looking; typed = record { frame = f; kind = Some want; owner = owners.Of owner; live = lives.Since since } ∷ q.holdings.typed; works = item ∷ q.holdings.works } })) l.same

    pub kept_may : MayWork v → MayWork w
    kept_may may =
        record {
          running = ap (λ (q : PortValue). q.holdings.run) kept_hand ∙ sym (ap (λ (q : PortValue). q.holdings.run) l.same) ∙ may.running;
          no_walk = ap (λ (q : PortValue). q.holdings.walk) kept_hand ∙ sym (ap (λ (q : PortValue). q.holdings.walk) l.same) ∙ may.no_walk;
          machine = subst (λ (p : Post). IsMachine p.machine) (ap (λ (q : PortValue). q.post) l.same ∙ sym (ap (λ (q : PortValue). q.post) kept_hand)) may.machine;
        }

    pub kept_gives : MayPut f w.holdings
    unfolding item
    kept_gives =
        let here = work_here f item b.holdings.works w.holdings.works refl (ap (λ (q : PortValue). q.holdings.works) kept_hand) in
        record {
          held = subst (λ rs. 0 < refs_to f rs) (sym (ap (λ (q : PortValue). q.holdings.refs) kept_hand)) (lent_held f owner b.holdings l.lent);
          spares = work_spares f w.holdings item here (subst (λ y. IsTrue (is_work y)) (sym (resumed_fields k is parted.partial)) (resumed_in_work k parted.partial));
        }

    pub kept_enters : (y : PortValue) → Holds w y (gave f w.holdings) → length w.holdings.steps ≤ length y.holdings.steps → Enters b y f owner want k.unflushed (stamp_by k.unflushed k) (progress_of k) true
    unfolding item
    kept_enters y gives later =
        let more = moves_longer v w (Kind f) a kinds.Kind None found change in
        record {
          work = item;
          since = length v.holdings.steps;
          taken = omega (arith, more, later);
          frame = refl;
          word = ap (λ z. kind_write z) again;
          spelled = subst (λ z. IsTrue (is_kind z)) again (resumed_is k is parted.partial);
          recorded = parted_progress;
          settled = λ zero. none_unsettled k.progress v.holdings (parted_progress ∙ zero);
          none = λ on. sym parted_progress ∙ form.marked on;
          unfixed = refl;
          bare = λ five. sym parted_progress ∙ page_bare k is parted.partial (ap (λ t. type_number t) parted.kind ∙ five);
          earlier = omega (arith, more, later);
          whose = or_true (not (type_number want == 5));
          hand = ap quiet gives ∙ ap (λ (q : PortValue). quiet (record q { holdings = gave f q.holdings })) kept_hand;
          lent = l.lent;
          aside = no_typed;
        }

  -- its type count is another holder's
  module _ (unkept : k.kept ≡ false) where
    unkept_hand : quiet w ≡ quiet (record b { holdings = record b.holdings { works = item ∷ b.holdings.works } })
    unfolding item
    unkept_hand =
        ap quiet holds ∙ ap (λ h. quiet (record v { holdings = h })) (resumed_unkept f k v.holdings unkept)
        ∙ ap (λ xs. quiet (record v { holdings = record v.holdings { looking = xs; works = item ∷ v.holdings.works } })) (looking b v f owner want word l (kind_write (resumed_kind k)))
        ∙ ap (λ (q : PortValue). quiet (record q { holdings = record q.holdings { looking = b.holdings.looking; works = item ∷ q.holdings.works } })) l.same

    pub unkept_enters : Enters b w f owner want k.unflushed (stamp_by k.unflushed k) (progress_of k) false
    unfolding item
    unkept_enters =
        let more = moves_longer v w (Kind f) a kinds.Kind None found change in
        record {
          work = item;
          since = length v.holdings.steps;
          taken = omega (arith, more);
          frame = refl;
          word = ap (λ z. kind_write z) again;
          spelled = subst (λ z. IsTrue (is_kind z)) again (resumed_is k is parted.partial);
          recorded = parted_progress;
          settled = λ zero. none_unsettled k.progress v.holdings (parted_progress ∙ zero);
          none = λ on. sym parted_progress ∙ form.marked on;
          unfixed = refl;
          bare = λ five. sym parted_progress ∙ page_bare k is parted.partial (ap (λ t. type_number t) parted.kind ∙ five);
          earlier = omega (arith, more);
          whose = subst (λ t. IsTrue (not (type_number t == 5) || false)) parted.kind (unkept_type k is parted.partial unkept);
          hand = unkept_hand;
          lent = l.lent;
          aside = no_typed;
        }

-- ---- the frame is in work: what holds of the port still
pub working_same : (f owner : ℕ) (want : PageType) (own : Bool) (e : Work) (since : ℕ) (h : Holdings) → ((working f owner want own e since h).run ≡ h.run) × ((working f owner want own e since h).walk ≡ h.walk)
working_same f owner want true e since h = (refl, refl)
working_same f owner want false e since h = (refl, refl)

pub entered_may : {b v w : PortValue} {f owner : ℕ} {want : PageType} {word : ℕ} {marked : Bool} {stamp progress : ℕ} {own : Bool} → Looked b v f owner want word → Enters b w f owner want marked stamp progress own → MayWork v → MayWork w
entered_may {b} {v} {w} {f} {owner} {want} {word} {marked} {stamp} {progress} {own} l e may =
    let still = working_same f owner want own e.work e.since b.holdings in
    record {
      running = ap (λ (q : PortValue). q.holdings.run) e.hand ∙ still.0 ∙ sym (ap (λ (q : PortValue). q.holdings.run) l.same) ∙ may.running;
      no_walk = ap (λ (q : PortValue). q.holdings.walk) e.hand ∙ still.1 ∙ sym (ap (λ (q : PortValue). q.holdings.walk) l.same) ∙ may.no_walk;
      machine = subst (λ (p : Post). IsMachine p.machine) (ap (λ (q : PortValue). q.post) l.same ∙ sym (ap (λ (q : PortValue). q.post) e.hand)) may.machine;
    }

-- ---- a word with one type count more
pub raised_spelled : (v : PortValue) (k : KindWord) (want : PageType) → MayWork v → IsTrue (is_kind k) → IsCounted k want → k.number < v.post.machine.limit → IsTrue (is_kind (raised_kind k))
raised_spelled v k want may is counted low = let few = may.machine.few_counts in raised_is k is counted.live counted.some (omega (arith, few, low))
