-- Stores that leave a frame partial, or in work without its mark.
use Rattle.std.proofs.Common.{◌≡◌, ◌≢◌, ℕ, suc, ◌+◌, ◌<◌, ◌≤◌, ◌==◌, not, if◌then◌else◌, Bool, true, false, List, ◌∷◌, length, Some, IsTrue, refl, sym, ap, subst, ◌∙◌, inl, inr, arith}
use Rattle.std.proofs.lemmas.Bool.{eqb-false, and_from, not_from_false}
use Rattle.xp_words.specs.KindWords.{kind_fields}
use Rattle.xp_words.specs.Machine.{Machine}
use Rattle.xp_words.specs.declared.place.Place.{Place}
use Rattle.xp_words.specs.declared.place.Place.TheVariants.{Clock, Kind, Cell}
use Rattle.xp_words.specs.Places.{sizes_of}
use Rattle.xp_board.specs.declared.step.Step.{Step}
use Rattle.xp_board.specs.declared.holdings.TypedReference.{TypedReference}
use Rattle.xp_board.specs.declared.holdings.OwnerFound.{OwnerFound}
use Rattle.xp_board.specs.declared.holdings.OwnerFound.TheVariants as owners
use Rattle.xp_board.specs.declared.holdings.Liveness.TheVariants as lives
use Rattle.xp_board.specs.declared.holdings.Looking.{Looking}
use Rattle.xp_board.specs.declared.holdings.Work.{Work}
use Rattle.xp_board.specs.declared.holdings.Holdings.{Holdings}
use Rattle.xp_board.specs.Lists.{EachOf}
use Rattle.xp_board.specs.Readings.{kind_at, is_partial, is_closing, domain_of}
use Rattle.xp_board.specs.Hands.{without_work, changed_work, without_ref, ref_owner}
use Rattle.xp_board.specs.After.{is_fixed}
use Rattle.xp_board.specs.KindSteps.{Partial, InWork, KeepsKept, put_partial, as_typed, kept_owner, looking_at}
use Rattle.xp_board.specs.Found.{WorkFound}
use Rattle.xp_board.specs.WellFormed.{IsWorkFormed, IsLookingFormed}
use Rattle.xp_board.specs.Sound.{Sound}
use Rattle.step_effects.proofs.ActEffects.{Stored}
use Rattle.xp_board.proofs.KindForms.{partial_form}
use Rattle.found_rule.proofs.Learning.{act}
use Rattle.found_rule.proofs.Words.{Words}
use Rattle.found_rule.proofs.KnownFacts.{RefRight, TypedRight}
use Rattle.found_rule.proofs.KnownStays.{live_new, partial_new}
use Rattle.found_rule.proofs.Demands.{RefsMoved, same_rest}
use Rattle.found_rule.proofs.MyHand.{lock_right_old, locks_old}
use Rattle.found_rule.proofs.FormedWorks.{seen_none, last_none}
use Rattle.found_rule.proofs.KindLaw.{kind_done, kind_grown, kind_works_found, kind_others, kind_works_formed, kind_locks_formed}
use Rattle.found_rule.proofs.KindStores.{was_found, frame, number, store_words, refs_are, typed_are, ref_owner_is, store_done}
use Rattle.found_rule.proofs.Quiet.{Done, marked}
use Rattle.xp_board.proofs.KindReadings.{stamp_of}
use Rattle.xp_board.proofs.FormsLeft.{is_partial_left, is_work_left}
use Rattle.xp_board.proofs.ListCounts.{EachOf-both}
use Rattle.xp_board.proofs.HandLists.{EachOf-more, EachOf-without, EachOf-maybe_without}
use Rattle.xp_board.proofs.ListChanges.{EachOf-changed_first}
use Rattle.xp_board.proofs.Works.{one_works}
use Rattle.xp_board.proofs.MoreSteps.{none_last}
use Rattle.xp_board.proofs.Sums.{either}

-- ---- from closing an untyped reference becomes the type count

-- ---- what the vCPU then looks at
looking_if : (n : Machine) (s : ℕ) (t : Bool) (e : Looking) (es : List Looking) → (t ≡ false → IsLookingFormed n s e) → EachOf (IsLookingFormed n s) es → EachOf (IsLookingFormed n s) (if t then es else (e ∷ es))
looking_if n s true e es new h = h
looking_if n s false e es new h = EachOf-more (IsLookingFormed n s) e es (new refl) h

module _ (n : Machine) (s f new : ℕ) (partial : IsTrue (is_partial (kind_fields new))) (kept : (kind_fields new).kept ≡ true) (h : Holdings) where
  looking_by : (w : OwnerFound) → EachOf (IsLookingFormed n s) h.looking → EachOf (IsLookingFormed n s) (looking_at n s f new w h)
  looking_by (owners.Of o) all =
      looking_if n s (o == domain_of n s) (record { frame = f; owner = o; word = new }) h.looking
      (λ q. record { other = eqb-false o (domain_of n s) q; partial = partial; kept = kept }) all
  looking_by (owners.Since k) all = all

looking_kept : (n : Machine) (s : ℕ) (t : Bool) (xs ys : List Looking) → (t ≡ true → EachOf (IsLookingFormed n s) xs) → EachOf (IsLookingFormed n s) ys → EachOf (IsLookingFormed n s) (if t then xs else ys)
looking_kept n s true xs ys h k = h refl
looking_kept n s false xs ys h k = k

module _ (n : Machine) (s : ℕ) (x : Step) (m m2 : Place → ℕ) (b c : ℕ → Holdings) (l : s < (sizes_of n).vcpus) (sound : Sound n m b) (others : (t : ℕ) → t ≢ s → c t ≡ b t) (f : ℕ) where
  -- ---- partial
  module _ (d : Stored n s x f Partial m m2 (b s) (c s)) where
    form : (d.l.validated ≡ false) × (d.l.partial ≡ true)
    form = is_partial_left d.l d.form_is

    stamp_by : KeepsKept n d.e d.l (b s) → (t : Bool) → d.l.unflushed ≡ t → d.l.number ≤ m Clock
    unfolding form
    stamp_by (inl same) true u = let q = same.1 u in let k = number n s x m m2 b c l sound others f d.e d.here in omega arith
    stamp_by (inr past) true u = absurd (let q = past.1 in cc)
    stamp_by k false u = let q = (partial_form (m2 (Kind f)) d.l d.is form.0 form.1).number u in omega arith

    partial_words : Words n s m m2 b
    unfolding form
    partial_words =
        store_words n s x m m2 b c l sound others f d.e d.here d.wrote.others (ap (λ y. y.kind) d.fields_is ∙ d.may.kind)
        (let q = stamp_of (m2 (Kind f)) d.l d.fields_is form.0 in let k = stamp_by d.may.mark d.l.unflushed refl in omega arith)

    typed_hand : Holdings
    typed_hand = as_typed f d.e (b s)

    pub partial_done : Done n s m m2 b c
    unfolding partial_words form typed_hand
    partial_done =
        let h = b s in
        let z = sizes_of n in
        let w = d.wrote in
        let new : TypedReference = record { frame = f; kind = Some (kind_fields d.e.word).kind; owner = ref_owner f h; live = lives.Since (length h.steps) } in
        let turned = record h { refs = without_ref f h.refs; typed = new ∷ h.typed } in
        let t = is_closing (kind_fields d.e.word) in
        let a = typed_hand in
        let moved : RefsMoved h a = either (RefsMoved h) t turned h (same_rest h turned refl) (same_rest h h refl) in
        let u = put_partial n s f d.l (m2 (Kind f)) (kept_owner f d.e h) a in
        let acted = act n s x (Kind f) m m2 h u (c s) w.place w.real w.left w.others moved.steps moved.run moved.old0 moved.old1 d.hand in
        let words = partial_words in
        let g = kind_grown n s m m2 b c l sound others f u acted words in
        let is_kept : IsTrue (is_partial (kind_fields (m2 (Kind f)))) =
        and_from (not (kind_at m2 f).validated) (kind_at m2 f).partial (ap (λ y. not y.validated) d.fields_is ∙ not_from_false d.l.validated form.0) (ap (λ y. y.partial) d.fields_is ∙ form.1) in
        store_done n s x m m2 b c l sound others f d.e d.here u acted words
        (record {
          ending = moved.ending;
          claimed = moved.claimed;
          raised = moved.raised;
          cache = moved.cache;
          walk = moved.walk;
          cold = moved.cold;
          turn = moved.turn;
          acked = moved.acked;
          ran = moved.ran;
        })
        (ap (λ ws. without_work f ws) moved.works) moved.locks
        (looking_kept n s d.l.kept (looking_at n s f (m2 (Kind f)) (kept_owner f d.e h) a) a.looking
        (λ q. looking_by n s f (m2 (Kind f)) is_kept (ap (λ y. y.kept) d.fields_is ∙ q) a (kept_owner f d.e h) (rw (moved.looking) (sound.formed s l).looking))
        (rw (moved.looking) (sound.formed s l).looking))
        (λ reach.
        let old = refs_are n s x m m2 b c l sound others f d.e d.here u acted words reach in
        either (λ (y : Holdings). EachOf (RefRight z m2 (c s).steps) y.refs) t turned h (EachOf-without (RefRight z m2 (c s).steps) (λ y. y.frame) f h.refs old) old)
        (λ reach.
        let old = typed_are n s x m m2 b c l sound others f d.e d.here u acted words reach in
        EachOf-maybe_without (TypedRight z m2 (c s).steps) (λ y. y.frame) d.l.kept f a.typed
        (either (λ (y : Holdings). EachOf (TypedRight z m2 (c s).steps) y.typed) t turned h
        (EachOf-more (TypedRight z m2 (c s).steps) new h.typed
        (record {
          owner = ref_owner_is n s x m m2 b c l sound others f d.e d.here u acted words reach;
          live = live_new z m m2 h.steps (c s).steps g f (Some (kind_fields d.e.word).kind) (length h.steps) (omega arith);
          partial = partial_new z m m2 h.steps (c s).steps g f (length h.steps) (omega arith);
        }) old) old))

  -- ---- in work, without the mark
  module _ (d : Stored n s x f InWork m m2 (b s) (c s)) where
    change : Work → Work
    change y = record y { word = m2 (Kind f); unmarked = length (b s).steps + 1 }

    left : kind_at m2 f ≡ record (kind_fields d.e.word) { unflushed = false; number = 0 }
    left = d.fields_is ∙ d.may.left

    unmarked_words : Words n s m m2 b
    unfolding left
    unmarked_words =
        let v = (is_work_left d.l d.form_is).0 in
        let none : d.l.number ≡ 0 = ap (λ y. y.number) d.may.left in
        store_words n s x m m2 b c l sound others f d.e d.here d.wrote.others (ap (λ y. y.kind) left) (let q = stamp_of (m2 (Kind f)) d.l d.fields_is v in omega arith)

    change_found : (length (c s).steps ≡ suc (length (b s).steps)) → ((i : ℕ) → m2 (Cell d.e.frame i) ≡ m (Cell d.e.frame i)) → WorkFound n m2 c (c s) (change d.e)
    unfolding change left
    change_found long cells =
        let old = was_found n s x m m2 b c l sound others f d.e d.here in
        record {
          word = ap (λ g. m2 (Kind g)) (frame n s x m m2 b c l sound others f d.e d.here);
          cells = λ t i w k. absurd (none_last (sizes_of n) (length (b s).steps + 1) (Cell d.e.frame i) w (c s).steps (omega arith) k);
          fixed = λ i k. subst (λ y. IsTrue (is_fixed y)) (sym (cells i)) (old.fixed i k);
          passed = λ v o p t r was other found past. absurd (let q : (kind_at m2 f).unflushed ≡ false = ap (λ y. y.unflushed) left in cc);
        }

    change_formed : (length (c s).steps ≡ suc (length (b s).steps)) → ((kind_fields d.e.word).unflushed ≡ true → d.e.recorded ≡ 0) → IsWorkFormed n (b s) d.e → IsWorkFormed n (c s) (change d.e)
    unfolding change left
    change_formed long empty k =
        let y = d.may in
        let none = empty y.marked in
        record {
          recorded = k.recorded;
          none = λ t. none;
          marked = λ t. absurd (let q : (kind_at m2 f).unflushed ≡ false = ap (λ v. v.unflushed) left in cc);
          seen = seen_none (sizes_of n) (length (b s).steps + 1) d.e.frame (c s).steps d.e.seen (k.marked y.marked);
          last = last_none (sizes_of n) (change d.e) (c s).steps d.e.unsettled (λ q r. let a = (k.unsettled q r).0 in omega arith);
          unsettled = λ q r. let a = k.unsettled q r in absurd (let o = a.0 in omega arith);
          was_found = λ t. absurd (let q : (kind_at m2 f).unflushed ≡ false = ap (λ v. v.unflushed) left in cc);
          fixed = λ some. absurd (let q = (k.fixed some).0 in let r = y.marked in cc);
          order = let a = k.order in let o = k.past in omega arith;
          past = omega arith;
        }

    pub unmarked_done : Done n s m m2 b c
    unfolding change unmarked_words
    unmarked_done =
        let h = b s in
        let z = sizes_of n in
        let w = d.wrote in
        let u = record h { works = changed_work f change h.works } in
        let acted = act n s x (Kind f) m m2 h u (c s) w.place w.real w.left w.others refl refl refl refl d.hand in
        let words = unmarked_words in
        let long : length (c s).steps ≡ suc (length h.steps) = ap length acted.steps in
        kind_done n s m m2 b c l sound others f u acted words
        (record { ending = refl; claimed = refl; raised = refl; cache = refl; walk = refl; cold = refl; turn = refl; acked = refl; ran = refl })
        (λ reach. record {
          refs = refs_are n s x m m2 b c l sound others f d.e d.here u acted words reach;
          typed = typed_are n s x m m2 b c l sound others f d.e d.here u acted words reach;
          lock_right = lock_right_old n s (Kind f) m m2 b c u acted l sound words reach;
          works = EachOf-changed_first (λ y. m2 (Kind y.frame) ≡ m (Kind y.frame) → WorkFound n m2 c (c s) y) (WorkFound n m2 c (c s)) (λ y. y.frame) f change d.e h.works (one_works n m b sound.alone f s l)
              d.here (λ q. change_found long (λ i. acted.others (Cell d.e.frame i) (λ y. cc))) (λ y off q. q (kind_others n s m m2 b c l sound others f u acted words y off))
              (kind_works_found n s m m2 b c l sound others f u acted words reach);
          locks = locks_old n s (Kind f) m m2 b c u acted l sound words reach;
        })
        (EachOf-changed_first (λ y. IsWorkFormed n (c s) y × (IsWorkFormed n h y × ((kind_fields y.word).unflushed ≡ true → y.recorded ≡ 0))) (IsWorkFormed n (c s)) (λ y. y.frame) f change d.e h.works
        (one_works n m b sound.alone f s l) d.here (λ q. change_formed long (q.1).1 (q.1).0) (λ y off q. q.0)
        (EachOf-both (IsWorkFormed n (c s)) (λ y. IsWorkFormed n h y × ((kind_fields y.word).unflushed ≡ true → y.recorded ≡ 0)) h.works (kind_works_formed n s m m2 b c l sound others f u acted words)
        (EachOf-both (IsWorkFormed n h) (λ y. (kind_fields y.word).unflushed ≡ true → y.recorded ≡ 0) h.works (sound.formed s l).works (marked n s (Kind f) m m2 b c u acted l sound))))
        (kind_locks_formed n s m m2 b c l sound others f u acted words) (sound.formed s l).looking
