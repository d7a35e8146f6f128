-- A store by the vCPU that has the frame in work or closing, by the form that it leaves.
use Rattle.std.proofs.Common.{◌≡◌, ◌≢◌, ℕ, ◌<◌, ◌≤◌, ◌==◌, Some, IsTrue, refl, sym, ap, subst, ◌∙◌, ◌⊎◌, inl, inr, arith}
use Rattle.std.proofs.lemmas.Bool.{and_parts, eqb-true}
use Rattle.xp_words.specs.KindWords.{kind_fields}
use Rattle.xp_words.specs.Machine.{Machine}
use Rattle.xp_words.specs.declared.place.Place.{Place}
use Rattle.xp_words.specs.declared.place.Place.TheVariants.{Clock, Kind}
use Rattle.xp_words.specs.Places.{sizes_of}
use Rattle.xp_board.specs.declared.step.Step.{Step}
use Rattle.xp_board.specs.declared.holdings.Work.{Work}
use Rattle.xp_board.specs.declared.holdings.Holdings.{Holdings}
use Rattle.xp_board.specs.Lists.{EachOf}
use Rattle.xp_board.specs.Readings.{kind_at, is_work, is_closing, type_count, kind_stamp}
use Rattle.xp_board.specs.Hands.{works_on, work_on, without_work, ref_owner, typed_owner}
use Rattle.xp_board.specs.Found.{WorkFound, LockFound}
use Rattle.xp_board.specs.WellFormed.{IsWorkFormed, IsLockFormed, IsLookingFormed}
use Rattle.xp_board.specs.Sound.{Sound}
use Rattle.found_rule.proofs.Learning.{Act}
use Rattle.found_rule.proofs.Words.{Words}
use Rattle.found_rule.proofs.WordsAt.{words_kind}
use Rattle.found_rule.proofs.KnownFacts.{OwnerRight, RefRight, TypedRight, LockRight}
use Rattle.found_rule.proofs.HandFacts.{ReachKept}
use Rattle.found_rule.proofs.MyHand.{refs_old, typed_old, lock_right_old, locks_old}
use Rattle.found_rule.proofs.KindLaw.{KindRest, kind_done, kind_grown, kind_works_found, kind_others, kind_works_formed, kind_locks_formed, ref_owner_right, typed_owner_right}
use Rattle.found_rule.proofs.Quiet.{Done}
use Rattle.xp_board.proofs.KindReadings.{stamp_of, work_unlive, busy_cases}
use Rattle.xp_board.proofs.HandLists.{EachOf-without, EachOf-first, first-key, first-some}
use Rattle.xp_board.proofs.ListCounts.{EachOf-others}
use Rattle.xp_board.proofs.Works.{is_busy-mine, one_works, only_mine}

-- ---- forms

module _ (n : Machine) (s : ℕ) (x : Step) (m m2 : Place → ℕ) (b c : ℕ → Holdings) (l : s < (sizes_of n).vcpus) (sound : Sound n m b) (others : (t : ℕ) → t ≢ s → c t ≡ b t) (f : ℕ) (e : Work)
    (here : work_on f (b s).works ≡ Some e) where
  -- ---- the frame before
  some : 0 < works_on f (b s).works
  some = first-some (λ y. y.frame) f e (b s).works here

  pub frame : e.frame ≡ f
  frame = first-key (λ y. y.frame) f e (b s).works here

  pub was_found : WorkFound n m b (b s) e
  was_found = EachOf-first (WorkFound n m b (b s)) (λ y. y.frame) f e (b s).works (sound.found s l).works here

  was : kind_at m f ≡ kind_fields e.word
  was = ap (λ g. kind_at m g) (sym frame) ∙ ap kind_fields was_found.word

  busy : (IsTrue (is_work (kind_at m f)) × (type_count (kind_at m f) ≡ 1)) ⊎ (IsTrue (is_closing (kind_at m f)) × (type_count (kind_at m f) ≡ 0))
  busy = busy_cases (kind_at m f) (is_busy-mine n m b sound.alone f s l some)

  pub number : (kind_fields e.word).number ≤ m Clock
  number =
      let w = ap (λ y. y.number) was in
      elim busy [
        | inl work ↦
            (let v = work_unlive (kind_at m f) work.0 in
            let t = stamp_of (m (Kind f)) (kind_at m f) refl v in
            let k = sound.stamped.kinds f in
            omega arith)
        | inr closing ↦
            (let z = eqb-true (kind_at m f).number 0 (and_parts (kind_at m f).validated ((kind_at m f).number == 0) closing.0).1 in omega arith)
      ]

  pub store_words : ((q : Place) → q ≢ Kind f → m2 q ≡ m q) → (kind_at m2 f).kind ≡ (kind_fields e.word).kind → kind_stamp (m2 (Kind f)) ≤ m Clock → Words n s m m2 b
  unfolding busy was some
  store_words o kind stamp =
      words_kind n s m m2 b sound f o
      (λ count live. absurd (elim busy [
        | inl work ↦ (let v = work_unlive (kind_at m f) work.0 in cc)
        | inr closing ↦ (let q = closing.1 in omega arith)
      ]))
      (λ count. kind ∙ sym (ap (λ y. y.kind) was)) stamp (λ t k d have. let q = only_mine n m b sound.alone f s t l k d some in omega arith)

  module _ (u : Holdings) (acted : Act n s (Kind f) m m2 (b s) u (c s)) (words : Words n s m m2 b) where
    -- the frame goes out of the works
    works_left : ReachKept n m m2 b c → EachOf (WorkFound n m2 c (c s)) (without_work f (b s).works)
    works_left reach =
        EachOf-others (λ y. m2 (Kind y.frame) ≡ m (Kind y.frame) → WorkFound n m2 c (c s) y) (WorkFound n m2 c (c s)) (λ y. y.frame) f (b s).works (one_works n m b sound.alone f s l)
        (λ y off h. h (kind_others n s m m2 b c l sound others f u acted words y off)) (kind_works_found n s m m2 b c l sound others f u acted words reach)

    pub refs_are : ReachKept n m m2 b c → EachOf (RefRight (sizes_of n) m2 (c s).steps) (b s).refs
    refs_are reach = refs_old n s (Kind f) m m2 b c u acted l sound words reach

    pub typed_are : ReachKept n m m2 b c → EachOf (TypedRight (sizes_of n) m2 (c s).steps) (b s).typed
    typed_are reach = typed_old n s (Kind f) m m2 b c u acted l sound words reach

    pub ref_owner_is : ReachKept n m m2 b c → OwnerRight (sizes_of n) m2 (c s).steps f (ref_owner f (b s))
    ref_owner_is reach = ref_owner_right (sizes_of n) m m2 (b s).steps (c s).steps (kind_grown n s m m2 b c l sound others f u acted words) f (b s) (omega arith) (refs_are reach)

    pub typed_owner_is : ReachKept n m m2 b c → OwnerRight (sizes_of n) m2 (c s).steps f (typed_owner f (b s))
    typed_owner_is reach = typed_owner_right (sizes_of n) m m2 (b s).steps (c s).steps (kind_grown n s m m2 b c l sound others f u acted words) f (b s) (omega arith) (typed_are reach)

    pub store_done : KindRest (b s) u → u.works ≡ without_work f (b s).works → u.locks ≡ (b s).locks → EachOf (IsLookingFormed n s) u.looking →
        (ReachKept n m m2 b c → EachOf (RefRight (sizes_of n) m2 (c s).steps) u.refs) → (ReachKept n m m2 b c → EachOf (TypedRight (sizes_of n) m2 (c s).steps) u.typed) → Done n s m m2 b c
    store_done rest works locks looking refs typed =
        let z = sizes_of n in
        kind_done n s m m2 b c l sound others f u acted words rest
        (λ reach. record {
          refs = refs reach;
          typed = typed reach;
          lock_right = subst (λ xs. EachOf (LockRight z m2 (c s).steps) xs) (sym locks) (lock_right_old n s (Kind f) m m2 b c u acted l sound words reach);
          works = subst (λ xs. EachOf (WorkFound n m2 c (c s)) xs) (sym works) (works_left reach);
          locks = subst (λ xs. EachOf (LockFound z m2 (c s)) xs) (sym locks) (locks_old n s (Kind f) m m2 b c u acted l sound words reach);
        })
        (subst (λ xs. EachOf (IsWorkFormed n (c s)) xs) (sym works)
        (EachOf-without (IsWorkFormed n (c s)) (λ y. y.frame) f (b s).works (kind_works_formed n s m m2 b c l sound others f u acted words)))
        (subst (λ xs. EachOf (IsLockFormed n (c s)) xs) (sym locks) (kind_locks_formed n s m m2 b c l sound others f u acted words)) looking
