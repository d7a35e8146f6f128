-- What each act on a reference word leaves.
use Rattle.std.proofs.Common.{◌≡◌, ◌≢◌, ℕ, suc, ◌+◌, ◌%◌, ◌^◌, ◌<◌, ◌≤◌, ◌==◌, Bool, true, false, ◌∷◌, length, Some, refl, sym, ◌∙◌, ap, subst, arith, IsTrue, if◌then◌else◌}
use Rattle.std.proofs.lemmas.Bool.Decides.{nat_tests}
use Rattle.xp_words.specs.declared.refs.RefWord.TheVariants.{Owned}
use Rattle.xp_words.specs.RefWords.{ref_read, bit}
use Rattle.xp_words.specs.Machine.{Machine}
use Rattle.xp_words.specs.declared.place.Place.{Place}
use Rattle.xp_words.specs.declared.place.Place.TheVariants.{Refs}
use Rattle.xp_words.specs.Places.{sizes_of, is_place}
use Rattle.xp_words.proofs.Shared.{eq_false as when_ne}
use Rattle.xp_board.specs.declared.holdings.Holdings.{Holdings}
use Rattle.xp_board.specs.declared.holdings.Reference.{Reference}
use Rattle.xp_board.specs.declared.holdings.Ending.{Ending}
use Rattle.xp_board.specs.declared.holdings.OwnerFound.TheVariants as owners
use Rattle.xp_board.specs.declared.step.Step.{Step}
use Rattle.xp_board.specs.declared.step.StepKind.TheVariants as steps
use Rattle.xp_board.specs.Readings.{ref_count, allocated_mark, owner_of, is_free, free_stamp, is_dying}
use Rattle.xp_board.specs.Hands.{refs_to, without_ref, hand, endings_of}
use Rattle.xp_board.specs.RefSteps.{MayLower, one_down, owner_number}
use Rattle.xp_board.specs.Spelling.{IsSpelling, is_ref_in}
use Rattle.xp_board.specs.After.{noted}
use Rattle.xp_board.specs.Keeping.{MayAct}
use Rattle.xp_board.specs.Sound.{Spelled, Sound}
use Rattle.step_effects.proofs.ActEffects.{Wrote, Raised, Cleared, Lowered}
use Rattle.xp_board.proofs.Sums.{when_eq, one_at-same, hands-part}
use Rattle.xp_board.proofs.ListCounts.{times_by-without, times_by-cons_here, times_by-cons_other, times_by-without_other}
use Rattle.xp_board.proofs.RefWords.{owned_says, dying_says, OneLess, more, last, one_down_leaves, owned_fits, fits_owned, fits_dying}
use Rattle.count_rule.proofs.SpelledLaw.{wrote_spelled}
use Rattle.count_rule.proofs.Outcome.{Outcome}
use Rattle.count_rule.proofs.RefLaw.{RefMove, ref_outcome}

module _ (n : Machine) (s : ℕ) (x : Step) (m m2 : Place → ℕ) (b c : ℕ → Holdings) (vcpu : s < (sizes_of n).vcpus) (others : (t : ℕ) → t ≢ s → c t ≡ b t) (may : MayAct n s x (b s)) (sound : Sound n m b) (f : ℕ) where
  pub inside : IsTrue (is_place (sizes_of n) (Refs f)) → f < (sizes_of n).frames
  unfolding is_place
  inside real = grind (arith, nat_tests)

  -- the count is more than the mark where a reference is in hand
  count_above : 0 < refs_to f (b s).refs → allocated_mark (m (Refs f)) < ref_count (m (Refs f))
  unfolding hand
  count_above k =
      let e = sound.counts.refs f in
      let p = hands-part (hand f) (sizes_of n) b s vcpu in
      omega arith

  was_fits : IsTrue (is_place (sizes_of n) (Refs f)) → (o k : ℕ) (a : Bool) → ref_read (m (Refs f)) ≡ Some (Owned o a k) → (o < length n.page_limit) × (k ≤ n.limit)
  unfolding IsSpelling
  was_fits real o k a was = owned_fits n o k a (subst (λ r. IsTrue (is_ref_in n r)) was (sound.spelled.spelled (Refs f) real))

  less_spelled : IsTrue (is_place (sizes_of n) (Refs f)) → OneLess (m (Refs f)) (m2 (Refs f)) → IsSpelling n (Refs f) (m2 (Refs f))
  unfolding IsSpelling
  less_spelled real (more o k a was is) =
      let fits = was_fits real o (suc (suc k)) a was in
      subst (λ y. IsTrue (is_ref_in n y)) (sym is) (fits_owned n o (suc k) a fits.0 (let y = fits.1 in omega arith))
  less_spelled real (last o was is) = subst (λ y. IsTrue (is_ref_in n y)) (sym is) (fits_dying n o (was_fits real o 1 false was).0)

  lower_less : (by : ℕ) → MayLower f by (b s) → m2 (Refs f) ≡ (m (Refs f) + by) % 2 ^ 64 → OneLess (m (Refs f)) (m2 (Refs f))
  lower_less by lower is =
      let e : m2 (Refs f) ≡ (m (Refs f) + one_down) % 2 ^ 64 = is ∙ ap (λ y. (m (Refs f) + y) % 2 ^ 64) lower.one in
      subst (OneLess (m (Refs f))) (sym e) (one_down_leaves (m (Refs f)) _ (sound.spelled.small (Refs f)) refl (count_above lower.in_hand))

  pub ref_spelled : Wrote n x (Refs f) steps.Ref m m2 (b s) → Spelled n m2
  ref_spelled d =
      wrote_spelled n s x (Refs f) steps.Ref m m2 (b s) d may sound.machine sound.spelled (λ by l is. less_spelled d.real (lower_less by l is)) (λ v l. absurd l)

  -- the reference that comes into the hand
  abbrev raised_ref : Reference
  raised_ref = record { frame = f; owner = owners.Of (owner_number (owner_of (m (Refs f)))) }

  -- one reference more, of the same owner; or the mark's
  more_outcome : Wrote n x (Refs f) steps.Ref m m2 (b s) → (w : ℕ) → c s ≡ noted x w (record (b s) { refs = raised_ref ∷ (b s).refs }) → (o j k : ℕ) (a e : Bool) →
      ref_read (m (Refs f)) ≡ Some (Owned o a j) → ref_read (m2 (Refs f)) ≡ Some (Owned o e k) → k + bit a ≡ j + (bit e + 1) → Outcome n m2 c
  more_outcome d w hand o j k a e was is count =
      let u = owned_says _ o a j was in
      let v = owned_says _ o e k is in
      let refs = ap (λ y. y.refs) hand in
      ref_outcome n s m m2 b c vcpu others f sound
      (record {
        real = inside d.real;
        words = d.others;
        typed = ap (λ y. y.typed) hand;
        works = ap (λ y. y.works) hand;
        locks = ap (λ y. y.locks) hand;
        cache = ap (λ y. y.cache) hand;
        walk = ap (λ y. y.walk) hand;
        cold = ap (λ y. y.cold) hand;
        running = d.running refl;
        stamp = let y = v.stamp in omega arith;
        refs_other = λ g off. rw refs (times_by-cons_other (λ y. y.frame) g raised_ref (b s).refs (λ y. off (sym y)));
        refs_here = let r : refs_to f (c s).refs ≡ 1 + refs_to f (b s).refs = rw refs (times_by-cons_here (λ y. y.frame) f raised_ref (b s).refs refl) in
            let p = u.counts in let q = v.counts in let i = u.mark in let y = v.mark in omega arith;
        spares = λ z l. let r : refs_to f (c s).refs ≡ 1 + refs_to f (b s).refs = rw refs (times_by-cons_here (λ y. y.frame) f raised_ref (b s).refs refl) in omega arith;
        dying_other = λ g off. rw (ap (λ y. y.ending) hand, ap (λ y. y.claimed) hand) refl;
        dying_here = rw (ap (λ y. y.ending) hand, ap (λ y. y.claimed) hand, u.dying, v.dying) refl;
        raised_other = λ g off. rw (ap (λ y. y.raised) hand) refl;
        raised_here = rw (ap (λ y. y.raised) hand, u.free, v.free) refl;
        pages = λ q. rw (ap (λ y. y.credits) hand, u.owned, v.owned) refl;
      })
      (ref_spelled d)

  pub raised_outcome : Raised n x f m m2 (b s) (c s) → Outcome n m2 c
  raised_outcome d = more_outcome d.wrote (m (Refs f)) d.hand d.owner d.count (d.count + 1) d.allocated d.allocated d.was d.is (omega arith)

  pub cleared_outcome : Cleared n x f m m2 (b s) (c s) → Outcome n m2 c
  cleared_outcome d = more_outcome d.wrote (m (Refs f)) d.hand d.owner d.count d.count true false d.was d.is (omega arith)

  -- ---- one reference less
  module _ (d : Lowered n x f m m2 (b s) (c s)) where
    -- the frame as it ends
    abbrev ended : Ending
    ended = record { frame = f; owner = owner_number (owner_of (m (Refs f))); since = length (b s).steps + 1 }

    refs_now : (c s).refs ≡ without_ref f (b s).refs
    refs_now = ap (λ y. y.refs) d.hand

    down : refs_to f (c s).refs + 1 ≡ refs_to f (b s).refs
    down =
        let one = one_at-same f in
        let k = times_by-without (λ y. y.frame) f f (b s).refs d.may.in_hand in
        rw refs_now (omega arith)

    ending_now : (t : Bool) → (ref_count (m (Refs f)) == 1) ≡ t → (c s).ending ≡ (if t then (ended ∷ (b s).ending) else (b s).ending)
    ending_now t k = ap (λ u. u.ending) d.hand ∙ rw k refl

    -- its owner, and whether it is free, stay
    lowered_move : owner_of (m2 (Refs f)) ≡ owner_of (m (Refs f)) → is_free (m (Refs f)) ≡ false → is_free (m2 (Refs f)) ≡ false → free_stamp (m2 (Refs f)) ≡ 0 →
        ref_count (m2 (Refs f)) + (allocated_mark (m (Refs f)) + 1) ≡ ref_count (m (Refs f)) + allocated_mark (m2 (Refs f)) →
        ((g : ℕ) → g ≢ f → endings_of g (c s).ending ≡ endings_of g (b s).ending) →
        endings_of f (c s).ending + bit (is_dying (m (Refs f))) ≡ endings_of f (b s).ending + bit (is_dying (m2 (Refs f))) → RefMove n s m m2 b c vcpu others f
    lowered_move owner free free2 stamp counts other here =
        record {
          real = inside d.wrote.real;
          words = d.wrote.others;
          typed = ap (λ y. y.typed) d.hand;
          works = ap (λ y. y.works) d.hand;
          locks = ap (λ y. y.locks) d.hand;
          cache = ap (λ y. y.cache) d.hand;
          walk = ap (λ y. y.walk) d.hand;
          cold = ap (λ y. y.cold) d.hand;
          running = d.wrote.running refl;
          stamp = omega arith;
          refs_other = λ g off. rw refs_now (times_by-without_other (λ y. y.frame) g f (b s).refs off);
          refs_here = let k = down in omega arith;
          spares = λ z l. let two = d.may.spares z in let k = down in omega arith;
          dying_other = λ g off. let e = other g off in rw (ap (λ y. y.claimed) d.hand) (omega arith);
          dying_here = rw (ap (λ y. y.claimed) d.hand) (omega arith);
          raised_other = λ g off. rw (ap (λ y. y.raised) d.hand) refl;
          raised_here = rw (ap (λ y. y.raised) d.hand, free, free2) refl;
          pages = λ q. rw (ap (λ y. y.credits) d.hand, owner) refl;
        }

    lowered_by : OneLess (m (Refs f)) (m2 (Refs f)) → RefMove n s m m2 b c vcpu others f
    lowered_by (more o k a was is) =
        let u = owned_says _ o a (suc (suc k)) was in
        let v = owned_says _ o a (suc k) is in
        let ending = ending_now false (let y = u.counts in when_ne _ 1 (λ k. absurd (omega arith))) in
        lowered_move (v.owned ∙ sym u.owned) u.free v.free v.stamp (let p = u.counts in let q = v.counts in let i = u.mark in let j = v.mark in omega arith)
        (λ g off. rw ending refl) (rw (ending, u.dying, v.dying) refl)
    lowered_by (last o was is) =
        let u = owned_says _ o false 1 was in
        let v = dying_says _ o is in
        let ending = ending_now true (when_eq _ 1 u.counts) in
        lowered_move (v.owned ∙ sym u.owned) u.free v.free v.stamp (let p = u.counts in let q = v.counts in let i = u.mark in let j = v.mark in omega arith)
        (λ g off. rw ending (times_by-cons_other (λ y. y.frame) g ended (b s).ending (λ y. off (sym y))))
        (let k : endings_of f (c s).ending ≡ 1 + endings_of f (b s).ending = rw ending (times_by-cons_here (λ y. y.frame) f ended (b s).ending refl) in
        let p = ap bit u.dying in let q = ap bit v.dying in omega arith)

    pub lowered_outcome : Outcome n m2 c
    lowered_outcome = ref_outcome n s m m2 b c vcpu others f sound (lowered_by (lower_less one_down d.may d.is)) (ref_spelled d.wrote)
