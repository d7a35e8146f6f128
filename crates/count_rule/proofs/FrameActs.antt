-- Frames that are taken from the free ones, freed and given.
use Rattle.std.proofs.Common.{◌≡◌, ◌≢◌, ℕ, ◌+◌, ◌<◌, ◌≤◌, ◌==◌, true, Option, Some, None, refl, sym, ◌∙◌, ap, arith, inl, inr}
use Rattle.std.proofs.lemmas.Bool.{cases_eq}
use Rattle.xp_words.specs.declared.refs.RefWord.TheVariants.{Dying}
use Rattle.xp_words.specs.RefWords.{ref_read, bit}
use Rattle.xp_words.specs.Machine.{Machine}
use Rattle.xp_words.specs.declared.place.Place.{Place}
use Rattle.xp_words.specs.declared.place.Place.TheVariants.{Clock, Refs}
use Rattle.xp_words.specs.Places.{sizes_of}
use Rattle.xp_words.proofs.Shared.{eq_false as when_ne}
use Rattle.xp_board.specs.declared.holdings.Holdings.{Holdings}
use Rattle.xp_board.specs.declared.holdings.Ending.{Ending}
use Rattle.xp_board.specs.declared.holdings.Claimed.{Claimed}
use Rattle.xp_board.specs.declared.step.Step.{Step}
use Rattle.xp_board.specs.Lists.{one_at, times}
use Rattle.xp_board.specs.Readings.{owner_of, is_dying, domain_of}
use Rattle.xp_board.specs.Hands.{refs_to, endings_of, claims_of, ending_of, claim_of}
use Rattle.xp_board.specs.RefSteps.{IsFreeStamp, credited}
use Rattle.xp_board.specs.Recorded.{is_page_of}
use Rattle.xp_board.specs.Found.{ClaimFound, EndingFound}
use Rattle.xp_board.specs.Keeping.{MayAct}
use Rattle.xp_board.specs.Sound.{Sound}
use Rattle.step_effects.proofs.ActEffects.{Took, Freed, Gave}
use Rattle.xp_board.proofs.Sums.{when_eq, one_at-same, hands-part, bit_most, some_bit}
use Rattle.xp_board.proofs.ListCounts.{first_by-absent, EachOf-found, first_by-some, times_by-without_one, times_by-cons, times_by-without, times_by-cons_here, times_by-cons_other, times_by-without_other}
use Rattle.xp_board.proofs.HandLists.{first-some}
use Rattle.xp_board.proofs.RefWords.{owned_says, free_says, dying_says, is_dying-read, dying_owner}
use Rattle.count_rule.proofs.Told.{clock_found}
use Rattle.count_rule.proofs.Outcome.{Outcome}
use Rattle.count_rule.proofs.RefLaw.{ref_outcome}
use Rattle.count_rule.proofs.RefActs.{inside, ref_spelled}

bit_one_at : (o d : ℕ) → bit (o == d) ≡ one_at d o
bit_one_at o d =
    elim (cases_eq o d) [
      | inl at ↦ rw (when_eq o d at) refl
      | inr off ↦ rw (when_ne o d off) refl
    ]

page_owned : (d w o : ℕ) → owner_of w ≡ Some o → is_page_of d w ≡ one_at d o
page_owned d w o e = rw e (bit_one_at o d)

page_free : (d w : ℕ) → owner_of w ≡ None → is_page_of d w ≡ 0
page_free d w e = rw e refl

module _ (n : Machine) (s : ℕ) (x : Step) (m m2 : Place → ℕ) (b c : ℕ → Holdings) (vcpu : s < (sizes_of n).vcpus) (others : (t : ℕ) → t ≢ s → c t ≡ b t) (may : MayAct n s x (b s)) (sound : Sound n m b) (f : ℕ) where
  -- ---- a frame in the own hand alone
  -- it stands once among what ends and what is claimed, and its word is dying
  mine_dying : 0 < endings_of f (b s).ending + claims_of f (b s).claimed → (is_dying (m (Refs f)) ≡ true) × (endings_of f (b s).ending + claims_of f (b s).claimed ≡ 1)
  mine_dying k =
      let all = sound.alone.dying f in
      let part = hands-part (λ u. endings_of f u.ending + claims_of f u.claimed) (sizes_of n) b s vcpu in
      let most = bit_most (is_dying (m (Refs f))) in
      (some_bit (is_dying (m (Refs f))) (omega arith), omega arith)

  -- the owner of a claimed frame
  claimed_owner : (e : Claimed) → claim_of f (b s).claimed ≡ Some e → (o : ℕ) → ref_read (m (Refs f)) ≡ Some (Dying o) → o ≡ domain_of n s
  claimed_owner e here o is =
      let all = (sound.found s vcpu).claims in
      let k = EachOf-found (ClaimFound (sizes_of n) m (domain_of n s) (b s)) (λ y. y.frame) f (b s).claimed e here all in
      dying_owner (m (Refs f)) o (domain_of n s) (sound.spelled.small (Refs f)) is (ap (λ y. m (Refs y)) (sym k.0) ∙ k.1.word)

  ending_owner : (e : Ending) → ending_of f (b s).ending ≡ Some e → (o : ℕ) → ref_read (m (Refs f)) ≡ Some (Dying o) → o ≡ e.owner
  ending_owner e here o is =
      let all = (sound.found s vcpu).endings in
      let k = EachOf-found (EndingFound m) (λ y. y.frame) f (b s).ending e here all in
      dying_owner (m (Refs f)) o e.owner (sound.spelled.small (Refs f)) is (ap (λ y. m (Refs y)) (sym k.0) ∙ k.1)

  pub took_outcome : Took n s x f m m2 (b s) (c s) → Outcome n m2 c
  took_outcome d =
      let dom = domain_of n s in
      let u = free_says _ d.stamp d.was in
      let v = dying_says _ dom (d.is ∙ ap Some d.may.left) in
      let claimed = ap (λ y. y.claimed) d.hand in
      let raised = ap (λ y. y.raised) d.hand in
      ref_outcome n s m m2 b c vcpu others f sound
      (record {
        real = inside n s x m m2 b c vcpu others may sound f d.wrote.real;
        words = d.wrote.others;
        typed = ap (λ y. y.typed) d.hand;
        works = ap (λ y. y.works) d.hand;
        locks = ap (λ y. y.locks) d.hand;
        cache = ap (λ y. y.cache) d.hand;
        walk = ap (λ y. y.walk) d.hand;
        cold = ap (λ y. y.cold) d.hand;
        running = d.wrote.running refl;
        stamp = let k = v.stamp in omega arith;
        refs_other = λ g off. rw (ap (λ y. y.refs) d.hand) refl;
        refs_here = let r = ap (λ y. refs_to f y.refs) d.hand in let p = u.counts in let q = v.counts in let i = u.mark in let j = v.mark in omega arith;
        spares = λ z l. rw (ap (λ y. y.refs) d.hand) l;
        dying_other = λ g off.
            let k : claims_of g (c s).claimed ≡ claims_of g (b s).claimed = rw claimed (times_by-cons_other (λ y. y.frame) g _ (b s).claimed (λ y. off (sym y))) in
            rw (ap (λ y. y.ending) d.hand) (omega arith);
        dying_here =
            let k : claims_of f (c s).claimed ≡ 1 + claims_of f (b s).claimed = rw claimed (times_by-cons_here (λ y. y.frame) f _ (b s).claimed refl) in
            let p = ap bit u.dying in let q = ap bit v.dying in
            rw (ap (λ y. y.ending) d.hand) (omega arith);
        raised_other = λ g off. rw raised (times_by-cons_other (λ y. y) g f (b s).raised (λ y. off (sym y)));
        raised_here =
            let k : times f (c s).raised ≡ 1 + times f (b s).raised = rw raised (times_by-cons_here (λ y. y) f f (b s).raised refl) in
            let p = ap bit u.free in let q = ap bit v.free in
            omega arith;
        pages = λ q.
            let p = page_owned q (m2 (Refs f)) dom v.owned in
            let z = page_free q (m (Refs f)) u.owned in
            let k = times_by-without (λ y. y) q dom (b s).credits d.may.credit in
            rw (ap (λ y. y.credits) d.hand) (omega arith);
      })
      (ref_spelled n s x m m2 b c vcpu others may sound f d.wrote)

  free_stamp_found : (stamp : ℕ) (e : Option Ending) (k : Option Claimed) → ending_of f (b s).ending ≡ e → claim_of f (b s).claimed ≡ k → IsFreeStamp n stamp (b s) e k → stamp ≤ m Clock
  free_stamp_found stamp (Some e) k p q was_found = clock_found (sizes_of n) (m Clock) e.since stamp (b s).steps (sound.found s vcpu).clock was_found
  free_stamp_found stamp None (Some k) p q was_found =
      let each = EachOf-found (ClaimFound (sizes_of n) m (domain_of n s) (b s)) (λ y. y.frame) f (b s).claimed k q (sound.found s vcpu).claims in
      let most = each.1.stamp in
      omega arith
  free_stamp_found stamp None None p q was_found = absurd was_found

  credit_owner : (o : ℕ) (e : Option Ending) → ending_of f (b s).ending ≡ e → ref_read (m (Refs f)) ≡ Some (Dying o) → 0 < endings_of f (b s).ending + claims_of f (b s).claimed →
      o ≡ credited n s (ending_of f (b s).ending)
  credit_owner o (Some e) p is some = rw p (ending_owner e p o is)
  credit_owner o None p is some =
      let none = first_by-absent (λ y. y.frame) f (b s).ending p in
      let k = first_by-some (λ y. y.frame) f (b s).claimed (omega arith) in
      rw p (claimed_owner k.0 k.1 o is)

  pub freed_outcome : Freed n s x f m m2 (b s) (c s) → Outcome n m2 c
  freed_outcome d =
      let held = (sound.formed s vcpu).raised.held f in
      let has = d.may.raised in
      let mine = mine_dying (omega arith) in
      let old = is_dying-read (m (Refs f)) mine.0 in
      let u = dying_says _ old.0 old.1 in
      let v = free_says _ d.stamp d.is in
      let ending = ap (λ y. y.ending) d.hand in
      let claimed = ap (λ y. y.claimed) d.hand in
      let raised = ap (λ y. y.raised) d.hand in
      let one = mine.1 in
      ref_outcome n s m m2 b c vcpu others f sound
      (record {
        real = inside n s x m m2 b c vcpu others may sound f d.wrote.real;
        words = d.wrote.others;
        typed = ap (λ y. y.typed) d.hand;
        works = ap (λ y. y.works) d.hand;
        locks = ap (λ y. y.locks) d.hand;
        cache = ap (λ y. y.cache) d.hand;
        walk = ap (λ y. y.walk) d.hand;
        cold = ap (λ y. y.cold) d.hand;
        running = d.wrote.running refl;
        stamp = let k = v.stamp in let t = free_stamp_found d.stamp _ _ refl refl d.may.was_found in omega arith;
        refs_other = λ g off. rw (ap (λ y. y.refs) d.hand) refl;
        refs_here = let r = ap (λ y. refs_to f y.refs) d.hand in let p = u.counts in let q = v.counts in let i = u.mark in let j = v.mark in omega arith;
        spares = λ z l. rw (ap (λ y. y.refs) d.hand) l;
        dying_other = λ g off.
            let k : claims_of g (c s).claimed ≡ claims_of g (b s).claimed = rw claimed (times_by-without_other (λ y. y.frame) g f (b s).claimed off) in
            let j : endings_of g (c s).ending ≡ endings_of g (b s).ending = rw ending (times_by-without_other (λ y. y.frame) g f (b s).ending off) in
            omega arith;
        dying_here =
            let k : claims_of f (c s).claimed ≡ 0 = rw claimed (times_by-without_one (λ y. y.frame) f (b s).claimed (omega arith)) in
            let j : endings_of f (c s).ending ≡ 0 = rw ending (times_by-without_one (λ y. y.frame) f (b s).ending (omega arith)) in
            let p = ap bit u.dying in let q = ap bit v.dying in
            omega arith;
        raised_other = λ g off. rw raised (times_by-without_other (λ y. y) g f (b s).raised off);
        raised_here =
            let z = one_at-same f in
            let k = times_by-without (λ y. y) f f (b s).raised has in
            let p = ap bit u.free in let q = ap bit v.free in
            rw raised (omega arith);
        pages = λ q.
            let p = page_free q (m2 (Refs f)) v.owned in
            let z = page_owned q (m (Refs f)) old.0 u.owned in
            let o = ap (one_at q) (credit_owner old.0 _ refl old.1 (omega arith)) in
            let k = times_by-cons (λ y. y) q (credited n s (ending_of f (b s).ending)) (b s).credits in
            rw (ap (λ y. y.credits) d.hand) (omega arith);
      })
      (ref_spelled n s x m m2 b c vcpu others may sound f d.wrote)

  pub gave_outcome : Gave n s x f m m2 (b s) (c s) → Outcome n m2 c
  gave_outcome d =
      let some = first-some (λ y. y.frame) f d.may.claimed (b s).claimed d.may.here in
      let mine = mine_dying (omega arith) in
      let old = is_dying-read (m (Refs f)) mine.0 in
      let u = dying_says _ old.0 old.1 in
      let v = owned_says _ d.owner d.allocated d.count d.is in
      let claimed = ap (λ y. y.claimed) d.hand in
      let one = mine.1 in
      let owner : old.0 ≡ d.owner = claimed_owner d.may.claimed d.may.here old.0 old.1 ∙ sym d.may.own in
      ref_outcome n s m m2 b c vcpu others f sound
      (record {
        real = inside n s x m m2 b c vcpu others may sound f d.wrote.real;
        words = d.wrote.others;
        typed = ap (λ y. y.typed) d.hand;
        works = ap (λ y. y.works) d.hand;
        locks = ap (λ y. y.locks) d.hand;
        cache = ap (λ y. y.cache) d.hand;
        walk = ap (λ y. y.walk) d.hand;
        cold = ap (λ y. y.cold) d.hand;
        running = d.wrote.running refl;
        stamp = let k = v.stamp in omega arith;
        refs_other = λ g off. rw (ap (λ y. y.refs) d.hand) refl;
        refs_here =
            let r = ap (λ y. refs_to f y.refs) d.hand in
            let p = u.counts in let q = v.counts in let i = u.mark in let j = v.mark in
            let t = ap bit d.may.marked in let k = d.may.one in
            omega arith;
        spares = λ z l. rw (ap (λ y. y.refs) d.hand) l;
        dying_other = λ g off.
            let k : claims_of g (c s).claimed ≡ claims_of g (b s).claimed = rw claimed (times_by-without_other (λ y. y.frame) g f (b s).claimed off) in
            rw (ap (λ y. y.ending) d.hand) (omega arith);
        dying_here =
            let k : claims_of f (c s).claimed ≡ 0 = rw claimed (times_by-without_one (λ y. y.frame) f (b s).claimed (omega arith)) in
            let p = ap bit u.dying in let q = ap bit v.dying in
            rw (ap (λ y. y.ending) d.hand) (omega arith);
        raised_other = λ g off. rw (ap (λ y. y.raised) d.hand) refl;
        raised_here = rw (ap (λ y. y.raised) d.hand, u.free, v.free) refl;
        pages = λ q. rw (ap (λ y. y.credits) d.hand, u.owned, v.owned, owner) refl;
      })
      (ref_spelled n s x m m2 b c vcpu others may sound f d.wrote)
