-- Frames in the works of vCPUs: who has them, and how many of their entries are recorded.
use Rattle.std.proofs.Common.{Option, sym, ◌≡◌, ◌≢◌, ℕ, zero, suc, ◌<◌, ◌≤◌, true, false, List, Some, None, refl, ◌∙◌, ap, arith, inl, inr, ◌+◌}
use Rattle.std.proofs.lemmas.Bool.{cases_eq}
use Rattle.xp_words.specs.RefWords.{bit}
use Rattle.xp_words.specs.Machine.{Machine}
use Rattle.xp_words.specs.declared.place.Place.{Place}
use Rattle.xp_words.specs.declared.place.Place.TheVariants.{Refs}
use Rattle.xp_words.specs.Places.{sizes_of}
use Rattle.xp_board.specs.declared.holdings.Holdings.{Holdings}
use Rattle.xp_board.specs.declared.holdings.Work.{Work}
use Rattle.xp_board.specs.Readings.{kind_at, is_locked, is_dying, ref_count}
use Rattle.xp_board.specs.Hands.{works_on, work_on, locks_on, endings_of, claims_of}
use Rattle.xp_board.specs.Recorded.{recorded_number, or_else, recorded_in, work_of, held, held_of}
use Rattle.xp_board.specs.Sound.{is_busy, HeldAlone}
use Rattle.xp_board.proofs.ListCounts.{first_by-none, first_by-some}
use Rattle.xp_board.proofs.HandLists.{first-some}
use Rattle.xp_board.proofs.Sums.{hands-part, hands-two, hands-some, bit_most, some_bit}
use Rattle.xp_board.proofs.RefForms.{dying_uncounted}

pub recorded_in-none : (f : ℕ) (xs : List Work) → work_on f xs ≡ None → recorded_in xs f ≡ None
unfolding recorded_in
recorded_in-none f xs e = ap recorded_number e

pub recorded_in-here : (f : ℕ) (xs : List Work) (e : Work) → work_on f xs ≡ Some e → recorded_in xs f ≡ Some e.recorded
unfolding recorded_in
recorded_in-here f xs e k = ap recorded_number k

-- ---- over all vCPUs
pub work_of-same : (n : ℕ) (h h2 : ℕ → Holdings) (f : ℕ) → ((t : ℕ) → t < n → recorded_in (h2 t).works f ≡ recorded_in (h t).works f) →
    work_of n h2 f ≡ work_of n h f
unfolding work_of
work_of-same zero h h2 f e = refl
work_of-same (suc n) h h2 f e = rw (e n (omega arith)) (rw (work_of-same n h h2 f (λ t b. e t (omega arith))) refl)

pub work_of-none : (n : ℕ) (h : ℕ → Holdings) (f : ℕ) → ((t : ℕ) → t < n → recorded_in (h t).works f ≡ None) → work_of n h f ≡ None
unfolding work_of
work_of-none zero h f e = refl
work_of-none (suc n) h f e = rw (e n (omega arith)) (work_of-none n h f (λ t b. e t (omega arith)))

or_none : (o : Option ℕ) → or_else o None ≡ o
or_none (Some k) = refl
or_none None = refl

pub work_of-mine : (n : ℕ) (h : ℕ → Holdings) (s f : ℕ) → s < n → ((t : ℕ) → t < n → t ≢ s → recorded_in (h t).works f ≡ None) →
    work_of n h f ≡ recorded_in (h s).works f
unfolding work_of
work_of-mine zero h s f b e = absurd (omega arith)
work_of-mine (suc n) h s f b e =
    elim (cases_eq n s) [
      | inl at ↦ rw (work_of-none n h f (λ t l. e t (omega arith) (λ q. absurd (omega arith)))) (or_none (recorded_in (h n).works f) ∙ ap (λ t. recorded_in (h t).works f) at)
      | inr off ↦ (let k : n ≢ s = off in rw (e n (omega arith) off) (work_of-mine n h s f (omega arith) (λ t l o. e t (omega arith) o)))
    ]

-- each frame that is in work or closing stands in the works of a vCPU
pub record InWorks (n : Machine) (h : ℕ → Holdings) (f : ℕ) : Type 0 where
  pub vcpu : ℕ
  pub real : vcpu < (sizes_of n).vcpus
  pub work : Work
  pub here : work_on f (h vcpu).works ≡ Some work

module _ (n : Machine) (m : Place → ℕ) (h : ℕ → Holdings) (alone : HeldAlone n m h) where
  -- a frame that is neither in work nor closing stands in nobody's works
  pub nobody_works : (f : ℕ) → is_busy (kind_at m f) ≡ false → (t : ℕ) → t < (sizes_of n).vcpus → works_on f (h t).works ≡ 0
  nobody_works f free t b =
      let all = alone.works f in
      let part = hands-part (λ u. works_on f u.works) (sizes_of n) h t b in
      let none = ap bit free in
      omega arith

  pub one_works : (f s : ℕ) → s < (sizes_of n).vcpus → works_on f (h s).works ≤ 1
  one_works f s b =
      let all = alone.works f in
      let part = hands-part (λ u. works_on f u.works) (sizes_of n) h s b in
      let most : bit (is_busy (kind_at m f)) ≤ 1 = bit_most (is_busy (kind_at m f)) in
      omega arith

  -- nor are an unlocked table among the locks of a vCPU, and one that does not die among its ending and claimed frames
  pub nobody_locks : (f : ℕ) → is_locked (kind_at m f) ≡ false → (t : ℕ) → t < (sizes_of n).vcpus → locks_on f (h t).locks ≡ 0
  nobody_locks f free t b =
      let all = alone.locks f in
      let part = hands-part (λ u. locks_on f u.locks) (sizes_of n) h t b in
      let none = ap bit free in
      omega arith

  pub nobody_ends : (f : ℕ) → is_dying (m (Refs f)) ≡ false → (t : ℕ) → t < (sizes_of n).vcpus → endings_of f (h t).ending + claims_of f (h t).claimed ≡ 0
  nobody_ends f free t b =
      let all = alone.dying f in
      let part = hands-part (λ u. endings_of f u.ending + claims_of f u.claimed) (sizes_of n) h t b in
      let none = ap bit free in
      omega arith

  pub one_lock : (f s : ℕ) → s < (sizes_of n).vcpus → locks_on f (h s).locks ≤ 1
  one_lock f s b =
      let all = alone.locks f in
      let part = hands-part (λ u. locks_on f u.locks) (sizes_of n) h s b in
      let most = bit_most (is_locked (kind_at m f)) in
      omega arith

  pub one_ending : (f s : ℕ) → s < (sizes_of n).vcpus → endings_of f (h s).ending + claims_of f (h s).claimed ≤ 1
  one_ending f s b =
      let all = alone.dying f in
      let part = hands-part (λ u. endings_of f u.ending + claims_of f u.claimed) (sizes_of n) h s b in
      let most = bit_most (is_dying (m (Refs f))) in
      omega arith

  -- whoever else has it
  pub only_my_lock : (f s t : ℕ) → s < (sizes_of n).vcpus → t < (sizes_of n).vcpus → t ≢ s → 0 < locks_on f (h s).locks → locks_on f (h t).locks ≡ 0
  only_my_lock f s t a b off mine =
      let all = alone.locks f in
      let two = hands-two (λ u. locks_on f u.locks) (sizes_of n) h t s b a off in
      let most = bit_most (is_locked (kind_at m f)) in
      omega arith

  pub only_my_ending : (f s t : ℕ) → s < (sizes_of n).vcpus → t < (sizes_of n).vcpus → t ≢ s → 0 < endings_of f (h s).ending + claims_of f (h s).claimed →
      endings_of f (h t).ending + claims_of f (h t).claimed ≡ 0
  only_my_ending f s t a b off mine =
      let all = alone.dying f in
      let two = hands-two (λ u. endings_of f u.ending + claims_of f u.claimed) (sizes_of n) h t s b a off in
      let most = bit_most (is_dying (m (Refs f))) in
      omega arith

  pub only_mine : (f s t : ℕ) → s < (sizes_of n).vcpus → t < (sizes_of n).vcpus → t ≢ s → 0 < works_on f (h s).works → works_on f (h t).works ≡ 0
  only_mine f s t a b off mine =
      let all = alone.works f in
      let two = hands-two (λ u. works_on f u.works) (sizes_of n) h t s b a off in
      let most : bit (is_busy (kind_at m f)) ≤ 1 = bit_most (is_busy (kind_at m f)) in
      omega arith

  pub is_busy-mine : (f s : ℕ) → s < (sizes_of n).vcpus → 0 < works_on f (h s).works → is_busy (kind_at m f) ≡ true
  is_busy-mine f s b mine =
      let all = alone.works f in
      let part = hands-part (λ u. works_on f u.works) (sizes_of n) h s b in
      some_bit (is_busy (kind_at m f)) (omega arith)

  pub nobody_else : (f s : ℕ) → s < (sizes_of n).vcpus → 0 < works_on f (h s).works → (t : ℕ) → t < (sizes_of n).vcpus → t ≢ s → work_on f (h t).works ≡ None
  nobody_else f s a mine t b off = first_by-none (λ e. e.frame) f (h t).works (only_mine f s t a b off mine)

  pub one_vcpu : (f s t : ℕ) → s < (sizes_of n).vcpus → t < (sizes_of n).vcpus → 0 < works_on f (h s).works → 0 < works_on f (h t).works → s ≡ t
  one_vcpu f s t a b mine yours =
      elim (cases_eq s t) [
        | inl at ↦ at
        | inr off ↦ absurd (let none = only_mine f s t a b (λ e. off (sym e)) mine in omega arith)
      ]

  pub nobody_has : (f : ℕ) → is_busy (kind_at m f) ≡ false → (t : ℕ) → t < (sizes_of n).vcpus → work_on f (h t).works ≡ None
  nobody_has f free t b = first_by-none (λ e. e.frame) f (h t).works (nobody_works f free t b)

  pub in_works : (f : ℕ) → is_busy (kind_at m f) ≡ true → InWorks n h f
  in_works f busy =
      let all = alone.works f in
      let one = ap bit busy in
      let some = hands-some (λ u. works_on f u.works) (sizes_of n) h (omega arith) in
      let found = first_by-some (λ y. y.frame) f (h some.0).works some.2 in
      record { vcpu = some.0; real = some.1; work = found.0; here = found.1 }

  -- a table whose lock is in hand is locked
  pub is_locked-mine : (f s : ℕ) → s < (sizes_of n).vcpus → 0 < locks_on f (h s).locks → is_locked (kind_at m f) ≡ true
  is_locked-mine f s b mine =
      let all = alone.locks f in
      let part = hands-part (λ u. locks_on f u.locks) (sizes_of n) h s b in
      some_bit (is_locked (kind_at m f)) (omega arith)

  -- a frame that is ending or claimed in hand is dying
  pub is_dying-mine : (f s : ℕ) → s < (sizes_of n).vcpus → 0 < endings_of f (h s).ending + claims_of f (h s).claimed → is_dying (m (Refs f)) ≡ true
  is_dying-mine f s b mine =
      let all = alone.dying f in
      let part = hands-part (λ u. endings_of f u.ending + claims_of f u.claimed) (sizes_of n) h s b in
      some_bit (is_dying (m (Refs f))) (omega arith)

  -- so it has no reference
  pub dying_in_hand : (f s : ℕ) → s < (sizes_of n).vcpus → 0 < endings_of f (h s).ending + claims_of f (h s).claimed → ref_count (m (Refs f)) ≡ 0
  dying_in_hand f s b some = dying_uncounted (m (Refs f)) (is_dying-mine f s b some)

  -- and a frame that has one is neither ending nor claimed
  pub counted_alive : (f s : ℕ) → s < (sizes_of n).vcpus → 0 < ref_count (m (Refs f)) → endings_of f (h s).ending + claims_of f (h s).claimed ≡ 0
  counted_alive f s b some =
      elim (cases_eq (endings_of f (h s).ending + claims_of f (h s).claimed) 0) [
        | inl none ↦ none
        | inr other ↦ absurd (let k = dying_in_hand f s b (omega arith) in omega arith)
      ]

  -- ---- how many entries are recorded
  pub held_free : (f : ℕ) → is_busy (kind_at m f) ≡ false → held (sizes_of n) m h f ≡ held_of (kind_at m f) None
  held_free f free = ap (held_of (kind_at m f)) (work_of-none (sizes_of n).vcpus h f (λ t b. recorded_in-none f (h t).works (nobody_has f free t b)))

  pub held_mine : (f s : ℕ) (e : Work) → s < (sizes_of n).vcpus → work_on f (h s).works ≡ Some e → held (sizes_of n) m h f ≡ held_of (kind_at m f) (Some e.recorded)
  held_mine f s e b here =
      ap (held_of (kind_at m f))
      (work_of-mine (sizes_of n).vcpus h s f b
      (λ t l off. recorded_in-none f (h t).works (nobody_else f s b (first-some (λ x. x.frame) f e (h s).works here) t l off))
      ∙ recorded_in-here f (h s).works e here)
