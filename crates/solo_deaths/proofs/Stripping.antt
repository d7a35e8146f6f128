-- One frame without its marks, on plain values and words.
use Rattle.std.proofs.Common.{◌≡◌, ◌≢◌, ℕ, ◌==◌, if◌then◌else◌, true, false, Option, Some, None, refl, sym, ap, ◌∙◌, subst, inl, inr, arith}
use Rattle.std.proofs.lemmas.Bool.{cases_Bool}
use Rattle.std.proofs.lemmas.Bool.Decides.{nat_tests}
use Rattle.xp_words.specs.PageTypes.{type_number}
use Rattle.xp_words.specs.RefWords.{ref_read}
use Rattle.xp_words.specs.declared.kind.KindWord.{KindWord}
use Rattle.xp_words.specs.declared.refs.RefWord.{RefWord}
use Rattle.xp_words.specs.declared.refs.RefWord.TheVariants.{Free, Owned, Dying}
use Rattle.xp_words.proofs.Shared.{and_second_false}
use Rattle.xp_board.specs.LifeSteps.{is_unallocated}
use Rattle.xp_board.specs.Readings.{allocated_in, allocated_mark, count_in, owner_in, owner_of, ref_count}
use Rattle.table_words.specs.Pins.{unpinned_kind}
use Rattle.table_law.specs.Plain.{Plain, Share, share_in, share_of, with_kind}
use Rattle.table_law.specs.Release.{let_go}
use Rattle.table_law.proofs.Counting.{at_here}
use Rattle.script_law.specs.Destroying.{stripped, unallocated, unpinned}
use Rattle.script_law.specs.Memory.{is_allocated_to, is_owned_by}
use Rattle.solo_deaths.proofs.Pinless.{by_let_go}

-- ---- reference words
equal_no : (x y : ℕ) → Some x ≢ Some y → (x == y) ≡ false
equal_no x y off = elim (cases_Bool (x == y)) [
  | inl on ↦ absurd (off (ap Some (let e : x ≡ y = grind (arith, nat_tests) in e)))
  | inr apart ↦ apart
]

unmarked_in : (d : ℕ) (r : Option RefWord) → (allocated_in r == 0) ≡ true → is_allocated_to d (share_in r) ≡ false
unmarked_in d (Some (Owned o true c)) e = absurd cc
unmarked_in d (Some (Owned o false c)) e = and_second_false (o == d) false refl
unmarked_in d (Some (Free stamp)) e = refl
unmarked_in d (Some (Dying o)) e = refl
unmarked_in d None e = refl

other_in : (d : ℕ) (r : Option RefWord) → owner_in r ≢ Some d → is_owned_by d (share_in r) ≡ false
other_in d (Some (Owned o a c)) off = equal_no o d off
other_in d (Some (Free stamp)) off = refl
other_in d (Some (Dying o)) off = refl
other_in d None off = refl

pub not_allocated : (d y : ℕ) → is_unallocated y ≡ true → is_allocated_to d (share_of y) ≡ false
unfolding allocated_mark
not_allocated d y e = unmarked_in d (ref_read y) e

pub not_owned : (d y : ℕ) → owner_of y ≢ Some d → is_owned_by d (share_of y) ≡ false
unfolding owner_of
not_owned d y off = other_in d (ref_read y) off

-- what is not owned is not allocated
pub unowned_unallocated : (d : ℕ) (s : Option Share) → is_owned_by d s ≡ false → is_allocated_to d s ≡ false
unowned_unallocated d None e = refl
unowned_unallocated d (Some s) e = rw e refl

-- a domain's frame is owned by it, or counts no references
owner_or : (d : ℕ) (r : Option RefWord) → owner_in r ≡ Some d → (is_owned_by d (share_in r) ≡ false → count_in r ≡ 0)
owner_or d (Some (Owned o a c)) is off = absurd (let e : o ≡ d = cc in let k : (o == d) ≡ true = grind (arith, nat_tests) in cc)
owner_or d (Some (Dying o)) is off = refl
owner_or d (Some (Free stamp)) is off = absurd cc
owner_or d None is off = absurd cc

pub owned_or_uncounted : (d y : ℕ) → owner_of y ≡ Some d → is_owned_by d (share_of y) ≡ false → ref_count y ≡ 0
unfolding owner_of ref_count
owned_or_uncounted d y is off = owner_or d (ref_read y) is off

-- ---- one frame
module _ (d f : ℕ) (p : Plain) where
  pub stripped_other : is_owned_by d (p.shares f) ≡ false → stripped d f p ≡ p
  stripped_other off = rw off refl

  pub unallocated_none : is_allocated_to d (p.shares f) ≡ false → unallocated d f p ≡ p
  unallocated_none off = rw off refl

  pub unpinned_none : (k : KindWord) → k.pinned ≡ false → unpinned f k p ≡ p
  unpinned_none k off = rw off refl

  -- its marks are taken off by themselves, where a pinned one is the domain's
  pub stripped_parts : ((p.kinds f).pinned ≡ true → is_owned_by d (p.shares f) ≡ true) → stripped d f p ≡ unallocated d f (unpinned f (p.kinds f) p)
  stripped_parts may = elim (cases_Bool (is_owned_by d (p.shares f))) [
    | inl own ↦ ap (λ b. if b then unallocated d f (unpinned f (p.kinds f) p) else p) own
    | inr off ↦
        let free : (p.kinds f).pinned ≡ false = (elim (cases_Bool (p.kinds f).pinned) [ inl on ↦ absurd (let e = may on in cc) | inr apart ↦ apart ]) in
        stripped_other off ∙ sym (ap (unallocated d f) (unpinned_none (p.kinds f) free) ∙ unallocated_none (unowned_unallocated d (p.shares f) off))
  ]

  -- unpinned, it has lost the allocated mark at most
  pub stripped_unpinned : (p.kinds f).pinned ≡ false → stripped d f p ≡ unallocated d f p
  stripped_unpinned off = stripped_parts (λ on. absurd cc) ∙ ap (unallocated d f) (unpinned_none (p.kinds f) off)

-- a frame whose pin was taken off is not pinned
pub unpinned_off : (f : ℕ) (p : Plain) → (p.kinds f).pinned ≡ true → ((unpinned f (p.kinds f) p).kinds f).pinned ≡ false
unpinned_off f p on =
    let k = p.kinds f in
    let q = with_kind f (unpinned_kind k) p in
    subst (λ b. ((if b then let_go (type_number k.kind) f q else p).kinds f).pinned ≡ false) (sym on)
    (by_let_go f (type_number k.kind) f q (ap (λ (j : KindWord). j.pinned) (at_here f (unpinned_kind k) p.kinds)))
