-- What is left of a dead domain, and that nothing is.
use Rattle.std.proofs.Common.{◌≡◌, ℕ, ◌<◌, nat_lt, ◌⊎◌, ◌==◌, Bool, true, false, IsTrue, Option, Some, None, List, inl, inr, refl, arith}
use Rattle.std.proofs.lemmas.Bool.Decides.{nat_tests}
use Rattle.std.proofs.lemmas.Bool.{cases_Bool}
use Rattle.xp_words.specs.RefWords.{bit, ref_read}
use Rattle.xp_words.specs.declared.refs.RefWord.{RefWord}
use Rattle.xp_words.specs.declared.refs.RefWord.TheVariants.{Free, Owned, Dying}
use Rattle.xp_words.specs.Machine.{Machine}
use Rattle.xp_words.specs.declared.place.Place.{Place}
use Rattle.xp_words.specs.declared.place.Place.TheVariants.{Life, Refs, Kind, Vcpu}
use Rattle.xp_words.specs.Places.{sizes_of, is_place, memory, run_of}
use Rattle.xp_board.specs.Lists.{Member}
use Rattle.xp_board.specs.Readings.{owner_of, allocated_mark, allocated_in, is_context, kind_at}
use Rattle.xp_board.specs.LifeSteps.{is_unallocated, is_unpinned, is_unkept}
use Rattle.xp_board.specs.Sound.{DeadDomain, IsLookedAt}
use Rattle.reference_recount.specs.Recounted.{no_hands}
use Rattle.walk_audit.specs.Breaks.{IsUnburied}
use Rattle.walk_audit.specs.Burials.{HasMark, NamesOne, IsUnstopped, LeavesFrame, LeavesVcpu}

-- what the machine has not, no domain owns
pub record IsOutside (n : Machine) (m : Place → ℕ) : Type 0 where
  pub none : (p : Place) → is_place (sizes_of n) p ≡ false → m p ≡ 0

zero_free : owner_of 0 ≡ None
unfolding owner_of ref_read
zero_free = refl

pub owned_real : (n : Machine) (m : Place → ℕ) (f d : ℕ) → IsOutside n m → owner_of (m (Refs f)) ≡ Some d → f < n.frames
unfolding is_place
owned_real n m f d o e = elim (cases_Bool (nat_lt f n.frames)) [
  | inl t ↦ grind (arith, nat_tests)
  | inr t ↦ let none = o.none (Refs f) t in let z : owner_of (m (Refs f)) ≡ None = rw none zero_free in absurd (cc)
]

-- nobody looks at a frame
unlooked : (n : Machine) (m : Place → ℕ) (d f : ℕ) → IsLookedAt n m no_hands d f → ⊥
unfolding Member
unlooked n m d f h = h.here

bit_kinds : (b : Bool) → (bit b ≡ 0) ⊎ (bit b ≡ 1)
bit_kinds true = inr refl
bit_kinds false = inl refl

mark_in_kinds : (x : Option RefWord) → (allocated_in x ≡ 0) ⊎ (allocated_in x ≡ 1)
mark_in_kinds None = inl refl
mark_in_kinds (Some (Free stamp)) = inl refl
mark_in_kinds (Some (Owned owner allocated count)) = bit_kinds allocated
mark_in_kinds (Some (Dying owner)) = inl refl

mark_kinds : (w : ℕ) → (allocated_mark w ≡ 0) ⊎ (allocated_mark w ≡ 1)
unfolding allocated_mark
mark_kinds w = mark_in_kinds (ref_read w)

pub memory_outside : (n : Machine) (words : List ℕ) → IsOutside n (memory (sizes_of n) words)
unfolding memory
memory_outside n words = record { none = λ p e. rw e refl }

module _ (n : Machine) (m : Place → ℕ) (d : ℕ) where
  -- a frame with a mark, or a vCPU
  pub left_frame : LeavesFrame n m d → ¬ DeadDomain n m no_hands d
  left_frame h dead =
      let a = dead.unallocated h.frame h.marked.owned in
      let b = dead.unpinned h.frame h.marked.owned in
      elim h.marked.marked [
        | inl e ↦ absurd (grind (arith, nat_tests))
        | inr x ↦ elim x [
          | inl e ↦ absurd (cc)
          | inr e ↦ elim (dead.unkept h.frame h.marked.owned) [ inl k ↦ absurd (cc) | inr k ↦ unlooked n m d h.frame k ]
        ]
      ]

  pub left_vcpu : LeavesVcpu n m d → ¬ DeadDomain n m no_hands d
  left_vcpu h dead =
      elim h.unstopped [
        | inl e ↦ e (dead.stopped h.vcpu h.real h.own)
        | inr k ↦ k.full (dead.empty h.vcpu k.word h.real h.own k.few k.context)
      ]

  none_marked : (f : ℕ) → ¬ LeavesFrame n m d → IsOutside n m → owner_of (m (Refs f)) ≡ Some d → ¬ HasMark m d f
  none_marked f h o e x = h (record { frame = f; real = owned_real n m f d o e; marked = x })

  unmarked : (f : ℕ) → owner_of (m (Refs f)) ≡ Some d → ¬ HasMark m d f → IsTrue (is_unallocated (m (Refs f))) × IsTrue (is_unpinned (m (Kind f))) × IsTrue (is_unkept (m (Kind f)))
  unmarked f e h = (
    elim (mark_kinds (m (Refs f))) [ inl z ↦ grind (arith, nat_tests) | inr z ↦ absurd (h (record { owned = e; marked = inl z })) ],
    elim (cases_Bool (kind_at m f).pinned) [ inl z ↦ absurd (h (record { owned = e; marked = inr (inl z) })) | inr z ↦ rw z refl ],
    elim (cases_Bool (kind_at m f).kept) [ inl z ↦ absurd (h (record { owned = e; marked = inr (inr z) })) | inr z ↦ rw z refl ],
  )

  unfull : (v k : ℕ) → ¬ NamesOne m v → k < 38 → IsTrue (is_context k) → m (Vcpu v k) ≡ 0
  unfull v k h l c = elim (cases_Bool (m (Vcpu v k) == 0)) [
    | inl z ↦ grind (arith, nat_tests)
    | inr z ↦ absurd (h (record { word = k; few = l; context = c; full = grind (arith, nat_tests) }))
  ]

  halted : (v : ℕ) → ¬ IsUnstopped m v → m (run_of v) ≡ 1
  halted v h = elim (cases_Bool (m (run_of v) == 1)) [
    | inl z ↦ grind (arith, nat_tests)
    | inr z ↦ absurd (h (inl (grind (arith, nat_tests))))
  ]

  pub nothing_left : IsOutside n m → ¬ LeavesFrame n m d → ¬ LeavesVcpu n m d → DeadDomain n m no_hands d
  nothing_left o f v =
      record {
        unallocated = λ g e. (unmarked g e (none_marked g f o e)).0;
        unpinned = λ g e. (unmarked g e (none_marked g f o e)).1;
        unkept = λ g e. inl (unmarked g e (none_marked g f o e)).2;
        empty = λ w k r e l c. unfull w k (λ x. v (record { vcpu = w; real = r; own = e; unstopped = inr x })) l c;
        stopped = λ w r e. halted w (λ x. v (record { vcpu = w; real = r; own = e; unstopped = x }));
      }

  pub is_left : d < (sizes_of n).domains → m (Life d) ≡ 255 → LeavesFrame n m d ⊎ LeavesVcpu n m d → IsUnburied n m d
  is_left r e h = record { real = r; dead = e; left = λ dead. elim h [ inl x ↦ left_frame x dead | inr x ↦ left_vcpu x dead ] }

  pub is_buried : IsOutside n m → ¬ LeavesFrame n m d → ¬ LeavesVcpu n m d → IsUnburied n m d → ⊥
  is_buried o f v h = h.left (nothing_left o f v)
