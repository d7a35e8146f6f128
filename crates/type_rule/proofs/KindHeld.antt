-- How many entries a kind word holds before and after a step, and which forms are one vCPU's alone.
use Rattle.std.proofs.Common.{◌≡◌, ℕ, ◌||◌, not, if◌then◌else◌, true, false, Some, None, IsTrue, refl, sym, inl, inr, arith, subst}
use Rattle.std.proofs.lemmas.Bool.{cases_Bool, and_parts}
use Rattle.xp_words.specs.declared.kind.KindWord.{KindWord}
use Rattle.xp_words.specs.PageTypes.{is_table}
use Rattle.xp_board.specs.Readings.{is_live, is_work, is_partial, is_dead}
use Rattle.xp_board.specs.Recorded.{held_of}

-- ---- what is held
pub live_held : (k l : KindWord) → IsTrue (is_live k) → IsTrue (is_live l) → l.kind ≡ k.kind → held_of l None ≡ held_of k None
unfolding held_of
live_held k l live is kind = rw (kind, live, is) refl

pub resumed_held : (k l : KindWord) → IsTrue (is_partial k) → l.kind ≡ k.kind → held_of l (Some k.progress) ≡ held_of k None
unfolding held_of
resumed_held k l p kind = let a = and_parts (not k.validated) k.partial p in let v : k.validated ≡ false = grind arith in rw (kind, v, a.1) refl

pub begun_held : (l : KindWord) → held_of l (Some 0) ≡ 0
unfolding held_of
begun_held l = elim (cases_Bool (is_table l.kind)) [ inl t ↦ rw t refl | inr t ↦ rw t refl ]

pub closed_held : (l : KindWord) → IsTrue (is_live l) → held_of l (Some (if is_table l.kind then 512 else 0)) ≡ held_of l None
unfolding held_of
closed_held l live = elim (cases_Bool (is_table l.kind)) [ inl t ↦ rw (t, live) refl | inr t ↦ rw t refl ]

pub live_all : (l k : KindWord) (r : ℕ) → l.kind ≡ k.kind → l.validated ≡ true → (IsTrue (is_table l.kind) → r ≡ 512) → held_of l None ≡ held_of k (Some r)
unfolding held_of
live_all l k r kind live all =
    elim (cases_Bool (is_table l.kind)) [
      | inl t ↦ (let u : is_table k.kind ≡ true = subst (λ y. is_table y ≡ true) kind t in rw (t, u, live) (sym (all t)))
      | inr t ↦ (let u : is_table k.kind ≡ false = subst (λ y. is_table y ≡ false) kind t in rw (t, u) refl)
    ]

pub partial_all : (l k : KindWord) (r : ℕ) → l.kind ≡ k.kind → l.validated ≡ false → l.partial ≡ true → l.progress ≡ r → held_of l None ≡ held_of k (Some r)
unfolding held_of
partial_all l k r kind v p e = rw (kind, v, p, e) refl

pub work_all : (l k : KindWord) (r : ℕ) → l.kind ≡ k.kind → held_of l (Some r) ≡ held_of k (Some r)
unfolding held_of
work_all l k r kind = rw kind refl

pub dead_all : (l k : KindWord) → l.validated ≡ false → l.partial ≡ false → held_of l None ≡ held_of k (Some 0)
unfolding held_of
dead_all l k v p =
    elim (cases_Bool (is_table l.kind)) [
      | inl t ↦ rw (t, v, p) (elim (cases_Bool (is_table k.kind)) [ inl u ↦ rw u refl | inr u ↦ rw u refl ])
      | inr t ↦ rw t (elim (cases_Bool (is_table k.kind)) [ inl u ↦ rw u refl | inr u ↦ rw u refl ])
    ]

-- ---- forms that exclude each other
pub work_live : (k : KindWord) → k.validated ≡ false → IsTrue (is_live k) → ⊥
work_live k e live = cc

pub dead_unformed : (k : KindWord) → IsTrue (is_dead k) → IsTrue (is_partial k || is_work k) → ⊥
dead_unformed k d form =
    let v : k.validated ≡ false = grind arith in
    let p : k.partial ≡ false = grind arith in
    let l : k.locked ≡ false = grind arith in
    let t : (is_partial k || is_work k) ≡ false = rw (v, p, l) refl in
    cc

pub either_part : (k : KindWord) → IsTrue (is_partial k) → IsTrue (is_partial k || is_work k)
either_part k p = rw p refl
