-- The opening words by name, in the machine and outside.
use Rattle.std.proofs.Common.{◌≡◌, ◌≢◌, ◌⊎◌, ℕ, suc, ◌+◌, ◌≤◌, nat_lt, cond, Bool, true, false, List, [], ◌∷◌, All, find, IsTrue, Option, Some, None, inl, inr, refl, ◌∙◌, arith}
use Rattle.std.proofs.lemmas.Bool.Decides.{nat_tests}
use Rattle.xp_words.specs.RefWords.{ref_read, ref_write}
use Rattle.xp_words.specs.declared.place.Place.{Place}
use Rattle.xp_words.specs.declared.place.Place.TheVariants.{Clock, Life, Vcpu, Refs, Kind}
use Rattle.xp_words.specs.Places.{Sizes, sizes_of, is_place, memory, flushed_of}
use Rattle.trace_text.specs.declared.trace.Own.{Own}
use Rattle.trace_text.specs.declared.trace.Trace.{Trace}
use Rattle.trace_text.specs.WellFormed.{IsWellFormed}
use Rattle.trace_text.specs.Counted.{has_frame}
use Rattle.machine_build.specs.Opening.{IsOpening, refs_in, reference_in, opening_at}
use Rattle.machine_build.proofs.RefLaws.{reads_as}
use Rattle.std.proofs.lemmas.Bool.{cases_Bool}

-- ---- inside and outside
pub record Opens (t : Trace) (m : Place → ℕ) : Type 0 where
  pub formed : IsWellFormed t
  pub inside : (p : Place) → IsTrue (is_place (sizes_of t.layout) p) → m p ≡ opening_at t p
  pub outside : (p : Place) → is_place (sizes_of t.layout) p ≡ false → m p ≡ 0

nothing_outside : (z : Sizes) (words : List ℕ) (p : Place) → is_place z p ≡ false → memory z words p ≡ 0
unfolding memory
nothing_outside z words p e = rw e refl

pub opens : (t : Trace) (words : List ℕ) → IsWellFormed t → IsOpening t words → Opens t (memory (sizes_of t.layout) words)
opens t words w o = record { formed = w; inside = o.places; outside = λ p e. nothing_outside (sizes_of t.layout) words p e }

-- a word that the machine has or has not
word_at : (t : Trace) (m : Place → ℕ) → Opens t m → (p : Place) → (m p ≡ opening_at t p) ⊎ (m p ≡ 0)
word_at t m o p =
    elim (cases_Bool (is_place (sizes_of t.layout) p)) [
      | inl e ↦ inl (o.inside p e)
      | inr e ↦ inr (o.outside p e)
    ]

-- where it opens with 0 it is 0
zero_at : (t : Trace) (m : Place → ℕ) → Opens t m → (p : Place) → opening_at t p ≡ 0 → m p ≡ 0
zero_at t m o p e =
    elim (word_at t m o p) [
      | inl w ↦ w ∙ e
      | inr w ↦ w
    ]

-- ---- words that are 0
module _ (t : Trace) (m : Place → ℕ) (o : Opens t m) where
  pub kind_word : (f : ℕ) → m (Kind f) ≡ 0
  unfolding opening_at
  kind_word f = zero_at t m o (Kind f) refl

  pub life_word : (d : ℕ) → m (Life d) ≡ 0
  unfolding opening_at
  life_word d = zero_at t m o (Life d) refl

  pub vcpu_word : (v k : ℕ) → k ≢ 5 → m (Vcpu v k) ≡ 0
  unfolding opening_at
  vcpu_word v k n = zero_at t m o (Vcpu v k) (grind (arith, nat_tests))

  pub clock_word : m Clock ≡ t.clock
  unfolding opening_at is_place
  clock_word = o.inside Clock refl

  pub flushed_word : (v : ℕ) → m (flushed_of v) ≤ m Clock
  unfolding opening_at
  flushed_word v =
      let c = clock_word in
      elim (word_at t m o (flushed_of v)) [
        | inl w ↦ omega arith
        | inr w ↦ omega arith
      ]

-- ---- the words of references
has_not : (b : Bool) (x : Own) (y : Option Own) → b ≡ false → y ≡ None → cond b (Some x) y ≡ None
has_not true x y e n = cc
has_not false x y e n = n

-- no run has a frame that the machine has not
no_run : (frames f : ℕ) (xs : List Own) → All (λ x. x.first + x.count ≤ frames) xs → frames ≤ f → find (has_frame f) xs ≡ None
no_run frames f [] h b = refl
no_run frames f (x ∷ xs) h b =
    let here : x.first + x.count ≤ frames = h 0 x (omega arith) in
    let off : has_frame f x ≡ false = grind (arith, nat_tests) in
    has_not (has_frame f x) x (find (has_frame f) xs) off (no_run frames f xs (λ k d c. h (suc k) d (omega arith)) b)

module _ (t : Trace) (m : Place → ℕ) (o : Opens t m) where
  pub run_inside : All (λ x. x.first + x.count ≤ t.layout.frames) t.owned
  run_inside = λ k d b. (o.formed.owned k d b).inside

  pub refs_word : (f : ℕ) → m (Refs f) ≡ refs_in (find (has_frame f) t.owned)
  unfolding opening_at is_place ref_write
  refs_word f =
      elim (cases_Bool (nat_lt f t.layout.frames)) [
        | inl e ↦ o.inside (Refs f) e
        | inr e ↦
            let past : t.layout.frames ≤ f = grind (arith, nat_tests) in
            let none = no_run t.layout.frames f t.owned run_inside past in
            o.outside (Refs f) e ∙ rw none refl
      ]

  pub refs_read : (f : ℕ) → ref_read (m (Refs f)) ≡ Some (reference_in (find (has_frame f) t.owned))
  unfolding opening_at
  refs_read f = rw (refs_word f) (reads_as t f o.formed)
