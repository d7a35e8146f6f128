use Rattle.std.proofs.Common.{◌≡◌, ℕ, if◌then◌else◌, replicate, ◌+◌, ◌*◌, ◌==◌, ◌&&◌, nat_lt, Bool, true, false, List, length, find, reverse, is_none, IsTrue, refl, ◌∙◌, ap, arith, Option, Some, None}
use Rattle.std.proofs.Math.ListN.{set}
use Rattle.std.proofs.lemmas.List.{get_or-replicate}
use Rattle.std.proofs.lemmas.Bool.Decides.{nat_tests}
use Rattle.xp_words.specs.RefWords.{ref_write}
use Rattle.xp_words.specs.declared.place.Place.{Place}
use Rattle.xp_words.specs.declared.place.Place.TheVariants.{Clock, Pages, Life, Vcpu, Refs, Kind, M2p, Cell, Map, Priv}
use Rattle.xp_words.specs.Places.{Sizes, sizes_of, is_place, number, memory, size, map_words}
use Rattle.xp_words.proofs.PlaceLaws.{memory_same, memory_other, number-lt}
use Rattle.trace_text.specs.declared.trace.Trace.{Trace}
use Rattle.trace_text.specs.declared.trace.Own.{Own}
use Rattle.trace_text.specs.declared.trace.CellRun.{CellRun}
use Rattle.trace_text.specs.Counted.{has_frame}
use Rattle.machine_build.specs.Puts.{all_zero, with_clock, with_domains, with_vcpus, with_m2p, with_owned, with_cells, with_map, or_word, or_value, is_zero}
use Rattle.machine_build.specs.Opening.{has_cell, refs_in, value_in, opening_at}
use Rattle.machine_build.proofs.Steps.{bits_below-same}

word_there : (here : Bool) (w : ℕ) → (here ≡ true → w ≡ 0) → (if here then w else 0) ≡ 0
word_there true w is = is refl
word_there false w is = refl

-- where each word is 0
pub zero_words : (z : Sizes) (p : Place) → memory z (replicate (size z) 0) p ≡ all_zero p
unfolding memory
zero_words z p = word_there (is_place z p) _ (λ here. get_or-replicate (size z) (number z p) 0 0 (number-lt z p here))

pub only_clock : (z : Sizes) (words : List ℕ) (clock : ℕ) → length words ≡ size z → (p : Place) → memory z (set words (number z Clock) clock) p ≡ with_clock clock (memory z words) p
unfolding with_clock is_place
only_clock z words clock l Clock = memory_same z words Clock clock refl l
only_clock z words clock l p = memory_other z words Clock p clock refl (λ s. cc)

word_is : (x : Option Own) (w : ℕ) → w ≡ 0 → or_word x w ≡ refs_in x
unfolding ref_write
word_is None w e = e
word_is (Some o) w e = refl

value_is : (x : Option CellRun) (w : ℕ) → w ≡ 0 → or_value x w ≡ value_in x
value_is None w e = e
value_is (Some c) w e = refl

-- a word of a frame that somebody owns is not 0
owned_word : (x : Option Own) → (refs_in x == 0) ≡ is_none x
unfolding ref_write
owned_word None = refl
owned_word (Some o) = grind (arith, nat_tests)

free_bits : (frames : ℕ) (m : Place → ℕ) (x : ℕ → Option Own) (f : ℕ) → m (Refs f) ≡ or_word (x f) 0 → is_zero frames m f ≡ (nat_lt f frames && is_none (x f))
free_bits frames m x f e = let w = word_is (x f) 0 refl in let o = owned_word (x f) in ap (λ (b : Bool). nat_lt f frames && b) (ap (λ (n : ℕ). n == 0) (e ∙ w) ∙ o)

module _ (t : Trace) (f a b c d e g : Place → ℕ)
    (hf : (p : Place) → f p ≡ with_cells (reverse t.cells) all_zero p)
    (ha : (p : Place) → a p ≡ with_clock t.clock f p)
    (hb : (p : Place) → b p ≡ with_domains (length t.layout.page_limit) t a p)
    (hc : (p : Place) → c p ≡ with_vcpus (length t.layout.vcpu_domain) t.clock b p)
    (hd : (p : Place) → d p ≡ with_m2p t.layout.frames c p)
    (he : (p : Place) → e p ≡ with_owned t.owned d p)
    (hg : (p : Place) → g p ≡ with_map (map_words (sizes_of t.layout)) t.layout.frames e p) where
  pub all_words : (p : Place) → IsTrue (is_place (sizes_of t.layout) p) → g p ≡ opening_at t p
  unfolding is_place opening_at with_clock with_domains with_vcpus with_m2p with_owned with_cells with_map
  all_words Clock k = hg Clock ∙ he Clock ∙ hd Clock ∙ hc Clock ∙ hb Clock ∙ ha Clock
  all_words (Pages i) k = hg (Pages i) ∙ he (Pages i) ∙ hd (Pages i) ∙ hc (Pages i) ∙ hb (Pages i) ∙ rw k refl
  all_words (Life i) k = hg (Life i) ∙ he (Life i) ∙ hd (Life i) ∙ hc (Life i) ∙ hb (Life i) ∙ ha (Life i) ∙ hf (Life i)
  all_words (Vcpu v i) k = let z = hb (Vcpu v i) ∙ ha (Vcpu v i) ∙ hf (Vcpu v i) in hg (Vcpu v i) ∙ he (Vcpu v i) ∙ hd (Vcpu v i) ∙ hc (Vcpu v i) ∙ (let there : nat_lt v (length t.layout.vcpu_domain) ≡ true = grind (arith, nat_tests) in rw (there, z) refl)
  all_words (Refs i) k = hg (Refs i) ∙ he (Refs i) ∙ word_is (find (has_frame i) t.owned) _ (hd (Refs i) ∙ hc (Refs i) ∙ hb (Refs i) ∙ ha (Refs i) ∙ hf (Refs i))
  all_words (Kind i) k = hg (Kind i) ∙ he (Kind i) ∙ hd (Kind i) ∙ hc (Kind i) ∙ hb (Kind i) ∙ ha (Kind i) ∙ hf (Kind i)
  all_words (M2p i) k = hg (M2p i) ∙ he (M2p i) ∙ hd (M2p i) ∙ rw k refl
  all_words (Cell i j) k = hg (Cell i j) ∙ he (Cell i j) ∙ hd (Cell i j) ∙ hc (Cell i j) ∙ hb (Cell i j) ∙ ha (Cell i j) ∙ hf (Cell i j) ∙ value_is (find (has_cell i j) (reverse t.cells)) 0 refl
  all_words (Map i) k =
      hg (Map i) ∙ rw k refl
      ∙ bits_below-same 64 _ _
      (λ j r.
      let n = 64 * i + j in
      let zero : d (Refs n) ≡ 0 = hd (Refs n) ∙ hc (Refs n) ∙ hb (Refs n) ∙ ha (Refs n) ∙ hf (Refs n) in
      let word : e (Refs n) ≡ or_word (find (has_frame n) t.owned) 0 = he (Refs n) ∙ ap (or_word (find (has_frame n) t.owned)) zero in
      free_bits t.layout.frames e (λ q. find (has_frame q) t.owned) n word)
  all_words (Priv i) k = hg (Priv i) ∙ he (Priv i) ∙ hd (Priv i) ∙ hc (Priv i) ∙ hb (Priv i) ∙ rw k refl
