-- Which words may not stand where they stand.
use Rattle.std.proofs.Common.{◌≡◌, ℕ, ◌+◌, ◌*◌, ◌^◌, ◌<◌, ◌≤◌, false, List, slice_index, IsTrue, inl, inr, lit<, refl, sym, subst, ◌∙◌, arith}
use Rattle.std.proofs.lemmas.Bool.{cases_Bool}
use Rattle.xp_words.specs.Machine.{Machine}
use Rattle.xp_words.specs.declared.place.Place.{Place}
use Rattle.xp_words.specs.declared.place.Place.TheVariants.{M2p, Cell, Priv}
use Rattle.xp_words.specs.Places.{Sizes, sizes_of, is_place, memory, number, first_frame, first_map, first_priv}
use Rattle.xp_words.proofs.PlaceLaws.{place_back}
use Rattle.xp_board.specs.Spelling.{IsSpelling}
use Rattle.walk_audit.specs.Breaks.{Breaks, IsOddWord, is_map}
use Rattle.walk_audit.specs.Order.{NoneBreaks, IsFirst, check_of, position}
use Rattle.walk_audit.specs.declared.verdict.Verdict.{Verdict}
use Rattle.walk_audit.specs.declared.verdict.Verdict.TheVariants as verdicts
use Rattle.walk_audit.proofs.Rows.{in_frame, in_tail}

module _ (n : Machine) (m : Place → ℕ) where
  record IsOddAt (k : ℕ) : Type 0 where
    found : ℕ
    odd : IsOddWord n m k found

  -- a verdict of that check is of a word
  words_only : (u : Verdict) → check_of u ≡ 0 → Breaks n m u → IsOddAt (position u)
  words_only verdicts.Sound e x = absurd x
  words_only (verdicts.Word k w) e x = record { found = w; odd = x }
  words_only (verdicts.Held f) e x = absurd (omega arith)
  words_only (verdicts.Refs f want found) e x = absurd (omega arith)
  words_only (verdicts.Count f want found) e x = absurd (omega arith)
  words_only (verdicts.OtherKind f) e x = absurd (omega arith)
  words_only (verdicts.Pages d want found) e x = absurd (omega arith)
  words_only (verdicts.BadEntry f i) e x = absurd (omega arith)
  words_only (verdicts.Context v k) e x = absurd (omega arith)
  words_only (verdicts.Stamp k) e x = absurd (omega arith)
  words_only (verdicts.Dead d) e x = absurd (omega arith)
  words_only (verdicts.Map k) e x = absurd (omega arith)

  -- none is where each word of the range may stand there
  pub spelled_range : (a b : ℕ) → ((q : Place) → IsTrue (is_place (sizes_of n) q) → is_map q ≡ false → a ≤ number (sizes_of n) q → number (sizes_of n) q < b → IsSpelling n q (m q)) → NoneBreaks n m 0 a b
  spelled_range a b h =
      record {
        none = λ u w x.
            (let late = words_only u w.check x in
            let o = late.odd in
            let at = o.stands in
            let from = w.from in
            let below = w.below in
            o.odd (subst (λ y. IsSpelling n o.place y) o.found (h o.place o.real o.other (omega arith) (omega arith))));
      }

  -- one word
  pub spelled_alone : (p : Place) → IsTrue (is_place (sizes_of n) p) → IsSpelling n p (m p) → NoneBreaks n m 0 (number (sizes_of n) p) (number (sizes_of n) p + 1)
  spelled_alone p r s =
      spelled_range _ _ (λ q e o from below.
      (let same : number (sizes_of n) p ≡ number (sizes_of n) q = omega arith in
      let at : p ≡ q = sym (place_back (sizes_of n) p r) ∙ (rw same (place_back (sizes_of n) q e)) in
      subst (λ x. IsSpelling n x (m x)) at s))

  pub odd_alone : (p : Place) (k w : ℕ) → IsTrue (is_place (sizes_of n) p) → is_map p ≡ false → k ≡ number (sizes_of n) p → w ≡ m p → ¬ IsSpelling n p w →
      IsFirst n m 0 (number (sizes_of n) p) (number (sizes_of n) p + 1) (verdicts.Word k w)
  odd_alone p k w r o e f s =
      record {
        breaks = record { place = p; real = r; other = o; stands = sym e; found = sym f; odd = s };
        within = record { check = refl; from = omega arith; below = omega arith };
        before = spelled_range (number (sizes_of n) p) k (λ q g h from below. absurd (omega arith));
      }

  -- cells and machine-to-physical words may be any
  pub cells_spelled : (f : ℕ) → f < n.frames → ((p : Place) → m p < 2 ^ 64) → NoneBreaks n m 0 (first_frame (sizes_of n) + 515 * f + 2) (first_frame (sizes_of n) + 515 * f + 515)
  unfolding IsSpelling number
  cells_spelled f r s =
      spelled_range _ _ (λ q e o from below.
      in_frame (sizes_of n) f q (λ p. first_frame (sizes_of n) + 515 * f + 2 ≤ number (sizes_of n) p → IsSpelling n p (m p)) r e (omega arith) (omega arith)
      (λ l. absurd (omega arith)) (λ l. absurd (omega arith)) (λ l. s (M2p f)) (λ i few l. s (Cell f i)) from)

  -- words of the map are left out
  pub map_left : NoneBreaks n m 0 (first_map (sizes_of n)) (first_priv (sizes_of n))
  map_left =
      spelled_range _ _ (λ q e o from below.
      in_tail (sizes_of n) q (λ p. is_map p ≡ false → number (sizes_of n) p < first_priv (sizes_of n) → IsSpelling n p (m p)) e from
      (λ k r at no l. absurd (cc)) (λ d r at no l. absurd (past d at l)) o below)
    where
      past : (d : ℕ) → first_priv (sizes_of n) + d ≡ number (sizes_of n) (Priv d) → number (sizes_of n) (Priv d) < first_priv (sizes_of n) → ⊥
      past d at l = omega arith

-- the words of a list of numbers of 64 bits
pub memory_small : (z : Sizes) (words : List ℕ) → ((k : ℕ) → slice_index words k < 2 ^ 64) → (p : Place) → memory z words p < 2 ^ 64
unfolding memory
memory_small z words h p = elim (cases_Bool (is_place z p)) [ inl e ↦ rw e (h (number z p)) | inr e ↦ rw e (lit< tt) ]
