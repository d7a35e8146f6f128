-- Masks of privileges with one more bit.
use Rattle.std.proofs.Common.{◌≡◌, ◌≢◌, ℕ, ◌^◌, ◌<◌, List, length, slice_index, slice_set, bit_or, not, ◌==◌, IsTrue, refl, ap, ◌∙◌, arith, get_or-set_same, get_or-set_other, ◌⊎◌, inl, inr, length-set}
use Rattle.std.specs.Int.{bit_at}
use Rattle.std.proofs.lemmas.Nat.{or_lt}
use Rattle.std.proofs.lemmas.Nat.Bits.{bit_at_or, bit_at-pow_other}
use Rattle.std.proofs.lemmas.Grind.{common_steps}
use Rattle.std.proofs.lemmas.Bool.Decides.{eqb_tells}
use Rattle.std.proofs.Math.Pow.{pow-lt}
use Rattle.xp_words.specs.Machine.{IsMask}
use Rattle.xp_words.specs.Entries.{is_bit}
use Rattle.trace_text.specs.Parts.{HasMasks}

same_or_not : (a b : ℕ) → (a ≡ b) ⊎ (a ≢ b)
same_or_not a b = elim (eqb_tells a b) [ inl is ↦ inl (is.1) | inr is ↦ inr (is.1) ]

clear : (d w : ℕ) → IsTrue (not (is_bit d w)) → bit_at w d ≡ 0
clear d w h = grind (arith, common_steps)

is_clear : (d w : ℕ) → bit_at w d ≡ 0 → IsTrue (not (is_bit d w))
is_clear d w h = ap (λ n. not (n == 1)) h

mask_with : (n d over w : ℕ) → over < n → d ≢ over → IsMask n d w → IsMask n d (bit_or w (2 ^ over))
mask_with n d over w within other is = record {
  within = or_lt n w (2 ^ over) is.within (pow-lt within);
  no_own = is_clear d (bit_or w (2 ^ over)) (bit_at_or w (2 ^ over) d ∙ rw (clear d w is.no_own, bit_at-pow_other over d other) refl);
}

at_place : (n : ℕ) (masks : List ℕ) (domain over : ℕ) → length masks ≡ n → domain < n → over < n → domain ≢ over → ((d : ℕ) → d < n → IsMask n d (slice_index masks d)) → (d : ℕ) → d < n → (d ≡ domain) ⊎ (d ≢ domain) → IsMask n d (slice_index (slice_set masks domain (bit_or (slice_index masks domain) (2 ^ over))) d)
at_place n masks domain over each within over_within other are d d_within (inl same) =
    let inside : domain < length masks = omega arith in
    rw (same, get_or-set_same masks domain (bit_or (slice_index masks domain) (2 ^ over)) 0) (mask_with n domain over (slice_index masks domain) over_within other (are domain within))
at_place n masks domain over each within over_within other are d d_within (inr apart) =
    rw (get_or-set_other masks domain d (bit_or (slice_index masks domain) (2 ^ over)) 0) (are d d_within)

pub masks_with : (n : ℕ) (masks : List ℕ) (domain over : ℕ) → HasMasks n masks → domain < n → over < n → domain ≢ over → HasMasks n (slice_set masks domain (bit_or (slice_index masks domain) (2 ^ over)))
masks_with n masks domain over all within over_within other = record {
  each = length-set masks domain (bit_or (slice_index masks domain) (2 ^ over)) ∙ all.each;
  are = λ d d_within. at_place n masks domain over all.each within over_within other all.are d d_within (same_or_not d domain);
}
