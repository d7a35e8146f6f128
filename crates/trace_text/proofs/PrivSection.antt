-- The section of the privileges.
use Rattle.std.proofs.Common.{◌≡◌, ◌≢◌, ℕ, zero, suc, ◌+◌, ◌*◌, ◌/◌, ◌%◌, ◌^◌, ◌<◌, ◌≤◌, List, [], ◌∷◌, ◌++◌, length, slice_index, slice_set, bit_or, Bool, true, false, not, IsTrue, if◌then◌else◌, refl, sym, ap, ◌∙◌, subst, arith, append_assoc, replicate, length-append, length-set, add-one}
use Rattle.std.specs.List.{flat_map, enumerate_from}
use Rattle.std.specs.Int.Bits.{or_shifted_r}
use Rattle.std.proofs.Math.Seq.{get_or-append_seam, set-append_seam}
use Rattle.std.proofs.Math.Nat.{mod-eq_of_lt, mod-lt}
use Rattle.std.proofs.lemmas.Nat.{mod-pow-add, pow_pos}
use Rattle.std.proofs.lemmas.List.{length-replicate, set-set, set-get_or, get_or-set_same}
use Rattle.std.proofs.lemmas.Grind.{common_steps}
use Rattle.xp_words.specs.Entries.{is_bit}
use Rattle.xp_words.specs.Machine.{IsMask}
use Rattle.trace_lines.specs.declared.line.Line.TheVariants as lines
use Rattle.trace_text.specs.Fronts.{Front, front_after, front_after_priv}
use Rattle.trace_text.specs.Lines.{mask_lines}
use Rattle.trace_text.proofs.Leads.{Step, Reaches, reaches_both}

-- ---- a mask, bit by bit

low_more : (m n : ℕ) → m % 2 ^ (n + 1) ≡ m / 2 ^ n % 2 * 2 ^ n + m % 2 ^ n
low_more m n = let e : 1 + n ≡ n + 1 = omega arith in rw e at (mod-pow-add m 1 n)

bit_is : (m n : ℕ) → is_bit n m ≡ true → m / 2 ^ n % 2 ≡ 1
bit_is m n is = grind (arith, common_steps)

bit_is_not : (m n : ℕ) → is_bit n m ≡ false → m / 2 ^ n % 2 ≡ 0
bit_is_not m n is = grind (arith, common_steps)

low_with : (m n : ℕ) → is_bit n m ≡ true → bit_or (m % 2 ^ n) (2 ^ n) ≡ m % 2 ^ (n + 1)
low_with m n is =
    let joined : bit_or (m % 2 ^ n) (1 * 2 ^ n) ≡ 1 * 2 ^ n + m % 2 ^ n = or_shifted_r 1 n (m % 2 ^ n) (mod-lt m (pow_pos n)) in
    let one : 1 * 2 ^ n ≡ 2 ^ n = omega arith in
    (rw one at joined) ∙ sym (low_more m n ∙ rw (bit_is m n is, one) refl)

low_without : (m n : ℕ) → is_bit n m ≡ false → m % 2 ^ (n + 1) ≡ m % 2 ^ n
low_without m n is = low_more m n ∙ rw (bit_is_not m n is) (omega arith)

-- ---- the lines of one domain

priv_step : (f : Front) (domain over : ℕ) → 5 ≤ f.place → f.place ≤ 6 → length f.domains ≤ 16 → domain < length f.domains → over < length f.domains → domain ≢ over → Step f (lines.Priv domain over) (record f { place = 6; masks = slice_set f.masks domain (bit_or (slice_index f.masks domain) (2 ^ over)) })
unfolding front_after front_after_priv
priv_step f domain over low high few known over_known other = record {
  spelled = (omega arith, omega arith);
  open_still = grind (arith, common_steps);
  taken = grind (arith, common_steps);
}

abbrev low_mask : Front → ℕ → ℕ → ℕ → Front
low_mask f domain mask n = record f { masks = slice_set f.masks domain (mask % 2 ^ n) }

bit_lead : (f : Front) (domain mask n : ℕ) (is : Bool) → is_bit n mask ≡ is → 5 ≤ f.place → f.place ≤ 6 → length f.domains ≤ 16 → domain < length f.domains → length f.masks ≡ length f.domains → n < length f.domains → is_bit domain mask ≡ false → slice_index f.masks domain ≡ mask % 2 ^ n → Reaches 5 6 f (if is_bit n mask then lines.Priv domain n ∷ [] else []) (low_mask f domain mask (n + 1))
bit_lead f domain mask n true is low high few known long within own here =
    let other : domain ≢ n = λ same. (let clash : is_bit n mask ≡ false = rw same at own in cc) in
    let one = priv_step f domain n low high few known within other in
    let made : slice_set f.masks domain (bit_or (slice_index f.masks domain) (2 ^ n)) ≡ slice_set f.masks domain (mask % 2 ^ (n + 1)) = rw (here, low_with mask n is) refl in
    rw is (6, omega arith, omega arith, (record f { place = 6; masks = slice_set f.masks domain (mask % 2 ^ (n + 1)) }, subst (λ ms. Step f (lines.Priv domain n) (record f { place = 6; masks = ms })) made one, refl))
bit_lead f domain mask n false is low high few known long within own here =
    let kept : slice_set f.masks domain (mask % 2 ^ (n + 1)) ≡ f.masks = rw (low_without mask n is, ← here) (set-get_or f.masks domain 0) in
    rw is (f.place, low, high, ap (λ (ms : List ℕ). record f { masks = ms }) (sym kept))

mask_lead : (f : Front) (domain mask n : ℕ) → 5 ≤ f.place → f.place ≤ 6 → length f.domains ≤ 16 → domain < length f.domains → length f.masks ≡ length f.domains → n ≤ length f.domains → is_bit domain mask ≡ false → slice_index f.masks domain ≡ 0 → Reaches 5 6 f (mask_lines n domain mask) (low_mask f domain mask n)
unfolding mask_lines
mask_lead f domain mask zero low high few known long within own here =
    let none : mask % 2 ^ 0 ≡ 0 = omega arith in
    let kept : slice_set f.masks domain (mask % 2 ^ 0) ≡ f.masks = ap (λ n. slice_set f.masks domain n) (none ∙ sym here) ∙ set-get_or f.masks domain 0 in
    (f.place, low, high, ap (λ (ms : List ℕ). record f { masks = ms }) (sym kept))
mask_lead f domain mask (suc n) low high few known long within own here =
    let inside : domain < length f.masks = omega arith in
    let h : Front = low_mask f domain mask n in
    let reads : slice_index (slice_set f.masks domain (mask % 2 ^ n)) domain ≡ mask % 2 ^ n = get_or-set_same f.masks domain (mask % 2 ^ n) 0 inside in
    let twice : slice_set (slice_set f.masks domain (mask % 2 ^ n)) domain (mask % 2 ^ (n + 1)) ≡ slice_set f.masks domain (mask % 2 ^ suc n) = set-set f.masks domain (mask % 2 ^ n) (mask % 2 ^ (n + 1)) ∙ ap (λ k. slice_set f.masks domain (mask % 2 ^ k)) (add-one n) in
    reaches_both 5 6 5 6 f h (low_mask f domain mask (suc n)) (mask_lines n domain mask) (if is_bit n mask then lines.Priv domain n ∷ [] else [])
    (mask_lead f domain mask n low high few known long (omega arith) own here)
    (λ p from until. subst (λ ms. Reaches 5 6 (record h { place = p }) (if is_bit n mask then lines.Priv domain n ∷ [] else []) (record f { masks = ms })) twice
    (bit_lead (record h { place = p }) domain mask n (is_bit n mask) refl from until few known (length-set f.masks domain (mask % 2 ^ n) ∙ long) (omega arith) own reads))

-- ---- the lines of all domains

is_not : (b : Bool) → IsTrue (not b) → b ≡ false
is_not true clear = absurd cc
is_not false clear = refl

same_mask : (n domain : ℕ) (mask : ℕ) → IsMask n domain mask → (mask % 2 ^ n ≡ mask) × (is_bit domain mask ≡ false)
same_mask n domain mask is = (mod-eq_of_lt is.within, is_not (is_bit domain mask) is.no_own)

pub masks_lead : (f : Front) (done rest : List ℕ) → f.masks ≡ done ++ replicate (length rest) 0 → 5 ≤ f.place → f.place ≤ 6 → length f.domains ≤ 16 → length (done ++ rest) ≡ length f.domains → ((d : ℕ) → d < length f.domains → IsMask (length f.domains) d (slice_index (done ++ rest) d)) → Reaches 5 6 f (flat_map (λ p. mask_lines (length f.domains) p.0 p.1) (enumerate_from (length done) rest)) (record f { masks = done ++ rest })
masks_lead f done [] here low high few long are = (f.place, low, high, ap (λ (ms : List ℕ). record f { masks = ms }) here)
masks_lead f done (mask ∷ rest) here low high few long are =
    let known : length done < length f.domains = omega (arith, long, length-append done (mask ∷ rest)) in
    let is : IsMask (length f.domains) (length done) mask = rw (get_or-append_seam done mask rest 0) at (are (length done) known) in
    let own = same_mask (length f.domains) (length done) mask is in
    let all : length f.masks ≡ length f.domains = omega (arith, ap length here, length-append done (replicate (length (mask ∷ rest)) 0), length-replicate {A = ℕ} (length (mask ∷ rest)) 0, length-append done (mask ∷ rest), long) in
    let zero_there : slice_index f.masks (length done) ≡ 0 = rw (here, get_or-append_seam done 0 (replicate (length rest) 0) 0) refl in
    let made : slice_set f.masks (length done) (mask % 2 ^ length f.domains) ≡ done ++ mask ∷ replicate (length rest) 0 = rw (here, own.0) (set-append_seam done 0 (replicate (length rest) 0) mask) in
    let longer : length (done ++ mask ∷ []) ≡ length done + 1 = grind (arith, common_steps) in
    let same : (done ++ mask ∷ []) ++ rest ≡ done ++ mask ∷ rest = append_assoc done (mask ∷ []) rest in
    let h : Front = record f { masks = done ++ mask ∷ replicate (length rest) 0 } in
    reaches_both 5 6 5 6 f h (record f { masks = done ++ mask ∷ rest }) (mask_lines (length f.domains) (length done) mask) (flat_map (λ p. mask_lines (length f.domains) p.0 p.1) (enumerate_from (length done + 1) rest))
    (subst (λ ms. Reaches 5 6 f (mask_lines (length f.domains) (length done) mask) (record f { masks = ms })) made (mask_lead f (length done) mask (length f.domains) low high few known all (omega arith) own.1 zero_there))
    (λ p from until. rw (← longer, ← same) (masks_lead (record h { place = p }) (done ++ mask ∷ []) rest (sym (append_assoc done (mask ∷ []) (replicate (length rest) 0))) from until few (rw same long) (rw same are)))
