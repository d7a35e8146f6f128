-- An image is read as what it was made of.
use Rattle.std.proofs.Common.{◌≡◌, ℕ, ◌+◌, ◌-◌, ◌*◌, ◌^◌, ◌≤◌, ◌<◌, Bool, true, not, ltb, List, [], ◌∷◌, ◌++◌, length, get_or, All, refl, sym, ap, ◌∙◌, append_assoc, arith}
use Rattle.std.specs.List.{AllByRecursion}
use Rattle.std.proofs.Math.Nat.{pow-le-pow_right}
use Rattle.std.proofs.lemmas.Bool.{lt-ltb, and_from}
use Rattle.std.proofs.lemmas.List.{append-nil, get_or_at, get_or_append_left, get_or-append-add, length-append}
use Rattle.std.proofs.lemmas.List.Elements.{All-append, All-from_get_or, All-from_recursion, recursion_from_All}
use Rattle.xp_words.specs.Entries.{is_bit}
use Rattle.xp_words.specs.Machine.{Machine, IsMachine, IsMask}
use Rattle.xp_words.specs.Places.{size, sizes_of}
use Rattle.machine_image.specs.Image.{numbers_bytes, sizes_numbers, fixed_numbers, image_of, IsImaged}
use Rattle.machine_image.specs.Reading.{letters, field_at, count_place}
use Rattle.machine_image.proofs.Bytes.{numbers_back, length-numbers, numbers-cons}
use Rattle.machine_image.proofs.Fields.{Holds, HoldsEach}
use Rattle.machine_image.proofs.Machines.{in_range, in_range_from, is_mask, MachineHolds}
use Rattle.machine_image.proofs.Images.{any_word, ImageHolds, letters_bytes}

abbrev IsNarrow : ℕ → Type 0
IsNarrow n = n < 2 ^ 64

-- all numbers of an image, the letters first
abbrev pub all_numbers : Machine → List ℕ → List ℕ
all_numbers m ws = letters ∷ (fixed_numbers m ++ (length ws ∷ ws))

-- bytes that are those of numbers of 64 bits
record AreNumbers (bytes all : List ℕ) : Type 0 where
  text : bytes ≡ numbers_bytes all
  narrow : AllByRecursion IsNarrow all

one_stands : (test : ℕ → Bool) (bytes all : List ℕ) (k x : ℕ) → AreNumbers bytes all → k < length all → get_or all k 0 ≡ x → test x ≡ true → Holds test bytes k x
one_stands test bytes all k x are inside is right =
    let long : length bytes ≡ 8 * length all = ap length are.text ∙ length-numbers all in
    record {
      whole = omega arith;
      is = ap (λ (b : List ℕ). field_at b k) are.text ∙ numbers_back all k are.narrow inside ∙ is;
      right = right;
    }

row_stands : (test : ℕ → ℕ → Bool) (bytes all front xs rest : List ℕ) (k : ℕ) → AreNumbers bytes all → all ≡ front ++ (xs ++ rest) → length front ≡ k → ((j : ℕ) → j < length xs → test j (get_or xs j 0) ≡ true) → HoldsEach test bytes 0 k xs
row_stands test bytes all front xs rest k are parts count right = record {
  each = λ j inside.
      let none : 0 + j ≡ j = omega arith in
      let place : k + j ≡ length front + j = omega arith in
      let long : length all ≡ length front + (length xs + length rest) = ap length parts ∙ length-append front (xs ++ rest) ∙ ap (λ (n : ℕ). length front + n) (length-append xs rest) in
      let here : get_or all (k + j) 0 ≡ get_or xs j 0 =
      ap (λ (l : List ℕ). get_or l (k + j) 0) parts
      ∙ ap (λ (i : ℕ). get_or (front ++ (xs ++ rest)) i 0) place
      ∙ get_or-append-add front (xs ++ rest) j 0
      ∙ get_or_append_left xs rest 0 j inside in
      one_stands (test (0 + j)) bytes all (k + j) (get_or xs j 0) are (omega arith) here (rw none (right j inside));
}

-- ---- the numbers of an image are of 64 bits
few_words : (m : Machine) → IsMachine m → size (sizes_of m) < 2 ^ 64
unfolding size
few_words m is =
    let some = is.few_frames in
    omega arith

mask_below : (domains d mask : ℕ) → domains ≤ 16 → IsMask domains d mask → mask < 2 ^ 64
mask_below domains d mask few is =
    let top : 2 ^ domains ≤ 2 ^ 16 = pow-le-pow_right {n = 2} (omega arith) {i = domains} {j = 16} few in
    let below = is.within in
    omega arith

all_narrow : (m : Machine) (ws : List ℕ) → IsImaged m ws → AllByRecursion IsNarrow (all_numbers m ws)
all_narrow m ws is =
    let machine = is.machine in
    let pages : All IsNarrow m.page_limit = λ j d inside. (let h = machine.few_pages j d inside in omega arith) in
    let masks : All IsNarrow m.privilege = All-from_get_or IsNarrow m.privilege 0 (λ d inside. mask_below (length m.page_limit) d (get_or m.privilege d 0) machine.few_domains (machine.no_own d inside)) in
    let owners : All IsNarrow m.vcpu_domain = λ j d inside. (let h = machine.of_domains j d inside in let few = machine.few_domains in omega arith) in
    let lists = All-append IsNarrow m.page_limit (m.privilege ++ m.vcpu_domain) pages (All-append IsNarrow m.privilege m.vcpu_domain masks owners) in
    let count : length ws < 2 ^ 64 = (let few = few_words m machine in omega (arith, is.whole)) in
    let words = All-from_recursion IsNarrow (length ws ∷ ws) (count, recursion_from_All IsNarrow ws is.narrow) in
    let rest = m.page_limit ++ (m.privilege ++ m.vcpu_domain) in
    let behind = recursion_from_All IsNarrow (rest ++ (length ws ∷ ws)) (All-append IsNarrow rest (length ws ∷ ws) lists words) in
    let a = machine.few_frames in
    let b = machine.few_counts in
    let c = machine.few_domains in
    let d = machine.few_vcpus in
    ((omega arith), ((omega arith), ((omega arith), ((omega arith), ((omega arith), behind)))))

-- ---- each part of an image stands at its place
machine_stands : (bytes : List ℕ) (m : Machine) (ws : List ℕ) → AreNumbers bytes (all_numbers m ws) → IsMachine m → MachineHolds bytes m
machine_stands bytes m ws are is =
    let all = all_numbers m ws in
    let n = length m.page_limit in
    let behind : List ℕ = length ws ∷ ws in
    let sizes : List ℕ = letters ∷ m.frames ∷ m.limit ∷ length m.page_limit ∷ length m.vcpu_domain ∷ [] in
    let some : 5 ≤ length all = omega (arith, length-append (fixed_numbers m) behind, length-append (sizes_numbers m) (m.page_limit ++ (m.privilege ++ m.vcpu_domain))) in
    let counts : 5 + n + length m.privilege ≡ 5 + 2 * n = omega (arith, is.masks) in
    let least = is.some_domains in
    let limits : IsMachine m = is in
    record {
      mark = one_stands (in_range letters letters) bytes all 0 letters are (omega arith) refl refl;
      frames = one_stands (in_range 1 65536) bytes all 1 m.frames are (omega arith) refl (in_range_from 1 65536 m.frames is.some_frames is.few_frames);
      limit = one_stands (in_range 2 67108863) bytes all 2 m.limit are (omega arith) refl (in_range_from 2 67108863 m.limit is.some_count (omega (arith, is.few_counts)));
      domains = one_stands (in_range 1 16) bytes all 3 n are (omega arith) refl (in_range_from 1 16 n is.some_domains is.few_domains);
      vcpus = one_stands (in_range 1 16) bytes all 4 (length m.vcpu_domain) are (omega arith) refl (in_range_from 1 16 (length m.vcpu_domain) is.some_vcpus is.few_vcpus);
      page_limit = row_stands (λ _. in_range 0 65536) bytes all sizes m.page_limit ((m.privilege ++ m.vcpu_domain) ++ behind) 5 are (simp append_assoc) refl (λ j inside. in_range_from 0 65536 (get_or m.page_limit j 0) (omega arith) (is.few_pages j 0 inside));
      masks = is.masks;
      privilege = row_stands (is_mask n) bytes all (sizes ++ m.page_limit) m.privilege (m.vcpu_domain ++ behind) (5 + n) are (simp append_assoc) (omega (arith, length-append sizes m.page_limit))
          (λ j inside. (let mask = is.no_own j inside in and_from (ltb (get_or m.privilege j 0) (2 ^ n)) (not (is_bit j (get_or m.privilege j 0))) (lt-ltb _ _ mask.within) mask.no_own));
      vcpu_domain = row_stands (λ _. in_range 0 (n - 1)) bytes all ((sizes ++ m.page_limit) ++ m.privilege) m.vcpu_domain behind (5 + 2 * n) are (simp append_assoc) (omega (arith, length-append (sizes ++ m.page_limit) m.privilege, length-append sizes m.page_limit, is.masks))
          (λ j inside. in_range_from 0 (n - 1) (get_or m.vcpu_domain j 0) (omega arith) (let h = is.of_domains j 0 inside in omega arith));
    }

pub image_stands : (bytes : List ℕ) (m : Machine) (ws : List ℕ) → IsImaged m ws → bytes ≡ image_of m ws → ImageHolds bytes m ws
unfolding image_of
image_stands bytes m ws is text =
    let all = all_numbers m ws in
    let k = count_place m in
    let s = size (sizes_of m) in
    let front : List ℕ = letters ∷ fixed_numbers m in
    let spelled : bytes ≡ numbers_bytes all =
    text ∙ ap (λ (xs : List ℕ). xs ++ numbers_bytes (fixed_numbers m ++ (length ws ∷ ws))) (sym letters_bytes)
    ∙ sym (numbers-cons letters (fixed_numbers m ++ (length ws ∷ ws))) in
    let are : AreNumbers bytes all = record { text = spelled; narrow = all_narrow m ws is } in
    let count : length front ≡ k = omega (arith, length-append (sizes_numbers m) (m.page_limit ++ (m.privilege ++ m.vcpu_domain)), length-append m.page_limit (m.privilege ++ m.vcpu_domain), length-append m.privilege m.vcpu_domain, is.machine.masks) in
    let whole : length all ≡ k + 1 + length ws = omega (arith, length-append front (length ws ∷ ws)) in
    let long : length bytes ≡ 8 * length all = ap length spelled ∙ length-numbers all in
    let place : get_or all k 0 ≡ length ws = get_or_at front (length ws) ws 0 k count in
    record {
      machine = machine_stands bytes m ws are is.machine;
      count = one_stands (in_range s s) bytes all k (length ws) are (omega arith) place (in_range_from s s (length ws) (omega (arith, is.whole)) (omega (arith, is.whole)));
      words = row_stands any_word bytes all (front ++ length ws ∷ []) ws [] (k + 1) are (sym (append_assoc front (length ws ∷ []) ws) ∙ ap (λ (l : List ℕ). (front ++ length ws ∷ []) ++ l) (sym (append-nil ws))) (omega (arith, length-append front (length ws ∷ []))) (λ j inside. refl);
      long = omega arith;
      ended = omega arith;
    }
