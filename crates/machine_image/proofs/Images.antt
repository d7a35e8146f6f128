-- Bytes that are read are the image of what is read.
use Rattle.std.proofs.Common.{◌≡◌, ℕ, ◌+◌, ◌*◌, ◌^◌, ◌≤◌, ◌<◌, Bool, true, ltb, List, [], ◌∷◌, ◌++◌, length, map, drop, All, codes, Result, Ok, refl, sym, ap, subst, ◌∙◌, append_assoc, arith}
use Rattle.std.specs.List.{range_with_len}
use Rattle.std.proofs.lemmas.Bool.{ltb-false, le-ltb}
use Rattle.std.proofs.lemmas.List.{get_or_default, same_lists}
use Rattle.std.proofs.lemmas.List.FromFn.{length-map-range_with_len, get_or-map-range_with_len}
use Rattle.byteorder.specs.Numbers.{little_from-lt}
use Rattle.xp_words.specs.Machine.{Machine}
use Rattle.xp_words.specs.Places.{size, sizes_of}
use Rattle.machine_image.specs.Image.{number_bytes, numbers_bytes, fixed_numbers, image_of, IsImaged}
use Rattle.machine_image.specs.Reading.{letters, field_at, ranged_at, words_at, ended_at, machine_at, count_place, image_at}
use Rattle.machine_image.proofs.Bytes.{AreBytes, AreBytes-drop, front_more, front_all, numbers-cons}
use Rattle.machine_image.proofs.Fields.{bind_ok, done_ok, Holds, tested_holds, holds_tested, HoldsEach, front_each}
use Rattle.machine_image.proofs.Machines.{in_range, only_one, MachineHolds, machine_holds, machine_read, machine_front, is_machine}

-- any number is a word
abbrev pub any_word : ℕ → ℕ → Bool
any_word _ _ = true

words_is : (x y : List ℕ) → (let a : Result (List ℕ) ℕ = Ok x in a) ≡ Ok y → x ≡ y
words_is x y e = cc

words_hold : (bytes : List ℕ) (k n : ℕ) (xs : List ℕ) → words_at bytes k n ≡ Ok xs → (length xs ≡ n) × (8 * (k + n) ≤ length bytes) × HoldsEach any_word bytes 0 k xs
unfolding words_at
words_hold bytes k n xs e =
    let f : ℕ → ℕ = λ j. field_at bytes j in
    let g = done_ok (ltb (length bytes) (8 * (k + n))) (length bytes) (map f (range_with_len k n)) xs e in
    let long : 8 * (k + n) ≤ length bytes = ltb-false _ _ g.0 in
    let count = length-map-range_with_len f k n in
    subst (λ (ys : List ℕ). (length ys ≡ n) × (8 * (k + n) ≤ length bytes) × HoldsEach any_word bytes 0 k ys) g.1 (
      count,
      long,
      record {
        each = λ j inside. (let below : j < n = omega arith in record {
          whole = omega arith;
          is = sym (get_or-map-range_with_len f k n j (k + j) 0 below refl);
          right = refl;
        });
      },
    )

words_read : (bytes : List ℕ) (k : ℕ) (xs : List ℕ) → 8 * (k + length xs) ≤ length bytes → HoldsEach any_word bytes 0 k xs → words_at bytes k (length xs) ≡ Ok xs
unfolding words_at
words_read bytes k xs long h =
    let f : ℕ → ℕ = λ j. field_at bytes j in
    let n = length xs in
    let test = le-ltb (length bytes) (8 * (k + n)) long in
    let count = length-map-range_with_len f k n in
    let same : map f (range_with_len k n) ≡ xs = same_lists (map f (range_with_len k n)) xs count (λ j d inside.
    (let below : j < n = omega arith in
    get_or-map-range_with_len f k n j (k + j) d below refl ∙ (h.each j below).is ∙ get_or_default xs j 0 d below)) in
    rw test (ap (λ (ys : List ℕ). Ok ys) same)

-- each part of an image stands at its place
pub record ImageHolds (bytes : List ℕ) (m : Machine) (ws : List ℕ) : Type 0 where
  pub machine : MachineHolds bytes m
  pub count : Holds (in_range (size (sizes_of m)) (size (sizes_of m))) bytes (count_place m) (length ws)
  pub words : HoldsEach any_word bytes 0 (count_place m + 1) ws
  pub long : 8 * (count_place m + 1 + length ws) ≤ length bytes
  pub ended : length bytes ≤ 8 * (count_place m + 1 + length ws)

pair_is : (x y : Machine × List ℕ) → (let a : Result (Machine × List ℕ) ℕ = Ok x in a) ≡ Ok y → x ≡ y
pair_is x y e = cc

pub image_holds : (bytes : List ℕ) (x : Machine × List ℕ) → image_at bytes ≡ Ok x → ImageHolds bytes x.0 x.1
unfolding image_at ended_at
image_holds bytes x e =
    let a = bind_ok (machine_at bytes) _ x e in
    let m = a.0 in
    let s = size (sizes_of m) in
    let k = count_place m in
    let b = bind_ok (ranged_at s s bytes k) _ x a.2 in
    let w = bind_ok (words_at bytes (k + 1) b.0) _ x b.2 in
    let made : Machine × List ℕ = (m, w.0) in
    let g = done_ok (ltb (8 * (k + 1 + b.0)) (length bytes)) (8 * (k + 1 + b.0)) made x w.2 in
    let short : length bytes ≤ 8 * (k + 1 + b.0) = ltb-false _ _ g.0 in
    let words = words_hold bytes (k + 1) b.0 w.0 w.1 in
    subst (λ (y : Machine × List ℕ). ImageHolds bytes y.0 y.1) g.1 (record {
      machine = machine_holds bytes m a.1;
      count = rw words.0 (tested_holds (in_range s s) bytes k b.0 b.1);
      words = words.2;
      long = rw words.0 words.1;
      ended = rw words.0 short;
    })

pub image_read : (bytes : List ℕ) (m : Machine) (ws : List ℕ) → ImageHolds bytes m ws → image_at bytes ≡ Ok (m, ws)
unfolding image_at ended_at
image_read bytes m ws h =
    let s = size (sizes_of m) in
    let k = count_place m in
    let machine = machine_read bytes m h.machine in
    let count = holds_tested (in_range s s) bytes k (length ws) h.count in
    let words = words_read bytes (k + 1) ws h.long h.words in
    let end = le-ltb (8 * (k + 1 + length ws)) (length bytes) h.ended in
    rw (machine, count, words, end) refl

-- ---- the bytes are the image
-- the letters as a number
pub letters_bytes : number_bytes letters ≡ codes "XPVIMG01"
unfolding number_bytes
letters_bytes = refl

word_narrow : (bytes : List ℕ) (k : ℕ) → AreBytes bytes → field_at bytes k < 2 ^ 64
unfolding field_at
word_narrow bytes k are = little_from-lt 0 8 (drop (8 * k) bytes) (AreBytes-drop (8 * k) bytes are).small

words_narrow : (bytes : List ℕ) (k : ℕ) (ws : List ℕ) → AreBytes bytes → HoldsEach any_word bytes 0 k ws → All (λ w. w < 2 ^ 64) ws
words_narrow bytes k ws are h j d inside =
    let here = word_narrow bytes (k + j) are in
    let same = get_or_default ws j d 0 inside ∙ sym (h.each j inside).is in
    subst (λ (n : ℕ). n < 2 ^ 64) (sym same) here

pub image_is : (bytes : List ℕ) (m : Machine) (ws : List ℕ) → AreBytes bytes → ImageHolds bytes m ws → IsImaged m ws × (bytes ≡ image_of m ws)
unfolding image_of
image_is bytes m ws are h =
    let s = size (sizes_of m) in
    let k = count_place m in
    let numbers : List ℕ = letters ∷ fixed_numbers m in
    let front = machine_front bytes m are h.machine in
    let more = front_more bytes k numbers (length ws) are front h.count.whole h.count.is in
    let most = front_each any_word bytes 0 (k + 1) (numbers ++ length ws ∷ []) ws are more h.words in
    let all = front_all bytes (k + 1 + length ws) ((numbers ++ length ws ∷ []) ++ ws) most h.ended in
    let text : bytes ≡ image_of m ws =
    all
    ∙ ap numbers_bytes (append_assoc numbers (length ws ∷ []) ws)
    ∙ numbers-cons letters (fixed_numbers m ++ (length ws ∷ ws))
    ∙ ap (λ (xs : List ℕ). xs ++ numbers_bytes (fixed_numbers m ++ (length ws ∷ ws))) letters_bytes in (
      record {
        machine = is_machine bytes m h.machine;
        whole = only_one s (length ws) h.count.right;
        narrow = words_narrow bytes (k + 1) ws are h.words;
      },
      text,
    )
