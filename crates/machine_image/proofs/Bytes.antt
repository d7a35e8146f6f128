-- What bytes hold as numbers of eight bytes, and which bytes numbers make.
use Rattle.std.proofs.Common.{◌≡◌, ℕ, zero, suc, ◌+◌, ◌*◌, ◌/◌, ◌^◌, ◌≤◌, ◌<◌, List, map, [], ◌∷◌, ◌++◌, length, take, drop, get_or, codes, refl, sym, ap, subst, take-append-drop, ◌∙◌, append_assoc, arith, inl, inr}
use Rattle.std.specs.List.{AllByRecursion, range_with_len}
use Rattle.std.specs.Int.{byte_at, bytes_low_first}
use Rattle.std.proofs.Math.Nat.{mod-lt}
use Rattle.std.proofs.Math.Seq.{take-add}
use Rattle.std.proofs.lemmas.Bool.{cases_lt}
use Rattle.std.proofs.lemmas.Grind.{flat_map-append}
use Rattle.std.proofs.lemmas.List.{append-nil, drop_at, drop-drop, ext_get_or, get_or-drop, get_or-take, get_or_past, length-append, length-drop, length-take, take_all, take_at, take_more}
use Rattle.std.proofs.lemmas.List.Concat.{flat_map-cons}
use Rattle.std.proofs.lemmas.List.FromFn.{get_or-map-range_with_len, length-map-range_with_len}
use Rattle.std.proofs.lemmas.Nat.{le_bytes_8}
use Rattle.byteorder.specs.Endian.{little_number}
use Rattle.byteorder.specs.Numbers.{little_from-take, little_number-reads_back, length-bytes_low_first}
use Rattle.xp_words.specs.Machine.{Machine}
use Rattle.machine_image.specs.Image.{number_bytes, numbers_bytes, fixed_numbers, image_of}
use Rattle.machine_image.specs.Reading.{field_at}

-- the bytes of two lists of numbers
pub numbers-append : (ms ns : List ℕ) → numbers_bytes (ms ++ ns) ≡ numbers_bytes ms ++ numbers_bytes ns
numbers-append ms ns = flat_map-append number_bytes ms ns

pub numbers-cons : (n : ℕ) (ns : List ℕ) → numbers_bytes (n ∷ ns) ≡ number_bytes n ++ numbers_bytes ns
numbers-cons n ns = flat_map-cons number_bytes n ns

-- an image as it is put together
put_together : (m : Machine) (words : List ℕ) → ((codes "XPVIMG01" ++ numbers_bytes (fixed_numbers m)) ++ number_bytes (length words)) ++ numbers_bytes words ≡ image_of m words
unfolding image_of
put_together m words =
    append_assoc (codes "XPVIMG01" ++ numbers_bytes (fixed_numbers m)) (number_bytes (length words)) (numbers_bytes words)
    ∙ append_assoc (codes "XPVIMG01") (numbers_bytes (fixed_numbers m)) (number_bytes (length words) ++ numbers_bytes words)
    ∙ ap (λ (xs : List ℕ). codes "XPVIMG01" ++ (numbers_bytes (fixed_numbers m) ++ xs)) (sym (numbers-cons (length words) words))
    ∙ ap (λ (xs : List ℕ). codes "XPVIMG01" ++ xs) (sym (numbers-append (fixed_numbers m) (length words ∷ words)))

pub put_in_order : (m : Machine) (words a b c d : List ℕ) (n : ℕ) → n ≡ length words → a ≡ codes "XPVIMG01" → b ≡ a ++ numbers_bytes (fixed_numbers m) → c ≡ b ++ number_bytes n → d ≡ c ++ numbers_bytes words → d ≡ image_of m words
put_in_order m words a b c d n count first second third fourth =
    let whole = put_together m words in
    cc

-- ---- one number
-- each is a byte
pub record AreBytes (bytes : List ℕ) : Type 0 where
  pub small : (i : ℕ) → get_or bytes i 0 < 256

AreBytes-take : (n : ℕ) (bytes : List ℕ) → AreBytes bytes → AreBytes (take n bytes)
AreBytes-take n bytes h = record {
  small = λ i. elim (cases_lt i n) [
    | inl lt ↦ rw (get_or-take n bytes i 0 lt) (h.small i)
    | inr le ↦ rw (get_or_past (take n bytes) i 0 (omega (arith, length-take n bytes))) (omega arith)
  ];
}

pub AreBytes-drop : (n : ℕ) (bytes : List ℕ) → AreBytes bytes → AreBytes (drop n bytes)
AreBytes-drop n bytes h = record { small = λ i. rw get_or-drop (h.small (n + i)) }

-- eight bytes are those of their number
pub bytes_back : (bytes : List ℕ) → length bytes ≡ 8 → AreBytes bytes → number_bytes (little_number 8 bytes) ≡ bytes
unfolding number_bytes
bytes_back bytes len are = le_bytes_8 bytes (little_number 8 bytes) len are.small (omega arith)

pub length-number : (n : ℕ) → length (number_bytes n) ≡ 8
unfolding number_bytes
length-number n = length-bytes_low_first 0 8 n

-- a number of 64 bits is read again from the bytes that it stands in first
pub number_back : (n : ℕ) (rest : List ℕ) → n < 2 ^ 64 → field_at (number_bytes n ++ rest) 0 ≡ n
unfolding field_at number_bytes
number_back n rest fits = little_number-reads_back 8 n rest fits

-- ---- many numbers
pub length-numbers : (ns : List ℕ) → length (numbers_bytes ns) ≡ 8 * length ns
length-numbers [] = refl
length-numbers (n ∷ ns) =
    let tail = length-numbers ns in
    let head = length-number n in
    ap length (numbers-cons n ns) ∙ length-append (number_bytes n) (numbers_bytes ns) ∙ omega arith

field_at-next : (n k : ℕ) (rest : List ℕ) → field_at (number_bytes n ++ rest) (suc k) ≡ field_at rest k
unfolding field_at
field_at-next n k rest =
    let far : 8 * suc k ≡ 8 + 8 * k = omega arith in
    let gone : drop (8 * suc k) (number_bytes n ++ rest) ≡ drop (8 * k) rest = rw far (sym (drop-drop (8 * k) 8 (number_bytes n ++ rest)) ∙ ap (drop (8 * k)) (drop_at (number_bytes n) rest 8 (length-number n))) in
    ap (little_number 8) gone

-- each number of 64 bits is read again
pub numbers_back : (ns : List ℕ) (k : ℕ) → AllByRecursion (λ n. n < 2 ^ 64) ns → k < length ns → field_at (numbers_bytes ns) k ≡ get_or ns k 0
numbers_back [] k fits inside = absurd (omega arith)
numbers_back (n ∷ ns) zero fits inside =
    ap (λ (xs : List ℕ). field_at xs 0) (numbers-cons n ns) ∙ number_back n (numbers_bytes ns) fits.0
numbers_back (n ∷ ns) (suc k) fits inside =
    ap (λ (xs : List ℕ). field_at xs (suc k)) (numbers-cons n ns) ∙ field_at-next n k (numbers_bytes ns) ∙ numbers_back ns k fits.1 (omega arith)

-- ---- bytes that begin with the bytes of numbers
pub record Front (bytes : List ℕ) (k : ℕ) (ns : List ℕ) : Type 0 where
  pub count : length ns ≡ k
  pub long : 8 * k ≤ length bytes
  pub same : take (8 * k) bytes ≡ numbers_bytes ns

pub eight_bytes : (bytes : List ℕ) (k : ℕ) → AreBytes bytes → 8 * k + 8 ≤ length bytes → take 8 (drop (8 * k) bytes) ≡ number_bytes (field_at bytes k)
unfolding field_at
eight_bytes bytes k are whole =
    let rest = drop (8 * k) bytes in
    let len : length (take 8 rest) ≡ 8 = omega (arith, length-take 8 rest, length-drop (8 * k) bytes) in
    sym (bytes_back (take 8 rest) len (AreBytes-take 8 rest (AreBytes-drop (8 * k) bytes are)))
    ∙ ap number_bytes (little_from-take 0 8 8 rest (omega arith))

-- one number more
pub front_more : (bytes : List ℕ) (k : ℕ) (ns : List ℕ) (x : ℕ) → AreBytes bytes → Front bytes k ns → 8 * k + 8 ≤ length bytes → field_at bytes k ≡ x → Front bytes (k + 1) (ns ++ x ∷ [])
front_more bytes k ns x are front whole is =
    let far : 8 * (k + 1) ≡ 8 * k + 8 = omega arith in
    let one : numbers_bytes (x ∷ []) ≡ number_bytes x = numbers-cons x [] ∙ append-nil (number_bytes x) in
    record {
      count = omega (arith, length-append ns (x ∷ []), front.count);
      long = omega arith;
      same = ap (λ (i : ℕ). take i bytes) far ∙ take-add (8 * k) 8 bytes
          ∙ ap (λ (xs : List ℕ). xs ++ take 8 (drop (8 * k) bytes)) front.same
          ∙ ap (λ (xs : List ℕ). numbers_bytes ns ++ xs) (eight_bytes bytes k are whole ∙ ap number_bytes is ∙ sym one)
          ∙ sym (numbers-append ns (x ∷ []));
    }

-- all of the bytes
pub front_all : (bytes : List ℕ) (k : ℕ) (ns : List ℕ) → Front bytes k ns → length bytes ≤ 8 * k → bytes ≡ numbers_bytes ns
front_all bytes k ns front short = sym (take_all (8 * k) bytes short) ∙ front.same

pub front_none : (bytes : List ℕ) → Front bytes 0 []
front_none bytes = record { count = refl; long = omega arith; same = refl }

-- ---- numbers that are read where they are kept
length-kept : (ns rest : List ℕ) → length (numbers_bytes ns ++ rest) ≡ 8 * length ns + length rest
length-kept ns rest = length-append (numbers_bytes ns) rest ∙ ap (λ (n : ℕ). n + length rest) (length-numbers ns)

-- a number that is whole is one of them
pub kept_inside : (ns rest : List ℕ) (k : ℕ) → length rest < 8 → 8 * k ≤ length (numbers_bytes ns ++ rest) → k ≤ length ns
kept_inside ns rest k few there = omega (arith, length-kept ns rest)

pub count_kept : (ns rest : List ℕ) → 8 * length ns + length rest ≡ length (numbers_bytes ns ++ rest)
count_kept ns rest = sym (length-kept ns rest)

pub number_there : (ns rest : List ℕ) (k : ℕ) → k < length ns → get_or ns k 0 < 2 ^ 64 → get_or ns k 0 ≡ field_at (numbers_bytes ns ++ rest) k
number_there [] rest k inside fits = absurd (omega arith)
number_there (n ∷ ns) rest zero inside fits =
    sym (ap (λ (xs : List ℕ). field_at (xs ++ rest) 0) (numbers-cons n ns) ∙ ap (λ (xs : List ℕ). field_at xs 0) (append_assoc (number_bytes n) (numbers_bytes ns) rest) ∙ number_back n (numbers_bytes ns ++ rest) fits)
number_there (n ∷ ns) rest (suc k) inside fits =
    number_there ns rest k (omega arith) fits
    ∙ sym (ap (λ (xs : List ℕ). field_at (xs ++ rest) (suc k)) (numbers-cons n ns) ∙ ap (λ (xs : List ℕ). field_at xs (suc k)) (append_assoc (number_bytes n) (numbers_bytes ns) rest) ∙ field_at-next n k (numbers_bytes ns ++ rest))

-- and many of them are
pub numbers_there : (ns rest : List ℕ) (first count : ℕ) → first + count ≤ length ns → ((i : ℕ) → get_or ns i 0 < 2 ^ 64) → take count (drop first ns) ≡ map (λ j. field_at (numbers_bytes ns ++ rest) j) (range_with_len first count)
numbers_there ns rest first count inside fits =
    let f : ℕ → ℕ = λ j. field_at (numbers_bytes ns ++ rest) j in
    let long : length (take count (drop first ns)) ≡ length (map f (range_with_len first count)) = omega (arith, length-take count (drop first ns), length-drop first ns, length-map-range_with_len f first count) in
    ext_get_or 0 (take count (drop first ns)) (map f (range_with_len first count)) long (λ i lt.
    let under : i < count = omega (arith, length-take count (drop first ns), length-drop first ns) in
    get_or-take count (drop first ns) i 0 under
    ∙ get_or-drop first ns i 0
    ∙ number_there ns rest (first + i) (omega arith) (fits (first + i))
    ∙ sym (get_or-map-range_with_len f first count i (first + i) 0 under refl))

-- one number more behind others, of bytes that are gone over
pub bytes_more : (bytes ns front : List ℕ) (k x : ℕ) → number_bytes x ≡ take 8 (drop (8 * k) bytes) → numbers_bytes ns ≡ front ++ take (8 * k) bytes → numbers_bytes (ns ++ x ∷ []) ≡ front ++ take (8 * (k + 1)) bytes
bytes_more bytes ns front k x is so_far =
    let far : 8 * (k + 1) ≡ 8 * k + 8 = omega arith in
    let one : numbers_bytes (x ∷ []) ≡ number_bytes x = numbers-cons x [] ∙ append-nil (number_bytes x) in
    numbers-append ns (x ∷ [])
    ∙ ap (λ (xs : List ℕ). xs ++ numbers_bytes (x ∷ [])) so_far
    ∙ ap (λ (xs : List ℕ). (front ++ take (8 * k) bytes) ++ xs) (one ∙ is)
    ∙ append_assoc front (take (8 * k) bytes) (take 8 (drop (8 * k) bytes))
    ∙ ap (λ (xs : List ℕ). front ++ xs) (sym (take-add (8 * k) 8 bytes) ∙ ap (λ (i : ℕ). take i bytes) (sym far))

-- more bytes, of which a front makes up the number that was begun, and the others make numbers as far as they go
pub begun_is_whole : (old one new begun rest front back : List ℕ) (n x : ℕ) → length (begun ++ front) ≡ 8 → number_bytes x ≡ take 8 (begun ++ front) → one ≡ old ++ x ∷ [] → numbers_bytes new ≡ numbers_bytes one ++ take n back → rest ≡ drop n back
    → numbers_bytes new ++ rest ≡ (numbers_bytes old ++ begun) ++ (front ++ back)
begun_is_whole old one new begun rest front back n x long is pushed others left =
    let single : numbers_bytes (x ∷ []) ≡ begun ++ front = numbers-cons x [] ∙ append-nil (number_bytes x) ∙ is ∙ take_all 8 (begun ++ front) (omega arith) in
    let first : numbers_bytes one ≡ numbers_bytes old ++ (begun ++ front) = ap numbers_bytes pushed ∙ numbers-append old (x ∷ []) ∙ ap (λ (xs : List ℕ). numbers_bytes old ++ xs) single in
    ap (λ (xs : List ℕ). xs ++ rest) others
    ∙ append_assoc (numbers_bytes one) (take n back) rest
    ∙ ap (λ (xs : List ℕ). numbers_bytes one ++ (take n back ++ xs)) left
    ∙ ap (λ (xs : List ℕ). numbers_bytes one ++ xs) (take-append-drop n back)
    ∙ ap (λ (xs : List ℕ). xs ++ back) first
    ∙ append_assoc (numbers_bytes old) (begun ++ front) back
    ∙ ap (λ (xs : List ℕ). numbers_bytes old ++ xs) (append_assoc begun front back)
    ∙ sym (append_assoc (numbers_bytes old) begun (front ++ back))

-- ---- each is a byte
small_bytes : (j k n i : ℕ) → get_or (bytes_low_first j k n) i 0 < 256
small_bytes j zero n i = omega arith
small_bytes j (suc k) n zero = small_byte j
  where
    small_byte : (j : ℕ) → byte_at j n < 256
    small_byte zero = mod-lt n (omega arith)
    small_byte (suc j) = mod-lt (n / 256 ^ suc j) (omega arith)
small_bytes j (suc k) n (suc i) = small_bytes (suc j) k n i

AreBytes-append : (xs ys : List ℕ) → AreBytes xs → AreBytes ys → AreBytes (xs ++ ys)
AreBytes-append [] ys first second = second
AreBytes-append (x ∷ xs) ys first second = record { small = each (AreBytes-append xs ys (record { small = λ k. first.small (suc k) }) second) }
  where
    each : AreBytes (xs ++ ys) → (i : ℕ) → get_or ((x ∷ xs) ++ ys) i 0 < 256
    each tail zero = first.small 0
    each tail (suc i) = tail.small i

are_of_number : (n : ℕ) → AreBytes (number_bytes n)
unfolding number_bytes
are_of_number n = record { small = small_bytes 0 8 n }

are_bytes_of : (ns : List ℕ) → AreBytes (numbers_bytes ns)
are_bytes_of [] = record { small = λ i. omega arith }
are_bytes_of (n ∷ ns) = subst AreBytes (sym (numbers-cons n ns)) (AreBytes-append (number_bytes n) (numbers_bytes ns) (are_of_number n) (are_bytes_of ns))

pub kept_are_bytes : (ns rest : List ℕ) → AreBytes rest → AreBytes (numbers_bytes ns ++ rest)
kept_are_bytes ns rest are = AreBytes-append (numbers_bytes ns) rest (are_bytes_of ns) are

-- ---- words that are written a piece at a time
-- one word more in a piece
pub filled_more : (piece next tail row : List ℕ) (i x : ℕ) → 8 * i + 8 ≤ length piece → next ≡ take (8 * i) piece ++ (number_bytes x ++ tail) → take (8 * i) piece ≡ numbers_bytes (take i row) → i < length row → x ≡ get_or row i 0 → take (8 * (i + 1)) next ≡ numbers_bytes (take (i + 1) row)
filled_more piece next tail row i x room is so_far inside word =
    let front = take (8 * i) piece ++ number_bytes x in
    let one : numbers_bytes (x ∷ []) ≡ number_bytes x = numbers-cons x [] ∙ append-nil (number_bytes x) in
    let long : length front ≡ 8 * (i + 1) = omega (arith, length-append (take (8 * i) piece) (number_bytes x), length-take (8 * i) piece, length-number x) in
    ap (take (8 * (i + 1))) (is ∙ sym (append_assoc (take (8 * i) piece) (number_bytes x) tail))
    ∙ take_at front tail (8 * (i + 1)) long
    ∙ ap (λ (xs : List ℕ). xs ++ number_bytes x) so_far
    ∙ ap (λ (xs : List ℕ). numbers_bytes (take i row) ++ xs) (sym one)
    ∙ sym (numbers-append (take i row) (x ∷ []))
    ∙ ap (λ (n : ℕ). numbers_bytes (take i row ++ n ∷ [])) word
    ∙ ap numbers_bytes (sym (take_more row i 0 inside))

module _ (words : List ℕ) (place count : ℕ) (text : List ℕ) (is : text ≡ numbers_bytes (take count (drop place words))) where
  -- one piece more behind those that are written
  pub pieces_joined : numbers_bytes (take place words) ++ text ≡ numbers_bytes (take (place + count) words)
  pieces_joined =
      ap (λ (xs : List ℕ). numbers_bytes (take place words) ++ xs) is ∙ sym (numbers-append (take place words) (take count (drop place words))) ∙ ap numbers_bytes (sym (take-add place count words))

  -- what is written, this piece, and the rest
  pub pieces_of : numbers_bytes words ≡ numbers_bytes (take place words) ++ (text ++ numbers_bytes (drop count (drop place words)))
  pieces_of =
      ap numbers_bytes (sym (take-append-drop place words))
      ∙ numbers-append (take place words) (drop place words)
      ∙ ap (λ (xs : List ℕ). numbers_bytes (take place words) ++ xs) (ap numbers_bytes (sym (take-append-drop count (drop place words))) ∙ numbers-append (take count (drop place words)) (drop count (drop place words)) ∙ ap (λ (xs : List ℕ). xs ++ numbers_bytes (drop count (drop place words))) (sym is))
