-- Reading bytes as an image, one number of eight bytes after the other, up to the first fault. A fault is told by its place: that of the number
-- which is refused, the end where the bytes end too early, or that of the first byte too many.
use Rattle.std.specs.Prelude.{◌≡◌, ℕ, zero, suc, ◌+◌, ◌*◌, ◌-◌, ◌^◌, ◌&&◌, Bool, true, not, nat_lt, nat_le, if◌then◌else◌, List, [], ◌∷◌, length, drop, map, codes, Option, Some, None, Result, Ok, Err}
use Rattle.std.specs.List.{range_with_len}
use Rattle.byteorder.specs.Endian.{little_number}
use Rattle.xp_words.specs.Entries.{is_bit}
use Rattle.xp_words.specs.Machine.{Machine}
use Rattle.xp_words.specs.Places.{size, sizes_of}
use Rattle.machine_image.specs.declared.fault.ImageFault.{ImageFault}
use Rattle.machine_image.specs.declared.fault.ImageFault.TheVariants.{Bad, Memory}

infixl 10 ◌>>=◌
abbrev pub ◌>>=◌ : {A B : Type 0} → Result A ℕ → (A → Result B ℕ) → Result B ℕ
(Ok x) >>= f = f x
(Err at) >>= f = Err at

-- number k of the bytes
unfoldable pub field_at : List ℕ → ℕ → ℕ
field_at bytes k = little_number 8 (drop (8 * k) bytes)

-- the same, where it is whole and the test holds
unfoldable pub tested_at : (ℕ → Bool) → List ℕ → ℕ → Result ℕ ℕ
tested_at test bytes k =
    if nat_lt (length bytes) (8 * k + 8) then Err (length bytes)
    else if test (field_at bytes k) then Ok (field_at bytes k)
    else Err (8 * k)

-- any number, where it is whole
abbrev pub whole_at : List ℕ → ℕ → Result ℕ ℕ
whole_at bytes k = tested_at (λ _. true) bytes k

-- a number in a range
abbrev pub ranged_at : ℕ → ℕ → List ℕ → ℕ → Result ℕ ℕ
ranged_at least most bytes k = tested_at (λ n. nat_le least n && nat_le n most) bytes k

-- the privilege mask of a domain, of so many
abbrev pub mask_at : ℕ → ℕ → List ℕ → ℕ → Result ℕ ℕ
mask_at domains d bytes k = tested_at (λ n. nat_lt n (2 ^ domains) && not (is_bit d n)) bytes k

-- so many numbers from number k on, of which each is read by its place among them and among all
unfoldable pub each_at : (ℕ → ℕ → Result ℕ ℕ) → ℕ → ℕ → ℕ → Result (List ℕ) ℕ
each_at read i k zero = Ok []
each_at read i k (suc n) = do
  first ← read i k
  others ← each_at read (suc i) (suc k) n
  Ok (first ∷ others)

-- so many words, any of 64 bits
unfoldable pub words_at : List ℕ → ℕ → ℕ → Result (List ℕ) ℕ
words_at bytes k n =
    if nat_lt (length bytes) (8 * (k + n)) then Err (length bytes)
    else Ok (map (λ j. field_at bytes j) (range_with_len k n))

-- the eight letters, as one number
abbrev pub letters : ℕ
letters = little_number 8 (codes "XPVIMG01")

-- the fixed numbers of a machine
unfoldable pub machine_at : List ℕ → Result Machine ℕ
machine_at bytes = do
  mark ← ranged_at letters letters bytes 0
  frames ← ranged_at 1 65536 bytes 1
  limit ← ranged_at 2 67108863 bytes 2
  domains ← ranged_at 1 16 bytes 3
  vcpus ← ranged_at 1 16 bytes 4
  page_limit ← each_at (λ _. ranged_at 0 65536 bytes) 0 5 domains
  privilege ← each_at (λ d. mask_at domains d bytes) 0 (5 + domains) domains
  vcpu_domain ← each_at (λ _. ranged_at 0 (domains - 1) bytes) 0 (5 + 2 * domains) vcpus
  Ok (record { frames = frames; limit = limit; page_limit = page_limit; privilege = privilege; vcpu_domain = vcpu_domain })

-- which number is that of the words
abbrev pub count_place : Machine → ℕ
count_place m = 5 + 2 * length m.page_limit + length m.vcpu_domain

-- what was read, where no byte stands behind so many numbers
unfoldable pub ended_at : {A : Type 0} → A → List ℕ → ℕ → Result A ℕ
ended_at x bytes k = if nat_lt (8 * k) (length bytes) then Err (8 * k) else Ok x

-- a machine and its words, all of the bytes; or the place of the first fault
unfoldable pub image_at : List ℕ → Result (Machine × List ℕ) ℕ
image_at bytes = do
  m ← machine_at bytes
  count ← ranged_at (size (sizes_of m)) (size (sizes_of m)) bytes (count_place m)
  words ← words_at bytes (count_place m + 1) count
  ended_at (m, words) bytes (count_place m + 1 + count)

-- the first fault of bytes, where they have one
abbrev pub fault_there : {A : Type 0} → Result A ℕ → Option ℕ
fault_there (Ok x) = None
fault_there (Err at) = Some at

unfoldable pub image_fault : List ℕ → Option ℕ
image_fault bytes = fault_there (image_at bytes)

-- an error says where that fault is, unless memory ran out
abbrev pub Tells : ImageFault → Option ℕ → Type 0
Tells Memory fault = Unit {0}
Tells (Bad at) fault = fault ≡ Some at

-- what a function returned, seen by view, is what reading gives, unless memory ran out
abbrev pub FailsThere : {Y : Type 0} → ImageFault → Result Y ℕ → Type 0
FailsThere Memory read = Unit {0}
FailsThere (Bad at) read = read ≡ Err at

abbrev pub ReadsAs : {X Y : Type 0} → (X → Y) → Result X ImageFault → Result Y ℕ → Type 0
ReadsAs view (Ok x) read = read ≡ Ok (view x)
ReadsAs view (Err e) read = FailsThere e read
