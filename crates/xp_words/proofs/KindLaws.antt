use Rattle.std.proofs.Common.{◌≡◌, ℕ, ◌+◌, ◌*◌, ◌/◌, ◌%◌, ◌^◌, ◌<◌, ◌≢◌, ◌==◌, ◌&&◌, not, nat_lt, lit<, if◌then◌else◌, Bool, true, false, Some, None, refl, arith, IsTrue}
use Rattle.std.proofs.lemmas.Bool.{and_parts}
use Rattle.std.proofs.lemmas.Bool.Decides.{nat_tests}
use Rattle.xp_words.specs.declared.kind.PageType.{PageType}
use Rattle.xp_words.specs.declared.kind.PageType.TheVariants as kinds
use Rattle.xp_words.specs.declared.kind.KindWord.{KindWord}
use Rattle.xp_words.specs.RefWords.{bit}
use Rattle.xp_words.specs.PageTypes.{type_number, type_of}
use Rattle.xp_words.specs.KindWords.{is_kind, kind_write, kind_fields, kind_read, has_type, has_form}

-- the fields of a sum of fields
packed : ℕ → ℕ → ℕ → ℕ → ℕ → ℕ → ℕ → ℕ → ℕ → ℕ
packed n p u k l a v i t =
    n + 2 ^ 36 * p + 2 ^ 46 * u + 2 ^ 47 * k + 2 ^ 48 * l + 2 ^ 49 * a + 2 ^ 50 * v + 2 ^ 51 * i + 2 ^ 52 * t

module _ (n p u k l a v i t : ℕ) (hn : n < 2 ^ 36) (hp : p < 2 ^ 10) (hu : u < 2) (hk : k < 2) (hl : l < 2) (ha : a < 2) (hv : v < 2) (hi : i < 2) where
  packed_number : packed n p u k l a v i t % 2 ^ 36 ≡ n
  unfolding packed
  packed_number = omega arith

  packed_progress : packed n p u k l a v i t / 2 ^ 36 % 2 ^ 10 ≡ p
  unfolding packed
  packed_progress = omega arith

  packed_unflushed : packed n p u k l a v i t / 2 ^ 46 % 2 ≡ u
  unfolding packed
  packed_unflushed = omega arith

  packed_kept : packed n p u k l a v i t / 2 ^ 47 % 2 ≡ k
  unfolding packed
  packed_kept = omega arith

  packed_locked : packed n p u k l a v i t / 2 ^ 48 % 2 ≡ l
  unfolding packed
  packed_locked = omega arith

  packed_partial : packed n p u k l a v i t / 2 ^ 49 % 2 ≡ a
  unfolding packed
  packed_partial = omega arith

  packed_validated : packed n p u k l a v i t / 2 ^ 50 % 2 ≡ v
  unfolding packed
  packed_validated = omega arith

  packed_pinned : packed n p u k l a v i t / 2 ^ 51 % 2 ≡ i
  unfolding packed
  packed_pinned = omega arith

  packed_type : packed n p u k l a v i t / 2 ^ 52 ≡ t
  unfolding packed
  packed_type = omega arith

bit_lt : (b : Bool) → bit b < 2
bit_lt true = lit< tt
bit_lt false = lit< tt

bit_back : (b : Bool) → (bit b == 1) ≡ b
bit_back true = refl
bit_back false = refl

bit_of : (n : ℕ) → n < 2 → bit (n == 1) ≡ n
bit_of n h = grind (arith, nat_tests)

pub type_back : (t : PageType) → type_of (type_number t) ≡ t
type_back kinds.None = refl
type_back kinds.L1 = refl
type_back kinds.L2 = refl
type_back kinds.L3 = refl
type_back kinds.L4 = refl
type_back kinds.Desc = refl
type_back kinds.Writable = refl

pub type_number_of : (n : ℕ) → n < 8 → n ≢ 6 → type_number (type_of n) ≡ n
type_number_of n h k = grind (arith, nat_tests)

type_top : (t : PageType) → (nat_lt (type_number t) 8 && not (type_number t == 6)) ≡ true
type_top kinds.None = refl
type_top kinds.L1 = refl
type_top kinds.L2 = refl
type_top kinds.L3 = refl
type_top kinds.L4 = refl
type_top kinds.Desc = refl
type_top kinds.Writable = refl

kind_bounds : (k : KindWord) → IsTrue (is_kind k) → (k.number < 2 ^ 36) × (k.progress < 2 ^ 10) × IsTrue (has_form k)
kind_bounds k h = grind (arith, nat_tests)

kind_packed : (k : KindWord) → kind_write k ≡ packed k.number k.progress (bit k.unflushed) (bit k.kept) (bit k.locked) (bit k.partial) (bit k.validated) (bit k.pinned) (type_number k.kind)
unfolding kind_write packed
kind_packed k = refl

pub fields_back : (k : KindWord) → k.number < 2 ^ 36 → k.progress < 2 ^ 10 → kind_fields (kind_write k) ≡ k
unfolding kind_fields
fields_back k hn hp =
    let u = bit_lt k.unflushed in
    let e = bit_lt k.kept in
    let l = bit_lt k.locked in
    let a = bit_lt k.partial in
    let v = bit_lt k.validated in
    let i = bit_lt k.pinned in
    rw kind_packed (simp (packed_number, packed_progress, packed_unflushed, packed_kept, packed_locked, packed_partial, packed_validated, packed_pinned, packed_type, bit_back, type_back))

type_tops : (k : KindWord) → k.number < 2 ^ 36 → k.progress < 2 ^ 10 → has_type (kind_write k) ≡ true
type_tops k hn hp =
    let u = bit_lt k.unflushed in
    let e = bit_lt k.kept in
    let l = bit_lt k.locked in
    let a = bit_lt k.partial in
    let v = bit_lt k.validated in
    let i = bit_lt k.pinned in
    rw kind_packed (rw packed_type (type_top k.kind))

pub kind_read-write : (x : KindWord) → IsTrue (is_kind x) → kind_read (kind_write x) ≡ Some x
unfolding kind_read
kind_read-write x h =
    let b = kind_bounds x h in
    let t = type_tops x b.0 b.1 in
    let f = fields_back x b.0 b.1 in
    rw f (rw t (rw b.2))

pub fields_in_range : (w : ℕ) → ((kind_fields w).number < 2 ^ 36) × ((kind_fields w).progress < 2 ^ 10)
unfolding kind_fields
fields_in_range w = (omega arith, omega arith)

top_type : (w : ℕ) → has_type w ≡ true → type_number (type_of (w / 2 ^ 52)) ≡ w / 2 ^ 52
top_type w h = grind (arith, nat_tests)

write_fields : (w : ℕ) → has_type w ≡ true → kind_write (kind_fields w) ≡ w
unfolding kind_fields kind_write packed
write_fields w h =
    let a : bit (w / 2 ^ 46 % 2 == 1) ≡ w / 2 ^ 46 % 2 = bit_of _ (omega arith) in
    let b : bit (w / 2 ^ 47 % 2 == 1) ≡ w / 2 ^ 47 % 2 = bit_of _ (omega arith) in
    let c : bit (w / 2 ^ 48 % 2 == 1) ≡ w / 2 ^ 48 % 2 = bit_of _ (omega arith) in
    let d : bit (w / 2 ^ 49 % 2 == 1) ≡ w / 2 ^ 49 % 2 = bit_of _ (omega arith) in
    let e : bit (w / 2 ^ 50 % 2 == 1) ≡ w / 2 ^ 50 % 2 = bit_of _ (omega arith) in
    let f : bit (w / 2 ^ 51 % 2 == 1) ≡ w / 2 ^ 51 % 2 = bit_of _ (omega arith) in
    simp top_type (omega arith)

pub when_some : {A : Type 0} (b : Bool) (f x : A) → (if b then Some f else None) ≡ Some x → (b ≡ true) × (f ≡ x)
when_some true f x h = (refl, cc)
when_some false f x h = cc

kind_from_fields : (w : ℕ) → has_form (kind_fields w) ≡ true → IsTrue (is_kind (kind_fields w))
kind_from_fields w h = let b = fields_in_range w in grind (arith, nat_tests)

pub kind_write-read : (w : ℕ) (x : KindWord) → kind_read w ≡ Some x → IsTrue (is_kind x) × (kind_write x ≡ w)
unfolding kind_read
kind_write-read w x h =
    let e = when_some _ _ _ h in
    let t = and_parts _ _ e.0 in
    rw (← e.1) (kind_from_fields w t.1, write_fields w t.0)

pub ruleset kind_laws = (kind_read-write)
