-- Blocks by the map of free frames, where its bits are those of the free frames: a block that is tried is free, and one that is not tried is not.
use Rattle.std.proofs.Common.{◌≡◌, ℕ, ◌+◌, ◌*◌, ◌/◌, ◌%◌, ◌<◌, ◌≤◌, ◌&&◌, ◌⊎◌, nat_le, Bool, true, false, List, ◌++◌, length, slice_index, Some, None, refl, sym, ap, ◌∙◌, subst, inl, inr, arith}
use Rattle.std.proofs.Math.Nat.{div-add-mod}
use Rattle.std.proofs.lemmas.Bool.Decides.{nat_tests}
use Rattle.std.proofs.lemmas.Nat.{div-mul-add}
use Rattle.xp_words.specs.Entries.{is_bit}
use Rattle.xp_words.specs.Machine.{Machine}
use Rattle.xp_words.specs.declared.place.Place.TheVariants.{Map, Refs}
use Rattle.xp_words.proofs.Shared.{and_true as both_hold}
use Rattle.xp_board.specs.Lists.{EachOf}
use Rattle.xp_board.specs.Readings.{is_free}
use Rattle.xp_board.specs.Sound.{is_hinted}
use Rattle.step_maker.specs.Plain.{Words}
use Rattle.step_maker.specs.Visits.{Visit, Nothing, Only, Then}
use Rattle.frame_claims.specs.Found as founds
use Rattle.frame_claims.specs.Found.{BlockBy, FreeAt, FreeBlock, TriedBy, TriedWhere, Upwards, are_set, saw_refs}
use Rattle.frame_claims.specs.Plain.{IsWhollyFree, MapAgrees, ref_looks}
use Rattle.frame_claims.proofs.Setting.{bits_of, set_of}
use Rattle.frame_claims.proofs.Telling.{Saw, each_parts, looks_append}
use Rattle.frame_words.proofs.Twinning.{full as fits_in}

-- a block that is free, and is the one that is answered
pub record IsHere (n : Machine) (m : Words) (k f : ℕ) (c : FreeBlock) : Type 0 where
  pub first : c.first ≡ f
  pub inside : f + k ≤ n.frames
  pub whole : IsWhollyFree m k f

-- ---- words of a list
module _ (m : Words) where
  abbrev pub Seen : List Visit → Type 0
  Seen vs = EachOf (Saw m) vs

  pub seen_parts : (vs xs ys : List Visit) → vs ≡ ys ++ xs → Seen vs → Seen xs × Seen ys
  seen_parts vs xs ys is seen = each_parts (Saw m) xs ys (subst Seen is seen)

  -- the only step of a list
  pub seen_one : (vs : List Visit) (s : Visit) → Only s vs → Seen vs → s.found ≡ m s.place
  unfolding EachOf
  seen_one vs s is seen = (subst Seen is seen).0

  -- one of those in order
  pub seen_up : (P : ℕ → List Visit → Type 0) (from n : ℕ) (vs : List Visit) → Upwards P from n vs → Seen vs → (i : ℕ) → from ≤ i → i < n → (us : List Visit) × P i us × Seen us
  seen_up P from _ vs (founds.Upwards.starts _ is) seen i low high = absurd (omega (arith, low, high))
  seen_up P from _ vs (founds.Upwards.goes_up n before now _ earlier here is) seen i low high =
      let parts = seen_parts vs before now is seen in
      elim (below_or i n high) [
        | inl under ↦ seen_up P from n before earlier parts.0 i low under
        | inr at ↦ (now, subst (λ j. P j now) (sym at) here, parts.1)
      ]
    where
      below_or : (j k : ℕ) → j < k + 1 → (j < k) ⊎ (j ≡ k)
      below_or j k l = grind arith

  -- ---- a block that is tried
  module _ (k f : ℕ) where
    pub tried_taken : (vs : List Visit) → TriedBy k f None vs → Seen vs → IsWhollyFree m k f → ⊥
    tried_taken vs t seen free =
        let j = t.0 in
        let last = (seen_parts vs t.2.before t.2.after t.2.list seen).1 in
        let is : t.2.next.0 ≡ m (Refs (f + j)) = seen_one t.2.after (saw_refs (f + j) t.2.next.0) t.2.next.2 last in
        let off : is_free (m (Refs (f + j))) ≡ false = subst (λ y. is_free y ≡ false) is t.2.next.1 in
        let on : is_free (m (Refs (f + j))) ≡ true = free j t.1 in
        absurd (cc)

    pub tried_free : (b : FreeBlock) (vs : List Visit) → TriedBy k f (Some b) vs → Seen vs → IsWhollyFree m k f
    tried_free b vs t seen j low =
        let one = seen_up (FreeAt f b.stamps) 0 (length b.stamps) vs t.2 seen j (omega arith) (let long = t.1 in omega (arith, low, long)) in
        subst (λ y. is_free y ≡ true) (seen_one one.0 (saw_refs (f + j) (slice_index b.stamps j)) one.1.1 one.2) one.1.0

  -- ---- how many looks at reference words
  looks_of_all : (f : ℕ) (stamps : List ℕ) (n : ℕ) (vs : List Visit) → Upwards (FreeAt f stamps) 0 n vs → ref_looks vs ≡ n
  looks_of_all f stamps _ vs (founds.Upwards.starts _ is) = ap ref_looks is
  looks_of_all f stamps _ vs (founds.Upwards.goes_up n before now _ earlier here is) =
      let rest = looks_of_all f stamps n before earlier in
      let one : ref_looks now ≡ 1 = ap ref_looks here.1 in
      let all = ap ref_looks is ∙ looks_append before now in
      omega (arith, rest, one, all)

  pub looks_tried : (k f : ℕ) (b : FreeBlock) (vs : List Visit) → TriedBy k f (Some b) vs → ref_looks vs ≡ k
  looks_tried k f b vs t = looks_of_all f b.stamps (length b.stamps) vs t.2 ∙ t.1

  pub looks_none : (vs : List Visit) → Nothing vs → ref_looks vs ≡ 0
  looks_none vs is = ap ref_looks is

  pub looks_then : (P Q : List Visit → Type 0) (vs : List Visit) (t : Then P Q vs) → ref_looks vs ≡ ref_looks t.after + ref_looks t.before
  looks_then P Q vs t = ap ref_looks t.list ∙ looks_append t.before t.after

-- ---- frames and their bits
frame_word : (w i : ℕ) → i < 64 → (64 * w + i) / 64 ≡ w
frame_word w i low = let e : 64 * w + i ≡ w * 64 + i = omega arith in ap (λ y. y / 64) e ∙ div-mul-add w 64 i low

frame_bit : (w i : ℕ) → i < 64 → (64 * w + i) % 64 ≡ i
frame_bit w i low =
    let all = div-add-mod (64 * w + i) 64 in
    let word : 64 * ((64 * w + i) / 64) ≡ 64 * w = ap (λ y. 64 * y) (frame_word w i low) in
    omega (arith, all, word)

pub bit_is : (m : Words) (w i : ℕ) → i < 64 → is_hinted m (64 * w + i) ≡ is_bit i (m (Map w))
bit_is m w i low = ap (λ y. is_bit y (m (Map ((64 * w + i) / 64)))) (frame_bit w i low) ∙ ap (λ y. is_bit i (m (Map y))) (frame_word w i low)

module _ (n : Machine) (m : Words) (agrees : MapAgrees n m) where
  -- the bits of a word are those of its free frames
  pub free_bit : (w i : ℕ) → i < 64 → 64 * w + i < n.frames → is_bit i (m (Map w)) ≡ is_free (m (Refs (64 * w + i)))
  free_bit w i low inside = sym (bit_is m w i low) ∙ agrees (64 * w + i) inside

  -- ---- a block in a word
  module _ (k w at : ℕ) (some : 0 < k) (low : k * at + k ≤ 64) where
    abbrev first : ℕ
    first = 64 * w + k * at

    module _ (inside : first + k ≤ n.frames) where
      same_bit : (j : ℕ) → j < k → is_bit (k * at + j) (m (Map w)) ≡ is_free (m (Refs (first + j)))
      same_bit j l =
          let e : 64 * w + (k * at + j) ≡ first + j = omega arith in
          free_bit w (k * at + j) (omega (arith, low, l)) (omega (arith, inside, l)) ∙ ap (λ f. is_free (m (Refs f))) e

      set_free : are_set k (k * at) (m (Map w)) ≡ true → IsWhollyFree m k first
      set_free set j l = sym (same_bit j l) ∙ bits_of k (k * at) (m (Map w)) set j l

      free_set : IsWhollyFree m k first → are_set k (k * at) (m (Map w)) ≡ true
      free_set free = set_of k (k * at) (m (Map w)) (λ j l. same_bit j l ∙ free j l)

    fits : (b : Bool) → (b && nat_le (first + k) n.frames) ≡ true → (b ≡ true) × (first + k ≤ n.frames)
    fits b is = (and_fst b _ is, (let l = and_snd b _ is in grind (arith, nat_tests, l)))
      where
        and_fst : (a c : Bool) → (a && c) ≡ true → a ≡ true
        and_fst true c e = refl
        and_fst false c e = e

        and_snd : (a c : Bool) → (a && c) ≡ true → c ≡ true
        and_snd true c e = e
        and_snd false c e = absurd (cc)

    -- it is not free, and no reference word is looked at
    none_by : (vs : List Visit) (b : Bool) → (are_set k (k * at) (m (Map w)) && nat_le (first + k) n.frames) ≡ b → TriedWhere b k first None vs → Seen m vs → (ref_looks vs ≡ 0) × (first + k ≤ n.frames → IsWhollyFree m k first → ⊥)
    none_by vs true is t seen = let both = fits _ is in absurd (tried_taken m k first vs t seen (set_free both.1 both.0))
    none_by vs false is t seen =
        (looks_none m vs t.1, λ inside free. (let on = both_hold _ _ (free_set inside free) (fits_in (first + k) n.frames inside) in absurd (cc)))

    pub block_none : (x : ℕ) (vs : List Visit) → x ≡ m (Map w) → BlockBy n k w x at None vs → Seen m vs → (ref_looks vs ≡ 0) × (first + k ≤ n.frames → IsWhollyFree m k first → ⊥)
    block_none x vs is t seen = none_by vs _ refl (subst (λ y. BlockBy n k w y at None vs) is t) seen

    -- it is free, and looked at
    some_by : (vs : List Visit) (b : Bool) (c : FreeBlock) → (are_set k (k * at) (m (Map w)) && nat_le (first + k) n.frames) ≡ b → TriedWhere b k first (Some c) vs → Seen m vs →
        (ref_looks vs ≡ k) × IsHere n m k first c
    some_by vs true c is t seen = (looks_tried m k first c vs t, record { first = t.0; inside = (fits _ is).1; whole = tried_free m k first c vs t seen })
    some_by vs false c is t seen = absurd (let no = t.0 in cc)

    pub block_some : (x : ℕ) (vs : List Visit) (c : FreeBlock) → x ≡ m (Map w) → BlockBy n k w x at (Some c) vs → Seen m vs → (ref_looks vs ≡ k) × IsHere n m k first c
    block_some x vs c is t seen = some_by vs _ c refl (subst (λ y. BlockBy n k w y at (Some c) vs) is t) seen
