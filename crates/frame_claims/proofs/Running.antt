-- Blocks of several words of the map; and the choice as a whole, where the bits in the map are those of the free frames.
use Rattle.std.proofs.Common.{◌≡◌, ◌≢◌, ℕ, ◌+◌, ◌-◌, ◌*◌, ◌/◌, ◌%◌, ◌^◌, ◌<◌, ◌≤◌, Bool, true, false, List, Option, Some, None, refl, sym, ap, ◌∙◌, subst, inl, inr, arith}
use Rattle.std.proofs.Math.Nat.{div-add-mod, le-div_iff_mul-le, mod-lt}
use Rattle.xp_words.specs.Entries.{is_bit}
use Rattle.xp_words.specs.Machine.{Machine}
use Rattle.xp_words.specs.declared.place.Place.TheVariants.{Map, Refs}
use Rattle.xp_board.specs.Readings.{is_free}
use Rattle.step_maker.specs.Plain.{Words}
use Rattle.step_maker.specs.Visits.{Visit, Only}
use Rattle.frame_claims.specs.Blocks.{IsBlockSize}
use Rattle.frame_claims.specs.Found.{ChosenBy, FirstOf, FreeBlock, FullBy, HintedBy, RunBy, SawFull, TriedWhere, Upwards, saw_map}
use Rattle.frame_claims.specs.Plain.{IsFirstFree, IsWhollyFree, MapAgrees, ref_looks}
use Rattle.frame_claims.proofs.Finding.{block_aligned, block_fits}
use Rattle.frame_claims.proofs.Firsts.{firsts_fail, firsts_had, words_fail, words_had}
use Rattle.frame_claims.proofs.Hinting.{IsHere, Seen, free_bit, looks_none, looks_then, looks_tried, seen_one, seen_parts, seen_up, tried_free, tried_taken}
use Rattle.frame_claims.proofs.Setting.{full_bits, full_of}
use Rattle.frame_claims.proofs.Telling.{IsNoRefLook, alls_one, alls_then, alls_up, no_looks}

-- ---- looks at the map alone
full_looks : (first count : ℕ) (b : Bool) (vs : List Visit) → FullBy first count b vs → ref_looks vs ≡ 0
full_looks first count true vs t = no_looks vs (alls_up IsNoRefLook SawFull first (first + count) (λ w. alls_one IsNoRefLook (saw_map w (2 ^ 64 - 1)) refl) vs t)
full_looks first count false vs t =
    no_looks vs
    (alls_then IsNoRefLook (Upwards SawFull first t.0) (λ us. (x : ℕ) × (x ≢ 2 ^ 64 - 1) × Only (saw_map t.0 x) us) (alls_up IsNoRefLook SawFull first t.0 (λ w. alls_one IsNoRefLook (saw_map w (2 ^ 64 - 1)) refl))
    (λ us o. alls_one IsNoRefLook (saw_map t.0 o.0) refl us o.2) vs t.3)

module _ (n : Machine) (m : Words) (agrees : MapAgrees n m) (small : (w : ℕ) → m (Map w) < 2 ^ 64) where
  -- ---- a block of several words
  module _ (words : ℕ) (some : 0 < 64 * words) where
    abbrev size : ℕ
    size = 64 * words

    -- a frame with its word and its bit
    frame_at : (block j : ℕ) → block * size + j ≡ 64 * (block * words + j / 64) + j % 64
    frame_at block j = let all = div-add-mod j 64 in let e : block * (64 * words) ≡ 64 * (block * words) = grind arith in omega (arith, all, e)

    word_low : (j : ℕ) → j < size → j / 64 < words
    word_low j low = let all = div-add-mod j 64 in omega (arith, all, low)

    bit_low : (j : ℕ) → j % 64 < 64
    bit_low j = mod-lt j (omega arith)

    module _ (block : ℕ) (fits : block * size + size ≤ n.frames) where
      frame_free : (j : ℕ) → j < size → is_bit (j % 64) (m (Map (block * words + j / 64))) ≡ is_free (m (Refs (block * size + j)))
      frame_free j low =
          let e = frame_at block j in
          free_bit n m agrees (block * words + j / 64) (j % 64) (bit_low j) (omega (arith, e, low, fits)) ∙ ap (λ f. is_free (m (Refs f))) (sym e)

      -- all its words are full
      full_free : (vs : List Visit) → FullBy (block * words) words true vs → Seen m vs → IsWhollyFree m size (block * size)
      full_free vs t seen j low =
          let under = word_low j low in
          let one = seen_up m SawFull (block * words) (block * words + words) vs t seen (block * words + j / 64) (omega arith) (omega (arith, under)) in
          let is = seen_one m one.0 (saw_map (block * words + j / 64) (2 ^ 64 - 1)) one.1 one.2 in
          sym (frame_free j low) ∙ subst (λ x. is_bit (j % 64) x ≡ true) is (full_bits (j % 64) (bit_low j))

      -- one of them is not
      not_full_free : (vs : List Visit) → FullBy (block * words) words false vs → Seen m vs → IsWhollyFree m size (block * size) → ⊥
      not_full_free vs t seen free =
          let w = t.0 in
          let from = t.1 in
          let to = t.2 in
          let last = (seen_parts m vs t.3.before t.3.after t.3.list seen).1 in
          let is = seen_one m t.3.after (saw_map w t.3.next.0) t.3.next.2 last in
          t.3.next.1 (is ∙ full_of (m (Map w)) (small w) (λ i low. bit_there w i from to low))
        where
          bit_there : (w i : ℕ) → block * words ≤ w → w < block * words + words → i < 64 → is_bit i (m (Map w)) ≡ true
          bit_there w i from to low =
              let f = 64 * (w - block * words) + i in
              let e : block * size + f ≡ 64 * w + i = (let t : block * (64 * words) ≡ 64 * (block * words) = grind arith in omega (arith, t, from)) in
              let under : f < size = omega (arith, to, from, low) in
              free_bit n m agrees w i low (omega (arith, e, under, fits)) ∙ ap (λ g. is_free (m (Refs g))) (sym e) ∙ free f under

      tried_none : (vs us : List Visit) (b : Bool) → FullBy (block * words) words b vs → TriedWhere b size (block * size) None us → Seen m vs → Seen m us → (ref_looks us ≡ 0) × (IsWhollyFree m size (block * size) → ⊥)
      tried_none vs us true full tried seen see = absurd (tried_taken m size (block * size) us tried see (full_free vs full seen))
      tried_none vs us false full tried seen see = (looks_none m us tried.1, not_full_free vs full seen)

      tried_some : (us : List Visit) (b : Bool) (c : FreeBlock) → TriedWhere b size (block * size) (Some c) us → Seen m us → (ref_looks us ≡ size) × IsHere n m size (block * size) c
      tried_some us true c tried see = (looks_tried m size (block * size) c us tried, record { first = tried.0; inside = fits; whole = tried_free m size (block * size) c us tried see })
      tried_some us false c tried see = absurd (let no = tried.0 in cc)

      run_fails : (us : List Visit) → RunBy words block None us → Seen m us → (ref_looks us ≡ 0) × (IsWhollyFree m size (block * size) → ⊥)
      run_fails us t seen =
          let seens = seen_parts m us t.1.before t.1.after t.1.list seen in
          let rest = tried_none t.1.before t.1.after t.0 t.1.first t.1.next seens.0 seens.1 in
          let one = full_looks (block * words) words t.0 t.1.before t.1.first in
          let all = looks_then m (FullBy (block * words) words t.0) (λ ws. TriedWhere t.0 size (block * size) None ws) us t.1 in
          let none = rest.0 in
          (omega (arith, one, all, none), rest.1)

      run_had : (b : FreeBlock) (us : List Visit) → RunBy words block (Some b) us → Seen m us → (ref_looks us ≡ size) × IsHere n m size (block * size) b
      run_had b us t seen =
          let seens = seen_parts m us t.1.before t.1.after t.1.list seen in
          let rest = tried_some t.1.after t.0 b t.1.next seens.1 in
          let one = full_looks (block * words) words t.0 t.1.before t.1.first in
          let all = looks_then m (FullBy (block * words) words t.0) (λ ws. TriedWhere t.0 size (block * size) (Some b) ws) us t.1 in
          let k_is = rest.0 in
          (omega (arith, one, all, k_is), rest.1)

    fits_by : (block : ℕ) → block < n.frames / size → block * size + size ≤ n.frames
    fits_by block low = block_fits block n.frames size some low

    within : (block : ℕ) → block * size + size ≤ n.frames → block < n.frames / size
    within block fits =
        let e : (block + 1) * size ≡ block * size + size = grind arith in
        let low = (le-div_iff_mul-le {k = size} {x = block + 1} {y = n.frames} some).1 (omega (arith, e, fits)) in
        omega (arith, low)

    abbrev NotFree : ℕ → Type 0
    NotFree block = IsWhollyFree m size (block * size) → ⊥

    runs_fail : (vs : List Visit) → FirstOf (RunBy words) (n.frames / size) None vs → Seen m vs → (ref_looks vs ≡ 0) × ((b : ℕ) → b * size + size ≤ n.frames → NotFree b)
    runs_fail vs t seen =
        let all = firsts_fail m size (n.frames / size) (RunBy words) NotFree (λ b c. IsHere n m size (b * size) c) (λ b low us s see. run_fails b (fits_by b low) us s see) (λ b low c us s see. run_had b (fits_by b low) c us s see) vs t seen in
        (all.0, λ b fits. all.1 b (within b fits))

    runs_had : (c : FreeBlock) (vs : List Visit) → FirstOf (RunBy words) (n.frames / size) (Some c) vs → Seen m vs → (ref_looks vs ≡ size) × IsFirstFree n m size c.first
    runs_had c vs t seen =
        let all = firsts_had m size (n.frames / size) (RunBy words) NotFree (λ b c. IsHere n m size (b * size) c) (λ b low us s see. run_fails b (fits_by b low) us s see) (λ b low c us s see. run_had b (fits_by b low) c us s see) c vs t seen in
        let i = all.1.0 in
        let h = all.1.2 in (
          all.0,
          record {
            aligned = subst (λ f. f % size ≡ 0) (sym h.first) (block_aligned i size some);
            inside = subst (λ f. f + size ≤ n.frames) (sym h.first) h.inside;
            whole = subst (IsWhollyFree m size) (sym h.first) h.whole;
            least = λ b less. all.1.3 b (lower b i (subst (λ f. b * size < f) h.first less));
          },
        )
      where
        lower : (b i : ℕ) → b * size < i * size → b < i
        lower b i less = grind (arith, less)

  -- ---- the choice
  module _ (k : ℕ) (size : IsBlockSize k) where
    abbrev NoBlock : Type 0
    NoBlock = (b : ℕ) → b * k + k ≤ n.frames → IsWhollyFree m k (b * k) → ⊥

    -- with the size as the runs have it
    as_runs : (o : Option FreeBlock) (vs : List Visit) → 64 < k → FirstOf (RunBy (k / 64)) (n.frames / k) o vs → FirstOf (RunBy (k / 64)) (n.frames / (64 * (k / 64))) o vs
    as_runs o vs many t = subst (λ j. FirstOf (RunBy (k / 64)) (n.frames / j) o vs) (sym (size.whole many)) t

    some_runs : 64 < k → 0 < 64 * (k / 64)
    some_runs many = let e = size.whole many in omega (arith, e, many)

    pub hinted_fails : (vs : List Visit) → HintedBy n k None vs → Seen m vs → (ref_looks vs ≡ 0) × NoBlock
    hinted_fails vs (inl t) seen = words_fail n m agrees k size.some t.0 (size.parts t.0) vs t.1 seen
    hinted_fails vs (inr t) seen =
        subst (λ j. (ref_looks vs ≡ 0) × ((b : ℕ) → b * j + j ≤ n.frames → IsWhollyFree m j (b * j) → ⊥)) (size.whole t.0) (runs_fail (k / 64) (some_runs t.0) vs (as_runs None vs t.0 t.1) seen)

    pub hinted_had : (c : FreeBlock) (vs : List Visit) → HintedBy n k (Some c) vs → Seen m vs → (ref_looks vs ≡ k) × IsFirstFree n m k c.first
    hinted_had c vs (inl t) seen = words_had n m agrees k size.some t.0 (size.parts t.0) c vs t.1 seen
    hinted_had c vs (inr t) seen =
        subst (λ j. (ref_looks vs ≡ j) × IsFirstFree n m j c.first) (size.whole t.0) (runs_had (k / 64) (some_runs t.0) c vs (as_runs (Some c) vs t.0 t.1) seen)

    pub chosen_fails : (vs : List Visit) → ChosenBy n k None vs → Seen m vs → NoBlock
    chosen_fails vs t seen = (hinted_fails t.before t.first (seen_parts m vs t.before t.after t.list seen).0).1

    pub chosen_had : (c : FreeBlock) (vs : List Visit) → ChosenBy n k (Some c) vs → Seen m vs → (ref_looks vs ≡ k) × IsFirstFree n m k c.first
    chosen_had c vs (inl t) seen = hinted_had c vs t seen
    chosen_had c vs (inr t) seen =
        let seens = seen_parts m vs t.before t.after t.list seen in
        let none = (hinted_fails t.before t.first seens.0).1 in
        let i = t.next.0 in
        let here = (seen_parts m t.after t.next.2.before t.next.2.after t.next.2.list seens.1).1 in
        absurd (none i (block_fits i n.frames k size.some t.next.1) (tried_free m k (i * k) c t.next.2.after t.next.2.next here))
