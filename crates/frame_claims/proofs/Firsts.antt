-- The first block that is wholly free: by words of the map, by runs of words, by the reference words.
use Rattle.std.proofs.Common.{◌≡◌, ℕ, zero, suc, ◌+◌, ◌-◌, ◌*◌, ◌/◌, ◌%◌, ◌<◌, ◌≤◌, ◌⊎◌, List, Option, Some, None, sym, ap, ◌∙◌, subst, inl, inr, arith}
use Rattle.std.proofs.Math.Nat.{div-add-mod, le-div_iff_mul-le, mod-lt, mul_comm}
use Rattle.std.proofs.lemmas.Bool.{cases_order}
use Rattle.xp_words.specs.Machine.{Machine}
use Rattle.xp_words.specs.Places.{map_words, sizes_of}
use Rattle.step_maker.specs.Plain.{Words}
use Rattle.step_maker.specs.Visits.{Visit, Only}
use Rattle.frame_claims.specs.Found as founds
use Rattle.frame_claims.specs.Found.{BlockBy, ChosenBy, FirstOf, FreeBlock, FullBy, HintedBy, InWordBy, PassBy, RunBy, ScannedBy, SawFull, TriedBy, TriedWhere, Upwards, WordBy, saw_map}
use Rattle.frame_claims.specs.Plain.{IsFirstFree, IsWhollyFree, MapAgrees, ref_looks}
use Rattle.frame_claims.proofs.Finding.{bits_aligned, block_fits}
use Rattle.frame_claims.proofs.Hinting.{IsHere, Seen, block_none, block_some, looks_none, looks_then, seen_one, seen_parts}
use Rattle.frame_claims.proofs.Telling.{looks_append}

-- ---- the first of several
module _ (m : Words) (k n : ℕ) (P : ℕ → Option FreeBlock → List Visit → Type 0) (C : ℕ → Type 0) (D : ℕ → FreeBlock → Type 0)
    (fails : (i : ℕ) → i < n → (us : List Visit) → P i None us → Seen m us → (ref_looks us ≡ 0) × C i)
    (had : (i : ℕ) → i < n → (b : FreeBlock) (us : List Visit) → P i (Some b) us → Seen m us → (ref_looks us ≡ k) × D i b) where
  ups : (i : ℕ) → i ≤ n → (vs : List Visit) → Upwards (λ j us. P j None us) 0 i vs → Seen m vs → (ref_looks vs ≡ 0) × ((j : ℕ) → j < i → C j)
  ups _ low vs (founds.Upwards.starts _ is) seen = (looks_none m vs is, λ j l. absurd (omega (arith, l)))
  ups _ low vs (founds.Upwards.goes_up i before now _ earlier here is) seen =
      let parts = seen_parts m vs before now is seen in
      let rest = ups i (omega (arith, low)) before earlier parts.0 in
      let one = fails i (omega (arith, low)) now here parts.1 in
      let no = rest.0 in
      let none = one.0 in
      let all = ap ref_looks is ∙ looks_append before now in
      (omega (arith, no, none, all), λ j l. pick j l rest.1 one.1)
    where
      below_or : (j h : ℕ) → j < h + 1 → (j < h) ⊎ (j ≡ h)
      below_or j h l = grind arith

      pick : (j : ℕ) → j < i + 1 → ((h : ℕ) → h < i → C h) → C i → C j
      pick j l others c = elim (below_or j i l) [ inl under ↦ others j under | inr at ↦ subst C (sym at) c ]

  pub firsts_fail : (vs : List Visit) → FirstOf P n None vs → Seen m vs → (ref_looks vs ≡ 0) × ((j : ℕ) → j < n → C j)
  firsts_fail vs t seen = ups n (omega arith) vs t seen

  pub firsts_had : (b : FreeBlock) (vs : List Visit) → FirstOf P n (Some b) vs → Seen m vs → (ref_looks vs ≡ k) × ((i : ℕ) × (i < n) × D i b × ((j : ℕ) → j < i → C j))
  firsts_had b vs t seen =
      let i = t.0 in
      let low = t.1 in
      let parts = seen_parts m vs t.2.before t.2.after t.2.list seen in
      let rest = ups i (omega (arith, low)) t.2.before t.2.first parts.0 in
      let one = had i low b t.2.after t.2.next parts.1 in
      let no = rest.0 in
      let all = looks_then m (Upwards (λ j us. P j None us) 0 i) (P i (Some b)) vs t.2 in
      let k_is = one.0 in
      (omega (arith, no, all, k_is), (i, low, one.1, rest.1))

-- the number of a block in its word
in_word : (k b : ℕ) → 0 < k → k * (64 / k) ≡ 64 → 64 * (b / (64 / k)) + k * (b % (64 / k)) ≡ b * k
in_word k b some whole =
    let q = 64 / k in
    let all : q * (b / q) + b % q ≡ b = div-add-mod b q in
    let more : k * q * (b / q) ≡ 64 * (b / q) = ap (λ y. y * (b / q)) whole in
    let e : k * q * (b / q) + k * (b % q) ≡ k * (q * (b / q) + b % q) = grind arith in
    let t : k * b ≡ b * k = mul_comm k b in
    let s : k * (q * (b / q) + b % q) ≡ k * b = ap (λ y. k * y) all in
    omega (arith, more, e, t, s)

module _ (n : Machine) (m : Words) (agrees : MapAgrees n m) (k : ℕ) (some : 0 < k) where
  -- ---- words of the map
  module _ (few : k ≤ 64) (parts : 64 % k ≡ 0) where
    whole : k * (64 / k) ≡ 64
    whole = let all = div-add-mod 64 k in omega (arith, all, parts)

    room : (at : ℕ) → at < 64 / k → k * at + k ≤ 64
    room at low = let fits = block_fits at 64 k some low in let e = mul_comm k at in omega (arith, fits, e)

    abbrev NotAt : ℕ → ℕ → Type 0
    NotAt w at = 64 * w + k * at + k ≤ n.frames → IsWhollyFree m k (64 * w + k * at) → ⊥

    abbrev NotIn : ℕ → Type 0
    NotIn w = (at : ℕ) → at < 64 / k → NotAt w at

    record FreeIn (w : ℕ) (b : FreeBlock) : Type 0 where
      at : ℕ
      low : at < 64 / k
      block : IsHere n m k (64 * w + k * at) b
      before : (j : ℕ) → j < at → NotAt w j

    word_fails : (w : ℕ) (us : List Visit) → WordBy n k w None us → Seen m us → (ref_looks us ≡ 0) × NotIn w
    word_fails w us t seen =
        let seens = seen_parts m us t.1.before t.1.after t.1.list seen in
        let is = seen_one m t.1.before (saw_map w t.0) t.1.first seens.0 in
        let rest = firsts_fail m k (64 / k) (BlockBy n k w t.0) (NotAt w) (λ at c. IsHere n m k (64 * w + k * at) c) (λ at low ws s see. block_none n m agrees k w at some (room at low) t.0 ws is s see)
        (λ at low b ws s see. block_some n m agrees k w at some (room at low) t.0 ws b is s see) t.1.after t.1.next seens.1 in
        let one : ref_looks t.1.before ≡ 0 = ap ref_looks t.1.first in
        let all = looks_then m (Only (saw_map w t.0)) (λ ws. InWordBy n k w t.0 None ws) us t.1 in
        let none = rest.0 in
        (omega (arith, one, all, none), rest.1)

    word_had : (w : ℕ) (b : FreeBlock) (us : List Visit) → WordBy n k w (Some b) us → Seen m us → (ref_looks us ≡ k) × FreeIn w b
    word_had w b us t seen =
        let seens = seen_parts m us t.1.before t.1.after t.1.list seen in
        let is = seen_one m t.1.before (saw_map w t.0) t.1.first seens.0 in
        let rest = firsts_had m k (64 / k) (BlockBy n k w t.0) (NotAt w) (λ at c. IsHere n m k (64 * w + k * at) c) (λ at low ws s see. block_none n m agrees k w at some (room at low) t.0 ws is s see)
        (λ at low c ws s see. block_some n m agrees k w at some (room at low) t.0 ws c is s see) b t.1.after t.1.next seens.1 in
        let one : ref_looks t.1.before ≡ 0 = ap ref_looks t.1.first in
        let all = looks_then m (Only (saw_map w t.0)) (λ ws. InWordBy n k w t.0 (Some b) ws) us t.1 in
        let k_is = rest.0 in
        (omega (arith, one, all, k_is), record { at = rest.1.0; low = rest.1.1; block = rest.1.2; before = rest.1.3 })

    -- a block with its word, and its number in it
    here : (b : ℕ) → 64 * (b / (64 / k)) + k * (b % (64 / k)) ≡ b * k
    here b = in_word k b some whole

    q_some : 0 < 64 / k
    q_some = let e = whole in zero_or (64 / k) e
      where
        zero_or : (q : ℕ) → k * q ≡ 64 → 0 < q
        zero_or zero e = absurd (let z : k * 0 ≡ 0 = omega arith in omega (arith, e, z))
        zero_or (suc q) e = omega arith

    pub words_fail : (vs : List Visit) → FirstOf (WordBy n k) (map_words (sizes_of n)) None vs → Seen m vs → (ref_looks vs ≡ 0) × ((b : ℕ) → b * k + k ≤ n.frames → IsWhollyFree m k (b * k) → ⊥)
    words_fail vs t seen =
        let all = firsts_fail m k (map_words (sizes_of n)) (WordBy n k) NotIn FreeIn (λ w low us s see. word_fails w us s see) (λ w low b us s see. word_had w b us s see) vs t seen in (
          all.0,
          λ b fits free.
              (let w = b / (64 / k) in
              let at = b % (64 / k) in
              all.1 w (word_there b fits) at (mod-lt b q_some) (subst (λ f. f + k ≤ n.frames) (sym (here b)) fits) (subst (IsWhollyFree m k) (sym (here b)) free)),
        )
      where
        word_there : (b : ℕ) → b * k + k ≤ n.frames → b / (64 / k) < map_words (sizes_of n)
        word_there b fits =
            let is = here b in
            let low : (b / (64 / k) + 1) * 64 ≤ n.frames + 63 = omega (arith, is, fits, some) in
            let under = (le-div_iff_mul-le {k = 64} {x = b / (64 / k) + 1} {y = n.frames + 63} (omega arith)).1 low in
            omega (arith, under)

    pub words_had : (b : FreeBlock) (vs : List Visit) → FirstOf (WordBy n k) (map_words (sizes_of n)) (Some b) vs → Seen m vs → (ref_looks vs ≡ k) × IsFirstFree n m k b.first
    words_had b vs t seen =
        let all = firsts_had m k (map_words (sizes_of n)) (WordBy n k) NotIn FreeIn (λ w low us s see. word_fails w us s see) (λ w low c us s see. word_had w c us s see) b vs t seen in
        let w = all.1.0 in
        let found = all.1.2 in
        let is = found.block.first in (
          all.0,
          record {
            aligned = subst (λ f. f % k ≡ 0) (sym is) (bits_aligned w found.at k some parts);
            inside = subst (λ f. f + k ≤ n.frames) (sym is) found.block.inside;
            whole = subst (IsWhollyFree m k) (sym is) found.block.whole;
            least = λ j less free. below_it w found.at found.low found.block.inside found.before all.1.3 j (subst (λ f. j * k < f) is less) free;
          },
        )
      where
        smaller : (a c : ℕ) → k * a < k * c → a < c
        smaller a c less =
            elim (cases_order a c) [
              | inl at ↦ absurd (let e = ap (λ y. k * y) at in omega (arith, e, less))
              | inr (inl under) ↦ under
              | inr (inr over) ↦ absurd (let e : k * a ≡ k * c + k * (a - c) = more a c over in omega (arith, e, less))
            ]
          where
            more : (a c : ℕ) → c < a → k * a ≡ k * c + k * (a - c)
            more a c over = let e : a ≡ c + (a - c) = omega (arith, over) in ap (λ y. k * y) e ∙ grind arith

        below_it : (w at : ℕ) → at < 64 / k → 64 * w + k * at + k ≤ n.frames → ((j : ℕ) → j < at → NotAt w j) → ((j : ℕ) → j < w → NotIn j) → (j : ℕ) → j * k < 64 * w + k * at → IsWhollyFree m k (j * k) → ⊥
        below_it w at low inside before words j less free =
            let v = j / (64 / k) in
            let i = j % (64 / k) in
            let is = here j in
            let fits : 64 * v + k * i + k ≤ n.frames = omega (arith, is, less, inside) in
            let whole_free = subst (IsWhollyFree m k) (sym is) free in
            let narrow = room at low in
            elim (cases_order v w) [
              | inl same ↦
                  (let less_here : k * i < k * at = (let e = ap (λ y. 64 * y) same in omega (arith, is, less, e)) in
                  before i (smaller i at less_here) (subst (λ y. 64 * y + k * i + k ≤ n.frames) same fits) (subst (λ y. IsWhollyFree m k (64 * y + k * i)) same whole_free))
              | inr (inl under) ↦ words v under i (mod-lt j q_some) fits whole_free
              | inr (inr over) ↦ omega (arith, is, less, over, narrow)
            ]
