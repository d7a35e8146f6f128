-- The block that is chosen, with its stamps, is determined by the words that are found.
use Rattle.std.proofs.Common.{◌≡◌, ◌≢◌, ℕ, ◌+◌, ◌-◌, ◌*◌, ◌/◌, ◌^◌, ◌<◌, ◌≤◌, ◌&&◌, nat_le, Bool, true, false, List, length, slice_index, Option, Some, None, refl, sym, ap, ◌∙◌, subst, inl, inr, arith}
use Rattle.std.proofs.lemmas.Grind.{same_number_lists}
use Rattle.xp_words.specs.Machine.{Machine}
use Rattle.xp_words.specs.Places.{map_words, sizes_of}
use Rattle.xp_words.specs.declared.place.Place.TheVariants.{Map, Refs}
use Rattle.xp_board.specs.Readings.{is_free}
use Rattle.xp_board.specs.declared.step.Act.TheVariants.{Load}
use Rattle.step_maker.specs.Visits.{Only, Visit}
use Rattle.frame_claims.specs.Found.{AllFree, BlockBy, ChosenBy, FirstOf, FreeAt, FreeBlock, FullBy, HintedBy, InWordBy, PassBy, RunBy, SawFree, SawFull, SawTaken, ScannedBy, TriedBy, TriedWhere, Upwards, WordBy, are_set, saw_map, saw_refs}
use Rattle.determined_laws.specs.Forks.{Tie}
use Rattle.determined_laws.proofs.Ties.{tie_map}
use Rattle.determined_tables.proofs.Chains.{unit_same}
use Rattle.determined_tables.proofs.Entries.{NoMore, Parted, alone, none_tie, parted_tie}
use Rattle.determined_claims.proofs.Lists.{Until, both_tie, first_of_tie, halted, through, until_tie, upwards_as}
use Rattle.determined_claims.proofs.Parts.{either_tie, only_tie}

-- ---- the frames of one block
abbrev Free : ℕ → ℕ → Option (Unit {0}) → List Visit → Type 0
Free f j None vs = SawFree (f + j) vs
Free f j (Some t) vs = SawTaken (f + j) vs

refs_tie : (f x y : ℕ) (us vs : List Visit) → Only (saw_refs f x) us → Only (saw_refs f y) vs → Tie us vs (x ≡ y)
refs_tie f x y us vs p q = only_tie (Refs f) Load x y us vs p q

not_both : (x y : ℕ) → is_free x ≡ true → is_free y ≡ false → x ≡ y → ⊥
not_both x y e f s = let t : true ≡ false = sym e ∙ (ap (λ z. is_free z) s ∙ f) in cc

free_tie : (f j : ℕ) (o p : Option (Unit {0})) (us vs : List Visit) → Free f j o us → Free f j p vs → Tie us vs (o ≡ p)
free_tie f j None None us vs p q = tie_map us vs _ _ (refs_tie (f + j) p.0 q.0 us vs p.2 q.2) (λ e. refl)
free_tie f j None (Some t) us vs p q = tie_map us vs _ _ (refs_tie (f + j) p.0 q.0 us vs p.2 q.2) (λ e. absurd (not_both p.0 q.0 p.1 q.1 e))
free_tie f j (Some s) None us vs p q = tie_map us vs _ _ (refs_tie (f + j) p.0 q.0 us vs p.2 q.2) (λ e. absurd (not_both q.0 p.0 q.1 p.1 (sym e)))
free_tie f j (Some s) (Some t) us vs p q = tie_map us vs _ _ (refs_tie (f + j) p.0 q.0 us vs p.2 q.2) (λ e. ap (λ z. Some z) (unit_same s t))

-- with their stamps
stamped_tie : (f : ℕ) (ss ts : List ℕ) (j : ℕ) (us vs : List Visit) → FreeAt f ss j us → FreeAt f ts j vs → Tie us vs (slice_index ss j ≡ slice_index ts j)
stamped_tie f ss ts j us vs p q = refs_tie (f + j) (slice_index ss j) (slice_index ts j) us vs p.1 q.1

all_free_tie : (f : ℕ) (ss ts : List ℕ) → length ss ≡ length ts → (us vs : List Visit) → AllFree f ss us → AllFree f ts vs → Tie us vs (ss ≡ ts)
all_free_tie f ss ts e us vs p q =
    tie_map us vs _ _ (both_tie (FreeAt f ss) (FreeAt f ts) (λ j. slice_index ss j ≡ slice_index ts j) (stamped_tie f ss ts) 0 (length ss) (length ts) us vs p q e)
    (λ each. same_number_lists ss ts e (λ j low. each j (omega arith) low))

block_same : (b c : FreeBlock) → b.first ≡ c.first → b.stamps ≡ c.stamps → b ≡ c
block_same b c e f = ap (λ z. record { first = z; stamps = b.stamps }) e ∙ ap (λ z. record { first = c.first; stamps = z }) f

module _ (k f : ℕ) where
  abbrev Looks : List Visit → ℕ × Option (Unit {0}) → Type 0
  Looks vs z = Until (Free f) 0 k vs z

  looks_tie : (z y : ℕ × Option (Unit {0})) (us vs : List Visit) → Looks us z → Looks vs y → Tie us vs (z ≡ y)
  looks_tie z y us vs p q = until_tie (Free f) (free_tie f) 0 k z y us vs p q

  all_looks : (b : FreeBlock) (vs : List Visit) → TriedBy k f (Some b) vs → Looks vs (k, None)
  all_looks b vs p = through (subst (λ n. Upwards (λ j us. SawFree (f + j) us) 0 n vs) p.1 (upwards_as (FreeAt f b.stamps) (λ j us. SawFree (f + j) us) (λ j us s. (slice_index b.stamps j, s.0, s.1)) 0 (length b.stamps) vs p.2))

  some_looks : (vs : List Visit) (p : TriedBy k f None vs) → Looks vs (p.0, Some tt)
  some_looks vs p = halted p.0 tt p.1 p.2

  pub tried_tie : (o p : Option FreeBlock) (us vs : List Visit) → TriedBy k f o us → TriedBy k f p vs → Tie us vs (o ≡ p)
  tried_tie (Some b) (Some c) us vs p q =
      tie_map us vs _ _ (all_free_tie f b.stamps c.stamps (p.1 ∙ sym q.1) us vs p.2 q.2) (λ e. ap (λ z. Some z) (block_same b c (p.0 ∙ sym q.0) e))
  tried_tie (Some b) None us vs p q = tie_map us vs _ _ (looks_tie (k, None) (q.0, Some tt) us vs (all_looks b us p) (some_looks vs q)) (λ e. absurd (let t = ap (λ z. z.1) e in cc))
  tried_tie None (Some c) us vs p q = tie_map us vs _ _ (looks_tie (p.0, Some tt) (k, None) us vs (some_looks us p) (all_looks c vs q)) (λ e. absurd (let t = ap (λ z. z.1) e in cc))
  tried_tie None None us vs p q = tie_map us vs _ _ (looks_tie (p.0, Some tt) (q.0, Some tt) us vs (some_looks us p) (some_looks vs q)) (λ e. refl)

where_tie : (b : Bool) (k f : ℕ) (o p : Option FreeBlock) (us vs : List Visit) → TriedWhere b k f o us → TriedWhere b k f p vs → Tie us vs (o ≡ p)
where_tie true k f o p us vs q r = tried_tie k f o p us vs q r
where_tie false k f o p us vs q r = none_tie None o p us vs q r

-- ---- by the map of free frames
map_tie : (word x y : ℕ) (us vs : List Visit) → Only (saw_map word x) us → Only (saw_map word y) vs → Tie us vs (x ≡ y)
map_tie word x y us vs p q = only_tie (Map word) Load x y us vs p q

-- words, of which not all bits are set in one
abbrev Full : ℕ → Option (Unit {0}) → List Visit → Type 0
Full word None vs = SawFull word vs
Full word (Some t) vs = (x : ℕ) × (x ≢ 2 ^ 64 - 1) × Only (saw_map word x) vs

all_tie : (word : ℕ) (o p : Option (Unit {0})) (us vs : List Visit) → Full word o us → Full word p vs → Tie us vs (o ≡ p)
all_tie word None None us vs p q = tie_map us vs _ _ (map_tie word (2 ^ 64 - 1) (2 ^ 64 - 1) us vs p q) (λ e. refl)
all_tie word None (Some t) us vs p q = tie_map us vs _ _ (map_tie word (2 ^ 64 - 1) q.0 us vs p q.2) (λ e. absurd (q.1 (sym e)))
all_tie word (Some s) None us vs p q = tie_map us vs _ _ (map_tie word p.0 (2 ^ 64 - 1) us vs p.2 q) (λ e. absurd (p.1 e))
all_tie word (Some s) (Some t) us vs p q = tie_map us vs _ _ (map_tie word p.0 q.0 us vs p.2 q.2) (λ e. ap (λ z. Some z) (unit_same s t))

abbrev is_full : Option (Unit {0}) → Bool
is_full None = true
is_full (Some t) = false

module _ (first count : ℕ) where
  full_until : (b : Bool) (vs : List Visit) → FullBy first count b vs → (z : ℕ × Option (Unit {0})) × (b ≡ is_full z.1) × Until Full first (first + count) vs z
  full_until true vs p = ((first + count, None), refl, through p)
  full_until false vs p = ((p.0, Some tt), refl, halted p.0 tt p.2 p.3)

  full_tie : (b c : Bool) (us vs : List Visit) → FullBy first count b us → FullBy first count c vs → Tie us vs (b ≡ c)
  full_tie b c us vs p q =
      let s = full_until b us p in
      let t = full_until c vs q in
      tie_map us vs _ _ (until_tie Full all_tie first (first + count) s.0 t.0 us vs s.2 t.2) (λ e. s.1 ∙ (ap (λ z. is_full z.1) e ∙ sym t.1))

run_tie : (words block : ℕ) (o p : Option FreeBlock) (us vs : List Visit) → RunBy words block o us → RunBy words block p vs → Tie us vs (o ≡ p)
run_tie words block o p us vs q r =
    parted_tie {First = λ full us. FullBy (block * words) words full us} {Rest = λ full o us. TriedWhere full (64 * words) (block * (64 * words)) o us} (full_tie (block * words) words) (λ full. where_tie full (64 * words) (block * (64 * words))) o p us vs (record { answer = q.0; parts = q.1 }) (record { answer = r.0; parts = r.1 })

module _ (n : Machine) (k : ℕ) where
  block_tie : (word x at : ℕ) (o p : Option FreeBlock) (us vs : List Visit) → BlockBy n k word x at o us → BlockBy n k word x at p vs → Tie us vs (o ≡ p)
  block_tie word x at o p us vs q r = where_tie (are_set k (k * at) x && nat_le (64 * word + k * at + k) n.frames) k (64 * word + k * at) o p us vs q r

  in_word_tie : (word x : ℕ) (o p : Option FreeBlock) (us vs : List Visit) → InWordBy n k word x o us → InWordBy n k word x p vs → Tie us vs (o ≡ p)
  in_word_tie word x o p us vs q r = first_of_tie (BlockBy n k word x) (block_tie word x) (64 / k) o p us vs q r

  word_tie : (word : ℕ) (o p : Option FreeBlock) (us vs : List Visit) → WordBy n k word o us → WordBy n k word p vs → Tie us vs (o ≡ p)
  word_tie word o p us vs q r =
      parted_tie {First = λ x us. Only (saw_map word x) us} {Rest = λ x o us. InWordBy n k word x o us} (map_tie word) (in_word_tie word) o p us vs (record { answer = q.0; parts = q.1 }) (record { answer = r.0; parts = r.1 })

  -- the side is known
  pub hinted_tie : (o p : Option FreeBlock) (us vs : List Visit) → HintedBy n k o us → HintedBy n k p vs → Tie us vs (o ≡ p)
  hinted_tie o p us vs q r =
      either_tie {P = k ≤ 64} {Q = 64 < k} {C = λ o us. FirstOf (WordBy n k) (map_words (sizes_of n)) o us} {D = λ o us. FirstOf (RunBy (k / 64)) (n.frames / k) o us} (λ low high. omega (arith, low, high))
      (first_of_tie (WordBy n k) word_tie (map_words (sizes_of n))) (first_of_tie (RunBy (k / 64)) (run_tie (k / 64)) (n.frames / k)) o p us vs q r

  -- ---- by the reference words alone, where the map has none
  scanned_tie : (o p : Option FreeBlock) (us vs : List Visit) → ScannedBy n k o us → ScannedBy n k p vs → Tie us vs (o ≡ p)
  scanned_tie o p us vs q r = first_of_tie (PassBy k) (λ block. tried_tie k (block * k)) (n.frames / k) o p us vs q r

  abbrev Scans : Option FreeBlock → Option FreeBlock → List Visit → Type 0
  Scans (Some b) o vs = NoMore (Some b) o vs
  Scans None o vs = ScannedBy n k o vs

  scans_tie : (h o p : Option FreeBlock) (us vs : List Visit) → Scans h o us → Scans h p vs → Tie us vs (o ≡ p)
  scans_tie (Some b) o p us vs q r = none_tie (Some b) o p us vs q r
  scans_tie None o p us vs q r = scanned_tie o p us vs q r

  chosen_view : (o : Option FreeBlock) (vs : List Visit) → ChosenBy n k o vs → Parted (HintedBy n k) Scans o vs
  chosen_view (Some b) vs (inl p) = record { answer = Some b; parts = alone p (refl, refl) }
  chosen_view (Some b) vs (inr p) = record { answer = None; parts = p }
  chosen_view None vs p = record { answer = None; parts = p }

  pub chosen_tie : (o p : Option FreeBlock) (us vs : List Visit) → ChosenBy n k o us → ChosenBy n k p vs → Tie us vs (o ≡ p)
  chosen_tie o p us vs q r = parted_tie hinted_tie scans_tie o p us vs (chosen_view o us q) (chosen_view p vs r)
