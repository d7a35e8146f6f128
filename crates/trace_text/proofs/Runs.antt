-- Frames that are taken, and runs of frames that are apart.
use Rattle.std.proofs.Common.{◌≡◌, ℕ, ◌+◌, ◌-◌, ◌<◌, ◌≤◌, ◌||◌, ◌&&◌, not, nat_le, nat_lt, max, List, [], ◌∷◌, ◌++◌, length, drop, get_or, slice_index_or, slice_range, Bool, true, false, IsTrue, refl, ap, ◌∙◌, arith}
use Rattle.std.specs.List.{list_all, list_any, All, AllPairs, AllPass}
use Rattle.std.proofs.lemmas.List.Sums.{list_all-from_AllPass, AllPass-from_list_all}
use Rattle.std.proofs.lemmas.List.Folds.{list_any_none, list_any_at}
use Rattle.std.proofs.lemmas.List.Quantifiers.{all_pairs_push}
use Rattle.std.proofs.lemmas.List.{get_or-drop, get_or-take, get_or_default}
use Rattle.std.proofs.lemmas.Grind.{common_steps}
use Rattle.trace_text.specs.declared.trace.Own.{Own}
use Rattle.trace_text.specs.Counted.{is_apart, has_frame}
use Rattle.xp_words.proofs.Shared.{same_truth as both_ways}

-- a frame that two runs that are not apart both have
shared : (a b : Own) → 1 ≤ a.count → 1 ≤ b.count → is_apart a b ≡ false → (k : ℕ) × (has_frame k a ≡ true) × (has_frame k b ≡ true)
shared a b some_a some_b together = (max a.first b.first, grind (arith, common_steps), grind (arith, common_steps))

not_both : (a b : Own) (k : ℕ) → is_apart a b ≡ true → has_frame k a ≡ true → has_frame k b ≡ false
not_both a b k apart has = grind (arith, common_steps)

at_range : (taken : List Bool) (first count k : ℕ) (d : Bool) → k < count → get_or (slice_range taken first (first + count)) k d ≡ get_or taken (first + k) d
at_range taken first count k d within =
    get_or-take (first + count - first) (drop first taken) k d (omega arith) ∙ get_or-drop first taken k d

-- what is kept of the frames that are taken
pub record AreTaken (taken : List Bool) (owned : List Own) : Type 0 where
  pub are : (k : ℕ) → k < length taken → slice_index_or taken k false ≡ list_any (has_frame k) owned
  pub some : All (λ a. 1 ≤ a.count) owned

range_length : (taken : List Bool) (first count : ℕ) → first + count ≤ length taken → length (slice_range taken first (first + count)) ≡ count
range_length taken first count inside = grind (arith, common_steps)

-- a frame of the run is not taken
free_frame : (taken : List Bool) (o : Own) (k : ℕ) → o.first + o.count ≤ length taken → AllPass not (slice_range taken o.first (o.first + o.count)) → has_frame k o ≡ true → get_or taken k false ≡ false
free_frame taken o k inside free has =
    let from : o.first ≤ k = grind (arith, common_steps) in
    let until : k < o.first + o.count = grind (arith, common_steps) in
    let there : o.first + (k - o.first) ≡ k = omega arith in
    let is = free (k - o.first) false (omega (arith, range_length taken o.first o.count inside)) in
    let reads = at_range taken o.first o.count (k - o.first) false (omega arith) in
    let reads_k : get_or (slice_range taken o.first (o.first + o.count)) (k - o.first) false ≡ get_or taken k false = rw there at reads in
    grind (arith, common_steps)

pick : (a b : Own) → 1 ≤ a.count → 1 ≤ b.count → ((k : ℕ) → has_frame k a ≡ true → has_frame k b ≡ true → ⊥) → (t : Bool) → is_apart a b ≡ t → t ≡ true
pick a b some_a some_b never true is = refl
pick a b some_a some_b never false is = let k = shared a b some_a some_b is in absurd (never k.0 k.1 k.2)

is_apart_at : (taken : List Bool) (owned : List Own) (o : Own) → AreTaken taken owned → 1 ≤ o.count → o.first + o.count ≤ length taken → AllPass not (slice_range taken o.first (o.first + o.count)) → (j : ℕ) (d : Own) → j < length owned → is_apart o (get_or owned j d) ≡ true
is_apart_at taken owned o all some inside free j d within =
    pick o (get_or owned j d) some (all.some j d within)
    (λ k has_o has_a.
    let is_taken = list_any_at (has_frame k) owned j d within has_a in
    let is_free = free_frame taken o k inside free has_o in
    let small : k < length taken = grind (arith, common_steps) in
    let told = all.are k small in
    cc)
    (is_apart o (get_or owned j d)) refl

is_free_at : (taken : List Bool) (owned : List Own) (o : Own) → AreTaken taken owned → o.first + o.count ≤ length taken → AllPass (is_apart o) owned → (k : ℕ) (d : Bool) → k < length (slice_range taken o.first (o.first + o.count)) → not (get_or (slice_range taken o.first (o.first + o.count)) k d) ≡ true
is_free_at taken owned o all inside apart k d within =
    let small : k < o.count = omega (arith, range_length taken o.first o.count inside) in
    let has : has_frame (o.first + k) o ≡ true = grind (arith, common_steps) in
    let none : list_any (has_frame (o.first + k)) owned ≡ false = list_any_none (has_frame (o.first + k)) owned (λ j a lt. not_both o (get_or owned j a) (o.first + k) (apart j a lt) has) in
    let told = all.are (o.first + k) (omega arith) in
    let reads = at_range taken o.first o.count k d small in
    ap not (reads ∙ get_or_default taken (o.first + k) d false (omega arith) ∙ told ∙ none)

pub free_is_apart : (taken : List Bool) (owned : List Own) (o : Own) → AreTaken taken owned → 1 ≤ o.count → o.first + o.count ≤ length taken → list_all not (slice_range taken o.first (o.first + o.count)) ≡ list_all (is_apart o) owned
free_is_apart taken owned o all some inside =
    both_ways (list_all not (slice_range taken o.first (o.first + o.count))) (list_all (is_apart o) owned)
    (λ free. list_all-from_AllPass (is_apart o) owned (is_apart_at taken owned o all some inside (AllPass-from_list_all not _ free)))
    (λ apart. list_all-from_AllPass not (slice_range taken o.first (o.first + o.count)) (is_free_at taken owned o all inside (AllPass-from_list_all (is_apart o) owned apart)))

-- one more run that is apart from all before it
pub apart_with : (owned : List Own) (o : Own) → AllPairs (λ a b. IsTrue (is_apart a b)) owned → list_all (is_apart o) owned ≡ true → AllPairs (λ a b. IsTrue (is_apart a b)) (owned ++ o ∷ [])
apart_with owned o apart all =
    all_pairs_push (λ a b. IsTrue (is_apart a b)) owned o apart
    (λ k d lt. let other = AllPass-from_list_all (is_apart o) owned all k d lt in grind (arith, common_steps))

pub taken_with : (owned : List Own) (o : Own) (k : ℕ) (was is : Bool) → was ≡ list_any (has_frame k) owned → is ≡ (was || (nat_le o.first k && nat_lt k (o.first + o.count))) → is ≡ list_any (has_frame k) (owned ++ o ∷ [])
taken_with owned o k was is before now = grind (arith, common_steps)
