use Rattle.std.proofs.Common.{◌≡◌, ◌≢◌, ℕ, zero, suc, ◌+◌, ◌*◌, ◌-◌, ◌^◌, ◌%◌, ◌<◌, ◌≤◌, ◌==◌, ◌&&◌, nat_lt, cond, Bool, true, false, List, [], ◌∷◌, length, get_or, IsTrue, refl, sym, ◌∙◌, ap, arith, if◌then◌else◌, inl, inr, Option, Some, None, find, slice_index, map, reverse, take, ◌++◌, lit<, add-one, pow-suc}
use Rattle.std.proofs.lemmas.Nat.{one_shl}
use Rattle.std.proofs.Math.Nat.{pow-le-pow_right}
use Rattle.std.proofs.lemmas.List.{map-append, reverse-append, take_more}
use Rattle.std.proofs.Math.ListN.{set, length-set}
use Rattle.std.proofs.lemmas.Bool.{cases_eq}
use Rattle.std.proofs.lemmas.Bool.Decides.{nat_tests}
use Rattle.xp_words.specs.declared.place.Place.{Place}
use Rattle.xp_words.specs.declared.place.Place.TheVariants.{Clock, Pages, Vcpu, Refs, M2p, Cell, Map, Priv}
use Rattle.xp_words.specs.Places.{Sizes, is_place, number, memory, size, map_words, flushed_of}
use Rattle.xp_words.proofs.PlaceLaws.{memory_same, memory_other, number-lt}
use Rattle.xp_words.specs.RefWords.{ref_write}
use Rattle.xp_words.specs.declared.refs.RefWord.TheVariants.{Owned}
use Rattle.xp_words.proofs.Shared.{if_or_zero as when_lt}
use Rattle.trace_text.specs.declared.trace.Trace.{Trace}
use Rattle.trace_text.specs.declared.trace.Own.{Own}
use Rattle.trace_text.specs.declared.trace.CellRun.{CellRun}
use Rattle.machine_build.specs.Puts.{with_domains, with_vcpus, with_m2p, with_owned, with_cells, with_map, or_word, or_value, is_zero}
use Rattle.machine_build.specs.Opening.{has_cell, refs_in, bits_below, both_halves}
use Rattle.trace_text.specs.Counted.{pages_of, has_frame}

-- the word of p after a write at q
here : (z : Sizes) (words : List ℕ) (p q : Place) (w : ℕ) → IsTrue (is_place z q) → length words ≡ size z → p ≡ q → memory z (set words (number z q) w) p ≡ w
here z words p q w h l e = rw e (memory_same z words q w h l)

pub put_vcpu : (z : Sizes) (words : List ℕ) (m : Place → ℕ) (v clock : ℕ) → length words ≡ size z → v < z.vcpus → ((p : Place) → memory z words p ≡ with_vcpus v clock m p) →
    (p : Place) → memory z (set words (number z (flushed_of v)) clock) p ≡ with_vcpus (v + 1) clock m p
unfolding with_vcpus is_place
put_vcpu z words m v clock l b h (Vcpu u k) =
    let place : IsTrue (is_place z (flushed_of v)) = grind (arith, nat_tests) in
    let was = h (Vcpu u k) in
    elim (cases_eq u v) [
      | inl e ↦ elim (cases_eq k 5) [
        | inl f ↦ here z words (Vcpu u k) (flushed_of v) clock place l (cc) ∙ grind (arith, nat_tests)
        | inr f ↦ memory_other z words (flushed_of v) (Vcpu u k) clock place (λ s. f (cc)) ∙ was ∙ grind (arith, nat_tests)
      ]
      | inr e ↦ memory_other z words (flushed_of v) (Vcpu u k) clock place (λ s. e (cc)) ∙ was ∙ grind (arith, nat_tests)
    ]
put_vcpu z words m v clock l b h p =
    let place : IsTrue (is_place z (flushed_of v)) = grind (arith, nat_tests) in memory_other z words (flushed_of v) p clock place (λ s. cc) ∙ h p

-- ---- each place that is written is inside the list
pub pages-inside : (z : Sizes) (d : ℕ) → d < z.domains → number z (Pages d) < size z
unfolding is_place
pages-inside z d h = number-lt z (Pages d) (grind (arith, nat_tests))

pub priv-inside : (z : Sizes) (d : ℕ) → d < z.domains → number z (Priv d) < size z
unfolding is_place
priv-inside z d h = number-lt z (Priv d) (grind (arith, nat_tests))

pub vcpu-inside : (z : Sizes) (v k : ℕ) → v < z.vcpus → k < 38 → number z (Vcpu v k) < size z
unfolding is_place
vcpu-inside z v k h b = number-lt z (Vcpu v k) (grind (arith, nat_tests))

pub m2p-inside : (z : Sizes) (f : ℕ) → f < z.frames → number z (M2p f) < size z
unfolding is_place
m2p-inside z f h = number-lt z (M2p f) (grind (arith, nat_tests))

pub refs-inside : (z : Sizes) (f : ℕ) → f < z.frames → number z (Refs f) < size z
unfolding is_place
refs-inside z f h = number-lt z (Refs f) (grind (arith, nat_tests))

pub map-inside : (z : Sizes) (k : ℕ) → k < map_words z → number z (Map k) < size z
unfolding is_place
map-inside z k h = number-lt z (Map k) (grind (arith, nat_tests))

pub clock-inside : (z : Sizes) → number z Clock < size z
unfolding is_place
clock-inside z = number-lt z Clock refl

pub ruleset inside = (pages-inside, priv-inside, vcpu-inside, m2p-inside, refs-inside, map-inside)

-- ---- one more of each
pub put_frame : (z : Sizes) (words : List ℕ) (m : Place → ℕ) (f : ℕ) → length words ≡ size z → f < z.frames → ((p : Place) → memory z words p ≡ with_m2p f m p) →
    (p : Place) → memory z (set words (number z (M2p f)) (2 ^ 64 - 1)) p ≡ with_m2p (f + 1) m p
unfolding with_m2p is_place
put_frame z words m f l b h (M2p g) =
    let place : IsTrue (is_place z (M2p f)) = grind (arith, nat_tests) in
    let was = h (M2p g) in
    elim (cases_eq g f) [
      | inl e ↦ here z words (M2p g) (M2p f) _ place l (cc) ∙ grind (arith, nat_tests)
      | inr e ↦ memory_other z words (M2p f) (M2p g) _ place (λ s. e (cc)) ∙ was ∙ grind (arith, nat_tests)
    ]
put_frame z words m f l b h p =
    let place : IsTrue (is_place z (M2p f)) = grind (arith, nat_tests) in memory_other z words (M2p f) p _ place (λ s. cc) ∙ h p

pub put_domain : (z : Sizes) (words : List ℕ) (m : Place → ℕ) (t : Trace) (d a b : ℕ) → length words ≡ size z → d < z.domains →
    a ≡ pages_of d t.owned → b ≡ both_halves (slice_index t.layout.privilege d) →
    ((p : Place) → memory z words p ≡ with_domains d t m p) →
    (p : Place) → memory z (set (set words (number z (Pages d)) a) (number z (Priv d)) b) p ≡ with_domains (d + 1) t m p
unfolding with_domains is_place
put_domain z words m t d a b l i ea eb h (Pages e) =
    let first : IsTrue (is_place z (Pages d)) = grind (arith, nat_tests) in
    let second : IsTrue (is_place z (Priv d)) = grind (arith, nat_tests) in
    let was = h (Pages e) in
    memory_other z (set words (number z (Pages d)) a) (Priv d) (Pages e) b second (λ s. cc)
    ∙ elim (cases_eq e d) [
      | inl s ↦ here z words (Pages e) (Pages d) a first l (cc) ∙ grind (arith, nat_tests)
      | inr s ↦ memory_other z words (Pages d) (Pages e) a first (λ r. s (cc)) ∙ was ∙ grind (arith, nat_tests)
    ]
put_domain z words m t d a b l i ea eb h (Priv e) =
    let first : IsTrue (is_place z (Pages d)) = grind (arith, nat_tests) in
    let second : IsTrue (is_place z (Priv d)) = grind (arith, nat_tests) in
    let count : length (set words (number z (Pages d)) a) ≡ size z = length-set words (number z (Pages d)) a ∙ l in
    let was = h (Priv e) in
    elim (cases_eq e d) [
      | inl s ↦ here z (set words (number z (Pages d)) a) (Priv e) (Priv d) b second count (cc) ∙ grind (arith, nat_tests)
      | inr s ↦
          memory_other z (set words (number z (Pages d)) a) (Priv d) (Priv e) b second (λ r. s (cc))
          ∙ memory_other z words (Pages d) (Priv e) a first (λ r. cc) ∙ was ∙ grind (arith, nat_tests)
    ]
put_domain z words m t d a b l i ea eb h p =
    let first : IsTrue (is_place z (Pages d)) = grind (arith, nat_tests) in
    let second : IsTrue (is_place z (Priv d)) = grind (arith, nat_tests) in
    memory_other z (set words (number z (Pages d)) a) (Priv d) p b second (λ s. cc) ∙ memory_other z words (Pages d) p a first (λ s. cc) ∙ h p

-- ---- none of each
pub no_domains : (t : Trace) (m : Place → ℕ) (p : Place) → m p ≡ with_domains 0 t m p
unfolding with_domains
no_domains t m (Pages d) = grind (arith, nat_tests)
no_domains t m (Priv d) = grind (arith, nat_tests)
no_domains t m p = refl

pub no_vcpus : (clock : ℕ) (m : Place → ℕ) (p : Place) → m p ≡ with_vcpus 0 clock m p
unfolding with_vcpus
no_vcpus clock m (Vcpu v k) = grind (arith, nat_tests)
no_vcpus clock m p = refl

pub no_frames : (m : Place → ℕ) (p : Place) → m p ≡ with_m2p 0 m p
unfolding with_m2p
no_frames m (M2p f) = grind (arith, nat_tests)
no_frames m p = refl

-- ---- the runs
only_frame : (f n : ℕ) (o : Own) → o.first ≤ n → n < o.first + o.count → f ≢ n →
    has_frame f (record o { count = n + 1 - o.first }) ≡ has_frame f (record o { count = n - o.first })
only_frame f n o a b e = grind (arith, nat_tests)

same_run : (a b : Bool) (x y : Own) (w : ℕ) → a ≡ b → x.domain ≡ y.domain → or_word (cond a (Some x) None) w ≡ or_word (cond b (Some y) None) w
same_run true true x y w e d = ap (λ n. ref_write (Owned n true 1)) d
same_run false false x y w e d = refl
same_run true false x y w e d = cc
same_run false true x y w e d = cc

pub put_own : (z : Sizes) (words : List ℕ) (m : Place → ℕ) (o : Own) (f w : ℕ) → length words ≡ size z → f < z.frames → o.first ≤ f → f < o.first + o.count → w ≡ refs_in (Some o) →
    ((p : Place) → memory z words p ≡ with_owned (record o { count = f - o.first } ∷ []) m p) →
    (p : Place) → memory z (set words (number z (Refs f)) w) p ≡ with_owned (record o { count = f + 1 - o.first } ∷ []) m p
unfolding with_owned is_place
put_own z words m o f w l b lo hi ew h (Refs g) =
    let place : IsTrue (is_place z (Refs f)) = grind (arith, nat_tests) in
    let was = h (Refs g) in
    elim (cases_eq g f) [
      | inl e ↦
          here z words (Refs g) (Refs f) w place l (cc) ∙ ew
          ∙ (let has : has_frame g (record o { count = f + 1 - o.first }) ≡ true = grind (arith, nat_tests) in rw has refl)
      | inr e ↦ memory_other z words (Refs f) (Refs g) w place (λ s. e (cc)) ∙ was ∙ same_run _ _ _ _ (m (Refs g)) (sym (only_frame g f o lo hi e)) refl
    ]
put_own z words m o f w l b lo hi ew h p =
    let place : IsTrue (is_place z (Refs f)) = grind (arith, nat_tests) in memory_other z words (Refs f) p w place (λ s. cc) ∙ h p

-- a run before others
or_word_more : (b : Bool) (o : Own) (x : Option Own) (w : ℕ) → or_word (cond b (Some o) None) (or_word x w) ≡ or_word (cond b (Some o) x) w
or_word_more true o x w = refl
or_word_more false o x w = refl

or_value_more : (b : Bool) (c : CellRun) (x : Option CellRun) (w : ℕ) → or_value (cond b (Some c) None) (or_value x w) ≡ or_value (cond b (Some c) x) w
or_value_more true c x w = refl
or_value_more false c x w = refl

pub more_owned : (o : Own) (os : List Own) (m : Place → ℕ) (p : Place) → with_owned (o ∷ []) (with_owned os m) p ≡ with_owned (o ∷ os) m p
unfolding with_owned
more_owned o os m (Refs f) = or_word_more (has_frame f o) o (find (has_frame f) os) (m (Refs f))
more_owned o os m p = refl

pub more_cells : (c : CellRun) (cs : List CellRun) (m : Place → ℕ) (p : Place) → with_cells (c ∷ []) (with_cells cs m) p ≡ with_cells (c ∷ cs) m p
unfolding with_cells
more_cells c cs m (Cell f i) = or_value_more (has_cell f i c) c (find (has_cell f i) cs) (m (Cell f i))
more_cells c cs m p = refl

-- a run of none, and the whole run
none_owned : (o : Own) (n f : ℕ) → n ≡ o.first → has_frame f (record o { count = n - o.first }) ≡ false
none_owned o n f e = grind (arith, nat_tests)

pub no_own : (o : Own) (n : ℕ) (m : Place → ℕ) → n ≡ o.first → (p : Place) → m p ≡ with_owned (record o { count = n - o.first } ∷ []) m p
unfolding with_owned
no_own o n m e (Refs f) = rw (none_owned o n f e) refl
no_own o n m e p = refl

pub whole_own : (o : Own) (n : ℕ) (m : Place → ℕ) (p : Place) → n ≡ o.first + o.count → with_owned (record o { count = n - o.first } ∷ []) m p ≡ with_owned (o ∷ []) m p
whole_own o n m p e = let k : n - o.first ≡ o.count = omega arith in ap (λ (c : ℕ). with_owned (record o { count = c } ∷ []) m p) k

-- a run after others were put
same_owned : (os : List Own) (m n : Place → ℕ) → ((p : Place) → m p ≡ n p) → (p : Place) → with_owned os m p ≡ with_owned os n p
unfolding with_owned
same_owned os m n h (Refs f) = ap (or_word (find (has_frame f) os)) (h (Refs f))
same_owned os m n h p = h p

pub owned_step : (o : Own) (os : List Own) (a b m : Place → ℕ) → ((p : Place) → a p ≡ with_owned (o ∷ []) b p) → ((p : Place) → b p ≡ with_owned os m p) →
    (p : Place) → a p ≡ with_owned (o ∷ os) m p
owned_step o os a b m h k p = h p ∙ same_owned (o ∷ []) b (with_owned os m) k p ∙ more_owned o os m p

pub same_cells : (cs : List CellRun) (m n : Place → ℕ) → ((p : Place) → m p ≡ n p) → (p : Place) → with_cells cs m p ≡ with_cells cs n p
unfolding with_cells
same_cells cs m n h (Cell f i) = ap (or_value (find (has_cell f i) cs)) (h (Cell f i))
same_cells cs m n h p = h p

pub cells_step : (c : CellRun) (cs : List CellRun) (a b m : Place → ℕ) → ((p : Place) → a p ≡ with_cells (c ∷ []) b p) → ((p : Place) → b p ≡ with_cells cs m p) →
    (p : Place) → a p ≡ with_cells (c ∷ cs) m p
cells_step c cs a b m h k p = h p ∙ same_cells (c ∷ []) b (with_cells cs m) k p ∙ more_cells c cs m p

pub no_owned : (m : Place → ℕ) (p : Place) → m p ≡ with_owned [] m p
unfolding with_owned
no_owned m (Refs f) = refl
no_owned m p = refl

pub no_cells : (m : Place → ℕ) (p : Place) → m p ≡ with_cells [] m p
unfolding with_cells
no_cells m (Cell f i) = refl
no_cells m p = refl

pub reverse_map_more : {A B : Type 0} (f : A → B) (xs : List A) (x : A) → reverse (map f (xs ++ x ∷ [])) ≡ f x ∷ reverse (map f xs)
reverse_map_more f xs x = simp (map-append, reverse-append)

pub reverse_take_more : {A : Type 0} (xs : List A) (i : ℕ) (d : A) → i < length xs → reverse (take (i + 1) xs) ≡ get_or xs i d ∷ reverse (take i xs)
reverse_take_more xs i d h = rw (take_more xs i d h) (simp reverse-append)

-- ---- the map

pub bits_below-lt : (n : ℕ) (p : ℕ → Bool) → bits_below n p < 2 ^ n
unfolding bits_below
bits_below-lt zero p = lit< tt
bits_below-lt (suc n) p =
    let below = bits_below-lt n p in
    let one = when_lt (p n) (2 ^ n) in
    let twice : 2 ^ suc n ≡ 2 ^ n * 2 = pow-suc 2 n in
    omega arith

pub bits_below-same : (n : ℕ) (p q : ℕ → Bool) → ((b : ℕ) → b < n → p b ≡ q b) → bits_below n p ≡ bits_below n q
unfolding bits_below
bits_below-same zero p q h = refl
bits_below-same (suc n) p q h = let rest = bits_below-same n p q (λ b k. h b (omega arith)) in let one = h n (omega arith) in cc

pub bits_more : (n : ℕ) (p : ℕ → Bool) → bits_below (n + 1) p ≡ bits_below n p + (if p n then 2 ^ n else 0)
unfolding bits_below
bits_more n p = rw add-one refl

same_zero : (frames : ℕ) (m n : Place → ℕ) (f : ℕ) → m (Refs f) ≡ n (Refs f) → is_zero frames m f ≡ is_zero frames n f
same_zero frames m n f e = ap (λ (w : ℕ). nat_lt f frames && (w == 0)) e

pub no_map : (frames : ℕ) (m : Place → ℕ) (p : Place) → m p ≡ with_map 0 frames m p
unfolding with_map
no_map frames m (Map k) = grind (arith, nat_tests)
no_map frames m p = refl

pub put_word : (z : Sizes) (words : List ℕ) (m : Place → ℕ) (k w : ℕ) → length words ≡ size z → k < map_words z →
    w ≡ bits_below 64 (λ b. is_zero z.frames (memory z words) (64 * k + b)) → ((p : Place) → memory z words p ≡ with_map k z.frames m p) →
    (p : Place) → memory z (set words (number z (Map k)) w) p ≡ with_map (k + 1) z.frames m p
unfolding with_map is_place
put_word z words m k w l b ew h (Map j) =
    let place : IsTrue (is_place z (Map k)) = grind (arith, nat_tests) in
    let was = h (Map j) in
    elim (cases_eq j k) [
      | inl e ↦
          here z words (Map j) (Map k) w place l (cc) ∙ ew
          ∙ bits_below-same 64 _ _ (λ i r. same_zero z.frames (memory z words) m (64 * k + i) (h (Refs (64 * k + i))))
          ∙ (let now : nat_lt j (k + 1) ≡ true = grind (arith, nat_tests) in rw (now, e) refl)
      | inr e ↦ memory_other z words (Map k) (Map j) w place (λ s. e (cc)) ∙ was ∙ (let same : nat_lt j k ≡ nat_lt j (k + 1) = grind (arith, nat_tests) in rw same refl)
    ]
put_word z words m k w l b ew h p =
    let place : IsTrue (is_place z (Map k)) = grind (arith, nat_tests) in memory_other z words (Map k) p w place (λ s. cc) ∙ h p

pub bit_fits : (n bits : ℕ) (p : ℕ → Bool) → n < 64 → bits ≡ bits_below n p → bits + (1 * 2 ^ n) % 2 ^ 64 < 2 ^ 64
bit_fits n bits p h e =
    let below = bits_below-lt n p in
    let one = one_shl n 64 h in
    let twice : 2 ^ suc n ≡ 2 ^ n * 2 = pow-suc 2 n in
    let all : 2 ^ suc n ≤ 2 ^ 64 = pow-le-pow_right {n = 2} (lit< tt) {i = suc n} {j = 64} (omega arith) in
    omega arith

pub bit_set : (n bits : ℕ) (p : ℕ → Bool) → n < 64 → bits ≡ bits_below n p → p n ≡ true → bits + (1 * 2 ^ n) % 2 ^ 64 ≡ bits_below (n + 1) p
bit_set n bits p h e t = let one = one_shl n 64 h in rw (bits_more n p, t) (omega arith)

pub bit_clear : (n bits : ℕ) (p : ℕ → Bool) → bits ≡ bits_below n p → p n ≡ false → bits ≡ bits_below (n + 1) p
bit_clear n bits p e t = rw (bits_more n p, t) (omega arith)

pub zero_word : (z : Sizes) (words : List ℕ) (f n : ℕ) → f < z.frames → n ≡ number z (Refs f) → (get_or words n 0 == 0) ≡ is_zero z.frames (memory z words) f
unfolding memory is_place
zero_word z words f n h e = let k : nat_lt f z.frames ≡ true = grind (arith, nat_tests) in rw (k, e) refl
