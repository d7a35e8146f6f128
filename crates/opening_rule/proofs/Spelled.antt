-- Each opening word is a spelling.
use Rattle.std.proofs.Common.{◌≡◌, ℕ, ◌^◌, ◌<◌, ◌≤◌, ◌==◌, length, slice_index, find, reverse, is_none, IsTrue, Option, Some, None, inl, inr, refl, arith, lit<}
use Rattle.std.proofs.Math.Nat.{pow-le-pow_right}
use Rattle.std.proofs.lemmas.Bool.Decides.{nat_tests}
use Rattle.std.proofs.lemmas.List.Elements.{All-get_or}
use Rattle.xp_words.specs.Machine.{Machine}
use Rattle.xp_words.specs.RefWords.{ref_write}
use Rattle.xp_words.specs.ContextWords.{ldt_read}
use Rattle.xp_words.specs.declared.place.Place.{Place}
use Rattle.xp_words.specs.declared.place.Place.TheVariants.{Clock, Pages, Life, Vcpu, Refs, Kind, M2p, Cell, Map, Priv}
use Rattle.xp_words.specs.Places.{sizes_of, is_place}
use Rattle.xp_board.specs.Spelling.{IsSpelling, is_ref_in, is_vcpu_word}
use Rattle.xp_board.specs.Sound.{Spelled}
use Rattle.trace_text.specs.declared.trace.Own.{Own}
use Rattle.trace_text.specs.declared.trace.Trace.{Trace}
use Rattle.trace_text.specs.WellFormed.{IsWellFormed}
use Rattle.trace_text.specs.Counted.{has_frame}
use Rattle.machine_build.specs.Opening.{has_cell, refs_in, reference_in, opening_at}
use Rattle.machine_build.proofs.MapLaws.{map_word-lt}
use Rattle.machine_build.proofs.RefLaws.{reads_as, kind_reads_as}
use Rattle.opening_rule.proofs.Bounds.{BelowIn, found_below, found_value, values_turned, free_bits_few, priv_word}
use Rattle.opening_rule.proofs.Words.{Opens}
use Rattle.std.proofs.lemmas.Bool.{cases_Bool}

-- ---- reference words
ref_small : (x : Option Own) → BelowIn 16 x → refs_in x < 2 ^ 64
unfolding ref_write BelowIn
ref_small None h = lit< tt
ref_small (Some o) h = omega arith

ref_spelled : (n : Machine) (x : Option Own) → 2 ≤ n.limit → BelowIn (length n.page_limit) x → IsTrue (is_ref_in n (Some (reference_in x)))
unfolding BelowIn
ref_spelled n None l h = refl
ref_spelled n (Some o) l h = grind (arith, nat_tests)

fewer : (a b : ℕ) (x : Option Own) → a ≤ b → BelowIn a x → BelowIn b x
unfolding BelowIn
fewer a b None l h = tt
fewer a b (Some o) l h = omega arith

-- ---- words of vCPUs
vcpu_zero : (n : Machine) (k : ℕ) → IsTrue (is_vcpu_word n k 0)
unfolding ldt_read
vcpu_zero n k = grind (arith, nat_tests)

flushed_spelled : (n : Machine) (w : ℕ) → IsTrue (is_vcpu_word n 5 w)
flushed_spelled n w = grind (arith, nat_tests)

module _ (t : Trace) (w : IsWellFormed t) where
  domain_below : (f : ℕ) → BelowIn (length t.layout.page_limit) (find (has_frame f) t.owned)
  domain_below f = found_below (length t.layout.page_limit) (has_frame f) t.owned (λ k d b. (w.owned k d b).domain)

  mask_small : (d : ℕ) → d < length t.layout.page_limit → slice_index t.layout.privilege d < 2 ^ 16
  mask_small d b =
      let same = w.machine.masks in
      let within = (w.machine.no_own d (omega arith)).within in
      let few = w.machine.few_domains in
      let more : 2 ^ length t.layout.page_limit ≤ 2 ^ 16 = pow-le-pow_right {n = 2} (lit< tt) {i = length t.layout.page_limit} {j = 16} few in
      omega arith

  vcpu_spelled : (v k : ℕ) → (opening_at t (Vcpu v k) < 2 ^ 64) × IsTrue (is_vcpu_word t.layout k (opening_at t (Vcpu v k)))
  unfolding opening_at
  vcpu_spelled v k =
      let small = w.clock in
      elim (cases_Bool (k == 5)) [
        | inl e ↦ let at : k ≡ 5 = grind (arith, nat_tests) in rw e (omega arith, rw at (flushed_spelled t.layout t.clock))
        | inr e ↦ rw e (lit< tt, vcpu_zero t.layout k)
      ]

  pub word_spelled : (p : Place) → IsTrue (is_place (sizes_of t.layout) p) → IsSpelling t.layout p (opening_at t p)
  unfolding IsSpelling is_place opening_at
  word_spelled Clock k = let a = w.some_clock in let b = w.clock in (omega arith, omega arith)
  word_spelled (Pages d) k = w.pages d (grind (arith, nat_tests))
  word_spelled (Life d) k = refl
  word_spelled (Vcpu v i) k = vcpu_spelled v i
  word_spelled (Refs f) k = rw (reads_as t f w) (ref_spelled t.layout (find (has_frame f) t.owned) w.machine.some_count (domain_below f))
  word_spelled (Kind f) k = rw (kind_reads_as t f) refl
  word_spelled (M2p f) k = lit< tt
  word_spelled (Cell f i) k = found_value (has_cell f i) (reverse t.cells) (values_turned t.cells (λ j d b. (w.cells j d b).word))
  word_spelled (Map i) k = free_bits_few t.layout.frames i (λ f. is_none (find (has_frame f) t.owned))
  word_spelled (Priv d) k = priv_word (slice_index t.layout.privilege d) (mask_small d (grind (arith, nat_tests)))

  page_room : (d : ℕ) → d < length t.layout.page_limit → slice_index t.layout.page_limit d ≤ 65536
  page_room d b = All-get_or (λ (n : ℕ). n ≤ 65536) t.layout.page_limit d 0 b w.machine.few_pages

  pub word_small : (p : Place) → IsTrue (is_place (sizes_of t.layout) p) → opening_at t p < 2 ^ 64
  unfolding is_place opening_at
  word_small Clock k = let b = w.clock in omega arith
  word_small (Pages d) k =
      let there : d < length t.layout.page_limit = grind (arith, nat_tests) in
      let limit = w.pages d there in
      let room = page_room d there in
      omega arith
  word_small (Life d) k = lit< tt
  word_small (Vcpu v i) k = (vcpu_spelled v i).0
  word_small (Refs f) k = ref_small (find (has_frame f) t.owned) (fewer (length t.layout.page_limit) 16 _ w.machine.few_domains (domain_below f))
  word_small (Kind f) k = lit< tt
  word_small (M2p f) k = lit< tt
  word_small (Cell f i) k = found_value (has_cell f i) (reverse t.cells) (values_turned t.cells (λ j d b. (w.cells j d b).word))
  word_small (Map i) k = map_word-lt t i
  word_small (Priv d) k = let b = mask_small d (grind (arith, nat_tests)) in omega arith

pub spelled_open : (t : Trace) (m : Place → ℕ) → Opens t m → Spelled t.layout m
spelled_open t m o =
    record {
      small = λ p. elim (cases_Bool (is_place (sizes_of t.layout) p)) [
        | inl e ↦ rw (o.inside p e) (word_small t o.formed p e)
        | inr e ↦ rw (o.outside p e) (lit< tt)
      ];
      outside = o.outside;
      spelled = λ p e. rw (o.inside p e) (word_spelled t o.formed p e);
    }
