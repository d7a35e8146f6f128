-- Words that are all 0 but one can be read.
use Rattle.std.proofs.Common.{◌≡◌, ◌≢◌, ℕ, ◌≤◌, ◌==◌, ◌&&◌, false, replicate, IsTrue, refl, sym, ◌∙◌, ap, subst, inl, inr, arith, lit<}
use Rattle.std.proofs.Math.ListN.{set}
use Rattle.std.proofs.lemmas.Bool.{cases_Bool}
use Rattle.std.proofs.lemmas.Bool.Decides.{nat_tests}
use Rattle.std.proofs.lemmas.List.{get_or-replicate, length-replicate}
use Rattle.xp_words.specs.ContextWords.{ldt_read}
use Rattle.xp_words.specs.KindWords.{kind_read, kind_fields, has_form}
use Rattle.xp_words.specs.Machine.{Machine, IsMachine}
use Rattle.xp_words.specs.Places.{Sizes, sizes_of, size, number, memory, is_place}
use Rattle.xp_words.specs.RefWords.{ref_read}
use Rattle.xp_words.specs.declared.place.Place.{Place}
use Rattle.xp_words.specs.declared.place.Place.TheVariants.{Vcpu, Refs, Kind}
use Rattle.xp_words.proofs.PlaceLaws.{number-lt, memory_same, memory_other}
use Rattle.xp_board.specs.Spelling.{IsSpelling}
use Rattle.reference_recount.specs.Recounted.{IsReadable}
use Rattle.edge_tests.proofs.recounts.a_base_names_a_frame_that_is_no_table.Goals as goal

-- ---- all of them 0
zero_there : (z : Sizes) (p : Place) → memory z (replicate (size z) 0) p ≡ 0
unfolding memory
zero_there z p =
    elim (cases_Bool (is_place z p)) [
      | inl e ↦ rw e (get_or-replicate (size z) (number z p) 0 0 (number-lt z p e))
      | inr e ↦ rw e refl
    ]

one_there : (z : Sizes) (q p : Place) → IsTrue (is_place z q) → q ≢ p → memory z (set (replicate (size z) 0) (number z q) 1) p ≡ 0
one_there z q p k off = memory_other z (replicate (size z) 0) q p 1 k (λ e. off (sym e)) ∙ zero_there z p

-- ---- 0 can be read
zero_refs : (n : Machine) (f : ℕ) → IsSpelling n (Refs f) 0
unfolding IsSpelling ref_read
zero_refs n f = refl

zero_kind : (n : Machine) (f : ℕ) → IsSpelling n (Kind f) 0
unfolding IsSpelling kind_read kind_fields has_form
zero_kind n f = refl

zero_context : (n : Machine) (v k : ℕ) → IsSpelling n (Vcpu v k) 0
unfolding IsSpelling ldt_read
zero_context n v k = (lit< tt, grind (arith, nat_tests))

base_context : (n : Machine) (v : ℕ) → 1 ≤ n.frames → IsSpelling n (Vcpu v 0) 1
unfolding IsSpelling
base_context n v h = (lit< tt, grind (arith, nat_tests))

base_there : (n : Machine) → IsMachine n → IsTrue (is_place (sizes_of n) (Vcpu 0 0))
unfolding is_place
base_there n h = let some = h.some_vcpus in grind (arith, nat_tests)

same_word : (v k : ℕ) → IsTrue ((v == 0) && (k == 0)) → Vcpu v k ≡ Vcpu 0 0
same_word v k e =
    let one : v ≡ 0 = grind (arith, nat_tests) in
    let two : k ≡ 0 = grind (arith, nat_tests) in
    cc

other_word : (v k : ℕ) → ((v == 0) && (k == 0)) ≡ false → Vcpu v k ≢ Vcpu 0 0
other_word v k e same =
    let one : v ≡ 0 = cc in
    let two : k ≡ 0 = cc in
    grind (arith, nat_tests)

readable : (n : Machine) → IsMachine n → IsReadable n (memory (sizes_of n) (set (replicate (size (sizes_of n)) 0) (number (sizes_of n) (Vcpu 0 0)) 1))
readable n h =
    let z = sizes_of n in
    let there = base_there n h in
    let words = set (replicate (size z) 0) (number z (Vcpu 0 0)) 1 in
    record {
      refs = λ f l. subst (IsSpelling n (Refs f)) (sym (one_there z (Vcpu 0 0) (Refs f) there (λ e. cc))) (zero_refs n f);
      kinds = λ f l. subst (IsSpelling n (Kind f)) (sym (one_there z (Vcpu 0 0) (Kind f) there (λ e. cc))) (zero_kind n f);
      contexts = λ v k l b. elim (cases_Bool ((v == 0) && (k == 0))) [
        | inl e ↦
            let here : Vcpu v k ≡ Vcpu 0 0 = same_word v k e in
            let base : IsSpelling n (Vcpu 0 0) (memory z words (Vcpu 0 0)) = subst (IsSpelling n (Vcpu 0 0)) (sym (memory_same z _ (Vcpu 0 0) 1 there (length-replicate (size z) 0))) (base_context n 0 h.some_frames) in
            subst (λ p. IsSpelling n p (memory z words p)) (sym here) base
        | inr e ↦ subst (IsSpelling n (Vcpu v k)) (sym (one_there z (Vcpu 0 0) (Vcpu v k) there (λ same. other_word v k e (sym same)))) (zero_context n v k)
      ];
    }

pub index_mut-requires : goal.index_mut-requires
index_mut-requires g c =
    let n = c.layout-layout.result in
    let inside = number-lt (sizes_of n) (Vcpu 0 0) (base_there n c.words.ensures.machine) in
    let count = c.words.ensures.words in
    omega (arith, c.in_ok-words.ensures.len)

pub recount-requires-clause-readable : goal.recount-requires-clause-readable
recount-requires-clause-readable g c =
    let n = c.layout-layout.result in
    let zeros : c.in_ok-words.words.items ≡ replicate (size (sizes_of n)) 0 = c.in_ok-words.ensures.items_if_clones_equal (λ y e. e) ∙ ap (λ k. replicate k 0) c.words.ensures.words in
    let all : c.as_slice.result.now ≡ set (replicate (size (sizes_of n)) 0) (number (sizes_of n) (Vcpu 0 0)) 1 = c.as_slice.ensures.value ∙ rw (zeros, c.vcpu_place.ensures) refl in
    subst (λ words. IsReadable n (memory (sizes_of n) words)) (sym all) (readable n c.words.ensures.machine)
