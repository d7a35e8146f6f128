-- The counts of references, types and pages.
use Rattle.std.proofs.Common.{◌≡◌, ℕ, ◌+◌, ◌<◌, if◌then◌else◌, Bool, true, false, find, IsTrue, Option, refl, arith}
use Rattle.std.proofs.lemmas.Bool.Decides.{nat_tests}
use Rattle.xp_words.specs.declared.kind.KindWord.{KindWord}
use Rattle.xp_words.specs.declared.entry.Demand.{Demand}
use Rattle.xp_words.specs.declared.place.Place.{Place}
use Rattle.xp_words.specs.declared.place.Place.TheVariants.{Pages, Vcpu, Refs}
use Rattle.xp_words.specs.Places.{Sizes, sizes_of, is_place}
use Rattle.xp_board.specs.declared.holdings.Holdings.{Holdings}
use Rattle.xp_board.specs.Sums.{sum_below}
use Rattle.xp_board.specs.Lists.{one_at, times, times_by, EachOf}
use Rattle.xp_board.specs.Readings.{kind_at, ref_count, type_count, is_context}
use Rattle.xp_board.specs.Hands.{empty, hand, typed_hand}
use Rattle.xp_board.specs.Recorded.{held, held_of, work_of, table_entries, entries, contexts, marks, hands, names, names_typed, named, named_typed, TypesAgree, CountsAgree, is_page_of}
use Rattle.trace_text.specs.declared.trace.Trace.{Trace}
use Rattle.trace_text.specs.Counted.{has_frame}
use Rattle.machine_build.specs.Opening.{opening_at, untyped}
use Rattle.opening_rule.proofs.Words.{Opens, vcpu_word, run_inside}
use Rattle.opening_rule.proofs.Owners.{owner_in_run, frames_of_runs}
use Rattle.xp_board.proofs.Sums.{sum_below-same, sum_below-none}
use Rattle.opening_rule.proofs.Readings.{kind_is, count_is_mark, page_of}

-- ---- empty hands
pub hands_none : (c : Holdings → ℕ) (z : Sizes) → c empty ≡ 0 → hands c z (λ s. empty) ≡ 0
unfolding hands
hands_none c z e = sum_below-none z.vcpus (λ s. c empty) (λ k l. e)

hand_none : (g : ℕ) → hand g empty ≡ 0
unfolding hand typed_hand times_by
hand_none g = refl

typed_hand_none : (g : ℕ) → typed_hand g empty ≡ 0
unfolding typed_hand times_by
typed_hand_none g = refl

credits_none : (d : ℕ) → times d empty.credits ≡ 0
unfolding times_by
credits_none d = refl

-- ---- tables
held_untyped : (k : KindWord) (x : Option ℕ) → k ≡ untyped → held_of k x ≡ 0
unfolding held_of
held_untyped k x e = rw e refl

module _ (t : Trace) (m : Place → ℕ) (o : Opens t m) where
  pub nothing_held : (f : ℕ) → held (sizes_of t.layout) m (λ s. empty) f ≡ 0
  nothing_held f = held_untyped (kind_at m f) (work_of (sizes_of t.layout).vcpus (λ s. empty) f) (kind_is t m o f)

  no_table_entries : (c : Demand → ℕ) (x : Option ℕ) (f : ℕ) → table_entries c m x f ≡ 0
  unfolding table_entries sum_below
  no_table_entries c x f = rw (held_untyped (kind_at m f) x (kind_is t m o f)) refl

  no_entries : (c : Demand → ℕ) → entries c (sizes_of t.layout) m (λ s. empty) ≡ 0
  unfolding entries
  no_entries c = sum_below-none t.layout.frames _ (λ f l. no_table_entries c (work_of (sizes_of t.layout).vcpus (λ s. empty) f) f)

  -- ---- words of vCPUs
  pub context_word : (v k : ℕ) → IsTrue (is_context k) → m (Vcpu v k) ≡ 0
  context_word v k c = vcpu_word t m o v k (grind (arith, nat_tests))

  one_context : (g v k : ℕ) (b : Bool) → is_context k ≡ b → (if b then one_at (g + 1) (m (Vcpu v k)) else 0) ≡ 0
  one_context g v k true e = rw (context_word v k e) (grind (arith, nat_tests))
  one_context g v k false e = refl

  no_contexts : (g : ℕ) → contexts (sizes_of t.layout) m g ≡ 0
  unfolding contexts
  no_contexts g = sum_below-none (sizes_of t.layout).vcpus _ (λ v l. sum_below-none 38 _ (λ k l. one_context g v k (is_context k) refl))

  -- ---- marks and counts
  no_marks : (g : ℕ) → marks (kind_at m g) ≡ 0
  unfolding marks
  no_marks g = rw (kind_is t m o g) refl

  no_types : (g : ℕ) → type_count (kind_at m g) ≡ 0
  unfolding type_count
  no_types g = rw (kind_is t m o g) refl

  refs_agree : (g : ℕ) → ref_count (m (Refs g)) ≡ named (sizes_of t.layout) m (λ s. empty) g
  refs_agree g =
      let a = count_is_mark t m o g in
      let b = no_entries (names g) in
      let c = no_contexts g in
      let d = no_marks g in
      let e = hands_none (hand g) (sizes_of t.layout) (hand_none g) in
      omega arith

  types_agree : (g : ℕ) → type_count (kind_at m g) ≡ named_typed (sizes_of t.layout) m (λ s. empty) g
  types_agree g =
      let a = no_types g in
      let b = no_entries (names_typed g) in
      let c = no_contexts g in
      let d = no_marks g in
      let e = hands_none (typed_hand g) (sizes_of t.layout) (typed_hand_none g) in
      omega arith

  kinds_agree : TypesAgree (sizes_of t.layout) m (λ s. empty)
  unfolding EachOf
  kinds_agree =
      record {
        entries = λ f i g u b e. (let none = nothing_held f in absurd (omega arith));
        contexts = λ v k g a b c e. (let none = context_word v k c in absurd (omega arith));
        typed = λ s b. tt;
        locks = λ s b. tt;
      }

  -- ---- pages
  pages_word : (d : ℕ) → d < (sizes_of t.layout).domains → m (Pages d) ≡ opening_at t (Pages d)
  unfolding is_place
  pages_word d b = o.inside (Pages d) (grind (arith, nat_tests))

  pages_agree : (d : ℕ) → d < (sizes_of t.layout).domains →
      m (Pages d) ≡ sum_below (sizes_of t.layout).frames (λ f. is_page_of d (m (Refs f))) + hands (λ u. times d u.credits) (sizes_of t.layout) (λ s. empty)
  unfolding opening_at
  pages_agree d b =
      let word = pages_word d b in
      let each = sum_below-same t.layout.frames (λ f. is_page_of d (m (Refs f))) (λ f. owner_in_run d (find (has_frame f) t.owned)) (λ f k. page_of t m o d f) in
      let runs = frames_of_runs d t.layout.frames t.owned (run_inside t m o) o.formed.apart in
      let none = hands_none (λ u. times d u.credits) (sizes_of t.layout) (credits_none d) in
      omega arith

  pub counts_open : CountsAgree (sizes_of t.layout) m (λ s. empty)
  counts_open = record { refs = refs_agree; types = types_agree; kinds = kinds_agree; pages = pages_agree }
