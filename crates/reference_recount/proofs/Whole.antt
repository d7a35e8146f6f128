-- The tallies, after all parts, are the counts of the recorded references.
use Rattle.std.proofs.Common.{◌≡◌, ◌≢◌, ◌⊎◌, ◌||◌, not, nat_lt, ℕ, ◌+◌, ◌<◌, ◌≤◌, if◌then◌else◌, Bool, true, false, IsTrue, List, length, slice_index_or, Option, Some, None, refl, sym, ◌∙◌, ap, subst, inl, inr, arith}
use Rattle.std.proofs.lemmas.Bool.{cases_Bool, cases_eq, cases_lt}
use Rattle.std.proofs.lemmas.Bool.Decides.{nat_tests}
use Rattle.xp_words.specs.Machine.{Machine}
use Rattle.xp_words.specs.declared.entry.Demand.{Demand}
use Rattle.xp_words.specs.declared.entry.Demand.TheVariants.{Nothing, Bad, Read, Typed}
use Rattle.xp_words.specs.declared.kind.PageType.{PageType}
use Rattle.xp_words.specs.declared.kind.PageType.TheVariants as types
use Rattle.xp_words.specs.KindWords.{kind_fields}
use Rattle.xp_words.specs.declared.place.Place.{Place}
use Rattle.xp_words.specs.declared.place.Place.TheVariants.{Kind, Vcpu, Refs}
use Rattle.xp_words.specs.Places.{Sizes, sizes_of, is_place, memory}
use Rattle.xp_board.specs.ContextSteps.{context_type}
use Rattle.xp_board.specs.Hands.{hand, typed_hand}
use Rattle.xp_board.specs.Lists.{one_at, times_by, first_by}
use Rattle.xp_board.specs.Readings.{kind_at, is_context, is_type}
use Rattle.xp_board.specs.Recorded.{held, held_of, work_of, recorded_in, entry_demand, names, names_typed, table_entries, entries, contexts, hands}
use Rattle.xp_board.specs.Sums.{sum_below}
use Rattle.xp_board.proofs.Sums.{sum_below-same, sum_below-none, sum_below-some, sum_below-part, one_at-same, one_at-other, one_is, some_of}
use Rattle.xp_board.proofs.Works.{work_of-none}
use Rattle.xp_board.proofs.EntryWords.{type_same}
use Rattle.xp_board.proofs.Returned.{same_type}
use Rattle.reference_recount.specs.declared.tallies.Tally.{Tally}
use Rattle.reference_recount.specs.Recounted.{no_hands, tally_at, IsTally, IsMistyped, IsMistypedEntry, IsMistypedContext}
use Rattle.reference_recount.specs.Growth.{IsMore, IsOfMarks, IsCountWithin, AreSums, is_other_type, names_other, context_names, context_other}
use Rattle.reference_recount.proofs.KindForms.{allocated_few, marks_few}

-- ---- nobody holds anything
pub nobody_works : (n f : ℕ) → work_of n no_hands f ≡ None
unfolding recorded_in first_by
nobody_works n f = work_of-none n no_hands f (λ t l. refl)

pub nobody_holds : (z : Sizes) (g : ℕ) → hands (hand g) z no_hands ≡ 0
unfolding hands hand typed_hand times_by
nobody_holds z g = sum_below-none z.vcpus _ (λ s l. refl)

pub nobody_holds_typed : (z : Sizes) (g : ℕ) → hands (typed_hand g) z no_hands ≡ 0
unfolding hands typed_hand times_by
nobody_holds_typed z g = sum_below-none z.vcpus _ (λ s l. refl)

entries_of_words : (c : Demand → ℕ) (z : Sizes) (m : Place → ℕ) → entries c z m no_hands ≡ sum_below z.frames (λ f. table_entries c m None f)
unfolding entries
entries_of_words c z m = sum_below-same z.frames _ _ (λ f l. ap (λ o. table_entries c m o f) (nobody_works z.vcpus f))

contexts_of_words : (z : Sizes) (m : Place → ℕ) (g : ℕ) → contexts z m g ≡ sum_below z.vcpus (λ v. sum_below 38 (λ k. context_names m v g k))
unfolding contexts
contexts_of_words z m g = refl

-- ---- the own marks are few
pub within_own : (m : Place → ℕ) (a : List Tally) → ((g : ℕ) → g < length a → IsOfMarks m g (tally_at a g)) → IsCountWithin 3 a
within_own m a h =
    record {
      refs = λ g l. (let o = h g l in let e = o.refs in let x = allocated_few (m (Refs g)) in let y = marks_few (kind_at m g) in omega arith);
      types = λ g l. (let o = h g l in let e = o.types in let y = marks_few (kind_at m g) in omega arith);
    }

-- ---- another type
other_than : (kinds : List PageType) (g : ℕ) (want : PageType) → is_other_type kinds g (Some want) ≡ true → slice_index_or kinds g types.None ≢ want
other_than kinds g want h e =
    let same : is_type want (slice_index_or kinds g types.None) ≡ true = subst (λ t. is_type want t ≡ true) (sym e) (same_type want) in
    let off : is_other_type kinds g (Some want) ≡ false = ap not same in
    cc

is_other_than : (kinds : List PageType) (g : ℕ) (want : PageType) → slice_index_or kinds g types.None ≢ want → is_other_type kinds g (Some want) ≡ true
is_other_than kinds g want h =
    elim (cases_Bool (is_type want (slice_index_or kinds g types.None))) [
      | inl e ↦ absurd (h (sym (type_same want (slice_index_or kinds g types.None) e)))
      | inr e ↦ ap not e
    ]

-- ---- an entry that wants another type
asked_other : (kinds : List PageType) (g : ℕ) (d : Demand) → 0 < names_other kinds g d → (t : PageType) × (d ≡ Typed g t) × (slice_index_or kinds g types.None ≢ t)
unfolding names_other
asked_other kinds g Nothing h = absurd (omega arith)
asked_other kinds g Bad h = absurd (omega arith)
asked_other kinds g (Read f) h = absurd (omega arith)
asked_other kinds g (Typed f t) h =
    let parts = some_of (is_other_type kinds g (Some t)) (one_at g f) h in
    (t, ap (λ v. Typed v t) (one_is g f parts.1), other_than kinds g t parts.0)

one_asked : (kinds : List PageType) (g : ℕ) (d : Demand) (t : PageType) → d ≡ Typed g t → slice_index_or kinds g types.None ≢ t → names_other kinds g d ≡ 1
unfolding names_other
one_asked kinds g d t e off = rw e (rw (is_other_than kinds g t off) (one_at-same g))

held_nobody : (z : Sizes) (m : Place → ℕ) (f : ℕ) → held z m no_hands f ≡ held_of (kind_at m f) None
held_nobody z m f = ap (held_of (kind_at m f)) (nobody_works z.vcpus f)

-- where the machine has no frame there is no table
untyped_holds : (w : ℕ) → w ≡ 0 → held_of (kind_fields w) None ≡ 0
unfolding held_of kind_fields
untyped_holds w e = rw e refl

pub untyped_outside : (z : Sizes) (words : List ℕ) (f : ℕ) → z.frames ≤ f → memory z words (Kind f) ≡ 0
unfolding memory is_place
untyped_outside z words f b = let off : nat_lt f z.frames ≡ false = grind (arith, nat_tests) in rw off refl

module _ (n : Machine) (m : Place → ℕ) (outside : (f : ℕ) → n.frames ≤ f → m (Kind f) ≡ 0) (kinds : List PageType) (g : ℕ) (here : slice_index_or kinds g types.None ≡ (kind_at m g).kind) where
  table_inside : (f i : ℕ) → i < held_of (kind_at m f) None → f < n.frames
  table_inside f i h =
      elim (cases_lt f n.frames) [
        | inl l ↦ l
        | inr b ↦ let none = untyped_holds (m (Kind f)) (outside f b) in absurd (omega arith)
      ]

  entry_found : 0 < sum_below n.frames (λ f. table_entries (names_other kinds g) m None f) → IsMistypedEntry n m g
  unfolding table_entries
  entry_found h =
      let in_table = sum_below-some n.frames (λ f. table_entries (names_other kinds g) m None f) h in
      let at = sum_below-some (held_of (kind_at m in_table.0) None) (λ i. names_other kinds g (entry_demand m in_table.0 i)) in_table.2 in
      let asked = asked_other kinds g (entry_demand m in_table.0 at.0) at.2 in
      record {
        table = in_table.0;
        index = at.0;
        want = asked.0;
        recorded = subst (λ k. at.0 < k) (sym (held_nobody (sizes_of n) m in_table.0)) at.1;
        asks = asked.1;
        other = λ e. asked.2 (here ∙ e);
      }

  entry_counted : IsMistypedEntry n m g → 0 < sum_below n.frames (λ f. table_entries (names_other kinds g) m None f)
  unfolding table_entries
  entry_counted e =
      let held_there = held_nobody (sizes_of n) m e.table in
      let there : e.index < held_of (kind_at m e.table) None = subst (λ k. e.index < k) held_there e.recorded in
      let one = one_asked kinds g (entry_demand m e.table e.index) e.want e.asks (λ x. e.other (sym here ∙ x)) in
      let in_table = sum_below-part (held_of (kind_at m e.table) None) (λ i. names_other kinds g (entry_demand m e.table i)) e.index there in
      let in_all = sum_below-part n.frames (λ f. table_entries (names_other kinds g) m None f) e.table (table_inside e.table e.index there) in
      omega arith

  -- ---- a word of a vCPU that does
  wants_other : (o : Option PageType) → is_other_type kinds g o ≡ true → (t : PageType) × (o ≡ Some t) × (slice_index_or kinds g types.None ≢ t)
  wants_other (Some t) e = (t, refl, other_than kinds g t e)
  wants_other None e = absurd (cc)

  one_context : (o : Option PageType) (t : PageType) (c : Bool) (w : ℕ) → o ≡ Some t → slice_index_or kinds g types.None ≢ t → IsTrue c → w ≡ g + 1 →
      (if is_other_type kinds g o then (if c then one_at (g + 1) w else 0) else 0) ≡ 1
  one_context o t c w e off k names = rw e (rw (is_other_than kinds g t off) (rw k (rw names (one_at-same (g + 1)))))

  context_found : 0 < sum_below (sizes_of n).vcpus (λ v. sum_below 38 (λ k. context_other kinds m v g k)) → IsMistypedContext n m g
  context_found h =
      let in_vcpu = sum_below-some (sizes_of n).vcpus (λ v. sum_below 38 (λ k. context_other kinds m v g k)) h in
      let at = sum_below-some 38 (λ k. context_other kinds m in_vcpu.0 g k) in_vcpu.2 in
      let typed = some_of (is_other_type kinds g (context_type at.0)) (context_names m in_vcpu.0 g at.0) at.2 in
      let named = some_of (is_context at.0) (one_at (g + 1) (m (Vcpu in_vcpu.0 at.0))) typed.1 in
      let wanted = wants_other (context_type at.0) typed.0 in
      record {
        vcpu = in_vcpu.0;
        number = at.0;
        want = wanted.0;
        real = in_vcpu.1;
        known = at.1;
        context = named.0;
        names = one_is (g + 1) (m (Vcpu in_vcpu.0 at.0)) named.1;
        wants = wanted.1;
        other = λ e. wanted.2 (here ∙ e);
      }

  context_counted : IsMistypedContext n m g → 0 < sum_below (sizes_of n).vcpus (λ v. sum_below 38 (λ k. context_other kinds m v g k))
  context_counted e =
      let one : context_other kinds m e.vcpu g e.number ≡ 1 = one_context (context_type e.number) e.want (is_context e.number) (m (Vcpu e.vcpu e.number)) e.wants (λ x. e.other (sym here ∙ x)) e.context e.names in
      let in_vcpu = sum_below-part 38 (λ k. context_other kinds m e.vcpu g k) e.number e.known in
      let in_all = sum_below-part (sizes_of n).vcpus (λ v. sum_below 38 (λ k. context_other kinds m v g k)) e.vcpu e.real in
      omega arith

  -- ---- all together
  none_or : (r : Bool) (a b : ℕ) → r ≡ ((false || nat_lt 0 a) || nat_lt 0 b) → r ≡ true → (0 < a) ⊎ (0 < b)
  none_or r a b e h = grind (arith, nat_tests)

  some_or : (r : Bool) (a b : ℕ) → r ≡ ((false || nat_lt 0 a) || nat_lt 0 b) → (0 < a) ⊎ (0 < b) → r ≡ true
  some_or r a b e h = grind (arith, nat_tests)

  module _ (a b c : List Tally) (counted : length a ≡ n.frames) (inside : g < n.frames) (own : IsOfMarks m g (tally_at a g))
      (tables : AreSums a b n.frames (λ v f. table_entries (names v) m None f) (λ v f. table_entries (names_typed v) m None f) (λ v f. table_entries (names_other kinds v) m None f))
      (words : AreSums b c (sizes_of n).vcpus (λ u v. sum_below 38 (λ k. context_names m v u k)) (λ u v. sum_below 38 (λ k. context_names m v u k)) (λ u v. sum_below 38 (λ k. context_other kinds m v u k))) where
    from_tables : IsMore (tally_at a g) (tally_at b g) (sum_below n.frames (λ f. table_entries (names g) m None f)) (sum_below n.frames (λ f. table_entries (names_typed g) m None f))
        (sum_below n.frames (λ f. table_entries (names_other kinds g) m None f))
    from_tables = tables.each g (omega arith)

    from_words : IsMore (tally_at b g) (tally_at c g) (sum_below (sizes_of n).vcpus (λ v. sum_below 38 (λ k. context_names m v g k)))
        (sum_below (sizes_of n).vcpus (λ v. sum_below 38 (λ k. context_names m v g k))) (sum_below (sizes_of n).vcpus (λ v. sum_below 38 (λ k. context_other kinds m v g k)))
    from_words = words.each g (let e = tables.len in omega arith)

    marked : (tally_at c g).mistyped ≡
        ((false || nat_lt 0 (sum_below n.frames (λ f. table_entries (names_other kinds g) m None f))) || nat_lt 0 (sum_below (sizes_of n).vcpus (λ v. sum_below 38 (λ k. context_other kinds m v g k))))
    marked = from_words.mistyped ∙ ap (λ e. e || nat_lt 0 (sum_below (sizes_of n).vcpus (λ v. sum_below 38 (λ k. context_other kinds m v g k))))
        (from_tables.mistyped ∙ ap (λ e. e || nat_lt 0 (sum_below n.frames (λ f. table_entries (names_other kinds g) m None f))) own.mistyped)

    mistyped_if : (tally_at c g).mistyped ≡ true → IsMistyped n m g
    mistyped_if h =
        elim (none_or (tally_at c g).mistyped _ _ marked h) [
          | inl e ↦ inl (entry_found e)
          | inr e ↦ inr (context_found e)
        ]

    mistyped_only : IsMistyped n m g → (tally_at c g).mistyped ≡ true
    mistyped_only (inl e) = some_or (tally_at c g).mistyped _ _ marked (inl (entry_counted e))
    mistyped_only (inr e) = some_or (tally_at c g).mistyped _ _ marked (inr (context_counted e))

    pub tally_is : IsTally n m g (tally_at c g)
    tally_is =
        record {
          refs = (
              let p = own.refs in
              let q = from_tables.refs in
              let r = from_words.refs in
              let s = entries_of_words (names g) (sizes_of n) m in
              let t = contexts_of_words (sizes_of n) m g in
              let u = nobody_holds (sizes_of n) g in
              omega arith
              );
          types = (
              let p = own.types in
              let q = from_tables.types in
              let r = from_words.types in
              let s = entries_of_words (names_typed g) (sizes_of n) m in
              let t = contexts_of_words (sizes_of n) m g in
              let u = nobody_holds_typed (sizes_of n) g in
              omega arith
              );
          mistyped = (mistyped_if, mistyped_only);
        }
