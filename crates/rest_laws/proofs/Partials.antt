-- What is unfinished in words of which nobody has anything in hand, and what leads to it.
use Rattle.std.proofs.Common.{◌≡◌, ◌≢◌, ◌⊎◌, ◌+◌, ◌-◌, ◌<◌, ◌≤◌, ◌&&◌, not, ℕ, zero, suc, Bool, true, false, if◌then◌else◌, Some, IsTrue, refl, sym, ap, ◌∙◌, subst, inl, inr, arith}
use Rattle.std.proofs.lemmas.Bool.{cases_Bool, cases_eq}
use Rattle.std.proofs.lemmas.Bool.Decides.{nat_tests}
use Rattle.xp_words.specs.Machine.{Machine}
use Rattle.xp_words.specs.Places.{Sizes, is_place, old0_of, old1_of, sizes_of}
use Rattle.xp_words.specs.Entries.{below as type_below_of, demand_at, demand_of, frame_of, is_bit, is_lowest, is_reserved, is_slot}
use Rattle.xp_words.specs.KindWords.{has_form, has_type, kind_fields, kind_read}
use Rattle.xp_words.specs.PageTypes.{is_table, type_number}
use Rattle.xp_words.specs.RefWords.{bit, ref_read}
use Rattle.xp_words.specs.declared.entry.Demand.{Demand}
use Rattle.xp_words.specs.declared.entry.Demand.TheVariants.{Bad, Nothing, Read, Typed}
use Rattle.xp_words.specs.declared.kind.KindWord.{KindWord}
use Rattle.xp_words.specs.declared.kind.PageType.{PageType}
use Rattle.xp_words.specs.declared.kind.PageType.TheVariants as kinds
use Rattle.xp_words.specs.declared.place.Place.TheVariants.{Kind, Refs, Vcpu}
use Rattle.xp_board.specs.declared.holdings.Holdings.{Holdings}
use Rattle.xp_board.specs.declared.holdings.Work.{Work}
use Rattle.xp_board.specs.Hands.{IsEmptyHand, locks_on, typed_hand, work_on}
use Rattle.xp_board.specs.Lists.{first_by, one_at, times_by}
use Rattle.xp_board.specs.Readings.{is_context, is_dead, is_live, is_partial, kind_at, ref_count}
use Rattle.xp_board.specs.Recorded.{contexts, entries, entry_demand, held, marks, hands, names_typed, table_entries}
use Rattle.xp_board.specs.Sound.{Sound, Spelled, is_busy}
use Rattle.xp_board.specs.Readings.{is_locked}
use Rattle.xp_board.specs.Spelling.{IsSpelling, is_kind_in}
use Rattle.xp_board.specs.Valid.{LeadsWell, is_live_context}
use Rattle.xp_board.proofs.Sums.{hands-some, one_is, some_of as when_some, sum_below-some}
use Rattle.xp_board.proofs.Counted.{names_typed-asks}
use Rattle.xp_board.proofs.KindReadings.{partial_parts}
use Rattle.xp_board.proofs.KindForms.{PartialForm, partial_form, table_levels}
use Rattle.xp_board.proofs.RefForms.{count_fits}
use Rattle.xp_board.proofs.HeldByForm.{live_partial}
use Rattle.xp_board.proofs.Works.{in_works}
use Rattle.step_maker.specs.Plain.{Words}
use Rattle.table_law.specs.Lawful.{IsAtRest}
use Rattle.table_entries.proofs.LastEntry.{partial_count}
use Rattle.rest_laws.specs.Resting.{AreEmpty, IsBelow, IsIdle, IsNamed, IsNothingLeft, below, kept, old}

-- ---- hands that are empty
no_work : (f : ℕ) (u : Holdings) (e : Work) → IsEmptyHand u → work_on f u.works ≡ Some e → ⊥
unfolding first_by
no_work f u e empty here = let none = subst (λ xs. work_on f xs ≡ Some e) empty.works here in absurd cc

no_typed : (f : ℕ) (u : Holdings) → IsEmptyHand u → typed_hand f u ≡ 0
unfolding typed_hand times_by
no_typed f u empty = rw (empty.typed, empty.locks) refl

no_lock : (f : ℕ) (u : Holdings) → IsEmptyHand u → locks_on f u.locks ≡ 0
unfolding times_by
no_lock f u empty = rw empty.locks refl

module _ (n : Machine) (m : Words) (h : ℕ → Holdings) (sound : Sound n m h) (empty : AreEmpty n h) where
  pub not_busy : (g : ℕ) → is_busy (kind_at m g) ≡ false
  not_busy g =
      elim (cases_Bool (is_busy (kind_at m g))) [
        | inl busy ↦ (let t = in_works n m h sound.alone g busy in absurd (no_work g (h t.vcpu) t.work (empty t.vcpu t.real) t.here))
        | inr idle ↦ idle
      ]

  none_typed : (g : ℕ) → 0 < hands (typed_hand g) (sizes_of n) h → ⊥
  none_typed g some =
      let k = hands-some (typed_hand g) (sizes_of n) h some in
      let zero_hand = no_typed g (h k.0) (empty k.0 k.1) in
      let one = k.2 in
      absurd (omega arith)

-- ---- what a typed demand asks
type_asked : PageType → Demand → PageType
type_asked u (Typed g t) = t
type_asked u _ = u

asked_by : (a b c d : Bool) (f : ℕ) (u : PageType) → type_asked u (if a then Nothing else if b then Nothing else if c then Bad else if d then Read f else Typed f u) ≡ u
unfolding type_asked
asked_by true b c d f u = refl
asked_by false true c d f u = refl
asked_by false false true d f u = refl
asked_by false false false true f u = refl
asked_by false false false false f u = refl

asks_lower : (t u : PageType) (i w g : ℕ) → demand_at t i w ≡ Typed g u → u ≡ type_below_of t
unfolding type_asked demand_at demand_of
asks_lower t u i w g asks = ap (type_asked (type_below_of t)) (sym asks) ∙ asked_by (is_slot t i) (not (is_bit 0 w)) (is_reserved (is_lowest t) w) (is_lowest t && not (is_bit 1 w)) (frame_of w) (type_below_of t)

-- ---- what names a frame with its type
record IsEntry (z : Sizes) (m : Words) (h : ℕ → Holdings) (g : ℕ) : Type 0 where
  table : ℕ
  inside : table < z.frames
  index : ℕ
  recorded : index < held z m h table
  asks : 0 < names_typed g (entry_demand m table index)

entries_some : (z : Sizes) (m : Words) (h : ℕ → Holdings) (g : ℕ) → 0 < entries (names_typed g) z m h → IsEntry z m h g
unfolding entries table_entries
entries_some z m h g some =
    let f = sum_below-some z.frames _ some in
    let i = sum_below-some (held z m h f.0) (λ j. names_typed g (entry_demand m f.0 j)) f.2 in
    record { table = f.0; inside = f.1; index = i.0; recorded = i.1; asks = i.2 }

record IsWord (z : Sizes) (m : Words) (g : ℕ) : Type 0 where
  vcpu : ℕ
  real : vcpu < z.vcpus
  index : ℕ
  inside : index < 38
  context : is_context index ≡ true
  names : m (Vcpu vcpu index) ≡ g + 1

contexts_some : (z : Sizes) (m : Words) (g : ℕ) → 0 < contexts z m g → IsWord z m g
unfolding contexts
contexts_some z m g some =
    let v = sum_below-some z.vcpus _ some in
    let k = sum_below-some 38 (λ j. if is_context j then one_at (g + 1) (m (Vcpu v.0 j)) else 0) v.2 in
    let one = when_some (is_context k.0) (one_at (g + 1) (m (Vcpu v.0 k.0))) k.2 in
    record { vcpu = v.0; real = v.1; index = k.0; inside = k.1; context = one.0; names = one_is (g + 1) (m (Vcpu v.0 k.0)) one.1 }

old_or_live : (k : ℕ) → is_context k ≡ true → (k ≡ 2) ⊎ ((k ≡ 3) ⊎ IsTrue (is_live_context k))
old_or_live k is =
    elim (cases_eq k 2) [
      | inl two ↦ inl two
      | inr off ↦ elim (cases_eq k 3) [ inl three ↦ inr (inl three) | inr away ↦ inr (inr (grind (arith, nat_tests))) ]
    ]

-- ---- a partial frame
both_off : (k : KindWord) → k.pinned ≡ false → 0 < marks k → k.kept ≡ true
unfolding marks
both_off k unpinned some = grind (arith, nat_tests)

spelled_read : (n : Machine) (w : ℕ) → IsTrue (is_kind_in n (kind_read w)) → kind_read w ≡ Some (kind_fields w)
unfolding kind_read
spelled_read n w is = elim (cases_Bool (has_type w && has_form (kind_fields w))) [ inl on ↦ rw on refl | inr off ↦ absurd (let e = rw off at is in cc) ]

pub real_kind : (n : Machine) (g : ℕ) → g < n.frames → IsTrue (is_place (sizes_of n) (Kind g))
unfolding is_place
real_kind n g inside = grind (arith, nat_tests)

form_at : (n : Machine) (m : Words) (g : ℕ) → Spelled n m → g < n.frames → IsTrue (is_partial (kind_at m g)) → PartialForm (kind_at m g)
unfolding IsSpelling
form_at n m g spelled inside partial =
    let parts = partial_parts (kind_at m g) partial in
    partial_form (m (Kind g)) (kind_at m g) (spelled_read n (m (Kind g)) (spelled.spelled (Kind g) (real_kind n g inside))) parts.0 parts.1

module _ (n : Machine) (m : Words) (h : ℕ → Holdings) (sound : Sound n m h) (empty : AreEmpty n h) where
  not_live : (g : ℕ) → IsTrue (is_partial (kind_at m g)) → IsTrue (is_live (kind_at m g)) → ⊥
  not_live g partial live = live_partial (kind_at m g) live partial

  led_to : (g f i : ℕ) (t : PageType) → IsTrue (is_partial (kind_at m g)) → f < n.frames → i < held (sizes_of n) m h f → entry_demand m f i ≡ Typed g t → LeadsWell (sizes_of n) m h f i g → IsBelow n m g
  led_to g f i t partial inside recorded asks (inl live) = absurd (not_live g partial live)
  led_to g f i t partial inside recorded asks (inr (b, inl last)) =
      record { table = f; inside = inside; partial = last.partial; last = i; recorded = last.last; asks = asks ∙ ap (Typed g) (sym (sound.counts.kinds.entries f i g t recorded asks)) }
  led_to g f i t partial inside recorded asks (inr (b, inr u)) = absurd (no_work f (h u.vcpu) u.work (empty u.vcpu u.real) u.here)

  by_entry : (g : ℕ) → IsTrue (is_partial (kind_at m g)) → IsEntry (sizes_of n) m h g → IsNamed n m g
  by_entry g partial e =
      let t = names_typed-asks g (entry_demand m e.table e.index) e.asks in
      below (led_to g e.table e.index t.0 partial e.inside e.recorded t.1 (sound.valid.live e.table e.index g t.0 e.recorded t.1))

  by_word : (g : ℕ) → IsTrue (is_partial (kind_at m g)) → IsWord (sizes_of n) m g → IsNamed n m g
  by_word g partial w =
      elim (old_or_live w.index w.context) [
        | inl two ↦ old (record { vcpu = w.vcpu; real = w.real; names = inl (subst (λ k. m (Vcpu w.vcpu k) ≡ g + 1) two w.names) })
        | inr (inl three) ↦ old (record { vcpu = w.vcpu; real = w.real; names = inr (subst (λ k. m (Vcpu w.vcpu k) ≡ g + 1) three w.names) })
        | inr (inr live) ↦ absurd (not_live g partial (sound.valid.contexts w.vcpu w.index g w.real w.inside live w.names))
      ]

  pub named_somehow : (g : ℕ) → g < n.frames → IsTrue (is_partial (kind_at m g)) → IsNamed n m g
  named_somehow g inside partial =
      let one = partial_count (kind_at m g) partial in
      let all = sound.counts.types g in
      elim (cases_eq (entries (names_typed g) (sizes_of n) m h) 0) [
        | inr some ↦ by_entry g partial (entries_some (sizes_of n) m h g (let k : entries (names_typed g) (sizes_of n) m h ≢ 0 = some in omega arith))
        | inl no_entry ↦
            elim (cases_eq (contexts (sizes_of n) m g) 0) [
              | inr some ↦ by_word g partial (contexts_some (sizes_of n) m g (let k : contexts (sizes_of n) m g ≢ 0 = some in omega arith))
              | inl no_word ↦
                  elim (cases_eq (hands (typed_hand g) (sizes_of n) h) 0) [
                    | inr some ↦ absurd (none_typed n m h sound empty g (let k : hands (typed_hand g) (sizes_of n) h ≢ 0 = some in omega arith))
                    | inl no_hand ↦ kept (both_off (kind_at m g) (form_at n m g sound.spelled inside partial).unpinned (omega arith))
                  ]
            ]
      ]

-- ---- the chain of partial tables
-- a table asks tables of the level below, and at level 1 none
lower_table : (t : PageType) → is_table t ≡ true → is_table (type_below_of t) ≡ true → type_number t ≡ type_number (type_below_of t) + 1
lower_table kinds.L4 a b = omega arith
lower_table kinds.L3 a b = omega arith
lower_table kinds.L2 a b = omega arith
lower_table t a b = absurd cc

unnamed : (x g : ℕ) → x ≡ 0 → x ≡ g + 1 → ⊥
unnamed x g a b = absurd (omega arith)

module _ (n : Machine) (m : Words) (h : ℕ → Holdings) (sound : Sound n m h) (left : IsNothingLeft n m h) where
  led_by : (g : ℕ) → g < n.frames → IsNamed n m g → IsBelow n m g
  led_by g inside (kept mark) = let e = sym (left.unkept g inside) ∙ mark in absurd cc
  led_by g inside (old o) = elim o.names [ inl first ↦ absurd (unnamed (m (old0_of o.vcpu)) g (left.first o.vcpu o.real) first) | inr second ↦ absurd (unnamed (m (old1_of o.vcpu)) g (left.second o.vcpu o.real) second) ]
  led_by g inside (below b) = b

  is_led : (g : ℕ) → g < n.frames → IsTrue (is_partial (kind_at m g)) → IsBelow n m g
  is_led g inside partial = led_by g inside (named_somehow n m h sound left.hands g inside partial)

  -- what leads is a table, and asks the type below its own
  leads_from : (g : ℕ) (b : IsBelow n m g) → is_table (kind_at m b.table).kind ≡ true
  leads_from g b =
      elim (cases_Bool (is_table (kind_at m b.table).kind)) [
        | inl on ↦ on
        | inr off ↦ (let k = ((form_at n m b.table sound.spelled b.inside b.partial).page off).0 in let last = b.recorded in absurd (omega arith))
      ]

  type_led : (g : ℕ) (b : IsBelow n m g) → (kind_at m g).kind ≡ type_below_of (kind_at m b.table).kind
  type_led g b = asks_lower (kind_at m b.table).kind (kind_at m g).kind b.last _ g b.asks

  one_up : (g : ℕ) (b : IsBelow n m g) → is_table (kind_at m g).kind ≡ true → type_number (kind_at m b.table).kind ≡ type_number (kind_at m g).kind + 1
  one_up g b table =
      let low = type_led g b in
      lower_table (kind_at m b.table).kind (leads_from g b) (subst (λ t. is_table t ≡ true) low table) ∙ ap (λ t. type_number t + 1) (sym low)

  no_table : (j g : ℕ) → g < n.frames → IsTrue (is_partial (kind_at m g)) → is_table (kind_at m g).kind ≡ true → type_number (kind_at m g).kind + j ≡ 4 → ⊥
  no_table zero g inside partial table level =
      let b = is_led g inside partial in
      let up = one_up g b table in
      let high = (table_levels (kind_at m b.table).kind (leads_from g b)).1 in
      absurd (omega arith)
  no_table (suc j) g inside partial table level =
      let b = is_led g inside partial in
      let up = one_up g b table in
      no_table j b.table b.inside b.partial (leads_from g b) (omega arith)

  no_partial : (g : ℕ) → g < n.frames → is_partial (kind_at m g) ≡ false
  no_partial g inside =
      elim (cases_Bool (is_partial (kind_at m g))) [
        | inr off ↦ off
        | inl on ↦
            let b = is_led g inside on in
            let few = (table_levels (kind_at m b.table).kind (leads_from g b)).1 in
            absurd (no_table (4 - type_number (kind_at m b.table).kind) b.table b.inside b.partial (leads_from g b) (omega arith))
      ]

-- ---- words at rest
form_left : (k : KindWord) → is_dead k ≡ false → is_partial k ≡ false → is_busy k ≡ false → k.validated ≡ true
form_left k dead partial busy = grind (arith, nat_tests)

count_left : (k : KindWord) → k.validated ≡ true → is_busy k ≡ false → 0 < k.number
count_left k live busy = grind (arith, nat_tests)

real_refs : (n : Machine) (g : ℕ) → g < n.frames → IsTrue (is_place (sizes_of n) (Refs g))
unfolding is_place
real_refs n g inside = grind (arith, nat_tests)

few_there : (n : Machine) (m : Words) (g : ℕ) → Spelled n m → g < n.frames → ref_count (m (Refs g)) ≤ n.limit
unfolding IsSpelling ref_count
few_there n m g spelled inside = count_fits n (ref_read (m (Refs g))) (spelled.spelled (Refs g) (real_refs n g inside))

pub at_rest : (n : Machine) (m : Words) (h : ℕ → Holdings) → Sound n m h → IsNothingLeft n m h → IsAtRest n m
at_rest n m h sound left =
    record {
      formed = λ g inside undead. form_left (kind_at m g) undead (no_partial n m h sound left g inside) (not_busy n m h sound left.hands g);
      counted = λ g inside live. count_left (kind_at m g) live (not_busy n m h sound left.hands g);
      room = λ g inside. few_there n m g sound.spelled inside;
    }

-- ---- each frame, where nobody has anything in hand
by_form : (k : KindWord) → is_busy k ≡ false → (IsTrue (is_dead k)) ⊎ (IsTrue (is_partial k) ⊎ ((k.validated ≡ true) × (0 < k.number)))
by_form k busy =
    elim (cases_Bool k.validated) [
      | inl live ↦ inr (inr (live, count_left k live busy))
      | inr dead ↦ elim (cases_Bool k.partial) [ inl partial ↦ inr (inl (grind arith)) | inr none ↦ inl (grind (arith, nat_tests)) ]
    ]

unlocked : (n : Machine) (m : Words) (h : ℕ → Holdings) (g : ℕ) → Sound n m h → AreEmpty n h → (kind_at m g).validated ≡ true → (kind_at m g).locked ≡ false
unlocked n m h g sound empty live =
    elim (cases_Bool (kind_at m g).locked) [
      | inr off ↦ off
      | inl on ↦
          let all = sound.alone.locks g in
          let one : bit (is_locked (kind_at m g)) ≡ 1 = rw (live, on) refl in
          let k = hands-some (λ u. locks_on g u.locks) (sizes_of n) h (omega arith) in
          let none = no_lock g (h k.0) (empty k.0 k.1) in
          let some = k.2 in
          absurd (omega arith)
    ]

pub is_idle : (n : Machine) (m : Words) (h : ℕ → Holdings) (g : ℕ) → Sound n m h → AreEmpty n h → IsIdle n m g
is_idle n m h g sound empty =
    elim (by_form (kind_at m g) (not_busy n m h sound empty g)) [
      | inl dead ↦ inl dead
      | inr (inl partial) ↦ inr (inl partial)
      | inr (inr live) ↦ inr (inr (live.0, live.1, unlocked n m h g sound empty live.0))
    ]
