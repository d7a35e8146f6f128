-- Each reference to a frame of a dead domain is held by others: up the levels of its tables.
use Rattle.std.proofs.Common.{◌≡◌, ◌≢◌, ℕ, zero, suc, ◌+◌, ◌-◌, ◌^◌, ◌<◌, ◌≤◌, ◌⊎◌, not, if◌then◌else◌, Bool, true, false, Option, Some, None, IsTrue, refl, sym, ◌∙◌, ap, subst, inl, inr, arith}
use Rattle.std.proofs.lemmas.Bool.{cases_eq, cases_Bool}
use Rattle.std.proofs.lemmas.Bool.Decides.{nat_tests}
use Rattle.xp_words.specs.Entries.{demand_at, demand_of, below, is_lowest}
use Rattle.xp_words.specs.Machine.{Machine}
use Rattle.xp_words.specs.PageTypes.{type_number}
use Rattle.xp_words.specs.Places.{sizes_of}
use Rattle.xp_words.specs.RefWords.{bit, ref_read, IsRef}
use Rattle.xp_words.specs.declared.entry.Demand.{Demand}
use Rattle.xp_words.specs.declared.entry.Demand.TheVariants.{Nothing, Bad, Read, Typed}
use Rattle.xp_words.specs.declared.kind.PageType.{PageType}
use Rattle.xp_words.specs.declared.kind.PageType.TheVariants as kinds
use Rattle.xp_words.specs.declared.place.Place.{Place}
use Rattle.xp_words.specs.declared.place.Place.TheVariants.{Vcpu, Refs, Kind, Cell}
use Rattle.xp_words.specs.declared.refs.RefWord.{RefWord}
use Rattle.xp_words.specs.declared.refs.RefWord.TheVariants.{Free, Owned, Dying}
use Rattle.xp_words.proofs.RefLaws.{ref_write-read}
use Rattle.xp_board.specs.declared.holdings.Holdings.{Holdings}
use Rattle.xp_board.specs.Hands.{hand, typed_hand, works_on, endings_of, claims_of, IsEmptyHand}
use Rattle.xp_board.specs.LifeSteps.{is_unkept}
use Rattle.xp_board.specs.Lists.{Member, times_by}
use Rattle.xp_board.specs.Readings.{domain_of, is_closing, is_context, is_dying, kind_at, owner_of, ref_count, type_count}
use Rattle.xp_board.specs.Recorded.{entry_demand, held, names, names_typed}
use Rattle.xp_board.specs.Sound.{DeadDomain, IsLookedAt, Sound, is_busy}
use Rattle.xp_board.specs.Valid.{EntryPermitted, Permits, PermitsOwner, is_live_context}
use Rattle.xp_board.proofs.HeldByForm.{held_table}
use Rattle.xp_board.proofs.KindForms.{table_levels}
use Rattle.xp_board.proofs.Recordless.{closing_busy, idle_held}
use Rattle.xp_board.proofs.Sums.{hands-some, one_is}
use Rattle.xp_board.proofs.RefWords.{dying_says, owned_says}
use Rattle.xp_board.proofs.Counted.{names_typed-asks}
use Rattle.dead_domains.specs.Holders.{HasInHand, HeldByOthers, IsNamed, IsOther, IsOthersTable, LeftToOthers, referred, works, ends, looks, by_word, by_hand, by_entry, by_table}
use Rattle.dead_domains.proofs.Counting.{NamedBy, SomeEntry, SomeWord, TypedBy, entry_name, word_name, allocated_name, pinned_name, kept_name, hand_name, entry_type, word_type, pinned_type, kept_type, hand_type, who_names, who_types}

-- ---- an empty hand has nothing
in_no_hand : (g : ℕ) (u : Holdings) → IsEmptyHand u → HasInHand g u → ⊥
unfolding hand typed_hand times_by Member
in_no_hand g u e (referred some) = absurd (let none : hand g u ≡ 0 = rw (e.refs, e.typed, e.locks) refl in omega arith)
in_no_hand g u e (works some) = absurd (let none : works_on g u.works ≡ 0 = rw e.works refl in omega arith)
in_no_hand g u e (ends some) = absurd (let none : endings_of g u.ending + claims_of g u.claimed ≡ 0 = rw (e.ending, e.claimed) refl in omega arith)
in_no_hand g u e (looks x there at) = rw e.looking at there

typed_in : (g : ℕ) (u : Holdings) → 0 < typed_hand g u → 0 < hand g u
unfolding hand
typed_in g u some = omega arith

-- ---- what entries name
names_is : (g : ℕ) (d : Demand) → 0 < names g d → (d ≡ Read g) ⊎ ((t : PageType) × (d ≡ Typed g t))
unfolding names
names_is g Nothing some = absurd (omega arith)
names_is g Bad some = absurd (omega arith)
names_is g (Read f) some = inl (ap Read (one_is g f some))
names_is g (Typed f t) some = inr (t, ap (λ x. Typed x t) (one_is g f some))

typed_names : (g : ℕ) (d : Demand) → 0 < names_typed g d → 0 < names g d
unfolding names names_typed
typed_names g Nothing some = some
typed_names g Bad some = some
typed_names g (Read f) some = absurd (omega arith)
typed_names g (Typed f t) some = some

-- a table is asked by an entry one level above it
asks_type : (b r l : Bool) (f : ℕ) (k : PageType) (g : ℕ) (t : PageType) → (if not b then Nothing else if r then Bad else if l then Read f else Typed f k) ≡ Typed g t → k ≡ t
asks_type false r l f k g t e = absurd (cc)
asks_type true true l f k g t e = absurd (cc)
asks_type true false true f k g t e = absurd (cc)
asks_type true false false f k g t e = cc

below_is : (k : PageType) (w g : ℕ) (t : PageType) → demand_of k w ≡ Typed g t → below k ≡ t
unfolding demand_of
below_is k w g t e = asks_type _ _ _ _ (below k) g t e

slot_type : (b : Bool) (d : Demand) (g : ℕ) (t : PageType) → (if b then Nothing else d) ≡ Typed g t → d ≡ Typed g t
slot_type true d g t e = absurd (cc)
slot_type false d g t e = e

above_is : (k : PageType) (i w g : ℕ) (t : PageType) → demand_at k i w ≡ Typed g t → below k ≡ t
unfolding demand_at
above_is k i w g t e = below_is k w g t (slot_type _ (demand_of k w) g t e)

-- the level above
level_above : (k t : PageType) → below k ≡ t → type_number t ≤ 4 → (type_number k ≡ type_number t + 1) × (is_lowest k ≡ false) × (type_number k ≤ 4)
level_above kinds.L4 t e b = let n : type_number t ≡ 3 = ap type_number (sym e) in (omega arith, refl, omega arith)
level_above kinds.L3 t e b = let n : type_number t ≡ 2 = ap type_number (sym e) in (omega arith, refl, omega arith)
level_above kinds.L2 t e b = let n : type_number t ≡ 1 = ap type_number (sym e) in (omega arith, refl, omega arith)
level_above kinds.L1 t e b = absurd (let n : type_number t ≡ 7 = ap type_number (sym e) in omega arith)
level_above kinds.None t e b = absurd (let n : type_number t ≡ 7 = ap type_number (sym e) in omega arith)
level_above kinds.Desc t e b = absurd (let n : type_number t ≡ 7 = ap type_number (sym e) in omega arith)
level_above kinds.Writable t e b = absurd (let n : type_number t ≡ 7 = ap type_number (sym e) in omega arith)

-- ---- reference words
owned_word : (w d : ℕ) (r : Option RefWord) → w < 2 ^ 64 → ref_read w ≡ r → owner_of w ≡ Some d → (0 < ref_count w) ⊎ (is_dying w ≡ true)
unfolding owner_of IsRef
owned_word w d (Some (Owned o a c)) small e owned =
    let r = (ref_write-read w (Owned o a c) small e).0 in
    let s = (owned_says w o a c e).counts in
    inl (let k = r.1 in omega arith)
owned_word w d (Some (Dying o)) small e owned = inr (dying_says w o e).dying
owned_word w d (Some (Free stamp)) small e owned = absurd (let bad = rw e at owned in cc)
owned_word w d None small e owned = absurd (let bad = rw e at owned in cc)

old_word : (k : ℕ) → IsTrue (is_context k) → is_live_context k ≡ false → (k ≡ 2) ⊎ (k ≡ 3)
old_word k c off = elim (cases_eq k 2) [
  | inl at ↦ inl at
  | inr a ↦ elim (cases_eq k 3) [ inl at ↦ inr at | inr b ↦ absurd (grind (arith, nat_tests)) ]
]

marked_off : (m : Place → ℕ) (g : ℕ) → IsTrue (is_unkept (m (Kind g))) → (kind_at m g).kept ≡ true → ⊥
marked_off m g off on = grind (arith, nat_tests)

module _ (n : Machine) (m : Place → ℕ) (h : ℕ → Holdings) (d : ℕ) (sound : Sound n m h) (dead : DeadDomain n m h d) where
  -- ---- hands
  pub other_hand : (g s : ℕ) → s < (sizes_of n).vcpus → HasInHand g (h s) → IsOther n d s
  other_hand g s real has =
      record {
        real = real;
        other = λ own. (let halted = dead.stopped s real own in in_no_hand g (h s) ((sound.idle s real).hand (λ z. absurd (omega arith))) has);
      }

  by_some_hand : (g s : ℕ) → s < (sizes_of n).vcpus → HasInHand g (h s) → HeldByOthers n m h d g
  by_some_hand g s real has = by_hand g s (other_hand g s real has) has

  looked_at : (g : ℕ) → IsLookedAt n m h d g → (s : ℕ) × IsOther n d s × HasInHand g (h s)
  looked_at g l =
      let has = looks l.looking l.here l.frame in
      (l.vcpu, other_hand g l.vcpu l.real has, has)

  kept_mark : (g : ℕ) → owner_of (m (Refs g)) ≡ Some d → IsTrue (is_unkept (m (Kind g))) ⊎ ((s : ℕ) × IsOther n d s × HasInHand g (h s))
  kept_mark g own = elim (dead.unkept g own) [ inl off ↦ inl off | inr l ↦ inr (looked_at g l) ]

  by_kept : (g : ℕ) → owner_of (m (Refs g)) ≡ Some d → (kind_at m g).kept ≡ true → HeldByOthers n m h d g
  by_kept g own on = elim (kept_mark g own) [ inl off ↦ absurd (marked_off m g off on) | inr s ↦ by_hand g s.0 s.1 s.2 ]

  -- ---- words of vCPUs
  pub other_word : (g v k : ℕ) → owner_of (m (Refs g)) ≡ Some d → v < (sizes_of n).vcpus → k < 38 → IsTrue (is_context k) → m (Vcpu v k) ≡ g + 1 → IsOther n d v × ((k ≡ 2) ⊎ (k ≡ 3))
  other_word g v k own real inside context names =
      let other : domain_of n v ≢ d = (λ at. absurd (let z = dead.empty v k real at inside context in omega arith)) in (
        record { real = real; other = other },
        elim (cases_Bool (is_live_context k)) [
          | inl live ↦ absurd (other (let o = sound.permitted.contexts v k g real inside live names in let e : Some (domain_of n v) ≡ Some d = sym o ∙ own in cc))
          | inr off ↦ old_word k context off
        ],
      )

  by_some_word : (g : ℕ) → owner_of (m (Refs g)) ≡ Some d → SomeWord (sizes_of n) m g → HeldByOthers n m h d g
  by_some_word g own w =
      let o = other_word g w.vcpu w.word own w.real w.inside w.context w.names in
      by_word g w.vcpu w.word o.0 o.1 w.names

  -- ---- entries
  permitted_entry : (t i g : ℕ) → IsNamed n m h t i g → EntryPermitted m (kind_at m t).kind (owner_of (m (Refs t))) g
  permitted_entry t i g k =
      elim (names_is g (entry_demand m t i) k.named) [
        | inl plain ↦ sound.permitted.plain t i g k.recorded plain
        | inr typed ↦ sound.permitted.typed t i g typed.0 k.recorded typed.1
      ]

  by_owner : (t g o : ℕ) → owner_of (m (Refs t)) ≡ Some o → owner_of (m (Refs g)) ≡ Some d → (owner_of (m (Refs g)) ≡ Some o) ⊎ (IsTrue (is_lowest (kind_at m t).kind) × Permits m o g) →
      IsOthersTable m d t ⊎ (owner_of (m (Refs t)) ≡ Some d)
  by_owner t g o at own (inl same) = inr (at ∙ sym same ∙ own)
  by_owner t g o at own (inr (lowest, permits)) =
      elim (subst (λ q. PermitsOwner m o q) own permits) [
        | inl same ↦ inr (at ∙ ap Some (sym same))
        | inr over ↦ elim (cases_eq o d) [
          | inl same ↦ inr (at ∙ ap Some same)
          | inr off ↦ inl (record { owner = o; owned = at; other = off; lowest = lowest; over = over })
        ]
      ]

  whose_table : (t g : ℕ) (o : Option ℕ) → owner_of (m (Refs t)) ≡ o → owner_of (m (Refs g)) ≡ Some d → EntryPermitted m (kind_at m t).kind o g →
      IsOthersTable m d t ⊎ (owner_of (m (Refs t)) ≡ Some d)
  whose_table t g None at own k = absurd k
  whose_table t g (Some o) at own k = by_owner t g o at own k

  pub entry_of : (t i g : ℕ) → owner_of (m (Refs g)) ≡ Some d → IsNamed n m h t i g → IsOthersTable m d t ⊎ (owner_of (m (Refs t)) ≡ Some d)
  entry_of t i g own k = whose_table t g (owner_of (m (Refs t))) refl own (permitted_entry t i g k)

  -- ---- tables
  -- of the entry above it the table is the dead domain's, one level up
  record IsAbove (t g : ℕ) : Type 0 where
    own : owner_of (m (Refs t)) ≡ Some d
    level : type_number (kind_at m t).kind ≡ type_number (kind_at m g).kind + 1
    most : type_number (kind_at m t).kind ≤ 4

  higher : (t g : ℕ) → is_lowest (kind_at m t).kind ≡ false → owner_of (m (Refs g)) ≡ Some d → IsOthersTable m d t ⊎ (owner_of (m (Refs t)) ≡ Some d) → owner_of (m (Refs t)) ≡ Some d
  higher t g high own (inl others) = absurd (let l = others.lowest in cc)
  higher t g high own (inr same) = same

  above : (g : ℕ) → owner_of (m (Refs g)) ≡ Some d → type_number (kind_at m g).kind ≤ 4 → (e : SomeEntry (names_typed g) (sizes_of n) m h) → IsAbove e.table g
  above g own table e =
      let t = names_typed-asks g (entry_demand m e.table e.index) e.counted in
      let same = sound.counts.kinds.entries e.table e.index g t.0 e.recorded t.1 in
      let under = above_is (kind_at m e.table).kind e.index (m (Cell e.table e.index)) g t.0 t.1 in
      let level = level_above (kind_at m e.table).kind (kind_at m g).kind (under ∙ sym same) table in
      record {
        own = higher e.table g level.1 own (entry_of e.table e.index g own (record { recorded = e.recorded; named = typed_names g (entry_demand m e.table e.index) e.counted }));
        level = level.0;
        most = level.2;
      }

  closing_hand : (t : ℕ) → 0 < held (sizes_of n) m h t → type_count (kind_at m t) ≡ 0 → (s : ℕ) × (s < (sizes_of n).vcpus) × HasInHand t (h s)
  closing_hand t some none =
      elim (cases_Bool (is_closing (kind_at m t))) [
        | inr running ↦ absurd (let z = idle_held n m h t sound none running in omega arith)
        | inl closing ↦
            let busy : bit (is_busy (kind_at m t)) ≡ 1 = ap bit (closing_busy (kind_at m t) closing) in
            let all = sound.alone.works t in
            let s = hands-some (λ u. works_on t u.works) (sizes_of n) h (omega arith) in
            (s.0, s.1, works s.2)
      ]

  -- where that table is held, so is this one
  typed_table : (t : ℕ) → owner_of (m (Refs t)) ≡ Some d → type_number (kind_at m t).kind ≤ 4 → ((u : ℕ) → IsAbove u t → 0 < held (sizes_of n) m h u → HeldByOthers n m h d u) →
      TypedBy (sizes_of n) m h t → HeldByOthers n m h d t
  typed_table t own most up (word_type w) = by_some_word t own w
  typed_table t own most up (pinned_type on) = absurd (let off = dead.unpinned t own in cc)
  typed_table t own most up (kept_type on) = by_kept t own on
  typed_table t own most up (hand_type s real has) = by_some_hand t s real (referred (typed_in t (h s) has))
  typed_table t own most up (entry_type e) =
      let a = above t own most e in
      by_table t e.table e.index a.own (record { recorded = e.recorded; named = typed_names t (entry_demand m e.table e.index) e.counted })
      (up e.table a (let r = e.recorded in omega arith))

  under_table : (t : ℕ) → owner_of (m (Refs t)) ≡ Some d → type_number (kind_at m t).kind ≤ 4 → ((u : ℕ) → IsAbove u t → 0 < held (sizes_of n) m h u → HeldByOthers n m h d u) →
      0 < held (sizes_of n) m h t → HeldByOthers n m h d t
  under_table t own most up some =
      elim (cases_eq (type_count (kind_at m t)) 0) [
        | inl none ↦ (let s = closing_hand t some none in by_some_hand t s.0 s.1 s.2)
        | inr counted ↦ (let c = sound.counts.types t in let p : type_count (kind_at m t) ≢ 0 = counted in typed_table t own most up (who_types (sizes_of n) m h t (omega arith)))
      ]

  pub table_held : (k t : ℕ) → type_number (kind_at m t).kind + k ≡ 4 → owner_of (m (Refs t)) ≡ Some d → 0 < held (sizes_of n) m h t → HeldByOthers n m h d t
  table_held zero t level own some =
      under_table t own (omega arith) (λ u a more. absurd (let p = a.level in let q = a.most in omega arith)) some
  table_held (suc k) t level own some =
      under_table t own (omega arith) (λ u a more. table_held k u (let p = a.level in omega arith) a.own more) some

  -- of any table of the domain with a recorded entry
  pub recorded_held : (t i : ℕ) → owner_of (m (Refs t)) ≡ Some d → i < held (sizes_of n) m h t → HeldByOthers n m h d t
  recorded_held t i own recorded =
      let b = (table_levels (kind_at m t).kind (held_table (kind_at m t) _ i recorded)).1 in
      table_held (4 - type_number (kind_at m t).kind) t (omega arith) own (omega arith)

  -- ---- all references
  pub each_entry : (t i g : ℕ) → owner_of (m (Refs g)) ≡ Some d → IsNamed n m h t i g → IsOthersTable m d t ⊎ ((owner_of (m (Refs t)) ≡ Some d) × HeldByOthers n m h d t)
  each_entry t i g own k = elim (entry_of t i g own k) [ inl others ↦ inl others | inr same ↦ inr (same, recorded_held t i same k.recorded) ]

  by_some_entry : (t i g : ℕ) → owner_of (m (Refs g)) ≡ Some d → IsNamed n m h t i g → HeldByOthers n m h d g
  by_some_entry t i g own k = elim (each_entry t i g own k) [ inl others ↦ by_entry g t i others k | inr same ↦ by_table g t i same.0 k same.1 ]

  by_name : (g : ℕ) → owner_of (m (Refs g)) ≡ Some d → NamedBy (sizes_of n) m h g → HeldByOthers n m h d g
  by_name g own (entry_name e) = by_some_entry e.table e.index g own (record { recorded = e.recorded; named = e.counted })
  by_name g own (word_name w) = by_some_word g own w
  by_name g own (allocated_name on) = absurd (let off = dead.unallocated g own in grind (arith, nat_tests))
  by_name g own (pinned_name on) = absurd (let off = dead.unpinned g own in cc)
  by_name g own (kept_name on) = by_kept g own on
  by_name g own (hand_name s real has) = by_some_hand g s real (referred has)

  frame_held : (g : ℕ) → owner_of (m (Refs g)) ≡ Some d → HeldByOthers n m h d g
  frame_held g own =
      elim (owned_word (m (Refs g)) d (ref_read (m (Refs g))) (sound.spelled.small (Refs g)) refl own) [
        | inl counted ↦ (let c = sound.counts.refs g in by_name g own (who_names (sizes_of n) m h g (omega arith)))
        | inr dying ↦
            let one : bit (is_dying (m (Refs g))) ≡ 1 = ap bit dying in
            let all = sound.alone.dying g in
            let s = hands-some (λ u. endings_of g u.ending + claims_of g u.claimed) (sizes_of n) h (omega arith) in
            by_some_hand g s.0 s.1 (ends s.2)
      ]

  pub left_to_others : (g : ℕ) → owner_of (m (Refs g)) ≡ Some d → LeftToOthers n m h d g
  left_to_others g own =
      record {
        unallocated = dead.unallocated g own;
        unpinned = dead.unpinned g own;
        unkept = kept_mark g own;
        words = λ v k. other_word g v k own;
        hands = other_hand g;
        entries = λ t i k. each_entry t i g own k;
        held = frame_held g own;
      }
