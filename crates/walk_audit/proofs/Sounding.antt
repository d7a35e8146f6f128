-- Words that no verdict breaks are sound.
use Rattle.std.proofs.Common.{◌≡◌, ◌≢◌, ℕ, ◌+◌, ◌*◌, ◌-◌, ◌/◌, ◌%◌, ◌^◌, ◌<◌, ◌≤◌, ◌||◌, nat_lt, nat_le, if◌then◌else◌, length, List, slice_index, Bool, true, false, IsTrue, Option, Some, None, inl, inr, refl, sym, ap, subst, ◌∙◌, arith}
use Rattle.std.proofs.lemmas.Bool.Decides.{nat_tests}
use Rattle.std.proofs.lemmas.Bool.{cases_Bool, cases_lt}
use Rattle.xp_words.specs.Entries.{is_bit}
use Rattle.xp_words.specs.RefWords.{bit}
use Rattle.xp_words.specs.declared.kind.PageType.{PageType}
use Rattle.xp_words.specs.declared.kind.PageType.TheVariants as kinds
use Rattle.xp_words.specs.declared.entry.Demand.{Demand}
use Rattle.xp_words.specs.declared.entry.Demand.TheVariants.{Nothing, Bad, Read, Typed}
use Rattle.xp_words.specs.Machine.{Machine, IsMachine}
use Rattle.xp_words.specs.declared.place.Place.{Place}
use Rattle.xp_words.specs.declared.place.Place.TheVariants.{Clock, Pages, Life, Vcpu, Refs, Kind, M2p, Cell, Map, Priv}
use Rattle.xp_words.specs.Places.{sizes_of, is_place, number, size, memory, flushed_of, map_words}
use Rattle.xp_board.specs.Lists.{one_at, times, EachOf}
use Rattle.xp_board.specs.Sums.{sum_below}
use Rattle.xp_board.specs.After.{is_fixed}
use Rattle.xp_board.specs.Spelling.{IsSpelling, map_bits}
use Rattle.xp_board.specs.ContextSteps.{context_type}
use Rattle.xp_board.specs.Readings.{kind_at, is_context, is_live, is_locked, is_dying, is_free, owner_of, domain_of, ref_count, allocated_mark, type_count, free_stamp, kind_stamp, clock_value}
use Rattle.xp_board.specs.Recorded.{held, entry_demand, names, names_typed, table_entries, entries, contexts, marks, hands, named, named_typed, HasType, TypesAgree, CountsAgree, is_page_of}
use Rattle.xp_board.specs.Valid.{Valid, Permitted, is_live_context}
use Rattle.xp_board.specs.Sound.{Spelled, HeldAlone, Stamped, Domains, FreeMap, SoundWords, is_busy, is_hinted}
use Rattle.xp_board.proofs.Empty.{empty_formed}
use Rattle.xp_board.proofs.Counted.{held_inside}
use Rattle.xp_board.proofs.Sums.{sum_below-none, one_at-other}
use Rattle.opening_rule.proofs.Hands.{found_open, idle_open, fresh_open}
use Rattle.reference_recount.specs.Recounted.{no_hands, IsReadable}
use Rattle.reference_recount.proofs.Whole.{nobody_holds, nobody_holds_typed}
use Rattle.walk_audit.specs.Breaks.{Breaks, is_map, MayBeAsked, is_free_frame}
use Rattle.walk_audit.specs.Order.{PassedUpTo}
use Rattle.walk_audit.specs.declared.verdict.Verdict.{Verdict}
use Rattle.walk_audit.specs.declared.verdict.Verdict.TheVariants as verdicts
use Rattle.walk_audit.proofs.Bits.{few_bits}
use Rattle.walk_audit.proofs.Burial.{IsOutside, memory_outside, nothing_left, is_left}
use Rattle.walk_audit.proofs.Empty.{no_credits, no_raised, no_works, no_locks, no_dying, dying_nothing}
use Rattle.walk_audit.proofs.Numbers.{zero_count, zero_mark, zero_undying, zero_stamp, zero_kind_stamp, zero_types, zero_marks, zero_unlive, zero_idle, zero_unlocked}
use Rattle.walk_audit.proofs.Reading.{context_few}
use Rattle.walk_audit.proofs.Stable.{eq_stable, spelling_stable, asks_stable, names_stable, type_stable}
use Rattle.walk_audit.proofs.Words.{memory_small}

module _ (n : Machine) (m : Place → ℕ) (o : IsOutside n m) (s : (p : Place) → m p < 2 ^ 64) (p : PassedUpTo n m 9) where
  no : (u : Verdict) → Breaks n m u → ⊥
  no verdicts.Sound x = x
  no (verdicts.Word k w) x = p.none (verdicts.Word k w) (omega arith) x
  no (verdicts.Held f) x = p.none (verdicts.Held f) (omega arith) x
  no (verdicts.Refs f a b) x = p.none (verdicts.Refs f a b) (omega arith) x
  no (verdicts.Count f a b) x = p.none (verdicts.Count f a b) (omega arith) x
  no (verdicts.OtherKind f) x = p.none (verdicts.OtherKind f) (omega arith) x
  no (verdicts.Pages d a b) x = p.none (verdicts.Pages d a b) (omega arith) x
  no (verdicts.BadEntry f i) x = p.none (verdicts.BadEntry f i) (omega arith) x
  no (verdicts.Context v k) x = p.none (verdicts.Context v k) (omega arith) x
  no (verdicts.Stamp k) x = p.none (verdicts.Stamp k) (omega arith) x
  no (verdicts.Dead d) x = p.none (verdicts.Dead d) (omega arith) x
  no (verdicts.Map k) x = p.none (verdicts.Map k) (omega arith) x

  -- ---- frames that the machine has or has not
  by_frame : (f : ℕ) (P : ℕ → ℕ → Type 0) → (f < n.frames → P (m (Refs f)) (m (Kind f))) → (n.frames ≤ f → P 0 0) → P (m (Refs f)) (m (Kind f))
  unfolding is_place
  by_frame f P a b = elim (cases_lt f n.frames) [
    | inl l ↦ a l
    | inr l ↦
        let off : nat_lt f n.frames ≡ false = grind (arith, nat_tests) in
        let r : m (Refs f) ≡ 0 = o.none (Refs f) off in
        let k : m (Kind f) ≡ 0 = o.none (Kind f) off in
        rw (r, k) (b l)
  ]

  -- ---- spellings
  spelled : (q : Place) → IsTrue (is_place (sizes_of n) q) → is_map q ≡ false → IsSpelling n q (m q)
  spelled q r e = spelling_stable n q (m q) e (λ odd. no (verdicts.Word (number (sizes_of n) q) (m q)) (record { place = q; real = r; other = e; stands = refl; found = refl; odd = odd }))

  readable : IsReadable n m
  unfolding is_place
  readable =
      record {
        refs = λ f l. spelled (Refs f) (grind (arith, nat_tests)) refl;
        kinds = λ f l. spelled (Kind f) (grind (arith, nat_tests)) refl;
        contexts = λ v k a b. spelled (Vcpu v k) (grind (arith, nat_tests)) refl;
      }

  same_bool : (a b : Bool) → ¬ (a ≢ b) → a ≡ b
  same_bool true true h = refl
  same_bool true false h = absurd (h (λ e. cc))
  same_bool false true h = absurd (h (λ e. cc))
  same_bool false false h = refl

  map_bit : (k b : ℕ) → k < map_words (sizes_of n) → b < 64 → is_bit b (m (Map k)) ≡ is_free_frame n m (64 * k + b)
  map_bit k b r l = same_bool _ _ (λ w. no (verdicts.Map k) (record { real = r; bit = b; few = l; wrong = w }))

  map_bits_few : (k : ℕ) → map_bits n.frames k ≤ 64
  map_bits_few k = elim (cases_Bool (nat_le (64 * k + 64) n.frames)) [
    | inl e ↦ rw e (omega arith)
    | inr e ↦ rw e (let l : n.frames < 64 * k + 64 = grind (arith, nat_tests) in omega arith)
  ]

  map_bits_past : (k b : ℕ) → map_bits n.frames k ≤ b → b < 64 → n.frames ≤ 64 * k + b
  map_bits_past k b l few = elim (cases_Bool (nat_le (64 * k + 64) n.frames)) [
    | inl e ↦ absurd (let all : map_bits n.frames k ≡ 64 = rw e refl in omega arith)
    | inr e ↦ (let some : map_bits n.frames k ≡ n.frames - 64 * k = rw e refl in omega arith)
  ]

  map_spelled : (k : ℕ) → k < map_words (sizes_of n) → m (Map k) < 2 ^ map_bits n.frames k
  map_spelled k r =
      let few = map_bits_few k in
      let whole : map_bits n.frames k + (64 - map_bits n.frames k) ≡ 64 = omega arith in
      few_bits (64 - map_bits n.frames k) (m (Map k)) (map_bits n.frames k) (rw whole (s (Map k)))
      (λ b l u.
      (let past = map_bits_past k b l (omega arith) in
      let none : nat_lt (64 * k + b) n.frames ≡ false = grind (arith, nat_tests) in
      map_bit k b r (omega arith) ∙ (rw none refl)))

  map_place : (k : ℕ) → IsTrue (is_place (sizes_of n) (Map k)) → k < map_words (sizes_of n)
  unfolding is_place
  map_place k r = grind (arith, nat_tests)

  by_place : (q : Place) → IsTrue (is_place (sizes_of n) q) → IsSpelling n q (m q)
  unfolding IsSpelling
  by_place Clock r = spelled Clock r refl
  by_place (Pages d) r = spelled (Pages d) r refl
  by_place (Life d) r = spelled (Life d) r refl
  by_place (Vcpu v k) r = spelled (Vcpu v k) r refl
  by_place (Refs f) r = spelled (Refs f) r refl
  by_place (Kind f) r = spelled (Kind f) r refl
  by_place (M2p f) r = spelled (M2p f) r refl
  by_place (Cell f i) r = spelled (Cell f i) r refl
  by_place (Map k) r = map_spelled k (map_place k r)
  by_place (Priv d) r = spelled (Priv d) r refl

  all_spelled : Spelled n m
  all_spelled = record { small = s; outside = o.none; spelled = by_place }

  -- ---- entries
  asks : (f i : ℕ) → i < held (sizes_of n) m no_hands f → MayBeAsked n m f i (entry_demand m f i)
  asks f i l = asks_stable n m f i (entry_demand m f i) (λ x. no (verdicts.BadEntry f i) (held_inside n m no_hands f i all_spelled l, inl (record { recorded = l; bad = x })))

  asks_as : (f i : ℕ) (d : Demand) → i < held (sizes_of n) m no_hands f → entry_demand m f i ≡ d → MayBeAsked n m f i d
  asks_as f i d l e = subst (λ x. MayBeAsked n m f i x) e (asks f i l)

  -- ---- words of vCPUs
  names_live : (v k g : ℕ) → v < (sizes_of n).vcpus → k < 38 → IsTrue (is_live_context k) → m (Vcpu v k) ≡ g + 1 →
      IsTrue (is_live (kind_at m g)) × (owner_of (m (Refs g)) ≡ Some (domain_of n v))
  names_live v k g a b c e =
      names_stable (is_live (kind_at m g)) (owner_of (m (Refs g))) (domain_of n v)
      (λ x. no (verdicts.Context v k) (record { real = a; few = b; context = c; frame = g; names = e; bad = x }))

  names_few : (v k g : ℕ) → v < (sizes_of n).vcpus → k < 38 → IsTrue (is_context k) → m (Vcpu v k) ≡ g + 1 → g < n.frames
  names_few v k g a b c e = let few = context_few n m v k readable a b c in omega arith

  -- ---- counts
  names_past : (g f i : ℕ) (d : Demand) → n.frames ≤ g → MayBeAsked n m f i d → names g d ≡ 0
  unfolding names
  names_past g f i Nothing l h = refl
  names_past g f i Bad l h = refl
  names_past g f i (Read x) l h = one_at-other g x (λ e. (let few = h.0 in omega arith))
  names_past g f i (Typed x t) l h = one_at-other g x (λ e. (let few = h.0.0 in omega arith))

  typed_past : (g f i : ℕ) (d : Demand) → n.frames ≤ g → MayBeAsked n m f i d → names_typed g d ≡ 0
  unfolding names_typed
  typed_past g f i Nothing l h = refl
  typed_past g f i Bad l h = refl
  typed_past g f i (Read x) l h = refl
  typed_past g f i (Typed x t) l h = one_at-other g x (λ e. (let few = h.0.0 in omega arith))

  entries_past : (c : Demand → ℕ) → ((f i : ℕ) (d : Demand) → MayBeAsked n m f i d → c d ≡ 0) → entries c (sizes_of n) m no_hands ≡ 0
  unfolding entries table_entries
  entries_past c h = sum_below-none n.frames _ (λ f l. sum_below-none _ _ (λ i k. h f i (entry_demand m f i) (asks f i k)))

  one_past : (g v k : ℕ) (b : Bool) → is_context k ≡ b → n.frames ≤ g → v < (sizes_of n).vcpus → k < 38 → (if b then one_at (g + 1) (m (Vcpu v k)) else 0) ≡ 0
  one_past g v k true e l a b = let few = context_few n m v k readable a b e in one_at-other (g + 1) (m (Vcpu v k)) (λ x. omega arith)
  one_past g v k false e l a b = refl

  contexts_past : (g : ℕ) → n.frames ≤ g → contexts (sizes_of n) m g ≡ 0
  unfolding contexts
  contexts_past g l = sum_below-none (sizes_of n).vcpus _ (λ v a. sum_below-none 38 _ (λ k b. one_past g v k (is_context k) refl l a b))

  words_past : (g : ℕ) → n.frames ≤ g → (m (Refs g) ≡ 0) × (m (Kind g) ≡ 0)
  unfolding is_place
  words_past g l = let off : nat_lt g n.frames ≡ false = grind (arith, nat_tests) in (o.none (Refs g) off, o.none (Kind g) off)

  refs_agree : (g : ℕ) → ref_count (m (Refs g)) ≡ named (sizes_of n) m no_hands g
  refs_agree g = elim (cases_lt g n.frames) [
    | inl l ↦ eq_stable _ _ (λ x. no (verdicts.Refs g (named (sizes_of n) m no_hands g) (ref_count (m (Refs g)))) (l, refl, record { finds = refl; other = x }))
    | inr l ↦
        let w = words_past g l in
        let r = w.0 in
        let k = w.1 in
        let a : ref_count (m (Refs g)) ≡ 0 = rw r zero_count in
        let b : allocated_mark (m (Refs g)) ≡ 0 = rw r zero_mark in
        let c : marks (kind_at m g) ≡ 0 = rw k zero_marks in
        let d = entries_past (names g) (λ f i x h. names_past g f i x l h) in
        let e = contexts_past g l in
        let h = nobody_holds (sizes_of n) g in
        omega arith
  ]

  types_agree : (g : ℕ) → type_count (kind_at m g) ≡ named_typed (sizes_of n) m no_hands g
  types_agree g = elim (cases_lt g n.frames) [
    | inl l ↦ eq_stable _ _ (λ x. no (verdicts.Count g (named_typed (sizes_of n) m no_hands g) (type_count (kind_at m g))) (l, refl, record { finds = refl; other = x }))
    | inr l ↦
        let w = words_past g l in
        let k = w.1 in
        let a : type_count (kind_at m g) ≡ 0 = rw k zero_types in
        let c : marks (kind_at m g) ≡ 0 = rw k zero_marks in
        let d = entries_past (names_typed g) (λ f i x h. typed_past g f i x l h) in
        let e = contexts_past g l in
        let h = nobody_holds_typed (sizes_of n) g in
        omega arith
  ]

  entry_typed : (f i g : ℕ) (t : PageType) → i < held (sizes_of n) m no_hands f → entry_demand m f i ≡ Typed g t → (kind_at m g).kind ≡ t
  entry_typed f i g t l e =
      type_stable _ _ (λ x. no (verdicts.OtherKind g) ((asks_as f i (Typed g t) l e).0.0, inl (record { table = f; index = i; want = t; recorded = l; asks = e; other = x })))

  word_typed : (v k g : ℕ) (x : Option PageType) → context_type k ≡ x → v < (sizes_of n).vcpus → k < 38 → IsTrue (is_context k) → m (Vcpu v k) ≡ g + 1 → HasType m g x
  word_typed v k g None w a b c e = tt
  word_typed v k g (Some t) w a b c e =
      type_stable _ _ (λ x. no (verdicts.OtherKind g) (names_few v k g a b c e, inr (record { vcpu = v; number = k; want = t; real = a; known = b; context = c; names = e; wants = w; other = x })))

  kinds_agree : TypesAgree (sizes_of n) m no_hands
  unfolding EachOf
  kinds_agree =
      record {
        entries = entry_typed;
        contexts = λ v k g a b c e. word_typed v k g (context_type k) refl a b c e;
        typed = λ v b. tt;
        locks = λ v b. tt;
      }

  pages_agree : (d : ℕ) → d < (sizes_of n).domains →
      m (Pages d) ≡ sum_below (sizes_of n).frames (λ f. is_page_of d (m (Refs f))) + hands (λ u. times d u.credits) (sizes_of n) no_hands
  pages_agree d l =
      let none = no_credits (sizes_of n) d in
      let own = eq_stable (m (Pages d)) (sum_below n.frames (λ f. is_page_of d (m (Refs f)))) (λ x. no (verdicts.Pages d _ (m (Pages d))) (l, refl, record { finds = refl; other = x })) in
      omega arith

  counts : CountsAgree (sizes_of n) m no_hands
  counts = record { refs = refs_agree; types = types_agree; kinds = kinds_agree; pages = pages_agree }

  -- ---- what entries and words lead to
  live_real : (f : ℕ) → IsTrue (is_live (kind_at m f)) → f < n.frames
  live_real f e = elim (cases_lt f n.frames) [
    | inl l ↦ l
    | inr l ↦ absurd (let k = (words_past f l).1 in let off : is_live (kind_at m f) ≡ false = rw k zero_unlive in cc)
  ]

  descriptor_fixed : (f i : ℕ) → IsTrue (is_live (kind_at m f)) → (kind_at m f).kind ≡ kinds.Desc → i < 512 → IsTrue (is_fixed (m (Cell f i)))
  descriptor_fixed f i e k l = elim (cases_Bool (is_fixed (m (Cell f i)))) [
    | inl t ↦ t
    | inr t ↦ absurd (no (verdicts.BadEntry f i) (live_real f e, inr (record { live = e; descriptors = k; few = l; unfixed = t })))
  ]

  valid : Valid (sizes_of n) m no_hands
  valid =
      record {
        allowed = λ f i l e. asks_as f i Bad l e;
        live = λ f i g t l e. (asks_as f i (Typed g t) l e).1;
        fixed = descriptor_fixed;
        contexts = λ v k g a b c e. (names_live v k g a b c e).0;
      }

  permitted : Permitted n m no_hands
  permitted =
      record {
        typed = λ f i g t l e. (asks_as f i (Typed g t) l e).0.1;
        plain = λ f i g l e. (asks_as f i (Read g) l e).1;
        contexts = λ v k g a b c e. (names_live v k g a b c e).1;
      }

  -- ---- hands
  unheld : (f : ℕ) → f < n.frames → ((is_busy (kind_at m f) || is_locked (kind_at m f)) || is_dying (m (Refs f))) ≡ false
  unheld f l = elim (cases_Bool ((is_busy (kind_at m f) || is_locked (kind_at m f)) || is_dying (m (Refs f)))) [
    | inl t ↦ absurd (no (verdicts.Held f) (record { real = l; held = t }))
    | inr t ↦ t
  ]

  neither : (a b : Bool) → (a || b) ≡ false → (a ≡ false) × (b ≡ false)
  neither true b e = absurd (cc)
  neither false b e = (refl, e)

  idle_busy : (f : ℕ) → is_busy (kind_at m f) ≡ false
  idle_busy f = elim (cases_lt f n.frames) [
    | inl l ↦ (neither _ _ (neither _ _ (unheld f l)).0).0
    | inr l ↦ (let k = (words_past f l).1 in rw k zero_idle)
  ]

  idle_locked : (f : ℕ) → is_locked (kind_at m f) ≡ false
  idle_locked f = elim (cases_lt f n.frames) [
    | inl l ↦ (neither _ _ (neither _ _ (unheld f l)).0).1
    | inr l ↦ (let k = (words_past f l).1 in rw k zero_unlocked)
  ]

  undying : (f : ℕ) → is_dying (m (Refs f)) ≡ false
  undying f = elim (cases_lt f n.frames) [
    | inl l ↦ (neither _ _ (unheld f l)).1
    | inr l ↦ (let r = (words_past f l).0 in rw r zero_undying)
  ]

  alone : HeldAlone n m no_hands
  alone =
      record {
        works = λ f. no_works (sizes_of n) f ∙ sym (ap bit (idle_busy f));
        locks = λ f. no_locks (sizes_of n) f ∙ sym (ap bit (idle_locked f));
        dying = λ f. no_dying (sizes_of n) f ∙ sym (ap bit (undying f));
      }

  -- ---- stamps
  on_time : (q : Place) → IsTrue (is_place (sizes_of n) q) → clock_value q (m q) ≤ m Clock
  on_time q r = elim (cases_lt (m Clock) (clock_value q (m q))) [
    | inl l ↦ absurd (no (verdicts.Stamp (number (sizes_of n) q)) (record { place = q; real = r; stands = refl; late = l }))
    | inr l ↦ l
  ]

  by_place_of : (q : Place) (P : ℕ → Type 0) → (IsTrue (is_place (sizes_of n) q) → P (m q)) → P 0 → P (m q)
  by_place_of q P a b = elim (cases_Bool (is_place (sizes_of n) q)) [
    | inl e ↦ a e
    | inr e ↦ subst P (sym (o.none q e)) b
  ]

  stamped : Stamped n m
  unfolding clock_value
  stamped =
      record {
        flushed = λ v. by_place_of (flushed_of v) (λ w. w ≤ m Clock) (λ e. on_time (flushed_of v) e) (omega arith);
        free = λ f. by_place_of (Refs f) (λ w. free_stamp w ≤ m Clock) (λ e. on_time (Refs f) e) (let z = zero_stamp in omega arith);
        kinds = λ f. by_place_of (Kind f) (λ w. kind_stamp w ≤ m Clock) (λ e. on_time (Kind f) e) (let z = zero_kind_stamp in omega arith);
      }

  -- ---- domains
  domains : Domains n m no_hands
  domains =
      record {
        dead = λ d r e. nothing_left n m d o (λ x. no (verdicts.Dead d) (is_left n m d r e (inl x))) (λ x. no (verdicts.Dead d) (is_left n m d r e (inr x)));
        dying = λ d v a b e. dying_nothing n m d v;
      }

  -- ---- the map of free frames
  map : FreeMap n m no_hands
  map = record { bits = λ f l. (let none = no_raised (sizes_of n) f in let same = ap bit (hinted f l) in omega arith) }
    where
      hinted : (f : ℕ) → f < n.frames → is_hinted m f ≡ is_free (m (Refs f))
      hinted f l =
          let place : 64 * (f / 64) + f % 64 ≡ f = omega arith in
          let here : nat_lt f n.frames ≡ true = grind (arith, nat_tests) in
          map_bit (f / 64) (f % 64) (omega arith) (omega arith) ∙ ap (is_free_frame n m) place ∙ (rw here refl)

-- words that passed all checks
pub unbroken : (n : Machine) (words : List ℕ) → IsMachine n → length words ≡ size (sizes_of n) → ((k : ℕ) → slice_index words k < 2 ^ 64) → PassedUpTo n (memory (sizes_of n) words) 9 → SoundWords n words
unfolding EachOf
unbroken n words i l s p =
    let m = memory (sizes_of n) words in
    let o = memory_outside n words in
    let small = memory_small (sizes_of n) words s in
    record {
      all_words = l;
      sound =
          record {
            machine = i;
            spelled = all_spelled n m o small p;
            counts = counts n m o small p;
            valid = valid n m o small p;
            permitted = permitted n m o small p;
            alone = alone n m o small p;
            works = λ v b. tt;
            found = λ v b. found_open n m v;
            formed = λ v b. empty_formed n v;
            stamped = stamped n m o small p;
            idle = λ v b. idle_open n m v;
            fresh = fresh_open n m;
            domains = domains n m o small p;
            map = map n m o small p;
          };
    }
