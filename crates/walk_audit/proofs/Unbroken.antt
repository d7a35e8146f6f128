-- No verdict breaks sound words.
use Rattle.std.proofs.Common.{◌≡◌, ℕ, ◌+◌, ◌*◌, ◌/◌, ◌%◌, ◌^◌, ◌<◌, ◌≤◌, ◌==◌, ◌||◌, nat_lt, nat_le, if◌then◌else◌, Bool, true, false, inl, inr, refl, sym, ap, subst, ◌∙◌, arith}
use Rattle.std.proofs.lemmas.Bool.Decides.{nat_tests}
use Rattle.std.proofs.lemmas.Bool.{cases_Bool, cases_lt}
use Rattle.xp_words.specs.Entries.{is_bit}
use Rattle.xp_words.specs.RefWords.{bit}
use Rattle.xp_words.specs.declared.kind.PageType.{PageType}
use Rattle.xp_words.specs.declared.entry.Demand.{Demand}
use Rattle.xp_words.specs.declared.entry.Demand.TheVariants.{Nothing, Bad, Read, Typed}
use Rattle.xp_words.specs.Machine.{Machine}
use Rattle.xp_words.specs.declared.place.Place.{Place}
use Rattle.xp_words.specs.declared.place.Place.TheVariants.{Clock, Pages, Life, Vcpu, Refs, Kind, M2p, Cell, Map, Priv}
use Rattle.xp_words.specs.Places.{sizes_of, is_place, map_words}
use Rattle.xp_board.specs.Spelling.{IsSpelling, map_bits}
use Rattle.xp_board.specs.Readings.{kind_at, is_locked, is_dying, is_free, ref_count, clock_value}
use Rattle.xp_board.specs.Recorded.{held, entry_demand, names, HasType}
use Rattle.xp_board.specs.Sound.{Sound, is_busy, is_hinted}
use Rattle.xp_board.proofs.Sums.{no_bit, one_at-same}
use Rattle.xp_board.proofs.Counted.{entries-part, names-read}
use Rattle.reference_recount.specs.Recounted.{no_hands, IsMistyped}
use Rattle.walk_audit.specs.Breaks.{Breaks, MayBeAsked, is_free_frame, IsWrongMap, IsHeld}
use Rattle.walk_audit.specs.declared.verdict.Verdict.{Verdict}
use Rattle.walk_audit.specs.declared.verdict.Verdict.TheVariants as verdicts
use Rattle.walk_audit.proofs.Bits.{no_upper_bit}
use Rattle.walk_audit.proofs.Empty.{no_credits, no_raised, no_works, no_locks, no_dying}
use Rattle.walk_audit.proofs.Numbers.{zero_count}

module _ (n : Machine) (m : Place → ℕ) (s : Sound n m no_hands) where
  -- ---- hands
  unheld : (f : ℕ) → IsHeld n m f → ⊥
  unheld f h =
      let busy : is_busy (kind_at m f) ≡ false = no_bit _ (sym (s.alone.works f) ∙ no_works (sizes_of n) f) in
      let locked : is_locked (kind_at m f) ≡ false = no_bit _ (sym (s.alone.locks f) ∙ no_locks (sizes_of n) f) in
      let dying : is_dying (m (Refs f)) ≡ false = no_bit _ (sym (s.alone.dying f) ∙ no_dying (sizes_of n) f) in
      let none : ((is_busy (kind_at m f) || is_locked (kind_at m f)) || is_dying (m (Refs f))) ≡ false = rw (busy, locked, dying) refl in
      let some : ((is_busy (kind_at m f) || is_locked (kind_at m f)) || is_dying (m (Refs f))) ≡ true = h.held in
      cc

  -- ---- types
  typed : (g : ℕ) → IsMistyped n m g → ⊥
  typed g (inl x) = x.other (s.counts.kinds.entries x.table x.index g x.want x.recorded x.asks)
  typed g (inr x) = x.other (subst (λ t. HasType m g t) x.wants (s.counts.kinds.contexts x.vcpu x.number g x.real x.known x.context x.names))

  -- ---- entries
  counted_real : (f i g : ℕ) → i < held (sizes_of n) m no_hands f → f < n.frames → names g (entry_demand m f i) ≡ 1 → g < n.frames
  unfolding is_place
  counted_real f i g l r e = elim (cases_lt g n.frames) [
    | inl k ↦ k
    | inr k ↦ absurd (
        let off : nat_lt g n.frames ≡ false = grind (arith, nat_tests) in
        let word : m (Refs g) ≡ 0 = s.spelled.outside (Refs g) off in
        let zero_refs : ref_count (m (Refs g)) ≡ 0 = rw word zero_count in
        let agree = s.counts.refs g in
        let part = entries-part (names g) (sizes_of n) m no_hands f i r l in
        omega arith)
  ]

  names_one : (g : ℕ) (t : PageType) (d : Demand) → d ≡ Typed g t → names g d ≡ 1
  unfolding names
  names_one g t d e = rw e (one_at-same g)

  asks : (f i : ℕ) (d : Demand) → i < held (sizes_of n) m no_hands f → f < n.frames → entry_demand m f i ≡ d → MayBeAsked n m f i d
  asks f i Nothing l r e = tt
  asks f i Bad l r e = s.valid.allowed f i l e
  asks f i (Read g) l r e = (counted_real f i g l r (names-read g _ e), s.permitted.plain f i g l e)
  asks f i (Typed g t) l r e =
      ((counted_real f i g l r (names_one g t _ e), s.permitted.typed f i g t l e), s.valid.live f i g t l e)

  -- ---- stamps
  flushed_time : (v k : ℕ) (b : Bool) → (k == 5) ≡ b → (if b then m (Vcpu v k) else 0) ≤ m Clock
  flushed_time v k true e = let at : k ≡ 5 = grind (arith, nat_tests) in rw at (s.stamped.flushed v)
  flushed_time v k false e = omega arith

  on_time : (q : Place) → clock_value q (m q) ≤ m Clock
  unfolding clock_value
  on_time Clock = omega arith
  on_time (Pages d) = omega arith
  on_time (Life d) = omega arith
  on_time (Vcpu v k) = flushed_time v k (k == 5) refl
  on_time (Refs f) = s.stamped.free f
  on_time (Kind f) = s.stamped.kinds f
  on_time (M2p f) = omega arith
  on_time (Cell f i) = omega arith
  on_time (Map k) = omega arith
  on_time (Priv d) = omega arith

  -- ---- the map of free frames
  map_small : (k : ℕ) → k < map_words (sizes_of n) → m (Map k) < 2 ^ map_bits n.frames k
  unfolding IsSpelling is_place
  map_small k l = s.spelled.spelled (Map k) (grind (arith, nat_tests))

  inside_bit : (k b : ℕ) → b < 64 → 64 * k + b < n.frames → is_bit b (m (Map k)) ≡ is_free_frame n m (64 * k + b)
  inside_bit k b few l =
      let word : (64 * k + b) / 64 ≡ k = omega arith in
      let place : (64 * k + b) % 64 ≡ b = omega arith in
      let here : nat_lt (64 * k + b) n.frames ≡ true = grind (arith, nat_tests) in
      let bits = s.map.bits (64 * k + b) l in
      let none = no_raised (sizes_of n) (64 * k + b) in
      let same : is_hinted m (64 * k + b) ≡ is_free (m (Refs (64 * k + b))) = bit_same _ _ (omega arith) in
      let hint : is_hinted m (64 * k + b) ≡ is_bit b (m (Map k)) = ap (λ j. is_bit ((64 * k + b) % 64) (m (Map j))) word ∙ ap (λ j. is_bit j (m (Map k))) place in
      sym hint ∙ same ∙ sym (rw here refl)
    where
      bit_same : (a b : Bool) → bit a ≡ bit b → a ≡ b
      bit_same true true e = refl
      bit_same true false e = absurd (omega arith)
      bit_same false true e = absurd (omega arith)
      bit_same false false e = refl

  bits_end : (k b : ℕ) → b < 64 → n.frames ≤ 64 * k + b → map_bits n.frames k ≤ b
  bits_end k b few l = elim (cases_Bool (nat_le (64 * k + 64) n.frames)) [
    | inl e ↦ absurd (grind (arith, nat_tests))
    | inr e ↦ rw e (omega arith)
  ]

  outside_bit : (k b : ℕ) → b < 64 → k < map_words (sizes_of n) → n.frames ≤ 64 * k + b → is_bit b (m (Map k)) ≡ is_free_frame n m (64 * k + b)
  outside_bit k b few r l =
      let off : nat_lt (64 * k + b) n.frames ≡ false = grind (arith, nat_tests) in
      no_upper_bit (m (Map k)) (map_bits n.frames k) b (map_small k r) (bits_end k b few l) ∙ sym (rw off refl)

  map_right : (k : ℕ) → IsWrongMap n m k → ⊥
  map_right k x = x.wrong (elim (cases_lt (64 * k + x.bit) n.frames) [
    | inl l ↦ inside_bit k x.bit x.few l
    | inr l ↦ outside_bit k x.bit x.few x.real l
  ])

  pub nothing_breaks : (u : Verdict) → Breaks n m u → ⊥
  nothing_breaks verdicts.Sound x = x
  nothing_breaks (verdicts.Word k w) x = x.odd (subst (λ y. IsSpelling n x.place y) x.found (s.spelled.spelled x.place x.real))
  nothing_breaks (verdicts.Held f) x = unheld f x
  nothing_breaks (verdicts.Refs f a b) x = x.2.other (s.counts.refs f ∙ sym x.1)
  nothing_breaks (verdicts.Count f a b) x = x.2.other (s.counts.types f ∙ sym x.1)
  nothing_breaks (verdicts.OtherKind f) x = typed f x.1
  nothing_breaks (verdicts.Pages d a b) x = x.2.other (let agree = s.counts.pages d x.0 in let none = no_credits (sizes_of n) d in let want = x.1 in omega arith)
  nothing_breaks (verdicts.BadEntry f i) x = elim x.1 [
    | inl y ↦ y.bad (asks f i (entry_demand m f i) y.recorded x.0 refl)
    | inr y ↦ (let fixed = s.valid.fixed f i y.live y.descriptors y.few in let off = y.unfixed in cc)
  ]
  nothing_breaks (verdicts.Context v k) x = x.bad (s.valid.contexts v k x.frame x.real x.few x.context x.names, s.permitted.contexts v k x.frame x.real x.few x.context x.names)
  nothing_breaks (verdicts.Stamp k) x = (let late = x.late in let time = on_time x.place in omega arith)
  nothing_breaks (verdicts.Dead d) x = x.left (s.domains.dead d x.real x.dead)
  nothing_breaks (verdicts.Map k) x = map_right k x
