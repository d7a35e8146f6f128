-- Recorded entries, where no vCPU holds anything.
use Rattle.std.proofs.Common.{◌≡◌, ℕ, ◌+◌, ◌<◌, ◌*◌, ◌≤◌, ◌==◌, ◌||◌, ◌&&◌, Bool, true, false, IsTrue, Option, Some, None, inl, inr, refl, sym, subst, ap, arith}
use Rattle.std.proofs.lemmas.Bool.Decides.{nat_tests}
use Rattle.std.proofs.lemmas.Bool.{cases_Bool, and_parts}
use Rattle.xp_words.specs.declared.kind.KindWord.{KindWord}
use Rattle.xp_words.specs.declared.kind.PageType.{PageType}
use Rattle.xp_words.specs.declared.kind.PageType.TheVariants as kinds
use Rattle.xp_words.specs.PageTypes.{is_table, type_number}
use Rattle.xp_words.specs.KindWords.{kind_read, kind_fields}
use Rattle.xp_words.specs.Machine.{Machine}
use Rattle.xp_words.specs.declared.place.Place.{Place}
use Rattle.xp_words.specs.declared.place.Place.TheVariants.{Kind, Cell}
use Rattle.xp_words.specs.Places.{Sizes, sizes_of}
use Rattle.xp_board.specs.After.{is_fixed}
use Rattle.xp_board.specs.Spelling.{IsSpelling, is_kind_in}
use Rattle.xp_board.specs.Lists.{first_by}
use Rattle.xp_board.specs.Readings.{kind_at, is_live, is_partial, is_work}
use Rattle.xp_board.specs.Recorded.{held, held_of, entry_demand}
use Rattle.xp_board.specs.Valid.{LeadsWell, IsUnsettled}
use Rattle.xp_board.proofs.KindForms.{fields_of}
use Rattle.word_readers.proofs.Reading.{few_recorded}
use Rattle.reference_recount.specs.Recounted.{no_hands, IsReadable}
use Rattle.reference_recount.proofs.Whole.{nobody_works as no_work}
use Rattle.walk_audit.specs.Breaks.{Breaks, IsHeld, IsBadEntry, MayBeAsked}
use Rattle.walk_audit.specs.Leads.{LeadsAsRead, words_looked_at}
use Rattle.walk_audit.specs.Order.{NoneBreaks, check_of, position}
use Rattle.walk_audit.specs.declared.verdict.Verdict.{Verdict}
use Rattle.walk_audit.specs.declared.verdict.Verdict.TheVariants as verdicts
use Rattle.walk_audit.proofs.First.{none_joined, none_narrowed}

only_partial : (p w : Bool) → IsTrue (p || w) → w ≡ false → IsTrue p
only_partial true w h e = refl
only_partial false w h e = absurd (let t : w ≡ true = h in cc)

pub held_is : (n : Machine) (m : Place → ℕ) (f : ℕ) → held (sizes_of n) m no_hands f ≡ held_of (kind_at m f) None
held_is n m f = ap (held_of (kind_at m f)) (no_work (sizes_of n).vcpus f)

pub settled : (z : Sizes) (f i g : ℕ) → IsUnsettled z no_hands f i g → ⊥
unfolding first_by
settled z f i g h = let x = h.here in cc

module _ (n : Machine) (m : Place → ℕ) (idle : NoneBreaks n m 1 0 n.frames) where
  pub unheld : (f : ℕ) → f < n.frames → IsHeld n m f → ⊥
  unheld f l h = idle.none (verdicts.Held f) (record { check = refl; from = omega arith; below = l }) h

  pub unworked : (f : ℕ) → f < n.frames → is_work (kind_at m f) ≡ false
  unworked f l = elim (cases_Bool (is_work (kind_at m f))) [
    | inl e ↦ absurd (unheld f l (record { real = l; held = rw e refl }))
    | inr e ↦ e
  ]

  pub leads : (f i g : ℕ) → g < n.frames → LeadsAsRead (kind_at m f) i (kind_at m g) → LeadsWell (sizes_of n) m no_hands f i g
  leads f i g l (inl e) = inl e
  leads f i g l (inr e) = inr ((let p : is_partial (kind_at m g) ≡ true = e.0 in rw p refl), inl (record { partial = e.1; last = e.2 }))

  pub leads_back : (f i g : ℕ) → g < n.frames → LeadsWell (sizes_of n) m no_hands f i g → LeadsAsRead (kind_at m f) i (kind_at m g)
  leads_back f i g l (inl e) = inl e
  leads_back f i g l (inr e) = elim e.1 [
    | inl x ↦ inr (only_partial _ _ e.0 (unworked g l), x.partial, x.last)
    | inr x ↦ absurd (settled (sizes_of n) f i g x)
  ]

  pub leads_both : (f i g : ℕ) (k l : KindWord) (b : Bool) → g < n.frames → k ≡ kind_at m f → l ≡ kind_at m g → (IsTrue b → LeadsAsRead k i l) × (LeadsAsRead k i l → IsTrue b) →
      (IsTrue b → LeadsWell (sizes_of n) m no_hands f i g) × (LeadsWell (sizes_of n) m no_hands f i g → IsTrue b)
  leads_both f i g k l b r e d h = (
    (λ t. leads f i g r (subst (λ x. LeadsAsRead x i (kind_at m g)) e (subst (λ y. LeadsAsRead k i y) d (h.0 t)))),
    (λ w. h.1 (subst (λ x. LeadsAsRead x i l) (sym e) (subst (λ y. LeadsAsRead (kind_at m f) i y) (sym d) (leads_back f i g r w)))),
  )

-- ---- which words are looked at
table_looked : (k : KindWord) → is_table k.kind ≡ true → words_looked_at k ≡ held_of k None
table_looked k e =
    let none : (type_number k.kind == 5) ≡ false = grind (arith, nat_tests) in
    let off : (is_live k && (type_number k.kind == 5)) ≡ false = grind (arith, nat_tests) in
    rw off refl

page_looked : (k : KindWord) (i : ℕ) → is_table k.kind ≡ false → i < words_looked_at k → (k.validated ≡ true) × (type_number k.kind ≡ 5)
unfolding held_of
page_looked k i e l = elim (cases_Bool (is_live k && (type_number k.kind == 5))) [
  | inl t ↦ let p = and_parts (is_live k) (type_number k.kind == 5) t in (p.0, grind (arith, nat_tests))
  | inr t ↦ absurd (let none : words_looked_at k ≡ 0 = rw t (rw e refl) in omega arith)
]

is_page : (t : PageType) → type_number t ≡ 5 → t ≡ kinds.Desc
is_page kinds.None e = absurd (omega arith)
is_page kinds.L1 e = absurd (omega arith)
is_page kinds.L2 e = absurd (omega arith)
is_page kinds.L3 e = absurd (omega arith)
is_page kinds.L4 e = absurd (omega arith)
is_page kinds.Desc e = refl
is_page kinds.Writable e = absurd (omega arith)

-- nothing is recorded of a frame that is no table
table_recorded : (k : KindWord) (i : ℕ) → is_table k.kind ≡ false → i < held_of k None → ⊥
unfolding held_of
table_recorded k i e l = let none : held_of k None ≡ 0 = rw e refl in omega arith

-- at most 512 entries are recorded
held_read : (n : Machine) (w : ℕ) (x : Option KindWord) → kind_read w ≡ x → IsTrue (is_kind_in n x) → held_of (kind_fields w) None ≤ 512
held_read n w None e h = absurd (cc)
held_read n w (Some k) e h = rw (fields_of w k e) (few_recorded w k e)

looked_by : (k : KindWord) → held_of k None ≤ 512 → words_looked_at k ≤ 512
looked_by k h = elim (cases_Bool (is_live k && (type_number k.kind == 5))) [
  | inl t ↦ rw t (omega arith)
  | inr t ↦ rw t h
]

recorded_looked : (k : KindWord) (i : ℕ) → i < held_of k None → i < words_looked_at k
recorded_looked k i l = elim (cases_Bool (is_live k && (type_number k.kind == 5))) [
  | inl t ↦ absurd (let p : (type_number k.kind == 5) ≡ true = (and_parts (is_live k) (type_number k.kind == 5) t).1 in let off : is_table k.kind ≡ false = grind (arith, nat_tests) in table_recorded k i off l)
  | inr t ↦ rw t l
]

unfixed_looked : (k : KindWord) (i : ℕ) → k.validated ≡ true → k.kind ≡ kinds.Desc → i < 512 → i < words_looked_at k
unfixed_looked k i v d l = rw (v, d) l

module _ (n : Machine) (m : Place → ℕ) where
  pub recorded_bad : (f i : ℕ) → f < n.frames → is_table (kind_at m f).kind ≡ true → i < words_looked_at (kind_at m f) → ¬ MayBeAsked n m f i (entry_demand m f i) → IsBadEntry n m f i
  recorded_bad f i r e l h = (r, inl (record { recorded = (let a = held_is n m f in let b = table_looked (kind_at m f) e in omega arith); bad = h }))

  pub recorded_good : (f i : ℕ) → is_table (kind_at m f).kind ≡ true → MayBeAsked n m f i (entry_demand m f i) → IsBadEntry n m f i → ⊥
  recorded_good f i e h x = elim x.1 [
    | inl y ↦ y.bad h
    | inr y ↦ (let kind = y.descriptors in let off : is_table (kind_at m f).kind ≡ false = rw kind refl in cc)
  ]

  pub page_bad : (f i : ℕ) → f < n.frames → is_table (kind_at m f).kind ≡ false → i < words_looked_at (kind_at m f) → i < 512 → is_fixed (m (Cell f i)) ≡ false → IsBadEntry n m f i
  page_bad f i r e l few h =
      let p = page_looked (kind_at m f) i e l in
      (r, inr (record { live = p.0; descriptors = is_page _ p.1; few = few; unfixed = h }))

  pub page_good : (f i : ℕ) → is_table (kind_at m f).kind ≡ false → is_fixed (m (Cell f i)) ≡ true → IsBadEntry n m f i → ⊥
  page_good f i e h x = elim x.1 [
    | inl y ↦ (let l = y.recorded in let same = held_is n m f in table_recorded (kind_at m f) i e (omega arith))
    | inr y ↦ (let no = y.unfixed in cc)
  ]

  pub looked_few : (f : ℕ) → IsReadable n m → f < n.frames → words_looked_at (kind_at m f) ≤ 512
  unfolding IsSpelling
  looked_few f r l = looked_by (kind_at m f) (held_read n (m (Kind f)) (kind_read (m (Kind f))) refl (r.kinds f l))

  -- a bad entry is one that is looked at
  pub bad_looked : (f i : ℕ) → IsBadEntry n m f i → i < words_looked_at (kind_at m f)
  bad_looked f i x = elim x.1 [
    | inl y ↦ (let l = y.recorded in let same = held_is n m f in recorded_looked (kind_at m f) i (omega arith))
    | inr y ↦ unfixed_looked (kind_at m f) i y.live y.descriptors y.few
  ]

  -- ---- verdicts
  record IsEntryAt (k : ℕ) : Type 0 where
    frame : ℕ
    index : ℕ
    at : k ≡ 512 * frame + index
    bad : IsBadEntry n m frame index

  entries_only : (u : Verdict) → check_of u ≡ 4 → Breaks n m u → IsEntryAt (position u)
  entries_only verdicts.Sound e x = absurd x
  entries_only (verdicts.Word k w) e x = absurd (omega arith)
  entries_only (verdicts.Held f) e x = absurd (omega arith)
  entries_only (verdicts.Refs f want found) e x = absurd (omega arith)
  entries_only (verdicts.Count f want found) e x = absurd (omega arith)
  entries_only (verdicts.OtherKind f) e x = absurd (omega arith)
  entries_only (verdicts.Pages d want found) e x = absurd (omega arith)
  entries_only (verdicts.BadEntry f i) e x = record { frame = f; index = i; at = refl; bad = x }
  entries_only (verdicts.Context v k) e x = absurd (omega arith)
  entries_only (verdicts.Stamp k) e x = absurd (omega arith)
  entries_only (verdicts.Dead d) e x = absurd (omega arith)
  entries_only (verdicts.Map k) e x = absurd (omega arith)

  pub entry_alone : (f i : ℕ) → IsReadable n m → i < 512 → ¬ IsBadEntry n m f i → NoneBreaks n m 4 (512 * f + i) (512 * f + i + 1)
  entry_alone f i r l h =
      record {
        none = λ u w x.
            (let e = entries_only u w.check x in
            let at = e.at in
            let from = w.from in
            let below = w.below in
            let few = looked_few e.frame r e.bad.0 in
            let looked = bad_looked e.frame e.index e.bad in
            let same : e.frame ≡ f = omega arith in
            let behind : e.index ≡ i = omega arith in
            h (subst (λ j. IsBadEntry n m f j) behind (subst (λ g. IsBadEntry n m g e.index) same e.bad)));
      }

  pub none_behind : (f : ℕ) → IsReadable n m → NoneBreaks n m 4 (512 * f + words_looked_at (kind_at m f)) (512 * f + 512)
  none_behind f r =
      record {
        none = λ u w x.
            (let e = entries_only u w.check x in
            let at = e.at in
            let from = w.from in
            let below = w.below in
            let few = looked_few e.frame r e.bad.0 in
            let looked = bad_looked e.frame e.index e.bad in
            let same : e.frame ≡ f = omega arith in
            let end : words_looked_at (kind_at m e.frame) ≡ words_looked_at (kind_at m f) = ap (λ g. words_looked_at (kind_at m g)) same in
            absurd (omega arith));
      }

  -- all words of the frame that are looked at
  pub whole_frame : (f end index : ℕ) → IsReadable n m → end ≡ words_looked_at (kind_at m f) → end ≤ index → NoneBreaks n m 4 (512 * f) (512 * f + index) → NoneBreaks n m 4 (512 * f) (512 * f + 512)
  whole_frame f end index r e l h =
      none_joined n m 4 (512 * f) (512 * f + words_looked_at (kind_at m f)) (512 * f + 512)
      (none_narrowed n m 4 (512 * f) (512 * f) _ (512 * f + index) (omega arith) (omega arith) h) (none_behind f r)
